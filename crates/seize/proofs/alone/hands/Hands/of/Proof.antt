-- `of` takes the state, the names and the kinds out of what is asked.
use Rattle.seize_book.proofs.Kit.{ℕ, List, [], ◌∷◌, refl, proved, named, Val, vptr, SProp, emp, Fml, ftrue, fsep, flft, ‵, raw, ◌⊛◌, ◌$◌, ◌∵◌, !, qed, by, move, keep, split, fjoin, use0, no_more, and_then, returns, enter, alloc_all, pass_all, free_all, look_at, get, sets, agg, fact, fact_i, heard, tables, yes, owns, types_at, plain, RefOf, shr_vals, shr_Tells, RattleType, nothing, Stays, stay_dropped, walk_of, Goes-dropped}
use Rattle.std.specs.Prelude.{Option}
use mir.Syntax.{a_type, dcons, dnil}
use mir.MapTy.{inst_fn}
use denote.Param.{param, bounded}
use Rattle.seize_model.specs.Waiting.State.{ModelState}
use Rattle.seize_book.proofs.Fields.{Token, token, token_made, ends}
use denote.Signature.{static_lft}
use Rattle.seize_book.specs.contracts.book.pass.Pass as Pass
use Rattle.seize.specs.contracts.alone.hands.Hands as Hands
use Rattle.seize.specs.contracts.alone.hands.Hands.of.{ended, clauses}
use Rattle.seize.specs.contracts.alone.hands.Hands.of.Key.{name as #self}
use Rattle.seize.proofs.alone.hands.Hands.of.Statement.{statement}
use Rattle.seize.proofs.alone.hands.Hands.of.Code as code

pub of_spec : {M : Type 1} → statement M
of_spec 𝓤 𝓛 𝓜 𝓡 wired X Y Z LX LY LZ g dict met =
    let H = 𝓛.H in let 𝓣 = tables 𝓤 H 𝓜 𝓡 𝓡.env in let T : RattleType = param 0 X in let S : RattleType = param 2 Z in let En = ended X Y Z g dict in let inst = bounded (a_type ∷ a_type ∷ a_type ∷ []) (X, (Y, (Z, tt))) (dcons dict dnil) in let fn = inst_fn inst code.function in let c = clauses X Y Z g dict 𝓛 𝓜.mem 𝓡.returns in
    let hands = RefOf (0 ∷ []) tt (plain (λ _. Hands.the_row T)) (λ _. tt) in let pass = RefOf (1 ∷ []) tt (plain (λ _. Pass.the_row static_lft)) (λ _. tt) in let said = RefOf (2 ∷ []) tt (plain (λ _. S)) (λ _. tt) in
    let hs : Stays En.signature.params En.kept = (stay_dropped hands yes, (stay_dropped pass yes, (stay_dropped said yes, tt))) in
    proved 𝓛 En hs c 𝓜 𝓡 (Goes-dropped 𝓛 6 hands yes (λ κs x f. refl), (Goes-dropped 𝓛 6 pass yes (λ κs x f. refl), (Goes-dropped 𝓛 6 said yes (λ κs x f. refl), tt))) (#self inst) fn (code.unfolded 𝓤 H 𝓜 𝓡 wired (X, (Y, (Z, tt))) dict)
    (λ κs. (shr_vals, (shr_vals, (shr_vals, tt)))) (λ κs. (shr_Tells (named 0) κs.0 (Hands.the_row T), (shr_Tells (named 1) κs.1.0 (Pass.the_row static_lft), (shr_Tells (named 2) κs.1.1.0 S, tt)))) (λ κs qs bounds a gh are.
    let hb : ℕ = a.0.ref_ptr.0 in let ho : ℕ = a.0.ref_ptr.1 in let pb : ℕ = a.1.0.ref_ptr.0 in let po : ℕ = a.1.0.ref_ptr.1 in let sb : ℕ = a.1.1.0.ref_ptr.0 in let so : ℕ = a.1.1.0.ref_ptr.1 in
    let y : (walk_of 𝓛 En hs c).Ghost = ((κs, qs, bounds, a, (vptr hb ho ∷ [], (vptr pb po ∷ [], (vptr sb so ∷ [], tt)))), gh) in let Post : Val → SProp 𝓤 = (walk_of 𝓛 En hs c).post y in
    let toks : Fml = fsep (flft κs.0 qs.0) (fsep (flft κs.1.0 qs.1.0) (fsep (flft κs.1.1.0 qs.1.1.0) (fsep (flft κs.1.1.1.0 qs.1.1.1.0) (fsep (flft κs.1.1.1.1.0 qs.1.1.1.1.0) (fsep (flft κs.1.1.1.1.1.0 qs.1.1.1.1.1.0) ftrue))))) in
    let Asked : Type 0 = (st : ModelState X.Denot ℕ) × (names : List (ℕ × X.Denot)) × (kinds : List (ℕ × ℕ)) × (held : List (Option ℕ)) × g.are st names kinds held in
    qed 𝓛 ((‵ toks ⊛ ‵ (owns (types_at En.signature.params κs) a y.0.4)) ∷ raw (fact 𝓤 _) ∷ raw (fact 𝓤 _) ∷ raw (fact 𝓤 _) ∷ raw (fact 𝓤 Asked) ∷ []) ∵ move ! (4 ∷ 0 ∷ []) $ heard ! Asked (λ asked. split ! $ keep ! (0 ∷ []) $
    enter ! 𝓣.C 𝓣.Λ fn (vptr hb ho ∷ vptr pb po ∷ vptr sb so ∷ []) Post $ alloc_all ! (λ l. pass_all ! refl ((tt, tt), ((tt, tt), ((tt, tt), tt))) $
    sets ! (agg ! (no_more !)) refl (tt, tt) $ sets ! (agg ! (and_then ! (get ! refl) (no_more !))) refl (tt, (tt, tt)) $
    nothing ! $ use0 𝓛 (‵ (Token.own_val (record {}, tt) (token ∷ []))) (token_made 𝓛) $ fjoin ! $
    -- [the result; the tokens]
    nothing ! $ nothing ! $ fjoin ! $ nothing ! $ fjoin ! $ nothing ! $ fjoin ! $
    returns ! (look_at ! 0 refl) $ free_all ! refl $ keep ! (2 ∷ 0 ∷ 1 ∷ []) $
    by ! (ends 𝓛 En hs c y token (record { marker = record {}; state = asked.0; names = asked.1; kinds = asked.2; held = asked.3 }) (tt, (tt, (tt, tt))) (tt, (tt, (tt, tt))) (fact_i 𝓤 _ (emp 𝓤) asked.4)))))
