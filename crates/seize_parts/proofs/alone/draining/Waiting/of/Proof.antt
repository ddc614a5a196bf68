-- `of` takes the values out of what is asked.
use Rattle.seize_book.proofs.Kit.{ℕ, List, [], ◌∷◌, refl, proved, named, Val, vptr, SProp, emp, Fml, ftrue, fsep, flft, ‵, raw, ◌⊛◌, ◌$◌, ◌∵◌, !, qed, by, move, keep, split, fjoin, use0, no_more, and_then, returns, enter, alloc_all, pass_all, free_all, look_at, get, sets, agg, fact, fact_i, heard, tables, yes, owns, types_at, plain, RefOf, shr_vals, shr_Tells, RattleType, nothing, Stays, stay_dropped, walk_of, Goes-dropped}
use mir.Syntax.{a_type}
use mir.MapTy.{inst_fn}
use denote.Param.{param, layouts}
use Rattle.seize_book.proofs.Fields.{Token, token, token_made, ends}
use Rattle.seize_calls.specs.contracts.further.Further as Further
use Rattle.seize_parts.specs.Aparts.{AreWaiting}
use Rattle.seize_parts.specs.contracts.alone.draining.Waiting.of.{ended, clauses}
use Rattle.seize_parts.specs.contracts.alone.draining.Waiting.of.Key.{name as #self}
use Rattle.seize_parts.proofs.alone.draining.Waiting.of.Statement.{statement}
use Rattle.seize_parts.proofs.alone.draining.Waiting.of.Code as code

pub of_spec : {M : Type 1} → statement M
of_spec 𝓤 𝓛 𝓜 𝓡 wired X L =
    let H = 𝓛.H in let 𝓣 = tables 𝓤 H 𝓜 𝓡 𝓡.env in let T : RattleType = param 0 X in let En = ended X in let inst = layouts (a_type ∷ []) (X, tt) in let fn = inst_fn inst code.function in let c = clauses X 𝓛 𝓜.mem 𝓡.returns in
    let queue = RefOf (0 ∷ []) tt (plain (λ _. Further.the_row)) (λ _. tt) in let hs : Stays En.signature.params En.kept = (stay_dropped queue yes, tt) in
    proved 𝓛 En hs c 𝓜 𝓡 (Goes-dropped 𝓛 2 queue yes (λ κs x f. refl), tt) (#self inst) fn (code.unfolded 𝓤 H 𝓜 𝓡 wired (X, tt))
    (λ κs. (shr_vals, tt)) (λ κs. (shr_Tells (named 0) κs.0 Further.the_row, tt)) (λ κs qs bounds a gh are.
    let qb : ℕ = a.0.ref_ptr.0 in let qo : ℕ = a.0.ref_ptr.1 in
    let y : (walk_of 𝓛 En hs c).Ghost = ((κs, qs, bounds, a, (vptr qb qo ∷ [], tt)), gh) in let Post : Val → SProp 𝓤 = (walk_of 𝓛 En hs c).post y in
    let toks : Fml = fsep (flft κs.0 qs.0) (fsep (flft κs.1.0 qs.1.0) ftrue) in
    let Asked : Type 0 = (vs : List (X.Denot × ℕ)) × AreWaiting T.coded.code a.0.now vs in
    qed 𝓛 ((‵ toks ⊛ ‵ (owns (types_at En.signature.params κs) a y.0.4)) ∷ raw (fact 𝓤 _) ∷ raw (fact 𝓤 Asked) ∷ []) ∵ move ! (2 ∷ 0 ∷ []) $ heard ! Asked (λ asked. split ! $ keep ! (0 ∷ []) $
    enter ! 𝓣.C 𝓣.Λ fn (vptr qb qo ∷ []) Post $ alloc_all ! (λ l. pass_all ! refl ((tt, tt), tt) $
    sets ! (agg ! (no_more !)) refl (tt, tt) $ sets ! (agg ! (and_then ! (get ! refl) (no_more !))) refl (tt, (tt, tt)) $
    nothing ! $ use0 𝓛 (‵ (Token.own_val (record {}, tt) (token ∷ []))) (token_made 𝓛) $ fjoin ! $
    -- [the result; the tokens]
    nothing ! $ nothing ! $ fjoin ! $
    returns ! (look_at ! 0 refl) $ free_all ! refl $ keep ! (2 ∷ 0 ∷ 1 ∷ []) $
    by ! (ends 𝓛 En hs c y token (record { marker = record {}; values = asked.0 }) (tt, tt) (tt, tt) (fact_i 𝓤 _ (emp 𝓤) asked.1)))))
