-- A new name is given its value for good.
use Rattle.seize_table.proofs.Kit.{◌≡◌, ℕ, [], ◌∷◌, refl, a_type, named, inst_fn, proved, leaves, Val, vptr, SProp, emp, Lft, ftrue, fsep, flft, fres, ‵, raw, ◌⊛◌, ◌$◌, ◌∵◌, !, qed, by, move, keep, drop, split, fjoin, use0, use1, no_more, and_then, returns, enter, alloc_all, pass_all, free_all, look_at, get, sets, agg, fact, fact_i, tables, yes, RattleType, owns, types_at, plain, RefOf, shr_vals, shr_Tells, param, layouts, nothing, Stays, stay_dropped, walk_of, Goes-dropped}
use base.Stored.{Gv, gnil, gcons}
use types.Tokens.{name_new}
use Rattle.seize_table.proofs.Meanings as meanings
use Rattle.seize_table.proofs.Meanings.{token}
use Rattle.seize_table.specs.contracts.tls.meaning.Meaning.of.{ended, clauses}
use Rattle.seize_table.specs.contracts.tls.meaning.Meaning.of.Key.{name as #self}
use Rattle.seize_table.proofs.tls.meaning.Meaning.of.Statement.{statement}
use Rattle.seize_table.proofs.tls.meaning.Meaning.of.Code as code

pub of_spec : {M : Type 1} → statement M
of_spec 𝓤 𝓛 𝓜 𝓡 wired T L =
    let H = 𝓛.H in let 𝓣 = tables 𝓤 H 𝓜 𝓡 𝓡.env in let R : RattleType = param 0 T in let En = ended T in let c = clauses T 𝓛 𝓜.mem 𝓡.returns in let inst = layouts (a_type ∷ []) (T, tt) in let fn = inst_fn inst code.function in
    let value = RefOf (0 ∷ []) tt (plain (λ _. R)) (λ _. tt) in let hs : Stays En.signature.params En.kept = (stay_dropped value yes, tt) in
    proved 𝓛 En hs c 𝓜 𝓡 (Goes-dropped 𝓛 2 value yes (λ κs x f. refl), tt) (#self inst) fn (code.unfolded 𝓤 H 𝓜 𝓡 wired (T, tt)) (λ κs. (shr_vals, tt)) (λ κs. (shr_Tells (named 0) κs.0 R, tt)) (λ κs qs bounds a gh are.
    let rb : ℕ = a.0.ref_ptr.0 in let ro : ℕ = a.0.ref_ptr.1 in let κ : Lft = κs.0 in let x = a.0.now in let u : Gv = gcons gnil (R.coded.code x) in
    let y : (walk_of 𝓛 En hs c).Ghost = ((κs, qs, bounds, a, (vptr rb ro ∷ [], tt)), gh) in let Post : Val → SProp 𝓤 = (walk_of 𝓛 En hs c).post y in
    let toks = ‵ (flft κ qs.0) ⊛ ‵ (fsep (flft κs.1.0 qs.1.0) ftrue) in
    qed 𝓛 ((toks ⊛ ‵ (owns (types_at En.signature.params κs) a y.0.4)) ∷ raw ((c κs a).requires gh) ∷ []) ∵ keep ! (0 ∷ []) $ split ! $ keep ! (0 ∷ []) $
    enter ! 𝓣.C 𝓣.Λ fn (vptr rb ro ∷ []) Post $ alloc_all ! (λ l. pass_all ! refl ((tt, tt), tt) $ name_new ! tt u (λ γ. move ! (1 ∷ []) $ drop ! $ use1 𝓛 (‵ (fres γ u)) (𝓛.names.obs-res γ u) $
    sets ! (agg ! (no_more !)) refl (tt, tt) $ sets ! (agg ! (and_then ! (get ! refl) (no_more !))) refl (tt, (tt, tt)) $
    use0 𝓛 (‵ (meanings.Data 𝓛 R)) (meanings.meaning_made 𝓛 R) $ fjoin ! $ use0 𝓛 (raw (fact 𝓤 (x ≡ x))) (fact_i 𝓤 (x ≡ x) (emp 𝓤) refl) $ nothing ! $ nothing ! $ fjoin ! $
    returns ! (look_at ! 0 refl) $ free_all ! refl $ keep ! (3 ∷ 0 ∷ 2 ∷ 1 ∷ []) $ by ! (leaves 𝓛 En hs c y token (record { marker = record {}; name = γ; value = x }) (tt, tt) (tt, tt)))))
