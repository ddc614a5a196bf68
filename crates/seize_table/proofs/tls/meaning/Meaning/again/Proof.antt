-- What a `Meaning` owns can be had twice.
use Rattle.seize_table.proofs.Kit.{◌≡◌, ℕ, [], ◌∷◌, refl, a_type, named, inst_fn, proved, leaves, Val, vptr, SProp, emp, Lft, Fml, ftrue, fsep, flft, fhide, ‵, raw, ◌⊛◌, ◌$◌, ◌∵◌, !, qed, by, move, keep, drop, split, fsplit, fjoin, use0, use1, no_more, and_then, returns, enter, alloc_all, pass_all, free_all, look_at, get, sets, agg, fact, fact_i, tables, yes, RattleType, owns, types_at, plain, RefOf, RawPtr, shr_vals, shr_Tells, hidden_shr, unhide, param, layouts, said, nothing, lent_out, Struct, shape, Stays, stay_dropped, walk_of, Goes-dropped}
use Rattle.core.specs.contracts.marker.PhantomData as marker
use Rattle.seize_table.specs.Meaning.{means}
use Rattle.seize_table.specs.contracts.tls.meaning.Meaning as meaning
use Rattle.seize_table.proofs.Meanings as meanings
use Rattle.seize_table.proofs.Meanings.{token}
use Rattle.seize_table.specs.contracts.tls.meaning.Meaning.again.{ended, clauses}
use Rattle.seize_table.specs.contracts.tls.meaning.Meaning.again.Key.{name as #self}
use Rattle.seize_table.proofs.tls.meaning.Meaning.again.Statement.{statement}
use Rattle.seize_table.proofs.tls.meaning.Meaning.again.Code as code

pub again_spec : {M : Type 1} → statement M
again_spec 𝓤 𝓛 𝓜 𝓡 wired T L =
    let H = 𝓛.H in let 𝓣 = tables 𝓤 H 𝓜 𝓡 𝓡.env in let R : RattleType = param 0 T in let En = ended T in let c = clauses T 𝓛 𝓜.mem 𝓡.returns in let inst = layouts (a_type ∷ []) (T, tt) in let fn = inst_fn inst code.function in
    let Row : RattleType = meaning.the_row R in let D : RattleType = Struct (shape (meaning.the_type R)) in let self = RefOf (0 ∷ []) tt (plain (λ _. Row)) (λ _. tt) in let hs : Stays En.signature.params En.kept = (stay_dropped self yes, tt) in
    proved 𝓛 En hs c 𝓜 𝓡 (Goes-dropped 𝓛 2 self yes (λ κs x f. refl), tt) (#self inst) fn (code.unfolded 𝓤 H 𝓜 𝓡 wired (T, tt)) (λ κs. (shr_vals, tt)) (λ κs. (shr_Tells (named 0) κs.0 Row, tt)) (λ κs qs bounds a gh are.
    let rb : ℕ = a.0.ref_ptr.0 in let ro : ℕ = a.0.ref_ptr.1 in let κ : Lft = κs.0 in let m = a.0.now in let K : Fml = means R m.name m.value in
    let y : (walk_of 𝓛 En hs c).Ghost = ((κs, qs, bounds, a, (vptr rb ro ∷ [], tt)), gh) in let Post : Val → SProp 𝓤 = (walk_of 𝓛 En hs c).post y in
    let toks = ‵ (flft κ qs.0) ⊛ ‵ (fsep (flft κs.1.0 qs.1.0) ftrue) in let codes = meaning.the_codes T.Denot R.coded (marker.the_row RawPtr).coded in
    qed 𝓛 ((toks ⊛ ‵ (owns (types_at En.signature.params κs) a y.0.4)) ∷ raw ((c κs a).requires gh) ∷ []) ∵ keep ! (0 ∷ []) $ split ! $ move ! (1 ∷ []) $ fsplit ! $ fsplit ! $ drop ! $
    use1 𝓛 (‵ (hidden_shr D κ (record {}, tt) rb ro) ⊛ ‵ (fhide (said K κ))) (lent_out 𝓛 (meaning.struct R) codes (meaning.the_heap R) (meaning.the_lent R) κ m rb ro) $ split ! $ drop ! $ unhide ! $ move ! (1 ∷ []) $ drop ! $
    -- [what it says; the tokens]
    enter ! 𝓣.C 𝓣.Λ fn (vptr rb ro ∷ []) Post $ alloc_all ! (λ l. pass_all ! refl ((tt, tt), tt) $ sets ! (agg ! (no_more !)) refl (tt, tt) $ sets ! (agg ! (and_then ! (get ! refl) (no_more !))) refl (tt, (tt, tt)) $
    use0 𝓛 (‵ (meanings.Data 𝓛 R)) (meanings.meaning_made 𝓛 R) $ fjoin ! $ use0 𝓛 (raw (fact 𝓤 (m ≡ m))) (fact_i 𝓤 (m ≡ m) (emp 𝓤) refl) $ nothing ! $ nothing ! $ fjoin ! $
    returns ! (look_at ! 0 refl) $ free_all ! refl $ keep ! (3 ∷ 0 ∷ 2 ∷ 1 ∷ []) $ by ! (leaves 𝓛 En hs c y token m (tt, tt) (tt, tt))))
