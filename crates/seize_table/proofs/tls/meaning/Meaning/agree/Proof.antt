-- A name means one value.
use Rattle.seize_table.proofs.Kit.{◌≡◌, ℕ, [], ◌∷◌, refl, a_type, named, inst_fn, proved, leaves, Val, vunit, vptr, SProp, emp, Lft, List, ftrue, fsep, flft, fhide, ‵, raw, ◌⊛◌, ◌$◌, ◌∵◌, !, qed, by, move, keep, drop, split, fsplit, fjoin, use0, use1, use2, rewrite, feq_i, unit_lit, of_opd, returns, enter, alloc_all, pass_all, free_all, look_at, sets, fact, fact_i, tables, yes, RattleType, owns, types_at, plain, RefOf, RawPtr, shr_vals, shr_Tells, hidden_shr, unhide, param, layouts, said, nothing, heard, lent_out, Struct, shape, Stays, stay_dropped, walk_of, Goes-dropped}
use Rattle.core.specs.contracts.marker.PhantomData as marker
use Rattle.seize_table.specs.Meaning.{means}
use Rattle.seize_table.specs.contracts.tls.meaning.Meaning as meaning
use Rattle.seize_table.proofs.Meanings.{means_agree}
use Rattle.seize_table.specs.contracts.tls.meaning.Meaning.agree.{ended, clauses}
use Rattle.seize_table.specs.contracts.tls.meaning.Meaning.agree.Key.{name as #self}
use Rattle.seize_table.proofs.tls.meaning.Meaning.agree.Statement.{statement}
use Rattle.seize_table.proofs.tls.meaning.Meaning.agree.Code as code

pub agree_spec : {M : Type 1} → statement M
agree_spec 𝓤 𝓛 𝓜 𝓡 wired T L =
    let H = 𝓛.H in let 𝓣 = tables 𝓤 H 𝓜 𝓡 𝓡.env in let R : RattleType = param 0 T in let En = ended T in let c = clauses T 𝓛 𝓜.mem 𝓡.returns in let inst = layouts (a_type ∷ []) (T, tt) in let fn = inst_fn inst code.function in
    let Row : RattleType = meaning.the_row R in let D : RattleType = Struct (shape (meaning.the_type R)) in let self = RefOf (0 ∷ []) tt (plain (λ _. Row)) (λ _. tt) in let other = RefOf (1 ∷ []) tt (plain (λ _. Row)) (λ _. tt) in
    let hs : Stays En.signature.params En.kept = (stay_dropped self yes, (stay_dropped other yes, tt)) in
    proved 𝓛 En hs c 𝓜 𝓡 (Goes-dropped 𝓛 3 self yes (λ κs x f. refl), (Goes-dropped 𝓛 3 other yes (λ κs x f. refl), tt)) (#self inst) fn (code.unfolded 𝓤 H 𝓜 𝓡 wired (T, tt))
    (λ κs. (shr_vals, (shr_vals, tt))) (λ κs. (shr_Tells (named 0) κs.0 Row, (shr_Tells (named 1) κs.1.0 Row, tt))) (λ κs qs bounds a gh are.
    let rb : ℕ = a.0.ref_ptr.0 in let ro : ℕ = a.0.ref_ptr.1 in let sb : ℕ = a.1.0.ref_ptr.0 in let so : ℕ = a.1.0.ref_ptr.1 in let κ : Lft = κs.0 in let μ : Lft = κs.1.0 in let m = a.0.now in let n = a.1.0.now in
    let y : (walk_of 𝓛 En hs c).Ghost = ((κs, qs, bounds, a, (vptr rb ro ∷ [], (vptr sb so ∷ [], tt))), gh) in let Post : Val → SProp 𝓤 = (walk_of 𝓛 En hs c).post y in let Asked : Type 0 = m.name ≡ n.name in let Same : Type 0 = m.value ≡ n.value in
    let toks = ‵ (flft κ qs.0) ⊛ ‵ (flft μ qs.1.0) ⊛ ‵ (fsep (flft κs.1.1.0 qs.1.1.0) ftrue) in let codes = meaning.the_codes T.Denot R.coded (marker.the_row RawPtr).coded in
    qed 𝓛 ((toks ⊛ ‵ (owns (types_at En.signature.params κs) a y.0.4)) ∷ raw (fact 𝓤 _) ∷ raw (fact 𝓤 Asked) ∷ []) ∵ move ! (2 ∷ []) $ heard ! Asked (λ asked. keep ! (0 ∷ []) $ split ! $ move ! (1 ∷ []) $ fsplit ! $ fsplit ! $ drop ! $
    use1 𝓛 (‵ (hidden_shr D κ (record {}, tt) rb ro) ⊛ ‵ (fhide (said (means R m.name m.value) κ))) (lent_out 𝓛 (meaning.struct R) codes (meaning.the_heap R) (meaning.the_lent R) κ m rb ro) $ split ! $ drop ! $ unhide ! $
    move ! (1 ∷ []) $ fsplit ! $ fsplit ! $ drop ! $ use1 𝓛 (‵ (hidden_shr D μ (record {}, tt) sb so) ⊛ ‵ (fhide (said (means R n.name n.value) μ))) (lent_out 𝓛 (meaning.struct R) codes (meaning.the_heap R) (meaning.the_lent R) μ n sb so) $ split ! $ drop ! $ unhide ! $
    -- [what the second says; nothing; what the first says; the tokens]
    rewrite ! 2 (λ (name : ℕ). ‵ (means R name m.value)) asked refl $ move ! (2 ∷ 0 ∷ []) $
    use2 𝓛 (raw (fact 𝓤 Same)) (means_agree 𝓛 R n.name m.value n.value) $ heard ! Same (λ same. enter ! 𝓣.C 𝓣.Λ fn (vptr rb ro ∷ vptr sb so ∷ []) Post $ alloc_all ! (λ l. pass_all ! refl ((tt, tt), ((tt, tt), tt)) $
    sets ! (of_opd ! (unit_lit !)) refl (tt, tt) $ feq_i ! (List Val) (vunit ∷ []) (vunit ∷ []) refl $ use0 𝓛 (raw (fact 𝓤 Same)) (fact_i 𝓤 Same (emp 𝓤) same) $ nothing ! $ nothing ! $ fjoin ! $ nothing ! $ fjoin ! $
    returns ! (look_at ! 0 refl) $ free_all ! refl $ keep ! (4 ∷ 0 ∷ 2 ∷ 1 ∷ []) $ by ! (leaves 𝓛 En hs c y vunit tt (tt, (tt, tt)) (tt, (tt, tt)))))))
