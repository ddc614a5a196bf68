-- Two tokens of one entry have one label.
use Rattle.seize_table.proofs.Kit.{◌≡◌, ℕ, List, [], ◌∷◌, refl, named, proved, leaves, Val, vunit, vptr, SProp, emp, Lft, ftrue, flft, fhide, ‵, raw, ◌⊛◌, ◌$◌, ◌∵◌, !, qed, by, move, keep, drop, split, fsplit, fjoin, use0, use1, use2, rewrite, feq_i, unit_lit, of_opd, returns, enter, alloc_all, pass_all, free_all, look_at, sets, fact, fact_i, tables, yes, RattleType, owns, types_at, plain, RefOf, unit, shr_vals, shr_Tells, hidden_shr, unhide, said, nothing, heard, lent_out, Struct, shape, Stays, stay_dropped, walk_of, Goes-dropped}
use Rattle.core.specs.contracts.marker.PhantomData as marker
use Rattle.seize_table.specs.Filled.{filled_at}
use Rattle.seize_table.specs.contracts.tls.filled_at.FilledAt as filled
use Rattle.seize_table.proofs.Entries.{FilledAt, filled_agree}
use Rattle.seize_table.specs.contracts.tls.filled_at.FilledAt.agree.{ended, clauses}
use Rattle.seize_table.specs.contracts.tls.filled_at.FilledAt.agree.Key.{name as #self}
use Rattle.seize_table.proofs.tls.filled_at.FilledAt.agree.Statement.{statement}
use Rattle.seize_table.proofs.tls.filled_at.FilledAt.agree.Code as code

pub agree_spec : {M : Type 1} → statement M
agree_spec 𝓤 𝓛 𝓜 𝓡 wired =
    let H = 𝓛.H in let 𝓣 = tables 𝓤 H 𝓜 𝓡 𝓡.env in let En = ended in let c = clauses 𝓛 𝓜.mem 𝓡.returns in let fn = code.function in let D : RattleType = Struct (shape filled.the_type) in
    let self = RefOf (0 ∷ []) tt (plain (λ _. FilledAt)) (λ _. tt) in let other = RefOf (1 ∷ []) tt (plain (λ _. FilledAt)) (λ _. tt) in let hs : Stays En.signature.params En.kept = (stay_dropped self yes, (stay_dropped other yes, tt)) in
    proved 𝓛 En hs c 𝓜 𝓡 (Goes-dropped 𝓛 2 self yes (λ κs x f. refl), (Goes-dropped 𝓛 2 other yes (λ κs x f. refl), tt)) #self fn (code.unfolded 𝓤 H 𝓜 𝓡 wired)
    (λ κs. (shr_vals, (shr_vals, tt))) (λ κs. (shr_Tells (named 0) κs.0 FilledAt, (shr_Tells (named 1) κs.1.0 FilledAt, tt))) (λ κs qs bounds a gh are.
    let rb : ℕ = a.0.ref_ptr.0 in let ro : ℕ = a.0.ref_ptr.1 in let sb : ℕ = a.1.0.ref_ptr.0 in let so : ℕ = a.1.0.ref_ptr.1 in let κ : Lft = κs.0 in let μ : Lft = κs.1.0 in let m = a.0.now in let n = a.1.0.now in
    let y : (walk_of 𝓛 En hs c).Ghost = ((κs, qs, bounds, a, (vptr rb ro ∷ [], (vptr sb so ∷ [], tt))), gh) in let Post : Val → SProp 𝓤 = (walk_of 𝓛 En hs c).post y in let Asked : Type 0 = (m.table ≡ n.table) × (m.number ≡ n.number) in
    let toks = ‵ (flft κ qs.0) ⊛ ‵ (flft μ qs.1.0) ⊛ ‵ ftrue in let codes = (marker.the_row unit).coded in let Same : Type 0 = m.label ≡ n.label in let told = λ (d : FilledAt.Denot). filled_at d.table d.number d.label in
    qed 𝓛 ((toks ⊛ ‵ (owns (types_at En.signature.params κs) a y.0.4)) ∷ raw (fact 𝓤 Asked) ∷ []) ∵ move ! (1 ∷ []) $ heard ! Asked (λ asked. split ! $ move ! (1 ∷ []) $ fsplit ! $ fsplit ! $ drop ! $
    use1 𝓛 (‵ (hidden_shr D κ (record {}, tt) rb ro) ⊛ ‵ (fhide (said (told m) κ))) (lent_out 𝓛 filled.struct (filled.the_codes codes) filled.the_heap filled.the_lent κ m rb ro) $ split ! $ drop ! $ unhide ! $
    move ! (1 ∷ []) $ fsplit ! $ fsplit ! $ drop ! $ use1 𝓛 (‵ (hidden_shr D μ (record {}, tt) sb so) ⊛ ‵ (fhide (said (told n) μ))) (lent_out 𝓛 filled.struct (filled.the_codes codes) filled.the_heap filled.the_lent μ n sb so) $ split ! $ drop ! $ unhide ! $
    -- [what the second says; nothing; what the first says; the tokens]
    rewrite ! 2 (λ (table : List ℕ). ‵ (filled_at table m.number m.label)) asked.0 refl $ rewrite ! 2 (λ (number : ℕ). ‵ (filled_at n.table number m.label)) asked.1 refl $ move ! (2 ∷ 0 ∷ []) $
    use2 𝓛 (raw (fact 𝓤 Same)) (filled_agree 𝓛 n.table n.number m.label n.label) $ heard ! Same (λ same. enter ! 𝓣.C 𝓣.Λ fn (vptr rb ro ∷ vptr sb so ∷ []) Post $ alloc_all ! (λ l. pass_all ! refl ((tt, tt), ((tt, tt), tt)) $
    sets ! (of_opd ! (unit_lit !)) refl (tt, tt) $ feq_i ! (List Val) (vunit ∷ []) (vunit ∷ []) refl $ use0 𝓛 (raw (fact 𝓤 Same)) (fact_i 𝓤 Same (emp 𝓤) same) $ nothing ! $ nothing ! $ fjoin ! $ nothing ! $ fjoin ! $
    returns ! (look_at ! 0 refl) $ free_all ! refl $ keep ! (4 ∷ 0 ∷ 2 ∷ 1 ∷ []) $ by ! (leaves 𝓛 En hs c y vunit tt (tt, (tt, tt)) (tt, (tt, tt)))))))
