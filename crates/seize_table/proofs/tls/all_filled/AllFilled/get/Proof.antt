-- What is known of one of the first entries.
use Rattle.seize_table.proofs.Kit.{◌≡◌, ℕ, [], ◌∷◌, refl, named, proved, leaves, Val, vint, vptr, SProp, emp, Lft, ftrue, flft, fhide, w64, ‵, raw, ◌⊛◌, ◌$◌, ◌∵◌, !, qed, by, move, keep, drop, split, fsplit, fjoin, use0, use1, no_more, and_then, returns, enter, alloc_all, pass_all, free_all, look_at, get, sets, agg, fact, fact_i, tables, yes, RattleType, owns, types_at, plain, RefOf, unit, usize, shr_vals, shr_Tells, uint_vals, uint_Tells, hidden_shr, unhide, said, nothing, heard, lent_out, Struct, shape, Stays, stay_dropped, walk_of, Goes-dropped}
use Rattle.std.proofs.Common.{length, get_or, ◌<◌}
use Rattle.core.specs.contracts.marker.PhantomData as marker
use Rattle.seize_table.specs.Filled.{filled_at, all_filled}
use Rattle.seize_table.specs.contracts.tls.all_filled.AllFilled as all
use Rattle.seize_table.proofs.Entries.{FilledAt, Data as BlankOne, filled_at_made}
use Rattle.seize_table.proofs.AllEntries.{AllFilled, first_of}
use Rattle.seize_table.proofs.Meanings.{token}
use Rattle.seize_table.specs.contracts.tls.all_filled.AllFilled.get.{ended, clauses}
use Rattle.seize_table.specs.contracts.tls.all_filled.AllFilled.get.Key.{name as #self}
use Rattle.seize_table.proofs.tls.all_filled.AllFilled.get.Statement.{statement}
use Rattle.seize_table.proofs.tls.all_filled.AllFilled.get.Code as code

pub get_spec : {M : Type 1} → statement M
get_spec 𝓤 𝓛 𝓜 𝓡 wired =
    let H = 𝓛.H in let 𝓣 = tables 𝓤 H 𝓜 𝓡 𝓡.env in let En = ended in let c = clauses 𝓛 𝓜.mem 𝓡.returns in let fn = code.function in let D : RattleType = Struct (shape all.the_type) in
    let self = RefOf (0 ∷ []) tt (plain (λ _. AllFilled)) (λ _. tt) in let hs : Stays En.signature.params En.kept = (stay_dropped self yes, (stay_dropped (plain (λ _. usize)) yes, tt)) in
    proved 𝓛 En hs c 𝓜 𝓡 (Goes-dropped 𝓛 1 self yes (λ κs x f. refl), (Goes-dropped 𝓛 1 (plain (λ _. usize)) yes (λ κs x f. refl), tt)) #self fn (code.unfolded 𝓤 H 𝓜 𝓡 wired)
    (λ κs. (shr_vals, (uint_vals w64, tt))) (λ κs. (shr_Tells (named 0) κs.0 AllFilled, (uint_Tells w64, tt))) (λ κs qs bounds a gh are.
    let rb : ℕ = a.0.ref_ptr.0 in let ro : ℕ = a.0.ref_ptr.1 in let k : ℕ = a.1.0 in let κ : Lft = κs.0 in let m = a.0.now in let label : ℕ = get_or m.labels k 0 in
    let y : (walk_of 𝓛 En hs c).Ghost = ((κs, qs, bounds, a, (vptr rb ro ∷ [], (vint w64 k ∷ [], tt))), gh) in let Post : Val → SProp 𝓤 = (walk_of 𝓛 En hs c).post y in let Asked : Type 0 = k < length m.labels in
    let toks = ‵ (flft κ qs.0) ⊛ ‵ ftrue in let codes = (marker.the_row unit).coded in let r : FilledAt.Denot = record { marker = record {}; table = m.table; number = k; label = label } in let Told : Type 0 = (m.table ≡ m.table) × (k ≡ k) × (label ≡ label) in
    qed 𝓛 ((toks ⊛ ‵ (owns (types_at En.signature.params κs) a y.0.4)) ∷ raw (fact 𝓤 Asked) ∷ []) ∵ move ! (1 ∷ []) $ heard ! Asked (λ asked. split ! $ move ! (1 ∷ []) $ fsplit ! $ fsplit ! $ drop ! $
    use1 𝓛 (‵ (hidden_shr D κ (record {}, tt) rb ro) ⊛ ‵ (fhide (said (all_filled m.table m.labels) κ))) (lent_out 𝓛 all.struct (all.the_codes codes) all.the_heap all.the_lent κ m rb ro) $ split ! $ drop ! $ unhide ! $ move ! (1 ∷ []) $ drop ! $
    -- [what is known of the first ones; the tokens]
    use1 𝓛 (‵ (filled_at m.table k label)) (first_of 𝓛 m.table m.labels k asked) $
    enter ! 𝓣.C 𝓣.Λ fn (vptr rb ro ∷ vint w64 k ∷ []) Post $ alloc_all ! (λ l. pass_all ! refl ((tt, tt), ((tt, record { fits = are.1.0.1 }), tt)) $ sets ! (agg ! (no_more !)) refl (tt, tt) $ sets ! (agg ! (and_then ! (get ! refl) (no_more !))) refl (tt, (tt, tt)) $
    use0 𝓛 (‵ BlankOne) (filled_at_made 𝓛) $ fjoin ! $ use0 𝓛 (raw (fact 𝓤 Told)) (fact_i 𝓤 Told (emp 𝓤) (refl, refl, refl)) $ nothing ! $ nothing ! $ fjoin ! $ nothing ! $ fjoin ! $
    returns ! (look_at ! 0 refl) $ free_all ! refl $ keep ! (3 ∷ 0 ∷ 2 ∷ 1 ∷ []) $ by ! (leaves 𝓛 En hs c y token r (tt, (tt, tt)) (tt, (tt, tt))))))
