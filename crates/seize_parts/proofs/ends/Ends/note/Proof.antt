-- `note` says of one value more that it went, and what was put with it.
use Rattle.seize_book.proofs.Kit.{vint, w64, u64, uint_vals, uint_Tells, yes, stay_dropped, Goes-dropped, ℕ, List, [], ◌∷◌, ◌++◌, refl, proved, named, Val, vptr, vunit, SProp, emp, Fml, ftrue, fsep, flft, ‵, raw, ◌⊛◌, ◌$◌, ◌∵◌, !, qed, by, move, keep, split, fsplit, fsplit3, fjoin, fjoin3, feq_i, unit_lit, of_opd, returns, enter, alloc_all, pass_all, free_all, look_at, sets, fact_i, tables, owns, types_at, plain, mut_vals, mut_Tells, nothing, opens, closes, Stays, stay_ref, walk_of, Goes-ref, RattleType, RefOf, shr_vals, shr_Tells}
use Rattle.seize_book.specs.Kept.{kepts_of}
use Rattle.seize_book.specs.Values.{values_of}
use Rattle.seize_calls.specs.Furthers.{further_in}
use Rattle.seize_calls.specs.contracts.further.Further as Further
use Rattle.seize_book.proofs.Fields.{ends}
use Rattle.seize_parts.specs.contracts.ends.Ends as Ends
use Rattle.seize_parts.specs.contracts.ends.Ends.note.{ended, clauses}
use Rattle.seize_parts.specs.contracts.ends.Ends.note.Key.{name as #self}
use Rattle.seize_parts.proofs.ends.Ends.note.Statement.{statement}
use Rattle.seize_parts.proofs.ends.Ends.note.Code as code

pub note_spec : {M : Type 1} → statement M
note_spec 𝓤 𝓛 𝓜 𝓡 wired =
    let H = 𝓛.H in let 𝓣 = tables 𝓤 H 𝓜 𝓡 𝓡.env in let R : RattleType = Further.the_row in let En = ended in let fn = code.function in let c = clauses 𝓛 𝓜.mem 𝓡.returns in
    let one = RefOf (1 ∷ []) tt (plain (λ _. R)) (λ _. tt) in
    let hs : Stays En.signature.params En.kept = (stay_ref (0 ∷ []) tt (plain (λ _. Ends.the_row)), (stay_dropped (plain (λ _. u64)) yes, (stay_dropped one yes, tt))) in
    proved 𝓛 En hs c 𝓜 𝓡 (Goes-ref 𝓛 2 0 tt (plain (λ _. Ends.the_row)), (Goes-dropped 𝓛 2 (plain (λ _. u64)) yes (λ κs x f. refl), (Goes-dropped 𝓛 2 one yes (λ κs x f. refl), tt))) #self fn (code.unfolded 𝓤 H 𝓜 𝓡 wired)
    (λ κs. (mut_vals, (uint_vals w64, (shr_vals, tt)))) (λ κs. (mut_Tells (named 0) κs.0 Ends.the_row, (uint_Tells w64, (shr_Tells (named 1) κs.1.0 R, tt)))) (λ κs qs bounds a gh are.
    let k = a.0.now in let kept : ℕ = a.1.0 in let pb : ℕ = a.0.ref_ptr.0 in let po : ℕ = a.0.ref_ptr.1 in let vb : ℕ = a.1.1.0.ref_ptr.0 in let vo : ℕ = a.1.1.0.ref_ptr.1 in
    let y : (walk_of 𝓛 En hs c).Ghost = ((κs, qs, bounds, a, (vptr pb po ∷ [], (vint w64 kept ∷ [], (vptr vb vo ∷ [], tt)))), gh) in let Post : Val → SProp 𝓤 = (walk_of 𝓛 En hs c).post y in
    let toks : Fml = fsep (flft κs.0 qs.0) (fsep (flft κs.1.0 qs.1.0) ftrue) in
    qed 𝓛 ((‵ toks ⊛ ‵ (owns (types_at En.signature.params κs) a y.0.4)) ∷ raw ((c κs a).requires gh) ∷ []) ∵ split ! $
    fsplit ! $ move ! (2 ∷ []) $ fsplit ! $ fsplit3 ! $
    -- [the reclaimer, in three entries; nothing; its token; the others]
    keep ! (1 ∷ 2 ∷ 4 ∷ 5 ∷ []) $
    enter ! 𝓣.C 𝓣.Λ fn (vptr pb po ∷ vint w64 kept ∷ vptr vb vo ∷ []) Post $
    alloc_all ! (λ l. pass_all ! refl ((tt, tt), ((tt, record { fits = are.1.0.1 }), ((tt, tt), tt))) $
    opens ! tt Ends.the_row pb po (λ vs. move ! (1 ∷ []) $ fsplit ! $ move ! (1 ∷ []) $
    let k' : Ends.the_row.Denot = record k { had = k.had ++ (kept, k.at, values_of (further_in a.1.1.0.now), kepts_of (further_in a.1.1.0.now)) ∷ [] } in
    move ! (1 ∷ 0 ∷ []) $ fjoin ! $ move ! (1 ∷ 0 ∷ 2 ∷ 3 ∷ 4 ∷ []) $ closes ! tt Ends.the_row k' vs pb po $
    -- [the reclaimer, in two; its token; the others]
    sets ! (of_opd ! (unit_lit !)) refl (tt, tt) $ feq_i ! (List Val) (vunit ∷ []) (vunit ∷ []) refl $
    move ! (3 ∷ 4 ∷ []) $ fjoin ! $
    -- [the tokens; the result; the reclaimer, in two]
    nothing ! $ nothing ! $ fjoin ! $ nothing ! $ fjoin ! $ feq_i ! (List Val) (vptr pb po ∷ []) (vptr pb po ∷ []) refl $ move ! (0 ∷ 4 ∷ 5 ∷ []) $ fjoin3 ! $ fjoin ! $
    returns ! (look_at ! 0 refl) $ free_all ! refl $ keep ! (1 ∷ 0 ∷ 2 ∷ []) $
    by ! (ends 𝓛 En hs c y vunit tt (k', (tt, (tt, tt))) (tt, (tt, (tt, tt))) (fact_i 𝓤 _ (emp 𝓤) refl)))))
