-- A note of the entry's bucket learns it from what is known of the entry.
use Rattle.seize_table.proofs.Kit.{◌≡◌, ℕ, List, [], ◌∷◌, ◌++◌, refl, sym, ap, ◌∙◌, subst, a_type, inst_fn, proved_at, leaves, Val, vunit, vptr, SProp, ent, emp, all, all_e, apply∗, id⊢, Lft, Share, Fml, ftrue, fsep, flft, fhide, sem, WpFn, ‵, raw, ◌⊛◌, later, ◌$◌, ◌∵◌, !, qed, by, move, keep, drop, split, join, fsplit, fjoin, fpick, use0, use1, use2, await, rewrite, suffices, feq_i, unit_lit, of_opd, returns, enter, alloc_all, pass_all, free_all, look_at, sets, fact, fact_i, tables, yes, RattleType, owns, types_at, plain, RefOf, unit, hidden_shr, unhide, param, said, nothing, heard, lent_out, Struct, shape, Stays, stay_dropped, stay_ref, walk_of, Goes-dropped, Goes-ref}
use mir.Syntax.{dcons, dnil}
use denote.Param.{bounded}
use Rattle.std.specs.List.{slice_get}
use Rattle.std.specs.declared.option.Option.TheVariants.{Some}
use Rattle.std.specs.Prelude.{IfSome}
use Rattle.once_cell.specs.Once.{noted}
use Rattle.once_cell.proofs.Notes as notes
use Rattle.core.specs.contracts.marker.PhantomData as marker
use Rattle.seize_table.specs.Filled.{filled_at, known_bucket, name_in, row_row}
use Rattle.seize_table.specs.Place.{IsPlace}
use Rattle.seize_table.specs.Table.{Cell, IsCell}
use Rattle.seize_table.specs.contracts.thread_id.Thread as thread_row
use Rattle.seize_table.specs.contracts.tls.filled_at.FilledAt as filled
use Rattle.seize_table.proofs.Entries.{both_known, FilledAt, RowOf}
use Rattle.seize_table.proofs.Places.{one_place}
use Rattle.seize_table.specs.contracts.tls.filled_at.FilledAt.tell_row.{ended, clauses}
use Rattle.seize_table.specs.contracts.tls.filled_at.FilledAt.tell_row.Key.{name as #self}
use Rattle.seize_table.proofs.tls.filled_at.FilledAt.tell_row.Statement.{statement}
use Rattle.seize_table.proofs.tls.filled_at.FilledAt.tell_row.Code as code

pub tell_row_spec : {M : Type 1} → statement M
tell_row_spec 𝓤 𝓛 𝓜 𝓡 wired T L g dg met =
    let H = 𝓛.H in let 𝓣 = tables 𝓤 H 𝓜 𝓡 𝓡.env in let R : RattleType = RowOf (param 0 T) g in let En = ended T g dg in let inst = bounded (a_type ∷ []) (T, tt) (dcons dg dnil) in let fn = inst_fn inst code.function in
    let N : RattleType = notes.Note 𝓛 R in let c = clauses T g dg 𝓛 𝓜.mem 𝓡.returns in let D : RattleType = Struct (shape filled.the_type) in let codes = (marker.the_row unit).coded in
    let self = RefOf (0 ∷ []) tt (plain (λ _. FilledAt)) (λ _. tt) in let thread = RefOf (1 ∷ []) tt (plain (λ _. thread_row.the_row)) (λ _. tt) in
    let hs : Stays En.signature.params En.kept = (stay_dropped self yes, (stay_dropped thread yes, (stay_ref (2 ∷ []) tt (plain (λ _. N)), tt))) in
    proved_at 𝓛 En hs c 𝓜 𝓡 (Goes-dropped 𝓛 4 self yes (λ κs x f. refl), (Goes-dropped 𝓛 4 thread yes (λ κs x f. refl), (Goes-ref 𝓛 4 2 tt (plain (λ _. N)), tt))) (#self inst) fn (code.unfolded 𝓤 H 𝓜 𝓡 wired (T, tt) dg) (λ z are.
    let κs = z.0.0 in let qs = z.0.1 in let a = z.0.3 in let Post : Val → SProp 𝓤 = (walk_of 𝓛 En hs c).post z in let Run : List Val → SProp 𝓤 = λ ws. WpFn 𝓤 H 𝓣.C 𝓣.Λ fn ws Post in
    let κ : Lft = κs.1.1.0 in let q : Share = qs.1.1.0 in let rb : ℕ = a.0.ref_ptr.0 in let ro : ℕ = a.0.ref_ptr.1 in let tb : ℕ = a.1.0.ref_ptr.0 in let to : ℕ = a.1.0.ref_ptr.1 in let m = a.1.1.0 in let nb : ℕ = m.ref_ptr.0 in let no' : ℕ = m.ref_ptr.1 in let ν : ℕ = m.ghost_name in
    let n = m.now in let f = a.0.now in let t = a.1.0.now in let Asked : Type 0 = (f.number ≡ t.id) × (n.cell ≡ name_in f.table t.bucket) in let others : Fml = fsep (flft κs.1.1.1.0 qs.1.1.1.0) ftrue in
    let Shuts = notes.Shuts 𝓛 R κ q nb no' ν in let Vs : List Val = vptr rb ro ∷ vptr tb to ∷ vptr nb no' ∷ [] in
    qed 𝓛 (((‵ (flft κs.0 qs.0) ⊛ ‵ (flft κs.1.0 qs.1.0) ⊛ ‵ (fsep (flft κ q) others)) ⊛ ‵ (owns (types_at En.signature.params κs) z.0.3 z.0.4)) ∷ raw (fact 𝓤 _) ∷ raw (fact 𝓤 Asked) ∷ []) ∵
    move ! (2 ∷ []) $ heard ! Asked (λ asked. keep ! (0 ∷ []) $ split ! $ move ! (1 ∷ []) $ fsplit ! $ fsplit ! $ drop ! $
    use1 𝓛 (‵ (hidden_shr D κs.0 (record {}, tt) rb ro) ⊛ ‵ (fhide (said (filled_at f.table f.number f.label) κs.0))) (lent_out 𝓛 filled.struct (filled.the_codes codes) filled.the_heap filled.the_lent κs.0 f rb ro) $ split ! $ drop ! $ unhide ! $
    move ! (1 ∷ []) $ fsplit ! $ drop ! $ fsplit ! $ fsplit ! $ keep ! (1 ∷ 3 ∷ 4 ∷ []) $ move ! (2 ∷ []) $ split ! $ move ! (1 ∷ []) $ split ! $ move ! (1 ∷ []) $ fsplit ! $ move ! (4 ∷ 0 ∷ []) $
    -- [the note; its token; others; two tokens; what is known of the entry]
    suffices ! (Run Vs) (subst (λ (us : List Val). ent 𝓤 (Run Vs) (Run us)) (sym (λ j. are.0.0 j ++ (are.1.0.0 j ++ (are.1.1.0.0 j ++ [])))) (id⊢ 𝓤 (Run Vs))) $
    enter ! 𝓣.C 𝓣.Λ fn Vs Post $ alloc_all ! (λ l. pass_all ! refl ((tt, tt), ((tt, tt), ((tt, tt), tt))) $
    use2 𝓛 (later (‵ (noted R n.cell n.known) ⊛ raw (all 𝓤 Shuts))) (notes.note_opens 𝓛 R κ q nb no' ν n) $ await ! tt $ split ! $ move ! (5 ∷ []) $ fpick ! (λ w. fsplit ! $
    let place = one_place t.id w.bucket w.entry t.bucket t.entry (subst (λ k. IsPlace k w.bucket w.entry) asked.0 w.placed) t.placed in let n' : N.Denot = record { marker = record {}; cell = n.cell; known = Some w.row } in
    rewrite ! 0 (λ (γ : ℕ). ‵ (known_bucket γ w.row)) (ap (λ b. name_in f.table b) place.0 ∙ sym asked.1) refl $ let K : Fml = known_bucket n.cell w.row in let Same : Type 0 = IfSome n.known (λ r. w.row ≡ r) in
    use1 𝓛 (‵ K ⊛ ‵ K) (notes.noted_twice 𝓛 row_row n.cell (Some w.row)) $ split ! $ move ! (0 ∷ 3 ∷ []) $ use2 𝓛 (raw (fact 𝓤 Same)) (notes.noted_agree 𝓛 R n.cell (Some w.row) n.known) $ heard ! Same (λ same. move ! (2 ∷ []) $ use1 𝓛 (raw (Shuts n')) (all_e 𝓤 Shuts n') $ move ! (1 ∷ 0 ∷ []) $
    use2 𝓛 (later (‵ (notes.lent 𝓛 R κ q nb no' ν n') ⊛ ‵ (flft κ q))) (apply∗ 𝓤 (sem 𝓛 (noted R n.cell (Some w.row))) _) $ await ! tt $ split ! $
    -- [the note; its token; what is known of the item; others; two tokens]
    feq_i ! (List Val) z.0.4.1.1.0 (vptr nb no' ∷ []) are.1.1.0.0 $ fjoin ! $ nothing ! $ move ! (1 ∷ 0 ∷ []) $ fjoin ! $ nothing ! $ fjoin ! $ nothing ! $ fjoin ! $
    move ! (1 ∷ 3 ∷ []) $ fjoin ! $ move ! (3 ∷ 0 ∷ []) $ join ! $ move ! (3 ∷ 0 ∷ []) $ join ! $
    let Told : Type 0 = (n'.cell ≡ n.cell) × ((cell : Cell) × IsCell n' t.entry cell) × IfSome n.known (λ r. n'.known ≡ Some r) in
    sets ! (of_opd ! (unit_lit !)) refl (tt, tt) $ feq_i ! (List Val) (vunit ∷ []) (vunit ∷ []) refl $
    use0 𝓛 (raw (fact 𝓤 Told)) (fact_i 𝓤 Told (emp 𝓤) (refl, (w.cell, (w.row, refl, subst (λ e. slice_get w.row.items e ≡ Some w.cell) place.1 w.here)), both_known w.row n.known same)) $
    returns ! (look_at ! 0 refl) $ free_all ! refl $ keep ! (2 ∷ 3 ∷ 1 ∷ 0 ∷ []) $ by ! (leaves 𝓛 En hs c z vunit tt (tt, (tt, (n', tt))) (tt, (tt, (tt, tt)))))))))
