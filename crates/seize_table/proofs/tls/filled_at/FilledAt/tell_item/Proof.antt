-- A note of the entry's cell learns its value's label and name from what is known of the entry.
use Rattle.seize_table.proofs.Kit.{◌≡◌, ℕ, List, [], ◌∷◌, ◌++◌, refl, sym, ap, ◌∙◌, subst, a_type, inst_fn, proved_at, leaves, Val, vunit, vptr, SProp, ent, emp, all, all_e, apply∗, id⊢, Lft, Share, Fml, ftrue, fsep, flft, fhide, sem, WpFn, ‵, raw, ◌⊛◌, later, ◌$◌, ◌∵◌, !, qed, by, move, keep, drop, split, join, fsplit, fjoin, fpick, use0, use1, use2, await, rewrite, suffices, feq_i, unit_lit, of_opd, returns, enter, alloc_all, pass_all, free_all, look_at, sets, fact, fact_i, tables, yes, RattleType, owns, types_at, plain, RefOf, unit, hidden_shr, unhide, param, said, nothing, heard, lent_out, Struct, shape, Stays, stay_dropped, stay_ref, walk_of, Goes-dropped, Goes-ref}
use mir.Syntax.{dcons, dnil}
use denote.Param.{bounded}
use Rattle.std.specs.declared.option.Option.{Option}
use Rattle.std.specs.declared.option.Option.TheVariants.{Some}
use Rattle.once_cell.specs.Once.{noted}
use Rattle.once_cell.proofs.Notes as notes
use Rattle.core.specs.contracts.marker.PhantomData as marker
use Rattle.seize_table.specs.Filled.{filled_at, known_bucket, known_item, row_row, name_in}
use Rattle.seize_table.specs.Place.{IsPlace}
use Rattle.seize_table.specs.Table.{Cell, Row, IsCell}
use Rattle.seize_table.specs.contracts.thread_id.Thread as thread_row
use Rattle.seize_table.specs.contracts.tls.filled_at.FilledAt as filled
use Rattle.seize_table.proofs.Entries.{FilledAt, ItemOf, RowOf, one_cell}
use Rattle.seize_table.proofs.Places.{one_place}
use Rattle.seize_table.specs.contracts.tls.filled_at.FilledAt.tell_item.{ended, clauses}
use Rattle.seize_table.specs.contracts.tls.filled_at.FilledAt.tell_item.Key.{name as #self}
use Rattle.seize_table.proofs.tls.filled_at.FilledAt.tell_item.Statement.{statement}
use Rattle.seize_table.proofs.tls.filled_at.FilledAt.tell_item.Code as code

pub tell_item_spec : {M : Type 1} → statement M
tell_item_spec 𝓤 𝓛 𝓜 𝓡 wired T L g dg met =
    let H = 𝓛.H in let 𝓣 = tables 𝓤 H 𝓜 𝓡 𝓡.env in let R : RattleType = RowOf (param 0 T) g in let I : RattleType = ItemOf (param 0 T) g in let En = ended T g dg in let inst = bounded (a_type ∷ []) (T, tt) (dcons dg dnil) in let fn = inst_fn inst code.function in
    let N : RattleType = notes.Note 𝓛 R in let O : RattleType = notes.Note 𝓛 I in let c = clauses T g dg 𝓛 𝓜.mem 𝓡.returns in let D : RattleType = Struct (shape filled.the_type) in let codes = (marker.the_row unit).coded in
    let self = RefOf (0 ∷ []) tt (plain (λ _. FilledAt)) (λ _. tt) in let thread = RefOf (1 ∷ []) tt (plain (λ _. thread_row.the_row)) (λ _. tt) in
    let hs : Stays En.signature.params En.kept = (stay_dropped self yes, (stay_dropped thread yes, (stay_ref (2 ∷ []) tt (plain (λ _. N)), (stay_ref (3 ∷ []) tt (plain (λ _. O)), tt)))) in
    proved_at 𝓛 En hs c 𝓜 𝓡 (Goes-dropped 𝓛 5 self yes (λ κs x f. refl), (Goes-dropped 𝓛 5 thread yes (λ κs x f. refl), (Goes-ref 𝓛 5 2 tt (plain (λ _. N)), (Goes-ref 𝓛 5 3 tt (plain (λ _. O)), tt)))) (#self inst) fn (code.unfolded 𝓤 H 𝓜 𝓡 wired (T, tt) dg) (λ z are.
    let κs = z.0.0 in let qs = z.0.1 in let a = z.0.3 in let Post : Val → SProp 𝓤 = (walk_of 𝓛 En hs c).post z in let Run : List Val → SProp 𝓤 = λ ws. WpFn 𝓤 H 𝓣.C 𝓣.Λ fn ws Post in
    let κ : Lft = κs.1.1.0 in let q : Share = qs.1.1.0 in let μ : Lft = κs.1.1.1.0 in let s : Share = qs.1.1.1.0 in let rb : ℕ = a.0.ref_ptr.0 in let ro : ℕ = a.0.ref_ptr.1 in let tb : ℕ = a.1.0.ref_ptr.0 in let to : ℕ = a.1.0.ref_ptr.1 in
    let m = a.1.1.0 in let nb : ℕ = m.ref_ptr.0 in let no' : ℕ = m.ref_ptr.1 in let ν : ℕ = m.ghost_name in let l = a.1.1.1.0 in let ib : ℕ = l.ref_ptr.0 in let io : ℕ = l.ref_ptr.1 in let η : ℕ = l.ghost_name in
    let n = m.now in let i = l.now in let f = a.0.now in let t = a.1.0.now in let others : Fml = fsep (flft κs.1.1.1.1.0 qs.1.1.1.1.0) ftrue in
    let Asked : Type 0 = (f.number ≡ t.id) × (n.cell ≡ name_in f.table t.bucket) × ((cell : Cell) × IsCell n t.entry cell × (i.cell ≡ cell.1)) in
    let Shuts = notes.Shuts 𝓛 R κ q nb no' ν in let Ends = notes.Shuts 𝓛 I μ s ib io η in let Vs : List Val = vptr rb ro ∷ vptr tb to ∷ vptr nb no' ∷ vptr ib io ∷ [] in
    qed 𝓛 (((‵ (flft κs.0 qs.0) ⊛ ‵ (flft κs.1.0 qs.1.0) ⊛ ‵ (fsep (flft κ q) (fsep (flft μ s) others))) ⊛ ‵ (owns (types_at En.signature.params κs) z.0.3 z.0.4)) ∷ raw (fact 𝓤 _) ∷ raw (fact 𝓤 Asked) ∷ []) ∵
    move ! (2 ∷ []) $ heard ! Asked (λ asked. keep ! (0 ∷ []) $ split ! $ move ! (1 ∷ []) $ fsplit ! $ fsplit ! $ drop ! $
    use1 𝓛 (‵ (hidden_shr D κs.0 (record {}, tt) rb ro) ⊛ ‵ (fhide (said (filled_at f.table f.number f.label) κs.0))) (lent_out 𝓛 filled.struct (filled.the_codes codes) filled.the_heap filled.the_lent κs.0 f rb ro) $ split ! $ drop ! $ unhide ! $
    move ! (1 ∷ []) $ fsplit ! $ drop ! $ fsplit ! $ fsplit ! $ drop ! $ move ! (1 ∷ []) $ fsplit ! $ fsplit ! $ keep ! (1 ∷ 3 ∷ 4 ∷ 5 ∷ []) $
    -- [the item's note; the row's note; what is known of the entry; the tokens]
    move ! (3 ∷ []) $ split ! $ move ! (1 ∷ []) $ split ! $ move ! (1 ∷ []) $ fsplit ! $ move ! (1 ∷ []) $ fsplit ! $ move ! (6 ∷ 2 ∷ 5 ∷ 0 ∷ []) $
    -- [the row's note; its token; the item's note; its token; others; two tokens; what is known of the entry]
    suffices ! (Run Vs) (subst (λ (us : List Val). ent 𝓤 (Run Vs) (Run us)) (sym (λ j. are.0.0 j ++ (are.1.0.0 j ++ (are.1.1.0.0 j ++ (are.1.1.1.0.0 j ++ []))))) (id⊢ 𝓤 (Run Vs))) $
    enter ! 𝓣.C 𝓣.Λ fn Vs Post $ alloc_all ! (λ at. pass_all ! refl ((tt, tt), ((tt, tt), ((tt, tt), ((tt, tt), tt)))) $ let K : Fml = noted R n.cell n.known in
    use2 𝓛 (later (‵ K ⊛ raw (all 𝓤 Shuts))) (notes.note_opens 𝓛 R κ q nb no' ν n) $ await ! tt $ split ! $ use1 𝓛 (‵ K ⊛ ‵ K) (notes.noted_twice 𝓛 R n.cell n.known) $ split ! $ move ! (2 ∷ []) $ use1 𝓛 (raw (Shuts n)) (all_e 𝓤 Shuts n) $ move ! (1 ∷ 0 ∷ []) $
    use2 𝓛 (later (‵ (notes.lent 𝓛 R κ q nb no' ν n) ⊛ ‵ (flft κ q))) (apply∗ 𝓤 (sem 𝓛 K) _) $ await ! tt $ split ! $ feq_i ! (List Val) z.0.4.1.1.0 (vptr nb no' ∷ []) are.1.1.0.0 $ fjoin ! $
    -- [the row's note; its token; what it knows; the item's note; its token; others; two tokens; what is known of the entry]
    move ! (8 ∷ []) $ fpick ! (λ w. fsplit ! $ let row : Row = asked.2.1.0 in let same_place = one_place t.id w.bucket w.entry t.bucket t.entry (subst (λ k. IsPlace k w.bucket w.entry) asked.0 w.placed) t.placed in let Same : Type 0 = w.row ≡ row in
    rewrite ! 0 (λ (γ : ℕ). ‵ (known_bucket γ w.row)) (ap (λ b. name_in f.table b) same_place.0 ∙ sym asked.1) refl $ rewrite ! 4 (λ (k : Option Row). ‵ (noted R n.cell k)) asked.2.1.1 refl $ move ! (0 ∷ 4 ∷ []) $
    use2 𝓛 (raw (fact 𝓤 Same)) (notes.noted_agree 𝓛 row_row n.cell (Some w.row) (Some row)) $ heard ! Same (λ same. let cell : w.cell ≡ asked.2.0 = one_cell same same_place.1 w.here asked.2.1.2 in
    let i' : O.Denot = record { marker = record {}; cell = i.cell; known = Some (Some (f.label, w.value)) } in
    rewrite ! 0 (λ (γ : ℕ). ‵ (known_item γ f.label w.value)) (ap (λ (d : Cell). d.1) cell ∙ sym asked.2.2) refl $ move ! (3 ∷ 4 ∷ []) $
    use2 𝓛 (later (‵ (noted I i.cell i.known) ⊛ raw (all 𝓤 Ends))) (notes.note_opens 𝓛 I μ s ib io η i) $ await ! tt $ split ! $ drop ! $ use1 𝓛 (raw (Ends i')) (all_e 𝓤 Ends i') $ move ! (1 ∷ 0 ∷ []) $
    use2 𝓛 (later (‵ (notes.lent 𝓛 I μ s ib io η i') ⊛ ‵ (flft μ s))) (apply∗ 𝓤 (sem 𝓛 (noted I i.cell i'.known)) _) $ await ! tt $ split ! $ feq_i ! (List Val) z.0.4.1.1.1.0 (vptr ib io ∷ []) are.1.1.1.0.0 $ fjoin ! $
    -- [the item's note; its token; the row's note; its token; others; two tokens]
    nothing ! $ move ! (1 ∷ 0 ∷ []) $ fjoin ! $ move ! (2 ∷ 0 ∷ []) $ fjoin ! $ nothing ! $ fjoin ! $ nothing ! $ fjoin ! $
    move ! (1 ∷ 3 ∷ []) $ fjoin ! $ move ! (2 ∷ 0 ∷ []) $ fjoin ! $ move ! (2 ∷ 0 ∷ []) $ join ! $ move ! (2 ∷ 0 ∷ []) $ join ! $
    let Told : Type 0 = (n ≡ n) × (i'.cell ≡ i.cell) × ((value : ℕ) × (i'.known ≡ Some (Some (f.label, value)))) in
    sets ! (of_opd ! (unit_lit !)) refl (tt, tt) $ feq_i ! (List Val) (vunit ∷ []) (vunit ∷ []) refl $ use0 𝓛 (raw (fact 𝓤 Told)) (fact_i 𝓤 Told (emp 𝓤) (refl, refl, (w.value, refl))) $
    returns ! (look_at ! 0 refl) $ free_all ! refl $ keep ! (2 ∷ 3 ∷ 1 ∷ 0 ∷ []) $ by ! (leaves 𝓛 En hs c z vunit tt (tt, (tt, (n, (i', tt)))) (tt, (tt, (tt, (tt, tt))))))))))
