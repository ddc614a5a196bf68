-- What two notes know of an entry, without the type of its value.
use Rattle.seize_table.proofs.Kit.{◌≡◌, ℕ, List, [], ◌∷◌, ◌++◌, refl, sym, subst, a_type, inst_fn, proved_at, leaves, Val, vptr, SProp, ent, emp, all, all_e, apply∗, id⊢, Lft, Share, Fml, ftrue, fsep, flft, sem, WpFn, ‵, raw, ◌⊛◌, later, ◌$◌, ◌∵◌, !, qed, by, move, keep, drop, split, join, fsplit, fjoin, fpack, use0, use1, use2, await, rewrite, suffices, feq_i, no_more, and_then, returns, enter, alloc_all, pass_all, free_all, look_at, get, sets, agg, fact, fact_i, tables, yes, RattleType, owns, types_at, plain, RefOf, param, nothing, heard, Stays, stay_dropped, stay_ref, walk_of, Goes-dropped, Goes-ref}
use mir.Syntax.{dcons, dnil}
use denote.Param.{bounded}
use Rattle.std.specs.declared.option.Option.{Option}
use Rattle.std.specs.declared.option.Option.TheVariants.{Some}
use Rattle.once_cell.specs.Once.{noted}
use Rattle.once_cell.proofs.Notes as notes
use Rattle.seize_table.specs.Filled.{EntryPlace, shown_by, known_bucket, known_item, names_of, name_in}
use Rattle.seize_table.specs.Table.{Cell, Row, IsCell}
use Rattle.seize_table.specs.contracts.thread_id.Thread as thread_row
use Rattle.seize_table.proofs.Entries.{FilledAt, ItemOf, RowOf, Data as Blank, filled_at_made}
use Rattle.seize_table.proofs.Meanings.{token}
use Rattle.seize_table.specs.contracts.tls.ThreadLocal as table_row
use Rattle.seize_table.specs.contracts.tls.filled_at.FilledAt.of.{ended, clauses}
use Rattle.seize_table.specs.contracts.tls.filled_at.FilledAt.of.Key.{name as #self}
use Rattle.seize_table.proofs.tls.filled_at.FilledAt.of.Statement.{statement}
use Rattle.seize_table.proofs.tls.filled_at.FilledAt.of.Code as code

pub of_spec : {M : Type 1} → statement M
of_spec 𝓤 𝓛 𝓜 𝓡 wired T L g dg met =
    let H = 𝓛.H in let 𝓣 = tables 𝓤 H 𝓜 𝓡 𝓡.env in let R : RattleType = RowOf (param 0 T) g in let I : RattleType = ItemOf (param 0 T) g in let En = ended T g dg in let inst = bounded (a_type ∷ []) (T, tt) (dcons dg dnil) in let fn = inst_fn inst code.function in
    let N : RattleType = notes.Note 𝓛 R in let O : RattleType = notes.Note 𝓛 I in let c = clauses T g dg 𝓛 𝓜.mem 𝓡.returns in
    let table = RefOf (0 ∷ []) tt (plain (λ _. table_row.the_row (param 0 T) g)) (λ _. tt) in let thread = RefOf (1 ∷ []) tt (plain (λ _. thread_row.the_row)) (λ _. tt) in
    let hs : Stays En.signature.params En.kept = (stay_dropped table yes, (stay_dropped thread yes, (stay_ref (2 ∷ []) tt (plain (λ _. N)), (stay_ref (3 ∷ []) tt (plain (λ _. O)), tt)))) in
    proved_at 𝓛 En hs c 𝓜 𝓡 (Goes-dropped 𝓛 5 table yes (λ κs x f. refl), (Goes-dropped 𝓛 5 thread yes (λ κs x f. refl), (Goes-ref 𝓛 5 2 tt (plain (λ _. N)), (Goes-ref 𝓛 5 3 tt (plain (λ _. O)), tt)))) (#self inst) fn (code.unfolded 𝓤 H 𝓜 𝓡 wired (T, tt) dg) (λ z are.
    let κs = z.0.0 in let qs = z.0.1 in let a = z.0.3 in let Post : Val → SProp 𝓤 = (walk_of 𝓛 En hs c).post z in let Run : List Val → SProp 𝓤 = λ ws. WpFn 𝓤 H 𝓣.C 𝓣.Λ fn ws Post in
    let κ : Lft = κs.1.1.0 in let q : Share = qs.1.1.0 in let μ : Lft = κs.1.1.1.0 in let s : Share = qs.1.1.1.0 in let rb : ℕ = a.0.ref_ptr.0 in let ro : ℕ = a.0.ref_ptr.1 in let tb : ℕ = a.1.0.ref_ptr.0 in let to : ℕ = a.1.0.ref_ptr.1 in
    let m = a.1.1.0 in let nb : ℕ = m.ref_ptr.0 in let no' : ℕ = m.ref_ptr.1 in let ν : ℕ = m.ghost_name in let l = a.1.1.1.0 in let ib : ℕ = l.ref_ptr.0 in let io : ℕ = l.ref_ptr.1 in let η : ℕ = l.ghost_name in
    let n = m.now in let i = l.now in let names : List ℕ = names_of a.0.now.buckets in let t = a.1.0.now in let others : Fml = fsep (flft κs.1.1.1.1.0 qs.1.1.1.1.0) ftrue in
    let Asked : Type 0 = (n.cell ≡ name_in names t.bucket) × ((cell : Cell) × IsCell n t.entry cell × (i.cell ≡ cell.1)) × ((label value : ℕ) × (i.known ≡ Some (Some (label, value)))) in
    let Shuts = notes.Shuts 𝓛 R κ q nb no' ν in let Ends = notes.Shuts 𝓛 I μ s ib io η in let Vs : List Val = vptr rb ro ∷ vptr tb to ∷ vptr nb no' ∷ vptr ib io ∷ [] in
    qed 𝓛 (((‵ (flft κs.0 qs.0) ⊛ ‵ (flft κs.1.0 qs.1.0) ⊛ ‵ (fsep (flft κ q) (fsep (flft μ s) others))) ⊛ ‵ (owns (types_at En.signature.params κs) z.0.3 z.0.4)) ∷ raw (fact 𝓤 _) ∷ raw (fact 𝓤 _) ∷ raw (fact 𝓤 Asked) ∷ []) ∵
    move ! (3 ∷ []) $ heard ! Asked (λ asked. keep ! (0 ∷ []) $ split ! $ move ! (1 ∷ []) $ fsplit ! $ drop ! $ fsplit ! $ drop ! $ fsplit ! $ fsplit ! $ drop ! $ move ! (1 ∷ []) $ fsplit ! $ fsplit ! $ keep ! (1 ∷ 3 ∷ 4 ∷ []) $
    -- [the item's note; the row's note; the tokens]
    move ! (2 ∷ []) $ split ! $ move ! (1 ∷ []) $ split ! $ move ! (1 ∷ []) $ fsplit ! $ move ! (1 ∷ []) $ fsplit ! $ move ! (6 ∷ 2 ∷ 5 ∷ 0 ∷ []) $
    -- [the row's note; its token; the item's note; its token; others; two tokens]
    suffices ! (Run Vs) (subst (λ (us : List Val). ent 𝓤 (Run Vs) (Run us)) (sym (λ j. are.0.0 j ++ (are.1.0.0 j ++ (are.1.1.0.0 j ++ (are.1.1.1.0.0 j ++ []))))) (id⊢ 𝓤 (Run Vs))) $
    enter ! 𝓣.C 𝓣.Λ fn Vs Post $ alloc_all ! (λ at. pass_all ! refl ((tt, tt), ((tt, tt), ((tt, tt), ((tt, tt), tt)))) $ let K : Fml = noted R n.cell n.known in let J : Fml = noted I i.cell i.known in
    use2 𝓛 (later (‵ K ⊛ raw (all 𝓤 Shuts))) (notes.note_opens 𝓛 R κ q nb no' ν n) $ await ! tt $ split ! $ use1 𝓛 (‵ K ⊛ ‵ K) (notes.noted_twice 𝓛 R n.cell n.known) $ split ! $ move ! (2 ∷ []) $ use1 𝓛 (raw (Shuts n)) (all_e 𝓤 Shuts n) $ move ! (1 ∷ 0 ∷ []) $
    use2 𝓛 (later (‵ (notes.lent 𝓛 R κ q nb no' ν n) ⊛ ‵ (flft κ q))) (apply∗ 𝓤 (sem 𝓛 K) _) $ await ! tt $ split ! $ feq_i ! (List Val) z.0.4.1.1.0 (vptr nb no' ∷ []) are.1.1.0.0 $ fjoin ! $ move ! (3 ∷ 4 ∷ []) $
    -- [the item's note; its token; the row's note; its token; what it knows; others; two tokens]
    use2 𝓛 (later (‵ J ⊛ raw (all 𝓤 Ends))) (notes.note_opens 𝓛 I μ s ib io η i) $ await ! tt $ split ! $ use1 𝓛 (‵ J ⊛ ‵ J) (notes.noted_twice 𝓛 I i.cell i.known) $ split ! $ move ! (2 ∷ []) $ use1 𝓛 (raw (Ends i)) (all_e 𝓤 Ends i) $ move ! (1 ∷ 0 ∷ []) $
    use2 𝓛 (later (‵ (notes.lent 𝓛 I μ s ib io η i) ⊛ ‵ (flft μ s))) (apply∗ 𝓤 (sem 𝓛 J) _) $ await ! tt $ split ! $ feq_i ! (List Val) z.0.4.1.1.1.0 (vptr ib io ∷ []) are.1.1.1.0.0 $ fjoin ! $
    -- [the item's note; its token; what it knows; the row's note; its token; what it knows; others; two tokens]
    let row : Row = asked.1.1.0 in let cell : Cell = asked.1.0 in let label : ℕ = asked.2.0 in let way : EntryPlace t.id = record { bucket = t.bucket; entry = t.entry; placed = t.placed; row = row; cell = cell; here = asked.1.1.2; value = asked.2.1 } in
    rewrite ! 2 (λ (k : Option (Option (ℕ × ℕ))). ‵ (noted I i.cell k)) asked.2.2 refl $ rewrite ! 2 (λ (γ : ℕ). ‵ (known_item γ label way.value)) asked.1.2 refl $
    rewrite ! 5 (λ (k : Option Row). ‵ (noted R n.cell k)) asked.1.1.1 refl $ rewrite ! 5 (λ (γ : ℕ). ‵ (known_bucket γ row)) asked.0 refl $ move ! (5 ∷ 2 ∷ []) $ fjoin ! $ fpack ! (EntryPlace t.id) (shown_by names t.id label) way $ move ! (1 ∷ 2 ∷ 3 ∷ 4 ∷ 5 ∷ 6 ∷ 7 ∷ 0 ∷ []) $
    -- [the item's note; its token; the row's note; its token; others; two tokens; what is known of the entry]
    nothing ! $ move ! (1 ∷ 0 ∷ []) $ fjoin ! $ move ! (2 ∷ 0 ∷ []) $ fjoin ! $ nothing ! $ fjoin ! $ nothing ! $ fjoin ! $
    move ! (1 ∷ 3 ∷ []) $ fjoin ! $ move ! (2 ∷ 0 ∷ []) $ fjoin ! $ move ! (2 ∷ 0 ∷ []) $ join ! $ move ! (2 ∷ 0 ∷ []) $ join ! $ move ! (2 ∷ 0 ∷ 1 ∷ []) $
    -- [what is known of the entry; the tokens; the parameters]
    sets ! (agg ! (no_more !)) refl (tt, tt) $ sets ! (agg ! (and_then ! (get ! refl) (no_more !))) refl (tt, (tt, tt)) $ use0 𝓛 (‵ Blank) (filled_at_made 𝓛) $ fjoin ! $
    let r : FilledAt.Denot = record { marker = record {}; table = names; number = t.id; label = label } in let Told : Type 0 = (n ≡ n) × (i ≡ i) × (names ≡ names) × (t.id ≡ t.id) × ((value : ℕ) × (i.known ≡ Some (Some (label, value)))) in
    use0 𝓛 (raw (fact 𝓤 Told)) (fact_i 𝓤 Told (emp 𝓤) (refl, refl, refl, refl, (way.value, asked.2.2))) $
    returns ! (look_at ! 0 refl) $ free_all ! refl $ keep ! (2 ∷ 3 ∷ 1 ∷ 0 ∷ []) $ by ! (leaves 𝓛 En hs c z token r (tt, (tt, (n, (i, tt)))) (tt, (tt, (tt, (tt, tt))))))))
