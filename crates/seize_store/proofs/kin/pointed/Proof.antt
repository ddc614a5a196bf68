-- `pointed` loads the pointer. The note rules out null, so what the pointer is is never asked.
use Rattle.std.proofs.Common.{◌≡◌, ℕ, ◌+◌, List, [], ◌∷◌, ◌++◌, refl, sym, ap, subst, arith, true≢false}
use mir.Syntax.{a_type, named}
use mir.Val.{Val, vptr}
use mir.MapTy.{inst_fn}
use base.Fraction.{left, right}
use base.Logic.{SProp, ent, wand, emp, id⊢, apply∗, all, all_e}
use base.Fml.{Lft, Share, Fml, ftrue, fsep, flft}
use base.Before.{before}
use prog.Wp.{WpFn}
use types.Logic.{sem}
use types.Na.{before_dup}
use types.Kit.{‵, raw, ◌⊛◌, some, later, mean, at_ret, ◌$◌, ◌∵◌, !, qed, by, move, keep, drop, split, split3, join, fsplit, fsplit3, fjoin, fpick, pick, suffices, use0, use1, use2, use3, await, rewrite, feq_i}
use types.Run.{stop, addr, lit, of_opd, no_more, and_then, first, blocks, exec, Calls-last, returns, enter}
use types.ByLocal.{is, alloc_all, pass_all, free_all, look_at, get, through, sets, sets_last, lands_last, env}
use types.Part.{agg}
use contract.Monad.{fact, fact_i}
use contract.BorrowLft.{◌⊑◌}
use contract.Running.{tables}
use contract.Shared.{Lends-one}
use denote.Exit.{yes}
use denote.RattleType.{RattleType, owns}
use denote.Signature.{types_at, plain}
use denote.Builtin.{RefOf}
use denote.Ref.{ShrRef}
use denote.RawPtr.{Ptr, block_ptr}
use denote.Opens.{unhide, hide}
use denote.Steps.{nothing, heard}
use denote.Param.{param, layouts}
use denote.Param.Laws.{param_laws}
use denote.Struct.Lending.{lent_at}
use denote.Triple.Walked.{Stays, stay_dropped, walk_of, Goes-dropped, stay_ref, Goes-ref}
use Rattle.core.specs.Prelude.{IsSome}
use Rattle.core.specs.declared.option.Option.TheVariants.{Some}
use Rattle.core.proofs.alloc.Shapes.{after}
use Rattle.core.proofs.atomic.Steps.{fm}
use Rattle.core.specs.Sync.RawAtomic.Pointer.{asks_ptr}
use Rattle.std.proofs.raw_atomic.Walks.{proved_at, leaves}
use Rattle.std.proofs.raw_atomic.PtrCalls as calls
use Rattle.std.proofs.raw_atomic.PtrCalls.{seq_cst_good}
use Rattle.std.proofs.raw_atomic.Calls.{seq_cst}
use Rattle.once_cell.specs.Once.{Agrees, noted}
use Rattle.once_cell.specs.contracts.race.once_box.OnceBox as once
use Rattle.once_cell.proofs.Moves as moves
use Rattle.once_cell.proofs.Notes as notes
use Rattle.once_cell.proofs.Notes.{Note}
use Rattle.seize_store.specs.contracts.kin.pointed.{ended, clauses}
use Rattle.seize_store.specs.contracts.kin.pointed.Key.{name as #self}
use Rattle.seize_store.proofs.kin.pointed.Statement.{statement}
use Rattle.seize_store.proofs.kin.pointed.Code as code

pub pointed_spec : {M : Type 1} → statement M
pointed_spec 𝓤 𝓛 𝓜 𝓡 wired T L =
    let H = 𝓛.H in let 𝓣 = tables 𝓤 H 𝓜 𝓡 𝓡.env in let R : RattleType = param 0 T in let LR = param_laws 0 T L in let En = ended T in let c = clauses T 𝓛 𝓜.mem 𝓡.returns in
    let inst = layouts (a_type ∷ []) (T, tt) in let fn = inst_fn inst code.function in
    let self = RefOf (0 ∷ []) tt (plain (λ _. once.the_row R)) (λ _. tt) in let hs : Stays En.signature.params En.kept = (stay_dropped self yes, (stay_ref (1 ∷ []) tt (plain (λ _. Note 𝓛 R)), tt)) in
    proved_at 𝓛 En hs c 𝓜 𝓡 (Goes-dropped 𝓛 3 self yes (λ κs x f. refl), (Goes-ref 𝓛 3 1 tt (plain (λ _. Note 𝓛 R)), tt)) (#self inst) fn (code.unfolded 𝓤 H 𝓜 𝓡 wired (T, tt)) (λ z are.
    let κs = z.0.0 in let qs = z.0.1 in let Post : Val → SProp 𝓤 = (walk_of 𝓛 En hs c).post z in let Run : List Val → SProp 𝓤 = λ ws. WpFn 𝓤 H 𝓣.C 𝓣.Λ fn ws Post in
    let b : ℕ = z.0.3.0.ref_ptr.0 in let o : ℕ = z.0.3.0.ref_ptr.1 in let a = z.0.3.0.now.0 in let γ : ℕ = z.0.3.0.now.1 in let κ : Lft = κs.0 in let q : Share = qs.0 in let μ : Lft = κs.1.1.0 in let r : Share = qs.1.1.0 in
    let κ' : Lft = κs.1.0 in let q' : Share = qs.1.0 in let m = z.0.3.1.0 in let nb : ℕ = m.ref_ptr.0 in let no' : ℕ = m.ref_ptr.1 in let ν : ℕ = m.ghost_name in let n = m.now in let k = n.known in
    let Shuts = notes.Shuts 𝓛 R κ' q' nb no' ν in let Ref : RattleType = ShrRef (named 0) κ R in let Again : SProp 𝓤 = H.⇛ (𝓛.A.lft κ (right q)) in let Asked : Type 0 = (n.cell ≡ γ) × IsSome k in let Vs : List Val = vptr b o ∷ vptr nb no' ∷ [] in
    qed 𝓛 (((‵ (flft κ q) ⊛ ‵ (flft κ' q') ⊛ ‵ (flft μ r) ⊛ ‵ ftrue) ⊛ ‵ (owns (types_at En.signature.params κs) z.0.3 z.0.4)) ∷ raw (fact 𝓤 (μ ⊑ T.lives)) ∷ raw (fact 𝓤 Asked) ∷ []) ∵
    move ! (2 ∷ []) $ heard ! Asked (λ asked. keep ! (0 ∷ []) $ split ! $ split3 ! $ move ! (2 ∷ []) $ split ! $ move ! (4 ∷ []) $ fsplit3 ! $ move ! (1 ∷ []) $ fsplit ! $ keep ! (1 ∷ 2 ∷ 6 ∷ 7 ∷ 4 ∷ []) $
    suffices ! (Run Vs) (subst (λ (us : List Val). ent 𝓤 (Run Vs) (Run us)) (sym (λ i. are.0.0 i ++ (are.1.0.0 i ++ []))) (id⊢ 𝓤 (Run Vs))) $
    enter ! 𝓣.C 𝓣.Λ fn Vs Post $ alloc_all ! (λ l. pass_all ! refl ((tt, tt), ((tt, tt), tt)) $ let Ev = env fn.locals l in
    move ! (0 ∷ 3 ∷ []) $ use2 𝓛 (later (‵ (noted R n.cell k) ⊛ raw (all 𝓤 Shuts))) (notes.note_opens 𝓛 R κ' q' nb no' ν n) $ await ! tt $ split ! $ rewrite ! 0 (λ (j : ℕ). ‵ (noted R j k)) asked.0 refl $ move ! (2 ∷ []) $ fsplit ! $ drop ! $ unhide ! $ fsplit ! $ fpick ! (λ α. fsplit ! $
    use1 𝓛 (‵ (before κ α) ⊛ ‵ (before κ α)) (before_dup 𝓛 κ α) $ split ! $ move ! (6 ∷ []) $ use1 𝓛 (‵ (flft κ (left q)) ⊛ ‵ (flft κ (right q))) (𝓛.lfts.lft_split κ q) $ split ! $ move ! (2 ∷ 1 ∷ []) $
    use2 𝓛 (later (some (λ (s : Share). ‵ (flft α s) ⊛ raw (wand 𝓤 (𝓛.A.lft α s) Again)))) (Lends-one 𝓛 𝓜 𝓡 κ α (right q)) $ await ! tt $ pick ! (λ s. split ! $
    -- [α's token; the way back; the left half; before; the invariant; what the field's `&` holds; the note; its way back; μ's token]
    let none : Fml = moves.unknown 𝓛 R LR a γ k α in let out : Ptr → Fml = λ p. fsep (flft α s) (moves.glimpse 𝓛 R LR a γ k α none p) in let here : o ≡ o + 0 = omega arith in
    sets ! (addr ! (through ! refl (stop !))) refl (tt, tt) $ sets ! (is ! (of_opd ! (get ! refl)) (ap (vptr b) here)) refl (tt, tt) $ first ! $ blocks ! $ sets ! (agg ! (and_then ! (lit ! tt) (no_more !))) refl seq_cst_good $ move ! (4 ∷ 0 ∷ 6 ∷ []) $
    use3 𝓛 (raw (asks_ptr 𝓛 (block_ptr b (o + 0)) (λ p. p) out)) (moves.reads 𝓛 R LR a γ k α b (o + 0) s) $
    use1 𝓛 (raw (𝓣.C _ (vptr b (o + 0) ∷ seq_cst ∷ []) (λ u. mean 𝓛 (calls.found 𝓛 out u)))) (calls.loads 𝓛 𝓜 𝓡 (code.calls-core::raw_atomic::ptr::load 𝓡.env wired) T L (block_ptr b (o + 0)) out) $
    Calls-last ! (fm 𝓛 𝓜 𝓡) (calls.found 𝓛 out) (and_then ! (get ! refl) (and_then ! (get ! refl) (no_more !))) (λ u. calls.finds_either ! out
    (fsplit ! $ move ! (1 ∷ []) $ fpick ! (λ e. absurd (true≢false (sym (subst IsSome e asked.1)))))
    (λ pb po. lands_last ! refl (tt, tt) $ exec ! 𝓣.C 𝓣.Λ Ev (after 3 fn.body) (at_ret Ev Post) $ fsplit ! $ move ! (0 ∷ 2 ∷ []) $ use2 𝓛 (later (‵ (flft κ (right q)))) (apply∗ 𝓤 (𝓛.A.lft α s) Again) $ await ! tt $ move ! (2 ∷ 0 ∷ []) $ use2 𝓛 (‵ (flft κ q)) (𝓛.lfts.lft_join κ q) $ move ! (1 ∷ []) $
    fsplit ! $ fpick ! (λ t. drop ! $ fpick ! (λ y. fsplit3 ! $ move ! (2 ∷ []) $ fpick ! (λ so. drop ! $ move ! (0 ∷ 3 ∷ []) $
    use2 𝓛 (later (‵ (lent_at R (block_ptr pb po) y.0 κ))) (moves.reaches 𝓛 R LR a κ α (block_ptr pb po) y) $ await ! tt $ fsplit ! $ drop ! $ hide ! $ move ! (1 ∷ []) $
    -- [the note's knowledge; what a `&` to the value holds; the token; the field; the note's way back; μ's token]
    let n' : (Note 𝓛 R).Denot = record { marker = n.marker; cell = γ; known = Some y.0 } in move ! (4 ∷ []) $ use1 𝓛 (raw (Shuts n')) (all_e 𝓤 Shuts n') $ move ! (1 ∷ 0 ∷ []) $ use2 𝓛 (later (‵ (notes.lent 𝓛 R κ' q' nb no' ν n') ⊛ ‵ (flft κ' q'))) (apply∗ 𝓤 (sem 𝓛 (noted R γ n'.known)) _) $ await ! tt $ split ! $
    feq_i ! (List Val) z.0.4.1.0 (vptr nb no' ∷ []) are.1.0.0 $ fjoin ! $
    sets ! (of_opd ! (get ! refl)) refl (tt, tt) $
    first ! $ blocks ! $ sets_last ! (addr ! (through ! refl (stop !))) refl (tt, tt) $ exec ! 𝓣.C 𝓣.Λ Ev (after 5 fn.body) (at_ret Ev Post) $ sets ! (of_opd ! (get ! refl)) refl (tt, tt) $
    move ! (2 ∷ []) $ feq_i ! (List Val) (vptr pb po ∷ []) (vptr pb po ∷ []) refl $ fjoin ! $ move ! (1 ∷ 2 ∷ []) $ nothing ! $ move ! (1 ∷ 0 ∷ []) $ fjoin ! $ nothing ! $ fjoin ! $
    -- [the parameters; the note's token; the result; the token; the field; μ's token]
    move ! (1 ∷ 5 ∷ []) $ nothing ! $ move ! (2 ∷ 0 ∷ []) $ join ! $ move ! (1 ∷ 0 ∷ []) $ join ! $ move ! (3 ∷ 0 ∷ []) $ join ! $ let Told : Type 0 = (n'.known ≡ Some y.0) × Agrees k y.0 in
    use0 𝓛 (raw (fact 𝓤 Told)) (fact_i 𝓤 Told (emp 𝓤) (refl, so)) $
    returns ! (look_at ! 0 refl) $ free_all ! refl $ keep ! (1 ∷ 2 ∷ 3 ∷ 0 ∷ []) $ by ! (leaves 𝓛 En hs c z (vptr pb po) (record { ref_ptr = (pb, po); now = y.0 }) (tt, (n', tt)) (tt, (tt, tt)))))))))))))
