-- `end` lays the memory back in one step, and takes all of the row's, if it was the last.
use Rattle.seize_store.proofs.Kit.{ℕ, suc, ◌+◌, List, [], ◌∷◌, ◌++◌, length, refl, sym, subst, lit<, w64, proved_at, leaves, fm, found, finds, seq_cst, subs, Val, vint, vptr, vcons, vnil, SProp, ent, emp, via, id⊢, apply∗, Fml, ftrue, flft, full_share, ‵, raw, ◌⊛◌, given, mean, at_ret, ◌$◌, ◌∵◌, !, qed, by, move, keep, drop, learn, split, fsplit, fsplit3, fjoin, fpick, use0, use1, use2, rewrite, suffices, stop, fld, addr, lit, load, look, of_opd, no_more, and_then, first, blocks, exec, Calls-last, returns, enter, alloc_all, pass_all, free_all, look_at, get, get_in, through, sets, lands_last, env, agg, sub, whole, fact, fact_i, tables, no, RattleType, owns, types_at, plain, block_ptr, nothing, Stays, stay_dropped, walk_of, Goes-dropped}
use mir.Syntax.{a_type, ty_int, ty_ptr}
use mir.MapTy.{inst_fn}
use lib.Dec.{eqb→eq}
use base.Fml.{froom, fat}
use prog.Wp.{WpFn, Wp, after_seq, at_return}
use types.Kit.{any_q}
use types.Logic.{sem}
use types.Run.{bin, branches}
use types.ByLocal.{sets_last}
use types.Match.{live}
use denote.Param.{param, layouts, layout}
use Rattle.core.proofs.alloc.Shapes.{after, front}
use Rattle.core.proofs.cell.Inside.{Good}
use Rattle.core.specs.declared.option.Option.TheVariants.{None, Some}
use Rattle.core.specs.contracts.option.Option.{the_row as OptionOf}
use Rattle.core.proofs.option.Made.{Some-of, none_of}
use Rattle.std.specs.contracts.alloc.Global as heap
use Rattle.std.specs.contracts.impls.GlobalAllocator.TheImpl.{ghosts}
use Rattle.seize_store.specs.Body.{body_ty, row_ty, rooms, head_at, len_at}
use Rattle.seize_store.specs.Freeable.{heap as the_heap}
use Rattle.seize_store.specs.Row.{Fits}
use Rattle.seize_store.proofs.Fields.{single, single_good}
use Rattle.seize_store.proofs.Pieces.{Piece, Rooms, piece_out, rooms_in, then_of, three}
use Rattle.seize_store.proofs.Rows as rows
use Rattle.seize_store.specs.contracts.strip.Piece.end.{ended, clauses}
use Rattle.seize_store.specs.contracts.strip.Piece.end.Key.{name as #self}
use Rattle.seize_store.proofs.strip.Piece.end.Statement.{statement}
use Rattle.seize_store.proofs.strip.Piece.end.Code as code

pub end_spec : {M : Type 1} → statement M
end_spec 𝓤 𝓛 𝓜 𝓡 wired Y W Z LY LW LZ =
    let H = 𝓛.H in let 𝓣 = tables 𝓤 H 𝓜 𝓡 𝓡.env in let X : RattleType = param 0 Y in let U : RattleType = param 1 W in let R : RattleType = param 2 Z in let En = ended Y W Z in let inst = layouts (a_type ∷ a_type ∷ a_type ∷ []) (Y, (W, (Z, tt))) in let fn = inst_fn inst code.function in
    let P : RattleType = Piece X U R in let C : RattleType = Rooms X U R heap.the_row ghosts in let c = clauses Y W Z 𝓛 𝓜.mem 𝓡.returns in
    let hs : Stays En.signature.params En.kept = (stay_dropped (plain (λ _. P)) no, tt) in
    proved_at 𝓛 En hs c 𝓜 𝓡 (Goes-dropped 𝓛 3 (plain (λ _. P)) no (λ κs x f. refl), tt) (#self inst) fn (code.unfolded 𝓤 H 𝓜 𝓡 wired (Y, (W, (Z, tt)))) (λ z are.
    let κs = z.0.0 in let qs = z.0.1 in let d = z.0.3.0 in let Post : Val → SProp 𝓤 = (walk_of 𝓛 En hs c).post z in let Run : List Val → SProp 𝓤 = λ ws. WpFn 𝓤 H 𝓣.C 𝓣.Λ fn ws Post in
    let toks = ‵ (flft κs.0 qs.0) ⊛ ‵ (flft κs.1.0 qs.1.0) ⊛ ‵ (flft κs.1.1.0 qs.1.1.0) ⊛ ‵ ftrue in
    qed 𝓛 ((toks ⊛ ‵ (owns (types_at En.signature.params κs) z.0.3 z.0.4)) ∷ raw ((c κs z.0.3).requires z.1) ∷ []) ∵ split ! $ move ! (1 ∷ []) $ fsplit ! $ piece_out X U R ! d z.0.4.0 (λ b o e ws.
    fsplit ! $ move ! (1 ∷ []) $ fsplit ! $ move ! (1 ∷ []) $ fsplit3 ! $ move ! (2 ∷ []) $ fsplit ! $ move ! (1 ∷ []) $ fsplit3 ! $ move ! (2 ∷ []) $ fpick ! (λ de. fsplit ! $ move ! (1 ∷ []) $ fpick ! (λ u. let γ : ℕ = u.1 in fsplit ! $ fpick ! (λ lies. drop ! $ fsplit ! $
    -- [the ticket; the invariant; the way to the head; the rim; the length's room; the rest; the header's room; the content's room; the part's room; the word's room; nothing; the tokens]
    let w : Val = single (vptr b o) in let at : ℕ = de.at in let n : ℕ = length de.tickets in let out : ℕ → Fml = rows.after_end X U R 𝓛 b de in
    suffices ! (Run (w ∷ [])) (subst (λ (us : List Val). ent 𝓤 (Run (w ∷ [])) (Run us)) (sym (λ i. ws i ++ [])) (id⊢ 𝓤 (Run (w ∷ [])))) $
    enter ! 𝓣.C 𝓣.Λ fn (w ∷ []) Post $ alloc_all ! (λ l. pass_all ! refl (single_good b o, tt) $ let Ev = env fn.locals l in
    sets ! (of_opd ! (get_in ! (fld ! refl (stop !)) (sub ! 0 refl (whole !)))) refl (tt, tt) $ first ! $ blocks ! $ sets ! (addr ! (through ! refl (fld ! refl (stop !)))) refl (tt, tt) $
    sets_last ! (of_opd ! (load ! (through ! refl (stop !)) (look ! 2 refl))) refl (tt, tt) $ exec ! 𝓣.C 𝓣.Λ Ev (after 2 fn.body) (at_ret Ev Post) $ sets ! (of_opd ! (get ! refl)) refl (tt, tt) $ sets ! (of_opd ! (get ! refl)) refl (tt, tt) $
    -- the memory in one piece
    nothing ! $ move ! (6 ∷ 0 ∷ []) $ fjoin ! $ move ! (5 ∷ 0 ∷ []) $ fjoin ! $ move ! (3 ∷ []) $ use1 𝓛 (‵ (froom ty_ptr b (head_at X U R o))) (𝓛.laws.at_room ty_ptr b (head_at X U R o) (vptr b at)) $ fjoin ! $
    move ! (5 ∷ 0 ∷ []) $ fjoin ! $ move ! (5 ∷ 0 ∷ []) $ fjoin ! $ move ! (4 ∷ 0 ∷ []) $ fjoin ! $ move ! (4 ∷ 0 ∷ []) $ fjoin ! $ move ! (0 ∷ 3 ∷ []) $ use2 𝓛 (‵ (rows.body X U R 𝓛 b o)) (apply∗ 𝓤 (sem 𝓛 (rooms X U R b o)) (H.room (body_ty X U R) b o)) $
    move ! (1 ∷ 0 ∷ []) $ fjoin ! $ first ! $ blocks ! $ sets ! (addr ! (through ! refl (fld ! refl (stop !)))) refl (tt, tt) $
    move ! (1 ∷ 0 ∷ []) $ use2 𝓛 (raw (𝓣.C _ (vptr b (at + 0) ∷ vint w64 1 ∷ seq_cst ∷ []) (λ v. mean 𝓛 (found out v))))
    (via 𝓤 _ (rows.ends X U R 𝓛 b de o u.0 γ lies) (subs 𝓛 𝓜 𝓡 (code.calls-core::raw_atomic::fetch_sub 𝓡.env wired) (block_ptr b (at + 0)) 1 (lit< tt) out)) $
    sets ! (agg ! (and_then ! (lit ! tt) (no_more !))) refl (tt, (record { fits = lit< tt }, tt)) $
    Calls-last ! (fm 𝓛 𝓜 𝓡) (found out) (and_then ! (get ! refl) (and_then ! (lit ! tt) (and_then ! (get ! refl) (no_more !)))) (λ v. finds ! out (λ m fits. lands_last ! refl (tt, record { fits = fits }) $ exec ! 𝓣.C 𝓣.Λ Ev (after 5 fn.body) (at_ret Ev Post) $
    -- [what was gained; nothing; the tokens]
    sets ! (of_opd ! (get ! refl)) refl (tt, record { fits = fits }) $ sets ! (bin ! (get ! refl) (lit ! tt) tt) refl (tt, tt) $ first ! $ branches ! (get ! refl)
    (λ hit. rewrite ! 0 (λ (k : ℕ). ‵ (rows.after_end X U R 𝓛 b de k)) (eqb→eq m 1 hit) refl $ fsplit3 ! $ move ! (1 ∷ []) $ fsplit3 ! $ move ! (2 ∷ []) $ fsplit ! $ move ! (1 ∷ []) $ fsplit3 ! $ move ! (2 ∷ []) $ fsplit3 ! $ move ! (2 ∷ []) $ fsplit ! $ move ! (1 ∷ []) $ fpick ! (λ small. drop ! $
    -- [the right to free; the rest; the rim; the pointer's room; the length; the content's room; the header's room; the part's room; the word; the chunks' room; nothing; the tokens]
    let len : Val = vint w64 (suc n) in let W = ty_int w64 in move ! (4 ∷ []) $ use1 𝓛 (given (Good W len) (‵ (fat full_share W b (len_at X U R at) len))) (𝓛.laws.at_wt full_share W b (len_at X U R at) len) $ learn ! (λ fl.
    let Then = any_q (after_seq 𝓤 H (Wp 𝓤 H 𝓣.C 𝓣.Λ Ev (after 8 fn.body) (at_return 𝓤 H Ev Post)) (at_return 𝓤 H Ev Post)) in
    first ! $ blocks ! $ sets ! (addr ! (through ! refl (fld ! refl (stop !)))) refl (tt, tt) $ sets_last ! (of_opd ! (load ! (through ! refl (stop !)) (look ! 0 refl))) refl fl $ exec ! 𝓣.C 𝓣.Λ Ev (after 1 (then_of (front (after 7 fn.body)))) Then $
    use1 𝓛 (‵ (froom W b (len_at X U R at))) (𝓛.laws.at_room W b (len_at X U R at) len) $ nothing ! $ move ! (3 ∷ 0 ∷ []) $ fjoin ! $ move ! (1 ∷ 0 ∷ []) $ fjoin ! $ move ! (3 ∷ 0 ∷ []) $ fjoin ! $ move ! (3 ∷ 0 ∷ []) $ fjoin ! $ move ! (4 ∷ 0 ∷ []) $ fjoin ! $ move ! (3 ∷ 0 ∷ []) $ fjoin ! $
    move ! (3 ∷ []) $ use1 𝓛 (‵ (froom W b (at + 0))) (𝓛.laws.at_room W b (at + 0) (vint w64 0)) $ fjoin ! $ move ! (0 ∷ 2 ∷ []) $ use2 𝓛 (‵ (rows.body X U R 𝓛 b at)) (apply∗ 𝓤 (sem 𝓛 (rooms X U R b at)) (H.room (body_ty X U R) b at)) $
    move ! (0 ∷ 2 ∷ []) $ use2 𝓛 (‵ (froom (row_ty X U R (suc n)) b at)) (rows.joins X U R 𝓛 b n at) $ fjoin ! $ rooms_in X U R heap.the_row ghosts ! b at (suc n) the_heap fl.1.fits $
    let k : Val = three (vptr b at) (suc n) in let val : Val = live 1 (vcons k vnil) in let r : C.Denot = record { at = block_ptr b at; len = suc n; by = record {}; heap = the_heap } in
    let good3 : Good (layout C) k = (tt, (tt, (fl.1, (tt, tt)))) in let good : Good (layout (OptionOf C)) val = (tt, (record { fits = lit< tt }, (good3.1, tt))) in
    sets ! (of_opd ! (get ! refl)) refl fl $ sets ! (agg ! (no_more !)) refl (tt, tt) $ sets ! (of_opd ! (get ! refl)) refl (tt, tt) $ sets ! (of_opd ! (get ! refl)) refl fl $ sets ! (of_opd ! (get ! refl)) refl (tt, tt) $
    sets ! (agg ! (and_then ! (get ! refl) (and_then ! (get ! refl) (and_then ! (get ! refl) (no_more !))))) refl good3 $ sets_last ! (agg ! (and_then ! (lit ! tt) (and_then ! (get ! refl) (no_more !)))) refl good $
    exec ! 𝓣.C 𝓣.Λ Ev (after 8 fn.body) (at_ret Ev Post) $ sets ! (of_opd ! (get ! refl)) refl good $
    use1 𝓛 (‵ ((OptionOf C).own_val (Some r) (val ∷ []))) (Some-of 𝓛 C r k) $ use0 𝓛 (raw (fact 𝓤 (Fits X U R (suc n)))) (fact_i 𝓤 (Fits X U R (suc n)) (emp 𝓤) small) $ nothing ! $ nothing ! $ fjoin ! $
    returns ! (look_at ! 0 refl) $ free_all ! refl $ keep ! (4 ∷ 0 ∷ 2 ∷ 1 ∷ []) $ by ! (leaves 𝓛 En hs c z val (Some r) (tt, tt) (tt, tt)))))
    (λ miss. let val : Val = live 0 vnil in sets_last ! (agg ! (and_then ! (lit ! tt) (no_more !))) refl (tt, (record { fits = lit< tt }, tt)) $ exec ! 𝓣.C 𝓣.Λ Ev (after 8 fn.body) (at_ret Ev Post) $ sets ! (of_opd ! (get ! refl)) refl (tt, (record { fits = lit< tt }, tt)) $
    use0 𝓛 (‵ ((OptionOf C).own_val None (val ∷ []))) (none_of 𝓛 C) $ use0 𝓛 (raw (fact 𝓤 (Unit {0}))) (fact_i 𝓤 (Unit {0}) (emp 𝓤) tt) $ nothing ! $ nothing ! $ fjoin ! $
    returns ! (look_at ! 0 refl) $ free_all ! refl $ keep ! (5 ∷ 0 ∷ 2 ∷ 1 ∷ []) $ by ! (leaves 𝓛 En hs c z val None (tt, tt) (tt, tt)))))))))))
