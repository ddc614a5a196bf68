-- `replace` opens the cell with the thread's token, reads what lies there, lays the other value there and shuts the cell. Assumes `Logic`.
use Rattle.seize_content.proofs.Kit.{ℕ, List, [], ◌∷◌, ◌++◌, refl, sym, subst, leaves, Val, vptr, SProp, sep, wand, ent, emp, sem, id⊢, apply∗, Lft, Share, Fml, ftrue, flft, ‵, raw, ◌⊛◌, later, at_ret, ◌$◌, ◌∵◌, !, qed, by, move, keep, split, split3, join, fsplit, fsplit3, fjoin, fpick, fpack, use0, use2, use3, await, rewrite, suffices, stop, addr, load, of_opd, first, blocks, exec, returns, enter, alloc_all, pass_all, free_all, look_at, get, through, sets, env, fact_i, yes, no, RattleType, owns, types_at, plain, RefOf, shr_Tells, unhide, nothing, heard, Stays, stay_dropped, walk_of, Goes-dropped, named}
use Rattle.seize_content.proofs.Kit.{fact as told}
use mir.Syntax.{Fn, a_type, dcons, dnil}
use mir.MapTy.{inst_fn}
use base.Fml.{Incl-refl, ftok}
use base.Mask.{every, less}
use contract.BorrowLft.{◌⊑◌}
use prog.Wp.{Env, WpFn}
use types.ByLocal.{sets_last}
use types.Na.{na_acc_in}
use types.Run.{assigns, look_raw, store_raw}
use denote.Param.{param, bounded, layout}
use denote.Param.Laws.{param_laws}
use denote.Struct.Members.{Member}
use Rattle.core.proofs.alloc.Shapes.{after}
use Rattle.core.proofs.cell.Inside.{Good, one, spread, gather}
use Rattle.seize_content.specs.Steady.{keeps}
use Rattle.seize_cells.proofs.OneThread.{alone, proved_alone}
use Rattle.seize_cells.specs.Locals.{lying_at, kept_at}
use Rattle.seize_cells.specs.contracts.local_cell.LocalCell as cell
use Rattle.seize_cells.specs.contracts.local_cell.LocalCell.replace.{ended, clauses}
use Rattle.seize_cells.specs.contracts.local_cell.LocalCell.replace.Key.{name as #self}
use Rattle.seize_cells.proofs.local_cell.LocalCell.replace.Statement.{statement}
use Rattle.seize_cells.proofs.local_cell.LocalCell.replace.Code as compiled
use Rattle.seize_cells.proofs.local_cell.LocalCell.replace.Code.{code}

pub replace_spec : {M : Type 1} → statement M
unfolding code
replace_spec 𝓤 𝓛 𝓜 𝓡 wired X L g dict met =
    let H = 𝓛.H in let R : RattleType = param 0 X in let En = ended X g dict in let inst = bounded (a_type ∷ []) (X, tt) (dcons dict dnil) in let fn : Fn = inst_fn inst compiled.function in let Row : RattleType = cell.the_row R g in let m : Member = record { row = R; ty = layout X } in
    let self = RefOf (0 ∷ []) tt (plain (λ _. Row)) (λ _. tt) in let item = plain (λ _. R) in let lawful = (param_laws 0 X L).lawful 𝓛 in
    let hs : Stays En.signature.params En.kept = (stay_dropped self yes, (stay_dropped item no, tt)) in let bare = clauses X g dict 𝓛 𝓜.mem 𝓡.returns in let c = alone 𝓛 En hs bare in
    proved_alone 𝓛 En hs bare 𝓜 𝓡 (Goes-dropped 𝓛 2 self yes (λ κs x f. refl), (Goes-dropped 𝓛 2 item no (λ κs x f. refl), tt)) (#self inst) fn (wired.0.0 (#self inst) refl) (λ C Λ z are.
    let κs = z.0.0 in let qs = z.0.1 in let a = z.0.3 in let b : ℕ = a.0.ref_ptr.0 in let o : ℕ = a.0.ref_ptr.1 in let κ : Lft = κs.0 in let q : Share = qs.0 in let κx : Lft = κs.1.0 in let qx : Share = qs.1.0 in let n : ℕ = a.0.now in let y : X.Denot = a.1.0 in
    let Post : Val → SProp 𝓤 = (walk_of 𝓛 En hs c).post z in let Run : List Val → SProp 𝓤 = λ ws. WpFn 𝓤 H C Λ fn ws Post in let fits : X.Denot → Type 0 = keeps g.label g.sound n in let Asked : Type 0 = fits y in let inX : Type 0 = κx ⊑ X.lives in
    let es = shr_Tells (named 0) κ Row a.0 z.0.4.0 are.0 in let got = one (layout X) z.0.4.1.0 (lawful.typed y z.0.4.1.0 are.1.0) in let vy : Val = got.0 in let fy : Good (layout X) vy = got.2 in
    let I : Fml = kept_at R fits b o in let Opened : SProp 𝓤 = sep 𝓤 (sem 𝓛 I) (𝓛.A.tok (less every (b, o))) in let Closed : SProp 𝓤 = sep 𝓤 (𝓛.A.lft κ q) (𝓛.A.tok every) in
    qed 𝓛 (((‵ (flft κ q) ⊛ ‵ (flft κx qx) ⊛ ‵ ftrue) ⊛ ‵ (owns (types_at En.signature.params κs) a z.0.4)) ∷ (‵ (ftok every) ⊛ raw (told 𝓤 inX) ⊛ raw (told 𝓤 Asked)) ∷ []) ∵
    move ! (1 ∷ []) $ split3 ! $ move ! (2 ∷ []) $ heard ! Asked (λ asked. move ! (2 ∷ []) $ split ! $ split3 ! $ move ! (3 ∷ []) $ fsplit3 ! $ fsplit ! $ keep ! (1 ∷ 2 ∷ 4 ∷ 5 ∷ 7 ∷ []) $
    -- [the cell; the new value; the tokens of the cell's lifetime, of M's; the thread's]
    rewrite ! 1 (λ (ws : List Val). ‵ (R.own_val y ws)) got.1 refl $
    let Vs : List Val = vptr b o ∷ vy ∷ [] in suffices ! (Run Vs) (subst (λ (ws : List Val). ent 𝓤 (Run Vs) (Run ws)) (sym (λ i. es i ++ (got.1 i ++ []))) (id⊢ 𝓤 (Run Vs))) $
    enter ! C Λ fn Vs Post $ alloc_all ! (λ l. pass_all ! refl ((tt, tt), (fy, tt)) $ let Ev : Env 𝓤 𝓛.H = env fn.locals l in
    move ! (0 ∷ 2 ∷ 4 ∷ []) $ unhide ! $ use3 𝓛 (later (‵ I ⊛ ‵ (ftok (less every (b, o))) ⊛ raw (wand 𝓤 Opened (H.⇛ Closed)))) (na_acc_in 𝓛 κ ((κ, q) ∷ []) every (b, o) I (Incl-refl κ) refl) $ await ! tt $ split3 ! $
    -- [what lies there; the rest of the thread's token; the way back; the new value; M's token]
    fpick ! (λ x. fsplit ! $ fpick ! (λ fit. move ! (1 ∷ []) $ spread m ! lawful x b o (λ vx fx.
    -- [the value's cell; the value; nothing; the rest of the thread's token; the way back; the new value; M's token]
    sets ! (addr ! (through ! refl (stop !))) refl (tt, tt) $ sets ! (of_opd ! (get ! refl)) refl (tt, tt) $ first ! $ blocks ! $
    sets ! (of_opd ! (load ! (through ! refl (stop !)) (look_raw ! 0 refl))) refl fx $ sets ! (of_opd ! (get ! refl)) refl fy $
    assigns ! (of_opd ! (get ! refl)) (through ! refl (stop !)) (store_raw ! 0 refl fy) $ sets_last ! (of_opd ! (get ! refl)) refl fx $
    exec ! C Λ Ev (after 3 fn.body) (at_ret Ev Post) $ sets ! (of_opd ! (get ! refl)) refl fx $
    move ! (0 ∷ 5 ∷ []) $ gather m ! y vy b o $
    -- [the new value, there; the old one; nothing; the rest of the thread's token; the way back; M's token]
    nothing ! $ fpack ! (fits y) (λ _. ftrue) asked $ move ! (0 ∷ 1 ∷ []) $ fjoin ! $ fpack ! R.Denot (lying_at R fits b o) y $ move ! (0 ∷ 3 ∷ []) $ join ! $ move ! (0 ∷ 3 ∷ []) $
    use2 𝓛 (later (‵ (flft κ q) ⊛ ‵ (ftok every))) (apply∗ 𝓤 Opened (H.⇛ Closed)) $ await ! tt $ split ! $
    -- [the cell's lifetime's token; the thread's; the old value; nothing; M's token]
    returns ! (look_at ! 0 refl) $ free_all ! refl $
    move ! (4 ∷ []) $ nothing ! $ move ! (1 ∷ 0 ∷ []) $ join ! $ move ! (1 ∷ 0 ∷ []) $ join ! $ use0 𝓛 (raw (told 𝓤 (fits x))) (fact_i 𝓤 (fits x) (emp 𝓤) fit) $ move ! (2 ∷ 0 ∷ []) $ join ! $ nothing ! $ nothing ! $ fjoin ! $ nothing ! $ fjoin ! $
    -- [the parameters; what is told, with the thread's token; the tokens; the old value]
    keep ! (2 ∷ 0 ∷ 3 ∷ 1 ∷ []) $ by ! (leaves 𝓛 En hs c z vx x (tt, (tt, tt)) (tt, (tt, tt)))))))))
