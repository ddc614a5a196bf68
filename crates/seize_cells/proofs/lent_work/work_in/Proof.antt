-- `work_in` takes the value out of the cell's invariant, has the work done on it where it lies, with what is lent, and lays it back there.
use Rattle.seize_content.proofs.Kit.{◌≡◌, ◌∙◌, ℕ, fm, no_more, and_then, List, [], ◌∷◌, ◌++◌, refl, sym, subst, proved_at, leaves, Val, vptr, SProp, sep, ent, emp, sem, id⊢, apply∗, Lft, Share, ftrue, flft, full_share, ‵, raw, ◌⊛◌, some, given, later, at_ret, ◌$◌, ◌∵◌, !, qed, by, move, keep, split, split3, join, fsplit, fsplit3, fjoin, fjoin3, pick, learn, use0, use1, use2, use3, await, rewrite, feq_i, suffices, stop, addr, of_opd, first, blocks, exec, returns, enter, alloc_all, pass_all, free_all, look_at, get, through, sets, env, fact, fact_i, tables, yes, no, RattleType, owns, types_at, plain, RefOf, mut_Tells, shr_Tells, unhide, nothing, opens, closes, heard, Stays, stay_dropped, stay_ref, walk_of, Goes-dropped, Goes-ref, named}
use mir.Syntax.{a_type, dcons, dnil}
use mir.MapTy.{inst_fn}
use base.Fml.{GName, fdead, flent}
use base.Logic.{all_e}
use base.Share
use base.Stored.{Gv}
use borrow.Within.Token.{Rest, within_token, within_end}
use contract.BorrowLft.{◌⊑◌, meet_⊑_right}
use prog.Wp.{WpFn}
use types.ByLocal.{sets_last}
use types.SemTy.{Body as SemBody}
use types.ByLocal.{lands_as}
use types.Tokens.{lft_new}
use denote.Laws.{Is, shows}
use denote.Lend.{lends_ref, ref_back}
use denote.Memory.{mem, part_at}
use denote.Param.{param, bounded, layout}
use denote.Param.Laws.{param_laws}
use denote.Ref.{MutBor, MutRef}
use denote.Steps.{peeks}
use denote.Triple.Call.{calls_at}
use denote.Triple.Clauses.{lasts}
use denote.Triple.Spec.{triple_of}
use denote.Triple.Statement.{Contract}
use denote.Triple.Walked.{gave_ref, Goes-gave_ref}
use Rattle.core.proofs.alloc.Shapes.{after}
use Rattle.core.proofs.cell.Inside.{Good, one}
use Rattle.seize_content.specs.Cells.{cell_token}
use Rattle.seize_content.specs.Steady.{keeps}
use Rattle.seize_cells.specs.Locks.{HadLock, MayLock}
use Rattle.seize_cells.specs.contracts.lent_work.LockWork.work as with
use Rattle.seize_content.specs.contracts.token_cell.CellToken as right
use Rattle.seize_content.specs.contracts.steady_cell.SteadyCell as cell
use Rattle.seize_content.proofs.CellTurns.{Laid, Shut, takes_out}
use Rattle.seize_cells.specs.contracts.lent_work.work_in.{ended, clauses}
use Rattle.seize_cells.specs.contracts.lent_work.work_in.Key.{name as #work_in}
use Rattle.seize_cells.proofs.lent_work.work_in.Statement.{statement}
use Rattle.seize_cells.proofs.lent_work.work_in.Code as code

pub work_in_spec : {M : Type 1} → statement M
work_in_spec 𝓤 𝓛 𝓜 𝓡 wired X Y B Z LX LY LB LZ g dict w wdict lmet met =
    let H = 𝓛.H in let 𝓣 = tables 𝓤 H 𝓜 𝓡 𝓡.env in let R : RattleType = param 0 X in let En = ended X Y B Z g dict w wdict in let inst = bounded (a_type ∷ a_type ∷ a_type ∷ a_type ∷ []) (X, (Y, (B, (Z, tt)))) (dcons dict (dcons wdict dnil)) in let fn = inst_fn inst code.function in
    let Row : RattleType = cell.the_row R g in let S : RattleType = right.the_row in let V : RattleType = param 1 Y in let D : RattleType = param 2 B in let c = clauses X Y B Z g dict w wdict 𝓛 𝓜.mem 𝓡.returns in
    let place = RefOf (0 ∷ []) tt (plain (λ _. Row)) (λ _. tt) in let item = plain (λ _. V) in
    let hs : Stays En.signature.params En.kept = (stay_dropped place yes, (stay_ref (1 ∷ []) tt (plain (λ _. S)), (stay_dropped item no, (gave_ref (2 ∷ []) tt (plain (λ _. D)), tt)))) in
    proved_at 𝓛 En hs c 𝓜 𝓡 (Goes-dropped 𝓛 7 place yes (λ κs x f. refl), (Goes-ref 𝓛 7 1 tt (plain (λ _. S)), (Goes-dropped 𝓛 7 item no (λ κs x f. refl), (Goes-gave_ref 𝓛 7 2 tt (plain (λ _. D)), tt)))) (#work_in inst) fn (code.unfolded 𝓤 H 𝓜 𝓡 wired (X, (Y, (B, (Z, tt)))) dict wdict) (λ z are.
    let κs = z.0.0 in let qs = z.0.1 in let a = z.0.3 in let rb : ℕ = a.0.ref_ptr.0 in let ro : ℕ = a.0.ref_ptr.1 in let tb : ℕ = a.1.0.ref_ptr.0 in let to : ℕ = a.1.0.ref_ptr.1 in let m = a.1.1.1.0 in let wb : ℕ = m.ref_ptr.0 in let wo : ℕ = m.ref_ptr.1 in
    let κ : Lft = κs.0 in let q : Share = qs.0 in let μ : Lft = κs.1.0 in let qm : Share = qs.1.0 in let ω : Lft = κs.1.1.0 in let qw : Share = qs.1.1.0 in let γ : ℕ = a.0.now.name in let n : ℕ = a.0.now.label in let t : S.Denot = a.1.0.now in let v : Gv = t.value in let y : Y.Denot = a.1.1.0 in
    let Post : Val → SProp 𝓤 = (walk_of 𝓛 En hs c).post z in let Run : List Val → SProp 𝓤 = λ ws. WpFn 𝓤 H 𝓣.C 𝓣.Λ fn ws Post in let Asked : Type 0 = t.name ≡ γ in
    let Lets : Contract 𝓤 = triple_of 𝓛 (with.signature Y X B Z) (with.spec Y X B Z w wdict g dict 𝓛 𝓜.mem 𝓡.returns) in
    let κx : Lft = κs.1.1.1.0 in let qx : Share = qs.1.1.1.0 in let κy : Lft = κs.1.1.1.1.0 in let qy : Share = qs.1.1.1.1.0 in let κb : Lft = κs.1.1.1.1.1.0 in let qb : Share = qs.1.1.1.1.1.0 in let κz : Lft = κs.1.1.1.1.1.1.0 in let qz : Share = qs.1.1.1.1.1.1.0 in
    let inX : Type 0 = κx ⊑ X.lives in let inY : Type 0 = κy ⊑ Y.lives in let inB : Type 0 = κb ⊑ B.lives in let inZ : Type 0 = κz ⊑ Z.lives in let May : Type 0 = MayLock g.label g.sound n (λ x. w.may y x m.now) in
    let es = shr_Tells (named 0) κ Row a.0 z.0.4.0 are.0 in let et = mut_Tells (named 1) μ S a.1.0 z.0.4.1.0 are.1.0 in let el = mut_Tells (named 2) ω D m z.0.4.1.1.1.0 are.1.1.1.0 in
    let got = one (layout Y) z.0.4.1.1.0 (((param_laws 1 Y LY).lawful 𝓛).typed y z.0.4.1.1.0 are.1.1.0) in let vy : Val = got.0 in let fy : Good (layout Y) vy = got.2 in
    qed 𝓛 (((‵ (flft κ q) ⊛ ‵ (flft μ qm) ⊛ ‵ (flft ω qw) ⊛ ‵ (flft κx qx) ⊛ ‵ (flft κy qy) ⊛ ‵ (flft κb qb) ⊛ ‵ (flft κz qz) ⊛ ‵ ftrue) ⊛ ‵ (owns (types_at En.signature.params κs) a z.0.4)) ∷ raw (fact 𝓤 inX) ∷ raw (fact 𝓤 inY) ∷ raw (fact 𝓤 inB) ∷ raw (fact 𝓤 inZ) ∷ raw (fact 𝓤 Asked) ∷ raw (fact 𝓤 May) ∷ []) ∵
    move ! (1 ∷ 2 ∷ 3 ∷ 4 ∷ 5 ∷ 6 ∷ 0 ∷ []) $ heard ! inX (λ in₀. heard ! inY (λ in₁. heard ! inB (λ in₂. heard ! inZ (λ in₃. heard ! Asked (λ asked. heard ! May (λ may.
    split ! $ split3 ! $ move ! (2 ∷ []) $ split3 ! $ move ! (2 ∷ []) $ split3 ! $ move ! (2 ∷ []) $ split ! $ move ! (8 ∷ 0 ∷ 5 ∷ 2 ∷ 6 ∷ 7 ∷ 3 ∷ 4 ∷ []) $ fsplit ! $ fsplit ! $ keep ! (1 ∷ 2 ∷ 3 ∷ 4 ∷ 5 ∷ 6 ∷ 7 ∷ 8 ∷ 9 ∷ []) $
    move ! (1 ∷ []) $ fsplit ! $ fsplit3 ! $ move ! (3 ∷ []) $ fsplit ! $ move ! (1 ∷ []) $ fsplit ! $ keep ! (2 ∷ 4 ∷ 5 ∷ 6 ∷ 7 ∷ 8 ∷ 9 ∷ 10 ∷ 11 ∷ 12 ∷ 13 ∷ 0 ∷ []) $
    -- [the work; the token, in two; the cell; the lifetimes' tokens: of R, M, W, the cell's, the token's, of A, of what is lent; what is lent]
    rewrite ! 0 (λ (ws : List Val). ‵ (V.own_val y ws)) got.1 refl $ rewrite ! 11 (λ (ws : List Val). ‵ ((MutRef (named 2) ω D).own_val m ws)) el refl $
    let Vs : List Val = vptr rb ro ∷ vptr tb to ∷ vy ∷ vptr wb wo ∷ [] in suffices ! (Run Vs) (subst (λ (ws : List Val). ent 𝓤 (Run Vs) (Run ws)) (sym (λ i. es i ++ (et i ++ (got.1 i ++ (el i ++ []))))) (id⊢ 𝓤 (Run Vs))) $
    enter ! 𝓣.C 𝓣.Λ fn Vs Post $ alloc_all ! (λ l. pass_all ! refl ((tt, tt), ((tt, tt), (fy, ((tt, tt), tt)))) $ let Ev = env fn.locals l in
    move ! (1 ∷ 2 ∷ 8 ∷ []) $ opens ! tt S tb to (λ vs0. move ! (1 ∷ []) $ fsplit ! $ move ! (1 ∷ []) $ rewrite ! 0 (λ (u : ℕ). ‵ (cell_token u v)) asked refl $
    -- [what the token owns; the token; its cell, in four entries; the work; the cell; the tokens of R, M, W, the cell's, of A, of what is lent; what is lent]
    move ! (7 ∷ 11 ∷ 0 ∷ []) $ unhide ! $ use3 𝓛 (later (some (λ (x : R.Denot). given ((R.coded.code x ≡ v) × keeps g.label g.sound n x) (‵ (part_at R full_share x rb ro) ⊛ raw (Shut 𝓛 R (keeps g.label g.sound n) γ rb ro 𝓜 𝓡 κ q))))) (takes_out 𝓛 R (keeps g.label g.sound n) γ rb ro 𝓜 𝓡 κ q v) $
    await ! tt $ pick ! (λ x. learn ! (λ is. split ! $
    -- [the value; the way back; the token; its cell, in four entries; the work; the tokens of R, M, W, A, of what is lent; what is lent]
    sets ! (addr ! (through ! refl (stop !))) refl (tt, tt) $ sets ! (of_opd ! (get ! refl)) refl (tt, tt) $ sets ! (of_opd ! (get ! refl)) refl fy $
    first ! $ blocks ! $ sets_last ! (addr ! (through ! refl (stop !))) refl (tt, tt) $ exec ! 𝓣.C 𝓣.Λ Ev (after 4 fn.body) (at_ret Ev Post) $ sets ! (of_opd ! (get ! refl)) refl (tt, tt) $ sets ! (addr ! (through ! refl (stop !))) refl (tt, tt) $
    lft_new ! tt (λ α. let β : Lft = α ∷ κx in let l₀ : Share = Share.left qx in let r₀ : Share = Share.right qx in
    move ! (10 ∷ []) $ use1 𝓛 (‵ (flft κx l₀) ⊛ ‵ (flft κx r₀)) (𝓛.lfts.lft_split κx qx) $ split ! $
    move ! (2 ∷ 0 ∷ []) $ use2 𝓛 (‵ (flft β l₀) ⊛ raw (Rest 𝓛 α l₀)) (within_token 𝓛 α κx l₀) $ split ! $
    let ref : GName → MutBor X.Denot = λ δ. record { ref_ptr = (rb, ro); ghost_name = δ; now = x } in
    move ! (3 ∷ []) $ use1 𝓛 (later (some (λ (δ : GName). ‵ ((MutRef (named 0) β R).own_val (ref δ) (vptr rb ro ∷ [])) ⊛ ‵ (flent β (SemBody (mem R) rb ro δ))))) (lends_ref 𝓛 R (named 0) β x rb ro) $ await ! tt $ pick ! (λ δ. split ! $
    -- [the reference; the lender's part; its lifetime's token; the rest of that; M's other token; the way back; the token; its cell, in four entries; the work; the tokens of R, W, A, of what is lent; what is lent]
    let Can : Type 0 = g.sound x × w.may y x m.now in
    use0 𝓛 (raw (fact 𝓤 Can)) (fact_i 𝓤 Can (emp 𝓤) (is.1.1, may x is.1)) $ use0 𝓛 (raw (fact 𝓤 inZ)) (fact_i 𝓤 inZ (emp 𝓤) in₃) $ join ! $ use0 𝓛 (raw (fact 𝓤 inB)) (fact_i 𝓤 inB (emp 𝓤) in₂) $ join ! $ use0 𝓛 (raw (fact 𝓤 inX)) (fact_i 𝓤 inX (emp 𝓤) in₀) $ join ! $ use0 𝓛 (raw (fact 𝓤 inY)) (fact_i 𝓤 inY (emp 𝓤) in₁) $ join ! $
    nothing ! $ move ! (18 ∷ 0 ∷ []) $ fjoin ! $ move ! (2 ∷ 0 ∷ []) $ fjoin ! $ move ! (12 ∷ 0 ∷ []) $ fjoin ! $
    -- [what is passed; what is asked; the lender's part; its lifetime's token; the rest of that; M's other token; the way back; the token; its cell, in four entries; the tokens of R, W, A, of what is lent]
    nothing ! $ move ! (13 ∷ 0 ∷ []) $ join ! $ move ! (14 ∷ 0 ∷ []) $ join ! $ move ! (6 ∷ 0 ∷ []) $ join ! $ move ! (12 ∷ 0 ∷ []) $ join ! $ move ! (12 ∷ 0 ∷ []) $ join ! $ move ! (4 ∷ 0 ∷ []) $ join ! $ join ! $ join ! $
    let called : Lets.Ghost = (((β, (ω, (κy, (κx, (κb, (κz, tt)))))), (l₀, (qw, (qy, (r₀, (qb, (qz, tt)))))), (meet_⊑_right (α ∷ []) κx, (z.0.2.1.0, tt)), (y, (ref δ, (m, tt))), (vy ∷ [], (vptr rb ro ∷ [], (vptr wb wo ∷ [], tt)))), tt) in
    use1 𝓛 (raw (Lets.pre called)) (id⊢ 𝓤 _) $
    calls_at ! (fm 𝓛 𝓜 𝓡) Lets met.work called (and_then ! (get ! refl) (and_then ! (get ! refl) (and_then ! (get ! refl) (no_more !)))) (λ u.
    let Gave : X.Denot → B.Denot → Z.Denot → Type 0 = λ x' b' o'. ((g.label x' ≡ g.label x) × g.sound x') × w.gives y x x' m.now b' o' in
    use1 𝓛 (later (some (λ (o' : Z.Denot). ((‵ (flft β l₀) ⊛ ‵ (flft ω qw) ⊛ ‵ (flft κy qy) ⊛ ‵ (flft κx r₀) ⊛ ‵ (flft κb qb) ⊛ ‵ (flft κz qz) ⊛ ‵ ftrue) ⊛ ‵ ((param 3 Z).own_val o' (u ∷ []))) ⊛
    some (λ (ws : Unit {0} × (X.Denot × (B.Denot × Unit {0}))). ‵ (lasts (with.ended Y X B Z w wdict g dict) called.0.0 called.0.3 ws) ⊛ raw (fact 𝓤 (Gave ws.1.0 ws.1.1.0 o')))))) (id⊢ 𝓤 _) $ await ! tt $ pick ! (λ o'. split ! $ split ! $
    move ! (2 ∷ []) $ pick ! (λ ws. split ! $ move ! (1 ∷ []) $ heard ! (Gave ws.1.0 ws.1.1.0 o') (λ gave. let x' : X.Denot = ws.1.0 in let b' : B.Denot = ws.1.1.0 in let new : Gv = R.coded.code x' in
    fsplit ! $ move ! (1 ∷ []) $ fsplit ! $ fsplit ! $ move ! (2 ∷ []) $ fsplit ! $ fsplit ! $ move ! (3 ∷ 4 ∷ 2 ∷ 5 ∷ 6 ∷ 7 ∷ 8 ∷ 9 ∷ 10 ∷ 11 ∷ 12 ∷ 13 ∷ 14 ∷ 15 ∷ []) $
    -- [the last value; its borrow; nothing, twice; the tokens; the result; the lender's part; the rest of the token; the way back; the token; its cell, in four entries; what was lent, in two]
    move ! (4 ∷ []) $ split3 ! $ move ! (2 ∷ []) $ split3 ! $ move ! (2 ∷ []) $ split3 ! $ move ! (4 ∷ 1 ∷ 2 ∷ 5 ∷ 3 ∷ 7 ∷ 8 ∷ 9 ∷ 10 ∷ 11 ∷ 12 ∷ 13 ∷ 14 ∷ 15 ∷ 16 ∷ 17 ∷ 18 ∷ 19 ∷ 20 ∷ 21 ∷ []) $
    move ! (3 ∷ 11 ∷ []) $ use2 𝓛 (later (‵ (fdead β) ⊛ ‵ (flft κx l₀))) (within_end 𝓛 α κx l₀) $ await ! tt $ split ! $
    move ! (1 ∷ 2 ∷ []) $ use2 𝓛 (‵ (flft κx qx)) (𝓛.lfts.lft_join κx qx) $
    move ! (1 ∷ 10 ∷ 5 ∷ []) $ use3 𝓛 (later (‵ (part_at R full_share x' rb ro))) (ref_back 𝓛 R β δ x' rb ro) $ await ! tt $
    -- [the value; M's token; R's; nothing; W's; the last value's borrow; nothing, twice; the result; the way back; the token; its cell, in four entries; what was lent, in two; A's token; its own]
    move ! (8 ∷ []) $ peeks ! (param 3 Z) (Is (param 3 Z)) (shows 𝓛 (param 3 Z)) o' (u ∷ []) (λ is'. lands_as ! refl refl (((param_laws 3 Z LZ).lawful 𝓛).typed o' (u ∷ []) is').0 $
    let fit : keeps g.label g.sound n x' = (gave.0.0 ∙ is.1.0, gave.0.1) in let W : SProp 𝓤 = Laid 𝓛 R (keeps g.label g.sound n) γ rb ro 𝓜 𝓡 κ q (x', fit) in
    move ! (9 ∷ []) $ use1 𝓛 (raw W) (all_e 𝓤 (Laid 𝓛 R (keeps g.label g.sound n) γ rb ro 𝓜 𝓡 κ q) (x', fit)) $ move ! (2 ∷ 0 ∷ []) $
    use2 𝓛 (later (‵ (cell_token γ new) ⊛ ‵ (flft κ q))) (apply∗ 𝓤 (sem 𝓛 (part_at R full_share x' rb ro)) (H.⇛ (sep 𝓤 (sem 𝓛 (cell_token γ new)) (𝓛.A.lft κ q)))) $ await ! tt $ split ! $
    -- [what the token owns; the cell's lifetime's token; the result; the tokens of M, R, nothing, W; the borrow; nothing, twice; the token; its cell, in four entries; what was lent, in two; A's token; its own]
    let t' : S.Denot = record t { value = new } in rewrite ! 0 (λ (k : ℕ). ‵ (cell_token k new)) (sym asked) refl $ move ! (10 ∷ 0 ∷ []) $ fjoin ! $ move ! (10 ∷ 0 ∷ 11 ∷ 12 ∷ 13 ∷ []) $ closes ! tt S t' vs0 tb to $
    -- [the token, in two; its lifetime's token; the cell's; the result; the tokens of M, R, nothing, W; the borrow; nothing, twice; what was lent, in two; A's token; its own]
    move ! (6 ∷ 7 ∷ []) $ join ! $ move ! (13 ∷ 0 ∷ []) $ join ! $ move ! (7 ∷ 0 ∷ []) $ join ! $ move ! (6 ∷ 0 ∷ []) $ join ! $ move ! (11 ∷ 0 ∷ []) $ join ! $ move ! (3 ∷ 0 ∷ []) $ join ! $ move ! (3 ∷ 0 ∷ []) $ join ! $
    -- [the tokens; the token, in two; the result; the borrow; nothing, twice; what was lent, in two]
    nothing ! $ move ! (8 ∷ 9 ∷ []) $ fjoin ! $ fjoin ! $ nothing ! $ fjoin ! $ feq_i ! (List Val) z.0.4.1.0 (vptr tb to ∷ []) et $ move ! (0 ∷ 3 ∷ 4 ∷ []) $ fjoin3 ! $ fjoin ! $ nothing ! $ fjoin ! $
    -- [the parameters; the tokens; the result]
    let Had : Type 0 = HadLock g.label g.sound n (λ e f. w.gives y e f m.now b' o') in let had : Had = record { before = x; after = x'; was = is.1; is = fit; gives = gave.1 } in let Told : Type 0 = (t'.name ≡ t.name) × Had in
    use0 𝓛 (raw (fact 𝓤 Told)) (fact_i 𝓤 Told (emp 𝓤) (refl, had)) $
    returns ! (look_at ! 0 refl) $ free_all ! refl $ keep ! (2 ∷ 1 ∷ 3 ∷ 0 ∷ []) $ by ! (leaves 𝓛 En hs c z u o' (tt, (t', (tt, (b', tt)))) (tt, (tt, (tt, (tt, tt)))))))))))))))))))))))
