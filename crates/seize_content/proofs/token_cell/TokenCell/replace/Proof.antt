-- `replace` takes the value out of the cell's invariant, and lays the other one there.
use Rattle.seize_content.proofs.Kit.{◌≡◌, ℕ, List, [], ◌∷◌, ◌++◌, refl, sym, subst, proved_at, leaves, Val, vptr, SProp, sep, ent, emp, sem, id⊢, apply∗, Lft, Share, Fml, ftrue, fsep, flft, full_share, ‵, raw, ◌⊛◌, some, given, later, at_ret, ◌$◌, ◌∵◌, !, qed, by, move, keep, split, split3, join, fsplit, fsplit3, fjoin, fjoin3, pick, learn, use0, use1, use2, use3, await, rewrite, feq_i, suffices, stop, addr, load, of_opd, first, blocks, exec, returns, enter, alloc_all, pass_all, free_all, look_at, get, through, sets, env, fact, fact_i, tables, yes, no, RattleType, owns, types_at, plain, RefOf, mut_Tells, shr_Tells, unhide, nothing, opens, closes, heard, Stays, stay_dropped, stay_ref, walk_of, Goes-dropped, Goes-ref, named}
use mir.Syntax.{a_type}
use mir.MapTy.{inst_fn}
use base.Logic.{all_e}
use base.Stored.{Gv}
use prog.Wp.{WpFn}
use types.ByLocal.{sets_last}
use types.Run.{assigns, look_raw, store_raw}
use denote.Memory.{part_at}
use denote.Param.{param, layouts, layout}
use denote.Param.Laws.{param_laws}
use denote.Struct.Members.{Member}
use Rattle.core.proofs.alloc.Shapes.{after}
use Rattle.core.proofs.cell.Inside.{Good, one, spread, gather}
use Rattle.seize_content.specs.Cells.{anything, cell_token}
use Rattle.seize_content.specs.contracts.token_cell.CellToken as right
use Rattle.seize_content.specs.contracts.token_cell.TokenCell as cell
use Rattle.seize_content.proofs.CellTurns.{Laid, Shut, takes_out}
use Rattle.seize_content.specs.contracts.token_cell.TokenCell.replace.{ended, clauses}
use Rattle.seize_content.specs.contracts.token_cell.TokenCell.replace.Key.{name as #self}
use Rattle.seize_content.proofs.token_cell.TokenCell.replace.Statement.{statement}
use Rattle.seize_content.proofs.token_cell.TokenCell.replace.Code as code

pub replace_spec : {M : Type 1} → statement M
replace_spec 𝓤 𝓛 𝓜 𝓡 wired X L =
    let H = 𝓛.H in let 𝓣 = tables 𝓤 H 𝓜 𝓡 𝓡.env in let R : RattleType = param 0 X in let En = ended X in let inst = layouts (a_type ∷ []) (X, tt) in let fn = inst_fn inst code.function in
    let Row : RattleType = cell.the_row R in let S : RattleType = right.the_row in let c = clauses X 𝓛 𝓜.mem 𝓡.returns in let m : Member = record { row = R; ty = layout X } in let lawful = (param_laws 0 X L).lawful 𝓛 in
    let self = RefOf (0 ∷ []) tt (plain (λ _. Row)) (λ _. tt) in let item = plain (λ _. R) in
    let hs : Stays En.signature.params En.kept = (stay_dropped self yes, (stay_ref (1 ∷ []) tt (plain (λ _. S)), (stay_dropped item no, tt))) in
    proved_at 𝓛 En hs c 𝓜 𝓡 (Goes-dropped 𝓛 3 self yes (λ κs x f. refl), (Goes-ref 𝓛 3 1 tt (plain (λ _. S)), (Goes-dropped 𝓛 3 item no (λ κs x f. refl), tt))) (#self inst) fn (code.unfolded 𝓤 H 𝓜 𝓡 wired (X, tt)) (λ z are.
    let κs = z.0.0 in let qs = z.0.1 in let a = z.0.3 in let rb : ℕ = a.0.ref_ptr.0 in let ro : ℕ = a.0.ref_ptr.1 in let tb : ℕ = a.1.0.ref_ptr.0 in let to : ℕ = a.1.0.ref_ptr.1 in
    let κ : Lft = κs.0 in let q : Share = qs.0 in let μ : Lft = κs.1.0 in let γ : ℕ = a.0.now.name in let t : S.Denot = a.1.0.now in let g : Gv = t.value in let y : X.Denot = a.1.1.0 in let new : Gv = R.coded.code y in
    let others : Fml = fsep (flft κs.1.1.0 qs.1.1.0) ftrue in let Post : Val → SProp 𝓤 = (walk_of 𝓛 En hs c).post z in let Run : List Val → SProp 𝓤 = λ ws. WpFn 𝓤 H 𝓣.C 𝓣.Λ fn ws Post in let Asked : Type 0 = t.name ≡ γ in
    let es = shr_Tells (named 0) κ Row a.0 z.0.4.0 are.0 in let et = mut_Tells (named 1) μ S a.1.0 z.0.4.1.0 are.1.0 in let got = one (layout X) z.0.4.1.1.0 (lawful.typed y z.0.4.1.1.0 are.1.1.0) in let vy : Val = got.0 in let fy : Good (layout X) vy = got.2 in
    qed 𝓛 (((‵ (flft κ q) ⊛ ‵ (flft μ qs.1.0) ⊛ ‵ others) ⊛ ‵ (owns (types_at En.signature.params κs) a z.0.4)) ∷ raw (fact 𝓤 _) ∷ raw (fact 𝓤 Asked) ∷ []) ∵ move ! (2 ∷ 0 ∷ []) $ heard ! Asked (λ asked.
    split ! $ split3 ! $ move ! (3 ∷ []) $ fsplit ! $ fsplit ! $ keep ! (1 ∷ 2 ∷ 3 ∷ 4 ∷ 5 ∷ []) $ move ! (1 ∷ []) $ fsplit ! $ fsplit3 ! $ move ! (3 ∷ []) $ fsplit ! $ keep ! (0 ∷ 3 ∷ 4 ∷ 5 ∷ 6 ∷ 7 ∷ 8 ∷ []) $
    -- [the new value; the token, in two; the cell; its lifetime's token; the token's; others]
    rewrite ! 0 (λ (ws : List Val). ‵ (R.own_val y ws)) got.1 refl $
    let Vs : List Val = vptr rb ro ∷ vptr tb to ∷ vy ∷ [] in suffices ! (Run Vs) (subst (λ (ws : List Val). ent 𝓤 (Run Vs) (Run ws)) (sym (λ i. es i ++ (et i ++ (got.1 i ++ [])))) (id⊢ 𝓤 (Run Vs))) $
    enter ! 𝓣.C 𝓣.Λ fn Vs Post $ alloc_all ! (λ l. pass_all ! refl ((tt, tt), ((tt, tt), (fy, tt))) $ let Ev = env fn.locals l in
    move ! (1 ∷ 2 ∷ 5 ∷ []) $ opens ! tt S tb to (λ vs0. move ! (1 ∷ []) $ fsplit ! $ move ! (1 ∷ []) $ rewrite ! 0 (λ (u : ℕ). ‵ (cell_token u g)) asked refl $
    -- [what the token owns; the token; its cell, in four entries; the new value; the cell; its lifetime's token; others]
    move ! (7 ∷ 8 ∷ 0 ∷ []) $ unhide ! $ use3 𝓛 (later (some (λ (x : R.Denot). given ((R.coded.code x ≡ g) × Unit {0}) (‵ (part_at R full_share x rb ro) ⊛ raw (Shut 𝓛 R anything γ rb ro 𝓜 𝓡 κ q))))) (takes_out 𝓛 R anything γ rb ro 𝓜 𝓡 κ q g) $
    await ! tt $ pick ! (λ x. learn ! (λ is. split ! $ spread m ! lawful x rb ro (λ vx fx.
    -- [the value's cell; the value; the way back; the token; its cell, in four entries; the new value; others]
    sets ! (addr ! (through ! refl (stop !))) refl (tt, tt) $ sets ! (of_opd ! (get ! refl)) refl (tt, tt) $ first ! $ blocks ! $
    sets ! (of_opd ! (load ! (through ! refl (stop !)) (look_raw ! 0 refl))) refl fx $ sets ! (of_opd ! (get ! refl)) refl fy $
    assigns ! (of_opd ! (get ! refl)) (through ! refl (stop !)) (store_raw ! 0 refl fy) $ sets_last ! (of_opd ! (get ! refl)) refl fx $
    exec ! 𝓣.C 𝓣.Λ Ev (after 3 fn.body) (at_ret Ev Post) $ sets ! (of_opd ! (get ! refl)) refl fx $
    move ! (0 ∷ 8 ∷ []) $ gather m ! y vy rb ro $
    -- [the new value, there; the old one; the way back; the token; its cell, in four entries; others]
    let W : SProp 𝓤 = Laid 𝓛 R anything γ rb ro 𝓜 𝓡 κ q (y, tt) in move ! (2 ∷ []) $ use1 𝓛 (raw W) (all_e 𝓤 (Laid 𝓛 R anything γ rb ro 𝓜 𝓡 κ q) (y, tt)) $ move ! (1 ∷ 0 ∷ []) $
    use2 𝓛 (later (‵ (cell_token γ new) ⊛ ‵ (flft κ q))) (apply∗ 𝓤 (sem 𝓛 (part_at R full_share y rb ro)) (H.⇛ (sep 𝓤 (sem 𝓛 (cell_token γ new)) (𝓛.A.lft κ q)))) $ await ! tt $ split ! $
    -- [what the token owns; the lifetime's token; the old value; the token; its cell, in four entries; others]
    let t' : S.Denot = record t { value = new } in rewrite ! 0 (λ (u : ℕ). ‵ (cell_token u new)) (sym asked) refl $ move ! (3 ∷ 0 ∷ []) $ fjoin ! $ move ! (3 ∷ 0 ∷ 4 ∷ 5 ∷ 6 ∷ []) $ closes ! tt S t' vs0 tb to $
    -- [the token, in two; its lifetime's token; the cell's; the old value; others]
    move ! (2 ∷ 5 ∷ []) $ join ! $ move ! (3 ∷ 0 ∷ []) $ join ! $ nothing ! $ nothing ! $ fjoin ! $ feq_i ! (List Val) z.0.4.1.0 (vptr tb to ∷ []) et $ move ! (0 ∷ 3 ∷ 4 ∷ []) $ fjoin3 ! $ fjoin ! $ nothing ! $ fjoin ! $
    -- [the parameters; the tokens; the old value]
    let First : Type 0 = (t.name ≡ t.name) × (new ≡ new) in let Second : Type 0 = R.coded.code x ≡ g in
    use0 𝓛 (raw (fact 𝓤 Second)) (fact_i 𝓤 Second (emp 𝓤) is.0) $ use0 𝓛 (raw (fact 𝓤 First)) (fact_i 𝓤 First (emp 𝓤) (refl, refl)) $ join ! $
    returns ! (look_at ! 0 refl) $ free_all ! refl $ keep ! (2 ∷ 1 ∷ 3 ∷ 0 ∷ []) $ by ! (leaves 𝓛 En hs c z vx x (tt, (t', (tt, tt))) (tt, (tt, (tt, tt)))))))))))
