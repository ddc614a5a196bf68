-- `get` takes the value out of the cell's invariant, and lays it back there.
use Rattle.seize_content.proofs.Kit.{◌≡◌, ℕ, List, [], ◌∷◌, refl, sym, proved, leaves, Val, vptr, SProp, sep, emp, sem, apply∗, Lft, Share, Fml, ftrue, fsep, flft, full_share, ‵, raw, ◌⊛◌, some, given, later, at_ret, ◌$◌, ◌∵◌, !, qed, by, move, keep, split, split3, join, fsplit, fsplit3, fjoin, fjoin3, pick, learn, use0, use1, use2, use3, await, rewrite, feq_i, stop, addr, load, of_opd, first, blocks, exec, returns, enter, alloc_all, pass_all, free_all, look_at, get, through, sets, env, fact, fact_i, tables, yes, RattleType, owns, types_at, plain, RefOf, mut_vals, mut_Tells, shr_vals, shr_Tells, unhide, nothing, opens, closes, heard, Stays, stay_dropped, stay_ref, walk_of, Goes-dropped, Goes-ref, named}
use mir.Syntax.{a_type, dcons, dnil}
use mir.MapTy.{inst_fn}
use base.Logic.{all_e}
use base.Stored.{Gv}
use types.ByLocal.{sets_last}
use types.Run.{look_raw}
use denote.Memory.{part_at}
use denote.Param.{layout, bounded, copied}
use denote.Param.Laws.{copied_laws}
use denote.Struct.Members.{Member}
use Rattle.core.proofs.alloc.Shapes.{after}
use Rattle.core.proofs.cell.Inside.{spread, gather}
use Rattle.seize_content.specs.Cells.{anything, cell_token}
use Rattle.seize_content.specs.contracts.token_cell.CellToken as right
use Rattle.seize_content.specs.contracts.token_cell.TokenCell as cell
use Rattle.seize_content.proofs.CellTurns.{Laid, Shut, takes_out}
use Rattle.seize_content.specs.contracts.token_cell.TokenCell.get.{ended, clauses}
use Rattle.seize_content.specs.contracts.token_cell.TokenCell.get.Key.{name as #self}
use Rattle.seize_content.proofs.token_cell.TokenCell.get.Statement.{statement}
use Rattle.seize_content.proofs.token_cell.TokenCell.get.Code as code

pub get_spec : {M : Type 1} → statement M
get_spec {M} 𝓤 𝓛 𝓜 𝓡 wired X L copies k dict _ =
    let H = 𝓛.H in let 𝓣 = tables 𝓤 H 𝓜 𝓡 𝓡.env in let R : RattleType = copied 0 X in let En = ended X k dict in let inst = bounded (a_type ∷ []) (X, tt) (dcons dict dnil) in let fn = inst_fn inst code.function in
    let Row : RattleType = cell.the_row R in let S : RattleType = right.the_row in let c = clauses X k dict 𝓛 𝓜.mem 𝓡.returns in let m : Member = record { row = R; ty = layout X } in let lawful = (copied_laws 0 X L).lawful 𝓛 in
    let self = RefOf (0 ∷ []) tt (plain (λ _. Row)) (λ _. tt) in let hs : Stays En.signature.params En.kept = (stay_dropped self yes, (stay_ref (1 ∷ []) tt (plain (λ _. S)), tt)) in
    proved 𝓛 En hs c 𝓜 𝓡 (Goes-dropped 𝓛 3 self yes (λ κs x f. refl), (Goes-ref 𝓛 3 1 tt (plain (λ _. S)), tt)) (#self inst) fn (code.unfolded 𝓤 H 𝓜 𝓡 wired (X, tt) dict)
    (λ κs. (shr_vals, (mut_vals, tt))) (λ κs. (shr_Tells (named 0) κs.0 Row, (mut_Tells (named 1) κs.1.0 S, tt))) (λ κs qs bounds a gh are.
    let rb : ℕ = a.0.ref_ptr.0 in let ro : ℕ = a.0.ref_ptr.1 in let tb : ℕ = a.1.0.ref_ptr.0 in let to : ℕ = a.1.0.ref_ptr.1 in
    let κ : Lft = κs.0 in let q : Share = qs.0 in let μ : Lft = κs.1.0 in let γ : ℕ = a.0.now.name in let t : S.Denot = a.1.0.now in let g : Gv = t.value in
    let others : Fml = fsep (flft κs.1.1.0 qs.1.1.0) ftrue in let z : (walk_of 𝓛 En hs c).Ghost = ((κs, qs, bounds, a, (vptr rb ro ∷ [], (vptr tb to ∷ [], tt))), gh) in let Post : Val → SProp 𝓤 = (walk_of 𝓛 En hs c).post z in let Asked : Type 0 = t.name ≡ γ in
    qed 𝓛 (((‵ (flft κ q) ⊛ ‵ (flft μ qs.1.0) ⊛ ‵ others) ⊛ ‵ (owns (types_at En.signature.params κs) a z.0.4)) ∷ raw (fact 𝓤 _) ∷ raw (fact 𝓤 Asked) ∷ []) ∵ move ! (2 ∷ 0 ∷ []) $ heard ! Asked (λ asked.
    split ! $ split3 ! $ move ! (3 ∷ []) $ fsplit ! $ fsplit ! $ keep ! (1 ∷ 2 ∷ 3 ∷ 4 ∷ 5 ∷ []) $ move ! (1 ∷ []) $ fsplit ! $ fsplit3 ! $ keep ! (1 ∷ 2 ∷ 4 ∷ 5 ∷ 6 ∷ 7 ∷ []) $
    -- [the token, in two; the cell; its lifetime's token; the token's; others]
    enter ! 𝓣.C 𝓣.Λ fn (vptr rb ro ∷ vptr tb to ∷ []) Post $ alloc_all ! (λ l. pass_all ! refl ((tt, tt), ((tt, tt), tt)) $ let Ev = env fn.locals l in
    move ! (0 ∷ 1 ∷ 4 ∷ []) $ opens ! tt S tb to (λ vs0. move ! (1 ∷ []) $ fsplit ! $ move ! (1 ∷ []) $ rewrite ! 0 (λ (u : ℕ). ‵ (cell_token u g)) asked refl $
    -- [what the token owns; the token; its cell, in four entries; the cell; its lifetime's token; others]
    move ! (6 ∷ 7 ∷ 0 ∷ []) $ unhide ! $ use3 𝓛 (later (some (λ (x : R.Denot). given ((R.coded.code x ≡ g) × Unit {0}) (‵ (part_at R full_share x rb ro) ⊛ raw (Shut 𝓛 R anything γ rb ro 𝓜 𝓡 κ q))))) (takes_out 𝓛 R anything γ rb ro 𝓜 𝓡 κ q g) $
    await ! tt $ pick ! (λ x. learn ! (λ is. split ! $ spread m ! lawful x rb ro (λ vx fx.
    -- [the value's cell; the value; the way back; the token; its cell, in four entries; others]
    first ! $ blocks ! $ sets ! (addr ! (through ! refl (stop !))) refl (tt, tt) $ sets_last ! (of_opd ! (load ! (through ! refl (stop !)) (look_raw ! 0 refl))) refl fx $
    exec ! 𝓣.C 𝓣.Λ Ev (after 1 fn.body) (at_ret Ev Post) $ sets ! (of_opd ! (get ! refl)) refl fx $
    move ! (1 ∷ []) $ use1 𝓛 (‵ (R.own_val x (vx ∷ [])) ⊛ ‵ (R.own_val x (vx ∷ []))) ((copies.copies M 𝓤 𝓛).twice x (vx ∷ [])) $ split ! $ move ! (2 ∷ 0 ∷ []) $ gather m ! x vx rb ro $
    -- [the value, there; what is given; the way back; the token; its cell, in four entries; others]
    let there : Gv = R.coded.code x in let W : SProp 𝓤 = Laid 𝓛 R anything γ rb ro 𝓜 𝓡 κ q (x, tt) in move ! (2 ∷ []) $ use1 𝓛 (raw W) (all_e 𝓤 (Laid 𝓛 R anything γ rb ro 𝓜 𝓡 κ q) (x, tt)) $ move ! (1 ∷ 0 ∷ []) $
    use2 𝓛 (later (‵ (cell_token γ there) ⊛ ‵ (flft κ q))) (apply∗ 𝓤 (sem 𝓛 (part_at R full_share x rb ro)) (H.⇛ (sep 𝓤 (sem 𝓛 (cell_token γ there)) (𝓛.A.lft κ q)))) $ await ! tt $ split ! $
    -- [what the token owns; the lifetime's token; what is given; the token; its cell, in four entries; others]
    rewrite ! 0 (λ (v : Gv). ‵ (cell_token γ v)) is.0 refl $ rewrite ! 0 (λ (u : ℕ). ‵ (cell_token u g)) (sym asked) refl $ move ! (3 ∷ 0 ∷ []) $ fjoin ! $ move ! (3 ∷ 0 ∷ 4 ∷ 5 ∷ 6 ∷ []) $ closes ! tt S t vs0 tb to $
    -- [the token, in two; its lifetime's token; the cell's; what is given; others]
    move ! (2 ∷ 5 ∷ []) $ join ! $ move ! (3 ∷ 0 ∷ []) $ join ! $ nothing ! $ feq_i ! (List Val) (vptr tb to ∷ []) (vptr tb to ∷ []) refl $ move ! (0 ∷ 3 ∷ 4 ∷ []) $ fjoin3 ! $ fjoin ! $ nothing ! $ fjoin ! $
    -- [the parameters; the tokens; what is given]
    let First : Type 0 = (t.name ≡ t.name) × (g ≡ g) in let Second : Type 0 = R.coded.code x ≡ g in
    use0 𝓛 (raw (fact 𝓤 Second)) (fact_i 𝓤 Second (emp 𝓤) is.0) $ use0 𝓛 (raw (fact 𝓤 First)) (fact_i 𝓤 First (emp 𝓤) (refl, refl)) $ join ! $
    returns ! (look_at ! 0 refl) $ free_all ! refl $ keep ! (2 ∷ 1 ∷ 3 ∷ 0 ∷ []) $ by ! (leaves 𝓛 En hs c z vx x (tt, (t, tt)) (tt, (tt, tt))))))))))
