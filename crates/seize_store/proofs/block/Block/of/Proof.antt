-- `of` writes the value into the room.
use Rattle.seize_store.proofs.Kit.{◌≡◌, ℕ, List, [], ◌∷◌, ◌++◌, refl, sym, ap, ◌∙◌, subst, proved_at, leaves, Val, vptr, SProp, ent, emp, id⊢, ftrue, flft, full_share, ‵, raw, ◌⊛◌, at_ret, ◌$◌, ◌∵◌, !, qed, by, move, keep, split, fsplit, fsplit3, fjoin, use0, use1, use2, rewrite, suffices, stop, fld, addr, of_opd, no_more, and_then, first, blocks, exec, returns, enter, alloc_all, pass_all, free_all, look_at, get, get_in, through, sets, env, agg, sub, whole, fact, fact_i, tables, yes, no, RattleType, owns, types_at, plain, block_ptr, nothing, heard, Stays, stay_dropped, walk_of, Goes-dropped}
use mir.Syntax.{a_type, dcons, dnil}
use mir.MapTy.{inst_fn}
use prog.Wp.{WpFn}
use denote.Param.{param, bounded, layout}
use Rattle.core.proofs.alloc.Shapes.{after}
use Rattle.core.proofs.alloc.Calls.{Goes-blank}
use Rattle.seize_store.proofs.Fields.{single, single_good}
use base.Fml.{froom}
use borrow.Table.OneValue.{part_in}
use denote.Memory.{part_at}
use denote.Param.Laws.{param_laws}
use denote.RawPtr.{Ptr}
use Rattle.seize_store.specs.Block.{empty}
use types.Run.{init, assigns_last}
use Rattle.core.proofs.cell.Inside.{one}
use Rattle.seize_store.specs.Body.{room_at}
use Rattle.seize_store.specs.Titled.{chunk_of}
use Rattle.seize_store.specs.contracts.block.Out as room
use Rattle.seize_store.specs.contracts.block.Block as block
use Rattle.seize_store.specs.contracts.row_token.Title as title
use Rattle.seize_store.proofs.row_token.Title.TheLaws as title_laws
use Rattle.seize_store.proofs.Fields.{both, room_out, block_in, block_good}
use Rattle.seize_store.specs.contracts.block.Block.of.{ended, clauses}
use Rattle.seize_store.specs.contracts.block.Block.of.Key.{name as #self}
use Rattle.seize_store.proofs.block.Block.of.Statement.{statement}
use Rattle.seize_store.proofs.block.Block.of.Code as code

pub of_spec : {M : Type 1} → statement M
of_spec 𝓤 𝓛 𝓜 𝓡 wired Y W Z LY LW LZ gp dp met =
    let H = 𝓛.H in let 𝓣 = tables 𝓤 H 𝓜 𝓡 𝓡.env in let X : RattleType = param 0 Y in let U : RattleType = param 1 W in let R : RattleType = param 2 Z in let En = ended Y W Z gp dp in let inst = bounded (a_type ∷ a_type ∷ a_type ∷ []) (Y, (W, (Z, tt))) (dcons dp dnil) in let fn = inst_fn inst code.function in
    let Row : RattleType = room.the_row X U R gp in let N : RattleType = title.the_row in let C : RattleType = block.the_row X U R gp in let c = clauses Y W Z gp dp 𝓛 𝓜.mem 𝓡.returns in let T = layout Z in
    let hs : Stays En.signature.params En.kept = (stay_dropped (plain (λ _. Row)) no, (stay_dropped (plain (λ _. N)) yes, (stay_dropped (plain (λ _. R)) no, tt))) in
    proved_at 𝓛 En hs c 𝓜 𝓡 (Goes-dropped 𝓛 3 (plain (λ _. Row)) no (λ κs x f. refl), (Goes-blank 𝓛 3 (plain (λ _. N)) yes (λ κs x f. tt), (Goes-dropped 𝓛 3 (plain (λ _. R)) no (λ κs x f. refl), tt))) (#self inst) fn (code.unfolded 𝓤 H 𝓜 𝓡 wired (Y, (W, (Z, tt))) dp) (λ z are.
    let κs = z.0.0 in let qs = z.0.1 in let d = z.0.3.0 in let n = z.0.3.1.0 in let x : Z.Denot = z.0.3.1.1.0 in let Post : Val → SProp 𝓤 = (walk_of 𝓛 En hs c).post z in let Run : List Val → SProp 𝓤 = λ ws. WpFn 𝓤 H 𝓣.C 𝓣.Λ fn ws Post in
    let toks = ‵ (flft κs.0 qs.0) ⊛ ‵ (flft κs.1.0 qs.1.0) ⊛ ‵ (flft κs.1.1.0 qs.1.1.0) ⊛ ‵ ftrue in let got = one T z.0.4.1.1.0 (((param_laws 2 Z LZ).lawful 𝓛).typed x z.0.4.1.1.0 are.1.1.0) in let v : Val = got.0 in
    let was = one (layout N) z.0.4.1.0 ((title_laws.the_row_laws.lawful 𝓛).typed n z.0.4.1.0 are.1.0) in let h : Val = was.0 in let Asked : Type 0 = chunk_of n ≡ (d.at, d.tag) in
    qed 𝓛 ((toks ⊛ ‵ (owns (types_at En.signature.params κs) z.0.3 z.0.4)) ∷ raw (fact 𝓤 _) ∷ raw (fact 𝓤 _) ∷ raw (fact 𝓤 _) ∷ raw (fact 𝓤 Asked) ∷ []) ∵ move ! (4 ∷ []) $ heard ! Asked (λ asked. keep ! (0 ∷ []) $ split ! $ move ! (1 ∷ []) $ fsplit ! $ room_out X U R gp ! d z.0.4.0 (λ b o t e ws. move ! (1 ∷ []) $ fsplit3 ! $
    rewrite ! 0 (λ (vs : List Val). ‵ (N.own_val n vs)) was.1 refl $ rewrite ! 1 (λ (vs : List Val). ‵ (R.own_val x vs)) got.1 refl $ move ! (3 ∷ []) $ rewrite ! 0 (λ (k : ℕ). ‵ (empty X U R b o gp.label k t)) (sym (ap (λ (c : Ptr × ℕ). c.1) asked)) refl $ fsplit ! $ fsplit3 ! $ move ! (2 ∷ []) $ fsplit ! $ let at : ℕ = room_at X U R o in use1 𝓛 (‵ (froom T b at)) (𝓛.laws.raw-room T b at) $
    -- [the content's room; the rest; the right's name; the owner's part; the invariant; the title; the value; nothing; the tokens]
    let w : Val = single (vptr b o) in let Vs : List Val = w ∷ h ∷ v ∷ [] in let k : Val = both (vptr b o) h in
    suffices ! (Run Vs) (subst (λ (us : List Val). ent 𝓤 (Run Vs) (Run us)) (sym (λ i. ws i ++ (was.1 i ++ (got.1 i ++ [])))) (id⊢ 𝓤 (Run Vs))) $
    enter ! 𝓣.C 𝓣.Λ fn Vs Post $ alloc_all ! (λ l. pass_all ! refl (single_good b o, (was.2, (got.2, tt))) $ let Ev = env fn.locals l in
    sets ! (of_opd ! (get_in ! (fld ! refl (stop !)) (sub ! 0 refl (whole !)))) refl (tt, tt) $ first ! $ blocks ! $ sets ! (addr ! (through ! refl (fld ! refl (stop !)))) refl (tt, tt) $ sets ! (of_opd ! (get ! refl)) refl got.2 $
    assigns_last ! (of_opd ! (get ! refl)) (through ! refl (stop !)) (init ! 0 refl got.2) $ exec ! 𝓣.C 𝓣.Λ Ev (after 2 fn.body) (at_ret Ev Post) $ sets ! (of_opd ! (get ! refl)) refl was.2 $
    sets ! (agg ! (and_then ! (get ! refl) (and_then ! (get ! refl) (no_more !)))) refl (block_good b o h was.2) $
    move ! (0 ∷ 6 ∷ []) $ use2 𝓛 (‵ (part_at R full_share x b at)) (part_in 𝓛 R refl full_share x b at v) $
    -- [the value; the rest; the right's name; the owner's part; the invariant; the title; nothing; the tokens]
    move ! (0 ∷ 1 ∷ []) $ fjoin ! $ move ! (2 ∷ 0 ∷ []) $ fjoin ! $ move ! (1 ∷ 0 ∷ []) $ fjoin ! $ move ! (0 ∷ 1 ∷ []) $ fjoin ! $ block_in X U R gp ! b o t h n x (ap (λ (c : Ptr × ℕ). c.0) asked ∙ e) $
    let r : C.Denot = record { at = block_ptr b o; title = n; value = x } in let Told : Type 0 = (x ≡ x) × (n ≡ n) in
    use0 𝓛 (raw (fact 𝓤 Told)) (fact_i 𝓤 Told (emp 𝓤) (refl, refl)) $ nothing ! $ nothing ! $ fjoin ! $ nothing ! $ fjoin ! $ nothing ! $ fjoin ! $
    returns ! (look_at ! 0 refl) $ free_all ! refl $ keep ! (4 ∷ 0 ∷ 2 ∷ 1 ∷ []) $ by ! (leaves 𝓛 En hs c z k r (tt, ((tt, (tt, (tt, tt))), (tt, tt))) (tt, (tt, (tt, tt))))))))
