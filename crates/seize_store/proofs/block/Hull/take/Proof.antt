-- `take` reads the value out of the room.
use Rattle.seize_store.proofs.Kit.{◌≡◌, ℕ, List, [], ◌∷◌, ◌++◌, refl, sym, ap, subst, proved_at, leaves, Val, vptr, SProp, ent, emp, id⊢, ftrue, flft, full_share, ‵, raw, ◌⊛◌, some, given, at_ret, ◌$◌, ◌∵◌, !, qed, by, move, keep, split, fsplit, fsplit3, fjoin, pick, use0, use1, use2, suffices, stop, fld, addr, load, of_opd, no_more, and_then, first, blocks, exec, returns, enter, alloc_all, pass_all, free_all, look_at, get, get_in, through, sets, env, agg, sub, whole, fact, fact_i, tables, no, RattleType, owns, types_at, plain, block_ptr, nothing, Stays, stay_dropped, walk_of}
use mir.Syntax.{a_type, dcons, dnil}
use mir.MapTy.{inst_fn}
use prog.Wp.{WpFn}
use types.ByLocal.{sets_last}
use denote.Param.{param, bounded, layout}
use denote.RawPtr.{Ptr}
use Rattle.core.proofs.alloc.Shapes.{after}
use denote.Triple.Walked.{Goes-dropped}
use Rattle.core.proofs.cell.Inside.{Good}
use Rattle.seize_store.proofs.Fields.{single, single_good, hull_out, shell_in}
use base.Fml.{froom, fat}
use borrow.Table.OneValue.{part_out}
use denote.Struct.Tuple.{Tuple}
use Rattle.std_alloc.proofs.Pairs.{pair_val, pair_Typed, pair_of}
use types.Kit.{learn}
use types.Run.{look}
use Rattle.seize_store.specs.Body.{room_at}
use Rattle.seize_store.specs.Body.{room as room_of}
use Rattle.seize_store.specs.contracts.block.Shell as shell
use Rattle.seize_store.specs.contracts.block.Hull as hull
use Rattle.seize_store.specs.contracts.block.Hull.take.{ended, clauses}
use Rattle.seize_store.specs.contracts.block.Hull.take.Key.{name as #self}
use Rattle.seize_store.proofs.block.Hull.take.Statement.{statement}
use Rattle.seize_store.proofs.block.Hull.take.Code as code

pub take_spec : {M : Type 1} → statement M
take_spec 𝓤 𝓛 𝓜 𝓡 wired Y W Z LY LW LZ gp dp met =
    let H = 𝓛.H in let 𝓣 = tables 𝓤 H 𝓜 𝓡 𝓡.env in let X : RattleType = param 0 Y in let U : RattleType = param 1 W in let R : RattleType = param 2 Z in let En = ended Y W Z gp dp in let inst = bounded (a_type ∷ a_type ∷ a_type ∷ []) (Y, (W, (Z, tt))) (dcons dp dnil) in let fn = inst_fn inst code.function in
    let Row : RattleType = hull.the_row X U R gp in let C : RattleType = shell.the_row X U R gp in let c = clauses Y W Z gp dp 𝓛 𝓜.mem 𝓡.returns in let T = layout Z in let Two : RattleType = Tuple (R ∷ C ∷ []) in
    let hs : Stays En.signature.params En.kept = (stay_dropped (plain (λ _. Row)) no, tt) in
    proved_at 𝓛 En hs c 𝓜 𝓡 (Goes-dropped 𝓛 3 (plain (λ _. Row)) no (λ κs x f. refl), tt) (#self inst) fn (code.unfolded 𝓤 H 𝓜 𝓡 wired (Y, (W, (Z, tt))) dp) (λ z are.
    let κs = z.0.0 in let qs = z.0.1 in let d = z.0.3.0 in let x : Z.Denot = d.value in let Post : Val → SProp 𝓤 = (walk_of 𝓛 En hs c).post z in let Run : List Val → SProp 𝓤 = λ ws. WpFn 𝓤 H 𝓣.C 𝓣.Λ fn ws Post in
    let toks = ‵ (flft κs.0 qs.0) ⊛ ‵ (flft κs.1.0 qs.1.0) ⊛ ‵ (flft κs.1.1.0 qs.1.1.0) ⊛ ‵ ftrue in
    qed 𝓛 ((toks ⊛ ‵ (owns (types_at En.signature.params κs) z.0.3 z.0.4)) ∷ raw ((c κs z.0.3).requires z.1) ∷ []) ∵ split ! $ move ! (1 ∷ []) $ fsplit ! $ hull_out X U R gp ! d z.0.4.0 (λ b o t e ws.
    fsplit ! $ fsplit3 ! $ move ! (2 ∷ []) $ fsplit ! $ let at : ℕ = room_at X U R o in
    use1 𝓛 (some (λ (u : Val). ‵ (fat full_share T b at u) ⊛ ‵ (R.own_val x (u ∷ [])))) (part_out 𝓛 R refl full_share x b at) $ pick ! (λ v. split ! $ use1 𝓛 (given (Good T v) (‵ (fat full_share T b at v))) (𝓛.laws.at_wt full_share T b at v) $ learn ! (λ fv.
    -- [the value's cell; the value; the rest; the right's name; the part's room; the invariant; the ticket; nothing; the tokens; a fact]
    let w : Val = single (vptr b o) in
    suffices ! (Run (w ∷ [])) (subst (λ (us : List Val). ent 𝓤 (Run (w ∷ [])) (Run us)) (sym (λ i. ws i ++ [])) (id⊢ 𝓤 (Run (w ∷ [])))) $
    enter ! 𝓣.C 𝓣.Λ fn (w ∷ []) Post $ alloc_all ! (λ l. pass_all ! refl (single_good b o, tt) $ let Ev = env fn.locals l in
    sets ! (of_opd ! (get_in ! (fld ! refl (stop !)) (sub ! 0 refl (whole !)))) refl (tt, tt) $ first ! $ blocks ! $ sets ! (addr ! (through ! refl (fld ! refl (stop !)))) refl (tt, tt) $
    sets_last ! (of_opd ! (load ! (through ! refl (stop !)) (look ! 0 refl))) refl fv $ exec ! 𝓣.C 𝓣.Λ Ev (after 2 fn.body) (at_ret Ev Post) $ sets ! (of_opd ! (get ! refl)) refl fv $ sets ! (of_opd ! (get ! refl)) refl fv $
    sets ! (agg ! (and_then ! (get ! refl) (no_more !))) refl (single_good b o) $ let k : Val = single (vptr b o) in let pair : Val = pair_val v k in
    sets ! (agg ! (and_then ! (get ! refl) (and_then ! (get ! refl) (no_more !)))) refl (pair_Typed T (layout C) v k fv (single_good b o)) $
    use1 𝓛 (‵ (froom T b at)) (𝓛.laws.at_room T b at v) $ use1 𝓛 (‵ (room_of X U R b o)) (𝓛.laws.room-raw T b at) $
    move ! (0 ∷ 2 ∷ []) $ fjoin ! $ move ! (3 ∷ 0 ∷ []) $ fjoin ! $ move ! (2 ∷ 0 ∷ []) $ fjoin ! $ move ! (0 ∷ 2 ∷ []) $ fjoin ! $ move ! (0 ∷ 2 ∷ []) $ shell_in X U R gp ! b o d.tag t $ let r : C.Denot = record { at = block_ptr b o; tag = d.tag } in
    -- [the shell; the value; nothing; the tokens; a fact]
    move ! (1 ∷ 0 ∷ []) $ use2 𝓛 (‵ (Two.own_val (x, r) (pair ∷ []))) (pair_of 𝓛 R C x r v k) $
    let Told : Type 0 = (x ≡ x) × ((block_ptr b o, d.tag) ≡ (d.at, d.tag)) in use0 𝓛 (raw (fact 𝓤 Told)) (fact_i 𝓤 Told (emp 𝓤) (refl, ap (λ (q : Ptr). (q, d.tag)) (sym e))) $
    nothing ! $ nothing ! $ fjoin ! $
    returns ! (look_at ! 0 refl) $ free_all ! refl $ keep ! (4 ∷ 0 ∷ 2 ∷ 1 ∷ []) $ by ! (leaves 𝓛 En hs c z pair (x, r) (tt, tt) (tt, tt)))))))
