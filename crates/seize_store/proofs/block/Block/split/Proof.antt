-- `split` reads the owner's part out.
use Rattle.seize_store.proofs.Kit.{◌≡◌, ℕ, List, [], ◌∷◌, ◌++◌, refl, sym, ap, subst, proved_at, leaves, Val, vptr, vstruct, vcons, vnil, SProp, ent, emp, id⊢, ftrue, flft, full_share, ‵, raw, ◌⊛◌, some, given, at_ret, ◌$◌, ◌∵◌, !, qed, by, move, keep, split, fsplit, fsplit3, fjoin, fpack, pick, use0, use1, suffices, feq_i, stop, fld, addr, load, of_opd, no_more, and_then, first, blocks, exec, returns, enter, alloc_all, pass_all, free_all, look_at, get, get_in, through, sets, env, agg, sub, whole, fact, fact_i, tables, no, RattleType, owns, types_at, plain, block_ptr, nothing, Stays, stay_dropped, walk_of}
use mir.Syntax.{a_type, dcons, dnil}
use mir.MapTy.{inst_fn}
use prog.Wp.{WpFn}
use types.ByLocal.{sets_last}
use denote.Param.{param, bounded, layout}
use denote.RawPtr.{Ptr}
use Rattle.core.proofs.alloc.Shapes.{after}
use Rattle.core.proofs.alloc.Calls.{Goes-blank}
use Rattle.core.proofs.cell.Inside.{Good}
use Rattle.seize_store.proofs.Fields.{single, single_good, hull_in}
use base.Fml.{froom, fat}
use borrow.Table.OneValue.{part_out}
use denote.RattleType.{Valss}
use denote.Struct.Struct.{within}
use denote.Struct.Declared as declared
use denote.Struct.Tuple.{Tuple, tuple_type}
use Rattle.once_cell.proofs.Values.{both_tt}
use mir.Val.{has_ty}
use types.Kit.{drop, fpick, learn}
use types.Run.{look}
use Rattle.seize_table.specs.Pairs.{left_of}
use Rattle.seize_store.specs.Body.{owner_at, owner_room}
use Rattle.seize_store.specs.Titled.{chunk_of, title_tag}
use Rattle.seize_store.specs.contracts.block.Hull as hull
use Rattle.seize_store.specs.contracts.block.Block as block
use Rattle.seize_store.specs.contracts.row_token.Title as title
use Rattle.seize_store.proofs.Fields.{both, block_out, block_good}
use Rattle.seize_store.specs.contracts.block.Block.split.{ended, clauses}
use Rattle.seize_store.specs.contracts.block.Block.split.Key.{name as #self}
use Rattle.seize_store.proofs.block.Block.split.Statement.{statement}
use Rattle.seize_store.proofs.block.Block.split.Code as code

pub split_spec : {M : Type 1} → statement M
split_spec 𝓤 𝓛 𝓜 𝓡 wired Y W Z LY LW LZ gp dp met =
    let H = 𝓛.H in let 𝓣 = tables 𝓤 H 𝓜 𝓡 𝓡.env in let X : RattleType = param 0 Y in let U : RattleType = param 1 W in let R : RattleType = param 2 Z in let En = ended Y W Z gp dp in let inst = bounded (a_type ∷ a_type ∷ a_type ∷ []) (Y, (W, (Z, tt))) (dcons dp dnil) in let fn = inst_fn inst code.function in
    let Row : RattleType = block.the_row X U R gp in let N : RattleType = title.the_row in let C : RattleType = hull.the_row X U R gp in let c = clauses Y W Z gp dp 𝓛 𝓜.mem 𝓡.returns in let T = layout W in let Three : RattleType = Tuple (U ∷ C ∷ N ∷ []) in
    let hs : Stays En.signature.params En.kept = (stay_dropped (plain (λ _. Row)) no, tt) in
    proved_at 𝓛 En hs c 𝓜 𝓡 (Goes-blank 𝓛 3 (plain (λ _. Row)) no (λ κs x f. tt), tt) (#self inst) fn (code.unfolded 𝓤 H 𝓜 𝓡 wired (Y, (W, (Z, tt))) dp) (λ z are.
    let κs = z.0.0 in let qs = z.0.1 in let d = z.0.3.0 in let n = d.title in let x : Z.Denot = d.value in let Post : Val → SProp 𝓤 = (walk_of 𝓛 En hs c).post z in let Run : List Val → SProp 𝓤 = λ ws. WpFn 𝓤 H 𝓣.C 𝓣.Λ fn ws Post in
    let toks = ‵ (flft κs.0 qs.0) ⊛ ‵ (flft κs.1.0 qs.1.0) ⊛ ‵ (flft κs.1.1.0 qs.1.1.0) ⊛ ‵ ftrue in
    qed 𝓛 ((toks ⊛ ‵ (owns (types_at En.signature.params κs) z.0.3 z.0.4)) ∷ raw ((c κs z.0.3).requires z.1) ∷ []) ∵ split ! $ move ! (1 ∷ []) $ fsplit ! $ block_out X U R gp ! d z.0.4.0 (λ b o t h e en ws fits. fsplit ! $ fsplit3 ! $ move ! (1 ∷ []) $ fpick ! (λ u. fsplit ! $ fpick ! (λ so. drop ! $ fsplit ! $ move ! (0 ∷ 2 ∷ 3 ∷ 4 ∷ 1 ∷ []) $ let at : ℕ = owner_at X U R o in
    use1 𝓛 (some (λ (y : Val). ‵ (fat full_share T b at y) ⊛ ‵ (U.own_val u (y ∷ [])))) (part_out 𝓛 U refl full_share u b at) $ pick ! (λ v. split ! $ use1 𝓛 (given (Good T v) (‵ (fat full_share T b at v))) (𝓛.laws.at_wt full_share T b at v) $ learn ! (λ fv.
    -- [the part's cell; the part; the right's name; the value with the rest; the invariant; the ticket; the title; nothing; the tokens; a fact]
    let w : Val = both (vptr b o) h in let p : Ptr = block_ptr b o in
    suffices ! (Run (w ∷ [])) (subst (λ (us : List Val). ent 𝓤 (Run (w ∷ [])) (Run us)) (sym (λ i. ws i ++ [])) (id⊢ 𝓤 (Run (w ∷ [])))) $
    enter ! 𝓣.C 𝓣.Λ fn (w ∷ []) Post $ alloc_all ! (λ l. pass_all ! refl (block_good b o h fits, tt) $ let Ev = env fn.locals l in
    sets ! (of_opd ! (get_in ! (fld ! refl (stop !)) (sub ! 0 refl (whole !)))) refl (tt, tt) $ sets ! (of_opd ! (get_in ! (fld ! refl (stop !)) (sub ! 1 refl (whole !)))) refl fits $ first ! $ blocks ! $ sets ! (addr ! (through ! refl (fld ! refl (stop !)))) refl (tt, tt) $
    sets_last ! (of_opd ! (load ! (through ! refl (stop !)) (look ! 0 refl))) refl fv $ exec ! 𝓣.C 𝓣.Λ Ev (after 3 fn.body) (at_ret Ev Post) $ sets ! (of_opd ! (get ! refl)) refl fv $ sets ! (of_opd ! (get ! refl)) refl fv $
    sets ! (agg ! (and_then ! (get ! refl) (no_more !))) refl (single_good b o) $ sets ! (of_opd ! (get ! refl)) refl fits $ let k : Val = single (vptr b o) in let all : Val = vstruct (vcons v (vcons k (vcons h vnil))) in
    sets ! (agg ! (and_then ! (get ! refl) (and_then ! (get ! refl) (and_then ! (get ! refl) (no_more !))))) refl (both_tt (has_ty T v) (has_ty (layout N) h) fv.0 fits.0, (fv.1, ((tt, tt), (fits.1, tt)))) $
    use1 𝓛 (‵ (froom T b at)) (𝓛.laws.at_room T b at v) $ use1 𝓛 (‵ (owner_room X U R b o)) (𝓛.laws.room-raw T b at) $
    move ! (0 ∷ 3 ∷ []) $ fjoin ! $ move ! (2 ∷ 0 ∷ []) $ fjoin ! $ move ! (0 ∷ 2 ∷ []) $ fjoin ! $ move ! (0 ∷ 2 ∷ []) $ hull_in X U R gp ! b o (title_tag n) x t $ let r : C.Denot = record { at = p; tag = title_tag n; value = x } in
    -- [the hull; the part; the title; nothing; the tokens; a fact]
    nothing ! $ move ! (3 ∷ 0 ∷ []) $ fjoin ! $ move ! (1 ∷ 0 ∷ []) $ fjoin ! $ move ! (1 ∷ 0 ∷ []) $ fjoin ! $ feq_i ! (List Val) (all ∷ []) (all ∷ []) refl $ fjoin ! $
    fpack ! (Valss (U ∷ C ∷ N ∷ [])) (within (declared.shape (tuple_type (U ∷ C ∷ N ∷ []))) (u, (r, (n, tt))) (all ∷ [])) (v ∷ [], (k ∷ [], (h ∷ [], tt))) $
    let Told : Type 0 = (gp.label u ≡ left_of (title_tag n)) × (x ≡ x) × (chunk_of n ≡ (p, title_tag n)) × (n ≡ n) in use0 𝓛 (raw (fact 𝓤 Told)) (fact_i 𝓤 Told (emp 𝓤) (so, refl, ap (λ (q : Ptr). (q, title_tag n)) en, refl)) $
    nothing ! $ nothing ! $ fjoin ! $
    returns ! (look_at ! 0 refl) $ free_all ! refl $ keep ! (4 ∷ 0 ∷ 2 ∷ 1 ∷ []) $ by ! (leaves 𝓛 En hs c z all (u, r, n) ((tt, ((tt, (tt, (tt, tt))), tt)), tt) (tt, tt)))))))))
