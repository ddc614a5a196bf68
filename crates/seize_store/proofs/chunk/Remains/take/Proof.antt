-- `take` reads the owner's part out.
use Rattle.seize_store.proofs.Kit.{ℕ, List, [], ◌∷◌, ◌++◌, refl, sym, subst, proved_at, leaves, Val, vptr, SProp, ent, id⊢, ftrue, flft, full_share, ‵, raw, ◌⊛◌, some, given, at_ret, ◌$◌, ◌∵◌, !, qed, by, move, keep, split, fsplit, fjoin, pick, use1, suffices, stop, fld, addr, load, of_opd, no_more, and_then, first, blocks, exec, returns, enter, alloc_all, pass_all, free_all, look_at, get, get_in, through, sets, env, agg, sub, whole, tables, no, RattleType, owns, types_at, plain, block_ptr, nothing, Stays, stay_dropped, walk_of}
use mir.Syntax.{a_type}
use mir.MapTy.{inst_fn}
use prog.Wp.{WpFn}
use types.ByLocal.{sets_last}
use types.Kit.{fpick, learn, use2}
use types.Run.{look}
use base.Fml.{froom, fat}
use borrow.Table.OneValue.{part_out}
use denote.Param.{param, layouts, layout}
use denote.Struct.Tuple.{Tuple}
use denote.Triple.Walked.{Goes-dropped}
use Rattle.core.proofs.alloc.Shapes.{after}
use Rattle.core.proofs.cell.Inside.{Good}
use Rattle.std_alloc.proofs.Pairs.{pair_val, pair_Typed, pair_of}
use Rattle.seize_store.specs.Body.{owner_at, owner_room}
use Rattle.seize_store.proofs.Fields.{single, single_good}
use Rattle.seize_store.proofs.Pieces.{Piece, Remains, piece_in, remains_out}
use Rattle.seize_store.specs.contracts.chunk.Remains.take.{ended, clauses}
use Rattle.seize_store.specs.contracts.chunk.Remains.take.Key.{name as #self}
use Rattle.seize_store.proofs.chunk.Remains.take.Statement.{statement}
use Rattle.seize_store.proofs.chunk.Remains.take.Code as code

pub take_spec : {M : Type 1} → statement M
take_spec 𝓤 𝓛 𝓜 𝓡 wired Y W Z LY LW LZ =
    let H = 𝓛.H in let 𝓣 = tables 𝓤 H 𝓜 𝓡 𝓡.env in let X : RattleType = param 0 Y in let U : RattleType = param 1 W in let R : RattleType = param 2 Z in let En = ended Y W Z in let inst = layouts (a_type ∷ a_type ∷ a_type ∷ []) (Y, (W, (Z, tt))) in let fn = inst_fn inst code.function in
    let Row : RattleType = Remains X U R in let C : RattleType = Piece X U R in let c = clauses Y W Z 𝓛 𝓜.mem 𝓡.returns in let T = layout W in let Two : RattleType = Tuple (U ∷ C ∷ []) in
    let hs : Stays En.signature.params En.kept = (stay_dropped (plain (λ _. Row)) no, tt) in
    proved_at 𝓛 En hs c 𝓜 𝓡 (Goes-dropped 𝓛 3 (plain (λ _. Row)) no (λ κs x f. refl), tt) (#self inst) fn (code.unfolded 𝓤 H 𝓜 𝓡 wired (Y, (W, (Z, tt)))) (λ z are.
    let κs = z.0.0 in let qs = z.0.1 in let d = z.0.3.0 in let Post : Val → SProp 𝓤 = (walk_of 𝓛 En hs c).post z in let Run : List Val → SProp 𝓤 = λ ws. WpFn 𝓤 H 𝓣.C 𝓣.Λ fn ws Post in
    let toks = ‵ (flft κs.0 qs.0) ⊛ ‵ (flft κs.1.0 qs.1.0) ⊛ ‵ (flft κs.1.1.0 qs.1.1.0) ⊛ ‵ ftrue in
    qed 𝓛 ((toks ⊛ ‵ (owns (types_at En.signature.params κs) z.0.3 z.0.4)) ∷ raw ((c κs z.0.3).requires z.1) ∷ []) ∵ split ! $ move ! (1 ∷ []) $ fsplit ! $ remains_out X U R ! d z.0.4.0 (λ b o e ws.
    fsplit ! $ move ! (1 ∷ []) $ fsplit ! $ fpick ! (λ u. let at : ℕ = owner_at X U R o in
    use1 𝓛 (some (λ (y : Val). ‵ (fat full_share T b at y) ⊛ ‵ (U.own_val u (y ∷ [])))) (part_out 𝓛 U refl full_share u b at) $ pick ! (λ v. split ! $ use1 𝓛 (given (Good T v) (‵ (fat full_share T b at v))) (𝓛.laws.at_wt full_share T b at v) $ learn ! (λ fv.
    -- [the part's cell; the part; the others; the word's room; nothing; the tokens; a fact]
    let w : Val = single (vptr b o) in let pair : Val = pair_val v w in
    suffices ! (Run (w ∷ [])) (subst (λ (us : List Val). ent 𝓤 (Run (w ∷ [])) (Run us)) (sym (λ i. ws i ++ [])) (id⊢ 𝓤 (Run (w ∷ [])))) $
    enter ! 𝓣.C 𝓣.Λ fn (w ∷ []) Post $ alloc_all ! (λ l. pass_all ! refl (single_good b o, tt) $ let Ev = env fn.locals l in
    sets ! (of_opd ! (get_in ! (fld ! refl (stop !)) (sub ! 0 refl (whole !)))) refl (tt, tt) $ first ! $ blocks ! $ sets ! (addr ! (through ! refl (fld ! refl (stop !)))) refl (tt, tt) $
    sets_last ! (of_opd ! (load ! (through ! refl (stop !)) (look ! 0 refl))) refl fv $ exec ! 𝓣.C 𝓣.Λ Ev (after 2 fn.body) (at_ret Ev Post) $ sets ! (of_opd ! (get ! refl)) refl fv $ sets ! (of_opd ! (get ! refl)) refl fv $
    sets ! (agg ! (and_then ! (get ! refl) (no_more !))) refl (single_good b o) $ sets ! (agg ! (and_then ! (get ! refl) (and_then ! (get ! refl) (no_more !)))) refl (pair_Typed T (layout C) v w fv (single_good b o)) $
    use1 𝓛 (‵ (froom T b at)) (𝓛.laws.at_room T b at v) $ use1 𝓛 (‵ (owner_room X U R b o)) (𝓛.laws.room-raw T b at) $
    move ! (0 ∷ 2 ∷ []) $ fjoin ! $ move ! (2 ∷ 0 ∷ []) $ fjoin ! $ piece_in X U R ! b o $ let r : C.Denot = record { at = block_ptr b o } in
    move ! (1 ∷ 0 ∷ []) $ use2 𝓛 (‵ (Two.own_val (u, r) (pair ∷ []))) (pair_of 𝓛 U C u r v w) $ nothing ! $ nothing ! $ nothing ! $ fjoin ! $
    returns ! (look_at ! 0 refl) $ free_all ! refl $ keep ! (4 ∷ 0 ∷ 2 ∷ 1 ∷ []) $ by ! (leaves 𝓛 En hs c z pair (u, r) (tt, tt) (tt, tt))))))))
