-- Two rooms that are out lie apart.
use Rattle.seize_store.proofs.Kit.{◌≡◌, List, [], ◌∷◌, ◌++◌, refl, sym, ap, ◌∙◌, subst, proved_at, leaves, Val, vptr, SProp, ent, emp, id⊢, ftrue, flft, ‵, raw, ◌⊛◌, given, ◌$◌, ◌∵◌, !, qed, by, move, keep, split, fsplit, fjoin, use0, use2, suffices, stop, fld, of_opd, no_more, and_then, returns, enter, alloc_all, pass_all, free_all, look_at, get, get_in, sets, agg, sub, whole, fact, fact_i, tables, no, RattleType, owns, types_at, plain, block_ptr, nothing, Stays, stay_dropped, walk_of, Goes-dropped}
use mir.Syntax.{a_type, dcons, dnil}
use mir.MapTy.{inst_fn}
use prog.Wp.{WpFn}
use denote.Param.{param, bounded, layout}
use Rattle.seize_store.proofs.Fields.{single, single_good, room_in}
use contract.Monad.{fact_use}
use base.Logic.{guard_i}
use types.Kit.{learn}
use denote.Struct.Tuple.{Tuple}
use Rattle.std_alloc.proofs.Pairs.{pair_val, pair_Typed, pair_of}
use denote.RawPtr.{Ptr}
use Rattle.seize_store.specs.Block.{empty}
use Rattle.seize_store.specs.contracts.block.Out as room
use Rattle.seize_store.proofs.Unique.{apart}
use Rattle.seize_store.proofs.Fields.{room_out}
use Rattle.seize_store.specs.contracts.block.Out.differ.{ended, clauses}
use Rattle.seize_store.specs.contracts.block.Out.differ.Key.{name as #self}
use Rattle.seize_store.proofs.block.Out.differ.Statement.{statement}
use Rattle.seize_store.proofs.block.Out.differ.Code as code

pub differ_spec : {M : Type 1} → statement M
differ_spec 𝓤 𝓛 𝓜 𝓡 wired Y W Z LY LW LZ gp dp met =
    let H = 𝓛.H in let 𝓣 = tables 𝓤 H 𝓜 𝓡 𝓡.env in let X : RattleType = param 0 Y in let U : RattleType = param 1 W in let R : RattleType = param 2 Z in let En = ended Y W Z gp dp in let inst = bounded (a_type ∷ a_type ∷ a_type ∷ []) (Y, (W, (Z, tt))) (dcons dp dnil) in let fn = inst_fn inst code.function in
    let Row : RattleType = room.the_row X U R gp in let c = clauses Y W Z gp dp 𝓛 𝓜.mem 𝓡.returns in let Two : RattleType = Tuple (Row ∷ Row ∷ []) in
    let hs : Stays En.signature.params En.kept = (stay_dropped (plain (λ _. Row)) no, (stay_dropped (plain (λ _. Row)) no, tt)) in
    proved_at 𝓛 En hs c 𝓜 𝓡 (Goes-dropped 𝓛 3 (plain (λ _. Row)) no (λ κs x f. refl), (Goes-dropped 𝓛 3 (plain (λ _. Row)) no (λ κs x f. refl), tt)) (#self inst) fn (code.unfolded 𝓤 H 𝓜 𝓡 wired (Y, (W, (Z, tt))) dp) (λ z are.
    let κs = z.0.0 in let qs = z.0.1 in let d = z.0.3.0 in let d' = z.0.3.1.0 in let Post : Val → SProp 𝓤 = (walk_of 𝓛 En hs c).post z in let Run : List Val → SProp 𝓤 = λ ws. WpFn 𝓤 H 𝓣.C 𝓣.Λ fn ws Post in
    let toks = ‵ (flft κs.0 qs.0) ⊛ ‵ (flft κs.1.0 qs.1.0) ⊛ ‵ (flft κs.1.1.0 qs.1.1.0) ⊛ ‵ ftrue in
    qed 𝓛 ((toks ⊛ ‵ (owns (types_at En.signature.params κs) z.0.3 z.0.4)) ∷ raw ((c κs z.0.3).requires z.1) ∷ []) ∵ split ! $ move ! (1 ∷ []) $ fsplit ! $ room_out X U R gp ! d z.0.4.0 (λ b o t e ws. move ! (1 ∷ []) $ fsplit ! $ room_out X U R gp ! d' z.0.4.1.0 (λ b' o' u e' ws'.
    -- [the second; nothing; the first; the tokens; a fact]
    let w : Val = single (vptr b o) in let v : Val = single (vptr b' o') in let Vs : List Val = w ∷ v ∷ [] in let So : Type 0 = block_ptr b o ≡ block_ptr b' o' → ⊥ in let r : Row.Denot = record { at = block_ptr b o; tag = d.tag } in let r' : Row.Denot = record { at = block_ptr b' o'; tag = d'.tag } in
    move ! (2 ∷ 0 ∷ []) $ use2 𝓛 (given So (‵ (empty X U R b o gp.label d.tag t) ⊛ ‵ (empty X U R b' o' gp.label d'.tag u))) (fact_use 𝓤 So (apart X U R gp.label 𝓛 𝓜 b o (d.tag, t) b' o' (d'.tag, u)) (λ so. guard_i 𝓤 So _ so)) $ learn ! (λ so. split ! $
    suffices ! (Run Vs) (subst (λ (us : List Val). ent 𝓤 (Run Vs) (Run us)) (sym (λ i. ws i ++ (ws' i ++ []))) (id⊢ 𝓤 (Run Vs))) $
    enter ! 𝓣.C 𝓣.Λ fn Vs Post $ alloc_all ! (λ l. pass_all ! refl (single_good b o, (single_good b' o', tt)) $ let pair : Val = pair_val w v in
    sets ! (of_opd ! (get_in ! (fld ! refl (stop !)) (sub ! 0 refl (whole !)))) refl (tt, tt) $ sets ! (of_opd ! (get_in ! (fld ! refl (stop !)) (sub ! 0 refl (whole !)))) refl (tt, tt) $
    sets ! (agg ! (and_then ! (get ! refl) (no_more !))) refl (single_good b o) $ sets ! (agg ! (and_then ! (get ! refl) (no_more !))) refl (single_good b' o') $
    sets ! (agg ! (and_then ! (get ! refl) (and_then ! (get ! refl) (no_more !)))) refl (pair_Typed (layout Row) (layout Row) w v (single_good b o) (single_good b' o')) $
    room_in X U R gp ! b o d.tag t $ move ! (1 ∷ []) $ room_in X U R gp ! b' o' d'.tag u $ move ! (1 ∷ 0 ∷ []) $ use2 𝓛 (‵ (Two.own_val (r, r') (pair ∷ []))) (pair_of 𝓛 Row Row r r' w v) $
    let Told : Type 0 = ((block_ptr b o, d.tag) ≡ (d.at, d.tag)) × ((block_ptr b' o', d'.tag) ≡ (d'.at, d'.tag)) × (d.at ≡ d'.at → ⊥) in use0 𝓛 (raw (fact 𝓤 Told)) (fact_i 𝓤 Told (emp 𝓤) (ap (λ (s : Ptr). (s, d.tag)) (sym e), ap (λ (s : Ptr). (s, d'.tag)) (sym e'), λ q. so (sym e ∙ (q ∙ e')))) $ nothing ! $ nothing ! $ fjoin ! $ nothing ! $ fjoin ! $
    returns ! (look_at ! 0 refl) $ free_all ! refl $ keep ! (4 ∷ 0 ∷ 2 ∷ 1 ∷ []) $ by ! (leaves 𝓛 En hs c z pair (r, r') (tt, (tt, tt)) (tt, (tt, tt))))))))
