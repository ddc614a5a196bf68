-- `get` shows the value for as long as the hull is borrowed.
use Rattle.seize_store.proofs.Kit.{◌≡◌, ℕ, List, [], ◌∷◌, refl, sym, ap, ◌∙◌, proved, leaves, Val, vptr, SProp, emp, never, id⊢, Lft, Share, Fml, ftrue, fsep, flft, ‵, raw, ◌⊛◌, at_ret, ◌$◌, ◌∵◌, !, qed, by, move, keep, split, join, fsplit, fjoin, use0, use1, rewrite, feq_i, stop, fld, addr, load, of_opd, first, blocks, exec, returns, enter, alloc_all, pass_all, free_all, look_at, get, through, sets, env, sub, whole, fact, fact_i, tables, yes, RattleType, owns, types_at, plain, RefOf, shr_vals, shr_Tells, unhide, nothing, Stays, stay_dropped, walk_of, Goes-dropped}
use mir.Syntax.{a_type, dcons, dnil, named}
use mir.MapTy.{inst_fn}
use base.Fml.{fhide}
use types.ByLocal.{sets_last}
use types.Part.{look_in}
use denote.Laws.{Is, shows}
use denote.Memory.{cell_at, hidden_shr}
use denote.Opens.{hide}
use denote.Param.{param, bounded}
use denote.RawPtr.{Ptr, ptr_val, in_a_block}
use denote.Steps.{peeks, looks, shuts}
use denote.Struct.Lending.{lent_out}
use Rattle.core.proofs.alloc.Shapes.{after}
use Rattle.seize_store.specs.Body.{room_at}
use Rattle.seize_store.specs.Block.{hull_shares}
use Rattle.seize_store.specs.contracts.block.Hull as hull
use Rattle.seize_store.proofs.Fields.{single, HullData, hull_told, hull_opened}
use Rattle.seize_store.specs.contracts.block.Hull.get.{ended, clauses}
use Rattle.seize_store.specs.contracts.block.Hull.get.Key.{name as #self}
use Rattle.seize_store.proofs.block.Hull.get.Statement.{statement}
use Rattle.seize_store.proofs.block.Hull.get.Code as code

pub get_spec : {M : Type 1} → statement M
get_spec 𝓤 𝓛 𝓜 𝓡 wired Y W Z LY LW LZ gp dp met =
    let H = 𝓛.H in let 𝓣 = tables 𝓤 H 𝓜 𝓡 𝓡.env in let X : RattleType = param 0 Y in let U : RattleType = param 1 W in let R : RattleType = param 2 Z in let En = ended Y W Z gp dp in let inst = bounded (a_type ∷ a_type ∷ a_type ∷ []) (Y, (W, (Z, tt))) (dcons dp dnil) in let fn = inst_fn inst code.function in
    let Row : RattleType = hull.the_row X U R gp in let D : RattleType = HullData X U R gp in let c = clauses Y W Z gp dp 𝓛 𝓜.mem 𝓡.returns in
    let self = RefOf (0 ∷ []) tt (plain (λ _. Row)) (λ _. tt) in let hs : Stays En.signature.params En.kept = (stay_dropped self yes, tt) in
    proved 𝓛 En hs c 𝓜 𝓡 (Goes-dropped 𝓛 4 self yes (λ κs x f. refl), tt) (#self inst) fn (code.unfolded 𝓤 H 𝓜 𝓡 wired (Y, (W, (Z, tt))) dp)
    (λ κs. (shr_vals, tt)) (λ κs. (shr_Tells (named 0) κs.0 Row, tt)) (λ κs qs bounds a gh are.
    let rb : ℕ = a.0.ref_ptr.0 in let ro : ℕ = a.0.ref_ptr.1 in let κ : Lft = κs.0 in let q : Share = qs.0 in let d : Row.Denot = a.0.now in let p : Ptr = d.at in let x : Z.Denot = d.value in
    let others : Fml = fsep (flft κs.1.0 qs.1.0) (fsep (flft κs.1.1.0 qs.1.1.0) (fsep (flft κs.1.1.1.0 qs.1.1.1.0) ftrue)) in
    let y : (walk_of 𝓛 En hs c).Ghost = ((κs, qs, bounds, a, (vptr rb ro ∷ [], tt)), gh) in let Post : Val → SProp 𝓤 = (walk_of 𝓛 En hs c).post y in
    qed 𝓛 (((‵ (flft κ q) ⊛ ‵ others) ⊛ ‵ (owns (types_at En.signature.params κs) a y.0.4)) ∷ raw ((c κs a).requires gh) ∷ []) ∵
    split ! $ split ! $ move ! (2 ∷ []) $ fsplit ! $ fsplit ! $ keep ! (1 ∷ 3 ∷ 4 ∷ []) $
    enter ! 𝓣.C 𝓣.Λ fn (vptr rb ro ∷ []) Post $ alloc_all ! (λ l. pass_all ! refl ((tt, tt), tt) $ let Ev = env fn.locals l in
    use1 𝓛 (‵ (hidden_shr D κ (p, tt) rb ro) ⊛ ‵ (fhide (hull_shares X U R gp.label p x κ))) (lent_out 𝓛 (hull.struct X U R gp) (hull.the_codes Y.Denot W.Denot Z.Denot X.coded U.coded R.coded) (hull.the_heap X U R gp) (hull.the_lent X U R gp) κ d rb ro) $
    split ! $ move ! (1 ∷ []) $ unhide ! $ in_a_block ! p (λ s. hull_shares X U R gp.label s x κ) (id⊢ 𝓤 (never 𝓤)) (λ b o e. fsplit ! $ move ! (1 ∷ []) $ hide ! $
    -- [what a `&` to the value holds; nothing; the fields; the token; others]
    move ! (2 ∷ 3 ∷ []) $ let there : Val = vptr b (room_at X U R o) in
    looks ! tt D (hull_opened X U R gp 𝓛) (p, tt) rb ro (λ q' vs. move ! (1 ∷ []) $ peeks ! D (Is D) (shows 𝓛 D) (p, tt) vs (λ so.
    let ev : vs ≡ single (vptr b o) ∷ [] = hull_told X U R gp p vs so ∙ ap (λ (r : Ptr). single (ptr_val r) ∷ []) e in
    rewrite ! 1 (λ (ws : List Val). ‵ (cell_at q' D.mir ws rb ro)) ev refl $
    sets ! (of_opd ! (load ! (through ! refl (fld ! refl (stop !))) (look_in ! 1 (sub ! 0 refl (whole !))))) refl (tt, tt) $
    rewrite ! 1 (λ (ws : List Val). ‵ (cell_at q' D.mir ws rb ro)) (sym ev) refl $ move ! (1 ∷ 0 ∷ 2 ∷ []) $ shuts ! tt D q' (p, tt) vs rb ro $
    -- [the token; the fields; what a `&` to the value holds; nothing; others]
    first ! $ blocks ! $ sets_last ! (addr ! (through ! refl (fld ! refl (stop !)))) refl (tt, tt) $ exec ! 𝓣.C 𝓣.Λ Ev (after 2 fn.body) (at_ret Ev Post) $ sets ! (of_opd ! (get ! refl)) refl (tt, tt) $
    move ! (0 ∷ 4 ∷ []) $ join ! $ move ! (2 ∷ []) $ feq_i ! (List Val) (there ∷ []) (there ∷ []) refl $ fjoin ! $ use0 𝓛 (raw (fact 𝓤 (x ≡ x))) (fact_i 𝓤 (x ≡ x) (emp 𝓤) refl) $ nothing ! $ nothing ! $ fjoin ! $
    returns ! (look_at ! 0 refl) $ free_all ! refl $ keep ! (3 ∷ 0 ∷ 2 ∷ 1 ∷ []) $ by ! (leaves 𝓛 En hs c y there (record { ref_ptr = (b, room_at X U R o); now = x }) (tt, tt) (tt, tt)))))))
