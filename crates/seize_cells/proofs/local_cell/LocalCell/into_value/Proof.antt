-- `into_value` takes the value, which has the cell's label.
use Rattle.seize_content.proofs.Kit.{◌≡◌, List, [], ◌∷◌, ◌++◌, ◌∙◌, refl, sym, subst, true, proved_at, leaves, Val, vstruct, of_list, SProp, ent, emp, id⊢, ftrue, flft, ‵, raw, ◌⊛◌, ◌$◌, ◌∵◌, !, qed, by, move, keep, drop, split, fsplit, fjoin, fpick, feq_l, rewrite, suffices, stop, fld, of_opd, returns, enter, alloc_all, pass_all, free_all, look_at, get, get_in, sets, sub, whole, fact, fact_i, tables, no, RattleType, owns, types_at, plain, nothing, Stays, stay_dropped, walk_of, Goes-dropped, use0}
use Rattle.std.proofs.Common.{◌&&◌, T}
use mir.Syntax.{a_type, dcons, dnil}
use mir.Val.{has_ty, WT}
use mir.MapTy.{inst_fn}
use prog.Wp.{WpFn}
use denote.Laws.{Is, shows}
use denote.Param.{param, bounded, layout}
use denote.Param.Laws.{param_laws}
use denote.Steps.{peeks}
use Rattle.core.proofs.cell.Inside.{Good, one}
use Rattle.std_alloc.proofs.ResultValues.{and_tt}
use Rattle.seize_content.specs.Steady.{keeps}
use Rattle.seize_cells.specs.contracts.local_cell.LocalCell as cell
use Rattle.seize_content.proofs.Fields.{single}
use Rattle.seize_cells.specs.contracts.local_cell.LocalCell.into_value.{ended, clauses}
use Rattle.seize_cells.specs.contracts.local_cell.LocalCell.into_value.Key.{name as #self}
use Rattle.seize_cells.proofs.local_cell.LocalCell.into_value.Statement.{statement}
use Rattle.seize_cells.proofs.local_cell.LocalCell.into_value.Code as code

pub into_value_spec : {M : Type 1} → statement M
into_value_spec 𝓤 𝓛 𝓜 𝓡 wired X L g dict met =
    let H = 𝓛.H in let 𝓣 = tables 𝓤 H 𝓜 𝓡 𝓡.env in let R : RattleType = param 0 X in let En = ended X g dict in let inst = bounded (a_type ∷ []) (X, tt) (dcons dict dnil) in let fn = inst_fn inst code.function in
    let C : RattleType = cell.the_row R g in let c = clauses X g dict 𝓛 𝓜.mem 𝓡.returns in let self = plain (λ _. C) in let hs : Stays En.signature.params En.kept = (stay_dropped self no, tt) in
    proved_at 𝓛 En hs c 𝓜 𝓡 (Goes-dropped 𝓛 1 self no (λ κs x f. refl), tt) (#self inst) fn (code.unfolded 𝓤 H 𝓜 𝓡 wired (X, tt) dict) (λ z are.
    let κs = z.0.0 in let qs = z.0.1 in let d : C.Denot = z.0.3.0 in let Post : Val → SProp 𝓤 = (walk_of 𝓛 En hs c).post z in let Run : List Val → SProp 𝓤 = λ ws. WpFn 𝓤 H 𝓣.C 𝓣.Λ fn ws Post in
    let toks = ‵ (flft κs.0 qs.0) ⊛ ‵ ftrue in
    qed 𝓛 ((toks ⊛ ‵ (owns (types_at En.signature.params κs) z.0.3 z.0.4)) ∷ raw ((c κs z.0.3).requires z.1) ∷ []) ∵ split ! $ move ! (1 ∷ []) $ fsplit ! $ fsplit ! $ drop ! $
    -- [the cell; nothing; the tokens; a fact]
    fpick ! (λ x. fsplit ! $ fpick ! (λ vss. fsplit ! $ feq_l ! (λ ev. fsplit ! $ move ! (2 ∷ []) $ fpick ! (λ fit. move ! (1 ∷ []) $ peeks ! R (Is R) (shows 𝓛 R) x vss.0 (λ is_so.
    let got = one (layout X) vss.0 (((param_laws 0 X L).lawful 𝓛).typed x vss.0 is_so) in let vx : Val = got.0 in let fx : Good (layout X) vx = got.2 in let v : Val = single vx in
    let typed : T (has_ty (layout X) vx && true) × WT v = (and_tt (has_ty (layout X) vx) fx.0, (fx.1, tt)) in let is : z.0.4.0 ≡ v ∷ [] = ev ∙ (λ i. vstruct (of_list (got.1 i ++ [])) ∷ []) in
    rewrite ! 0 (λ (ws : List Val). ‵ (R.own_val x ws)) got.1 refl $ keep ! (0 ∷ 4 ∷ []) $
    suffices ! (Run (v ∷ [])) (subst (λ (ws : List Val). ent 𝓤 (Run (v ∷ [])) (Run ws)) (sym (λ i. is i ++ [])) (id⊢ 𝓤 (Run (v ∷ [])))) $
    enter ! 𝓣.C 𝓣.Λ fn (v ∷ []) Post $ alloc_all ! (λ l. pass_all ! refl (typed, tt) $
    sets ! (of_opd ! (get_in ! (fld ! refl (stop !)) (sub ! 0 refl (whole !)))) refl fx $ sets ! (of_opd ! (get ! refl)) refl fx $
    let Told : Type 0 = keeps g.label g.sound d x in use0 𝓛 (raw (fact 𝓤 Told)) (fact_i 𝓤 Told (emp 𝓤) fit) $ nothing ! $ nothing ! $ fjoin ! $
    returns ! (look_at ! 0 refl) $ free_all ! refl $ keep ! (3 ∷ 0 ∷ 2 ∷ 1 ∷ []) $ by ! (leaves 𝓛 En hs c z vx x (tt, tt) (tt, tt)))))))))
