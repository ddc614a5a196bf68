-- `new` lays the value there.
use Rattle.seize_content.proofs.Kit.{◌≡◌, ℕ, List, [], ◌∷◌, ◌++◌, refl, sym, subst, true, proved_at, leaves, Val, SProp, ent, emp, id⊢, ftrue, flft, ‵, raw, ◌⊛◌, ◌$◌, ◌∵◌, !, qed, by, move, keep, split, fsplit, fjoin, fpack, feq_i, rewrite, use0, suffices, of_opd, no_more, and_then, returns, enter, alloc_all, pass_all, free_all, look_at, get, sets, agg, fact, fact_i, tables, no, RattleType, Valss, owns, types_at, plain, nothing, heard, Stays, stay_dropped, walk_of, Goes-dropped}
use Rattle.std.proofs.Common.{◌&&◌, T}
use mir.Syntax.{a_type, dcons, dnil}
use mir.Val.{has_ty, WT}
use mir.MapTy.{inst_fn}
use prog.Wp.{WpFn}
use denote.Laws.{Typed}
use denote.Param.{param, bounded, layout}
use denote.Param.Laws.{param_laws}
use denote.Struct.Struct.{within}
use Rattle.core.proofs.cell.Inside.{Good, one}
use Rattle.std_alloc.proofs.ResultValues.{and_tt}
use Rattle.seize_content.specs.Steady.{keeps}
use Rattle.seize_content.proofs.Fields.{single}
use Rattle.seize_cells.specs.Locals.{local_has}
use Rattle.seize_cells.specs.contracts.local_cell.LocalCell as cell
use Rattle.seize_cells.specs.contracts.local_cell.LocalCell.TheInside as inside
use Rattle.seize_cells.specs.contracts.local_cell.LocalCell.new.{ended, clauses}
use Rattle.seize_cells.specs.contracts.local_cell.LocalCell.new.Key.{name as #self}
use Rattle.seize_cells.proofs.local_cell.LocalCell.new.Statement.{statement}
use Rattle.seize_cells.proofs.local_cell.LocalCell.new.Code as code

pub new_spec : {M : Type 1} → statement M
new_spec 𝓤 𝓛 𝓜 𝓡 wired X L gh dict met =
    let H = 𝓛.H in let 𝓣 = tables 𝓤 H 𝓜 𝓡 𝓡.env in let R : RattleType = param 0 X in let En = ended X gh dict in let inst = bounded (a_type ∷ []) (X, tt) (dcons dict dnil) in let fn = inst_fn inst code.function in
    let C : RattleType = cell.the_row R gh in let F : RattleType = inside.the_row R gh in let D = denote.Struct.Declared.shape (inside.the_type R gh) in let c = clauses X gh dict 𝓛 𝓜.mem 𝓡.returns in
    let item = plain (λ _. R) in let hs : Stays En.signature.params En.kept = (stay_dropped item no, tt) in
    proved_at 𝓛 En hs c 𝓜 𝓡 (Goes-dropped 𝓛 1 item no (λ κs x f. refl), tt) (#self inst) fn (code.unfolded 𝓤 H 𝓜 𝓡 wired (X, tt) dict) (λ z are.
    let κs = z.0.0 in let qs = z.0.1 in let x : X.Denot = z.0.3.0 in let Post : Val → SProp 𝓤 = (walk_of 𝓛 En hs c).post z in let Run : List Val → SProp 𝓤 = λ ws. WpFn 𝓤 H 𝓣.C 𝓣.Λ fn ws Post in
    let got = one (layout X) z.0.4.0 (((param_laws 0 X L).lawful 𝓛).typed x z.0.4.0 are.0) in let vx : Val = got.0 in let fx : Good (layout X) vx = got.2 in let v : Val = single vx in
    let typed : T (has_ty (layout X) vx && true) × WT v = (and_tt (has_ty (layout X) vx) fx.0, (fx.1, tt)) in let toks = ‵ (flft κs.0 qs.0) ⊛ ‵ ftrue in let n : ℕ = gh.label x in
    let Sound : Type 0 = gh.sound x in qed 𝓛 ((toks ⊛ ‵ (owns (types_at En.signature.params κs) z.0.3 z.0.4)) ∷ raw (fact 𝓤 _) ∷ raw (fact 𝓤 Sound) ∷ []) ∵ move ! (2 ∷ 0 ∷ []) $ heard ! Sound (λ ok. split ! $ keep ! (0 ∷ 1 ∷ []) $ move ! (1 ∷ []) $ fsplit ! $
    -- [the value; nothing; the tokens]
    rewrite ! 0 (λ (ws : List Val). ‵ (R.own_val x ws)) got.1 refl $
    suffices ! (Run (vx ∷ [])) (subst (λ (ws : List Val). ent 𝓤 (Run (vx ∷ [])) (Run ws)) (sym (λ i. got.1 i ++ [])) (id⊢ 𝓤 (Run (vx ∷ [])))) $
    enter ! 𝓣.C 𝓣.Λ fn (vx ∷ []) Post $ alloc_all ! (λ l. pass_all ! refl (fx, tt) $
    sets ! (of_opd ! (get ! refl)) refl fx $ sets ! (agg ! (and_then ! (get ! refl) (no_more !))) refl typed $
    nothing ! $ move ! (1 ∷ 0 ∷ []) $ fjoin ! $ feq_i ! (List Val) (v ∷ []) (v ∷ []) refl $ fjoin ! $ fpack ! (Valss (R ∷ [])) (within D (x, tt) (v ∷ [])) (vx ∷ [], tt) $
    nothing ! $ fpack ! (keeps gh.label gh.sound n x) (λ _. ftrue) (refl, ok) $ move ! (1 ∷ 0 ∷ []) $ fjoin ! $ fpack ! X.Denot (local_has R (keeps gh.label gh.sound n) (λ y. F.own_val (record { value = y }) (v ∷ []))) x $ nothing ! $ fpack ! (Typed F.mir (v ∷ [])) (λ _. ftrue) (typed, tt) $ fjoin ! $
    let Told : Type 0 = n ≡ n in use0 𝓛 (raw (fact 𝓤 Told)) (fact_i 𝓤 Told (emp 𝓤) refl) $ nothing ! $ nothing ! $ fjoin ! $
    returns ! (look_at ! 0 refl) $ free_all ! refl $ keep ! (4 ∷ 0 ∷ 2 ∷ 1 ∷ []) $ by ! (leaves 𝓛 En hs c z v n (tt, tt) (tt, tt)))))
