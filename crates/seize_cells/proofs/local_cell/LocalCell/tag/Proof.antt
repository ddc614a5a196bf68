-- `tag` names the label.
use Rattle.seize_content.proofs.Kit.{◌≡◌, ℕ, [], ◌∷◌, refl, proved, leaves, Val, vptr, SProp, emp, Fml, ftrue, fsep, flft, ‵, raw, ◌⊛◌, ◌$◌, ◌∵◌, !, qed, by, keep, split, fjoin, use0, no_more, and_then, returns, enter, alloc_all, pass_all, free_all, look_at, get, sets, agg, fact, fact_i, tables, yes, RattleType, owns, types_at, plain, RefOf, shr_vals, shr_Tells, nothing, Stays, stay_dropped, walk_of, Goes-dropped, named}
use mir.Syntax.{a_type, dcons, dnil}
use mir.MapTy.{inst_fn}
use denote.Builtin.{unit}
use denote.Param.{param, bounded}
use Rattle.seize_content.proofs.Fields.{token, Marked, marked_made}
use Rattle.seize_cells.specs.contracts.tag.Tag as tag
use Rattle.seize_cells.specs.contracts.local_cell.LocalCell as cell
use Rattle.seize_cells.specs.contracts.local_cell.LocalCell.tag.{ended, clauses}
use Rattle.seize_cells.specs.contracts.local_cell.LocalCell.tag.Key.{name as #self}
use Rattle.seize_cells.proofs.local_cell.LocalCell.tag.Statement.{statement}
use Rattle.seize_cells.proofs.local_cell.LocalCell.tag.Code as code

pub tag_spec : {M : Type 1} → statement M
tag_spec 𝓤 𝓛 𝓜 𝓡 wired X L g dict met =
    let H = 𝓛.H in let 𝓣 = tables 𝓤 H 𝓜 𝓡 𝓡.env in let R : RattleType = param 0 X in let En = ended X g dict in let inst = bounded (a_type ∷ []) (X, tt) (dcons dict dnil) in let fn = inst_fn inst code.function in
    let Row : RattleType = cell.the_row R g in let c = clauses X g dict 𝓛 𝓜.mem 𝓡.returns in let self = RefOf (0 ∷ []) tt (plain (λ _. Row)) (λ _. tt) in let hs : Stays En.signature.params En.kept = (stay_dropped self yes, tt) in
    proved 𝓛 En hs c 𝓜 𝓡 (Goes-dropped 𝓛 2 self yes (λ κs x f. refl), tt) (#self inst) fn (code.unfolded 𝓤 H 𝓜 𝓡 wired (X, tt) dict)
    (λ κs. (shr_vals, tt)) (λ κs. (shr_Tells (named 0) κs.0 Row, tt)) (λ κs qs bounds a gh are.
    let rb : ℕ = a.0.ref_ptr.0 in let ro : ℕ = a.0.ref_ptr.1 in let n : ℕ = a.0.now in let toks : Fml = fsep (flft κs.0 qs.0) (fsep (flft κs.1.0 qs.1.0) ftrue) in
    let y : (walk_of 𝓛 En hs c).Ghost = ((κs, qs, bounds, a, (vptr rb ro ∷ [], tt)), gh) in let Post : Val → SProp 𝓤 = (walk_of 𝓛 En hs c).post y in let r : tag.the_row.Denot = record { marker = record {}; name = n } in
    qed 𝓛 ((‵ toks ⊛ ‵ (owns (types_at En.signature.params κs) a y.0.4)) ∷ raw ((c κs a).requires gh) ∷ []) ∵ split ! $ keep ! (0 ∷ []) $
    enter ! 𝓣.C 𝓣.Λ fn (vptr rb ro ∷ []) Post $ alloc_all ! (λ l. pass_all ! refl ((tt, tt), tt) $
    sets ! (agg ! (no_more !)) refl (tt, tt) $ sets ! (agg ! (and_then ! (get ! refl) (no_more !))) refl (tt, (tt, tt)) $
    nothing ! $ use0 𝓛 (‵ ((Marked unit).own_val (record {}, tt) (token ∷ []))) (marked_made unit 𝓛) $ fjoin ! $ nothing ! $ nothing ! $ fjoin ! $
    let Told : Type 0 = n ≡ n in use0 𝓛 (raw (fact 𝓤 Told)) (fact_i 𝓤 Told (emp 𝓤) refl) $
    -- [what is told; the parameters; the result; the tokens]
    returns ! (look_at ! 0 refl) $ free_all ! refl $ keep ! (3 ∷ 1 ∷ 2 ∷ 0 ∷ []) $ by ! (leaves 𝓛 En hs c y token r (tt, tt) (tt, tt))))
