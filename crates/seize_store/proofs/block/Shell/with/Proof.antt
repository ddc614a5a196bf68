-- `with` writes the owner's part into its room.
use Rattle.seize_store.proofs.Kit.{◌≡◌, ℕ, List, [], ◌∷◌, ◌++◌, refl, sym, ap, subst, proved_at, leaves, Val, vptr, SProp, ent, emp, id⊢, ftrue, flft, full_share, ‵, raw, ◌⊛◌, at_ret, ◌$◌, ◌∵◌, !, qed, by, move, keep, split, fsplit, fsplit3, fjoin, fpack, use0, use1, use2, rewrite, suffices, stop, fld, addr, of_opd, no_more, and_then, first, blocks, exec, returns, enter, alloc_all, pass_all, free_all, look_at, get, get_in, through, sets, env, agg, sub, whole, fact, fact_i, tables, no, RattleType, owns, types_at, plain, block_ptr, nothing, heard, Stays, stay_dropped, walk_of, Goes-dropped}
use mir.Syntax.{a_type, dcons, dnil}
use mir.MapTy.{inst_fn}
use prog.Wp.{WpFn}
use denote.Param.{param, bounded, layout}
use Rattle.core.proofs.alloc.Shapes.{after}
use Rattle.seize_store.proofs.Fields.{single, single_good}
use base.Fml.{froom}
use borrow.Table.OneValue.{part_in}
use denote.Memory.{part_at}
use denote.Param.Laws.{param_laws}
use denote.RawPtr.{Ptr}
use Rattle.seize_table.specs.Pairs.{left_of}
use Rattle.seize_store.specs.Chunk.{labelled}
use types.Run.{init, assigns_last}
use Rattle.core.proofs.cell.Inside.{one}
use Rattle.seize_store.specs.Body.{owner_at}
use Rattle.seize_store.specs.contracts.block.Shell as shell
use Rattle.seize_store.specs.contracts.block.Out as room
use Rattle.seize_store.proofs.Fields.{shell_out, room_in}
use Rattle.seize_store.specs.contracts.block.Shell.with.{ended, clauses}
use Rattle.seize_store.specs.contracts.block.Shell.with.Key.{name as #self}
use Rattle.seize_store.proofs.block.Shell.with.Statement.{statement}
use Rattle.seize_store.proofs.block.Shell.with.Code as code

pub with_spec : {M : Type 1} → statement M
with_spec 𝓤 𝓛 𝓜 𝓡 wired Y W Z LY LW LZ gp dp met =
    let H = 𝓛.H in let 𝓣 = tables 𝓤 H 𝓜 𝓡 𝓡.env in let X : RattleType = param 0 Y in let U : RattleType = param 1 W in let R : RattleType = param 2 Z in let En = ended Y W Z gp dp in let inst = bounded (a_type ∷ a_type ∷ a_type ∷ []) (Y, (W, (Z, tt))) (dcons dp dnil) in let fn = inst_fn inst code.function in
    let Row : RattleType = shell.the_row X U R gp in let C : RattleType = room.the_row X U R gp in let c = clauses Y W Z gp dp 𝓛 𝓜.mem 𝓡.returns in let T = layout W in
    let hs : Stays En.signature.params En.kept = (stay_dropped (plain (λ _. Row)) no, (stay_dropped (plain (λ _. U)) no, tt)) in
    proved_at 𝓛 En hs c 𝓜 𝓡 (Goes-dropped 𝓛 3 (plain (λ _. Row)) no (λ κs x f. refl), (Goes-dropped 𝓛 3 (plain (λ _. U)) no (λ κs x f. refl), tt)) (#self inst) fn (code.unfolded 𝓤 H 𝓜 𝓡 wired (Y, (W, (Z, tt))) dp) (λ z are.
    let κs = z.0.0 in let qs = z.0.1 in let d = z.0.3.0 in let u : W.Denot = z.0.3.1.0 in let Post : Val → SProp 𝓤 = (walk_of 𝓛 En hs c).post z in let Run : List Val → SProp 𝓤 = λ ws. WpFn 𝓤 H 𝓣.C 𝓣.Λ fn ws Post in
    let toks = ‵ (flft κs.0 qs.0) ⊛ ‵ (flft κs.1.0 qs.1.0) ⊛ ‵ (flft κs.1.1.0 qs.1.1.0) ⊛ ‵ ftrue in let got = one T z.0.4.1.0 (((param_laws 1 W LW).lawful 𝓛).typed u z.0.4.1.0 are.1.0) in let v : Val = got.0 in
    let Asked : Type 0 = gp.label u ≡ left_of d.tag in
    qed 𝓛 ((toks ⊛ ‵ (owns (types_at En.signature.params κs) z.0.3 z.0.4)) ∷ raw (fact 𝓤 _) ∷ raw (fact 𝓤 _) ∷ raw (fact 𝓤 _) ∷ raw (fact 𝓤 Asked) ∷ []) ∵ move ! (4 ∷ []) $ heard ! Asked (λ asked. keep ! (0 ∷ []) $ split ! $ move ! (1 ∷ []) $ fsplit ! $ shell_out X U R gp ! d z.0.4.0 (λ b o t e ws. move ! (2 ∷ []) $ fsplit ! $
    rewrite ! 0 (λ (vs : List Val). ‵ (U.own_val u vs)) got.1 refl $ move ! (2 ∷ []) $ fsplit ! $ fsplit3 ! $ move ! (1 ∷ []) $ let at : ℕ = owner_at X U R o in use1 𝓛 (‵ (froom T b at)) (𝓛.laws.raw-room T b at) $
    -- [the part's room; the right's name; the room with the rest; the invariant; the part; nothing; the ticket; the tokens]
    let w : Val = single (vptr b o) in let Vs : List Val = w ∷ v ∷ [] in
    suffices ! (Run Vs) (subst (λ (us : List Val). ent 𝓤 (Run Vs) (Run us)) (sym (λ i. ws i ++ (got.1 i ++ []))) (id⊢ 𝓤 (Run Vs))) $
    enter ! 𝓣.C 𝓣.Λ fn Vs Post $ alloc_all ! (λ l. pass_all ! refl (single_good b o, (got.2, tt)) $ let Ev = env fn.locals l in
    sets ! (of_opd ! (get_in ! (fld ! refl (stop !)) (sub ! 0 refl (whole !)))) refl (tt, tt) $ first ! $ blocks ! $ sets ! (addr ! (through ! refl (fld ! refl (stop !)))) refl (tt, tt) $ sets ! (of_opd ! (get ! refl)) refl got.2 $
    assigns_last ! (of_opd ! (get ! refl)) (through ! refl (stop !)) (init ! 0 refl got.2) $ exec ! 𝓣.C 𝓣.Λ Ev (after 2 fn.body) (at_ret Ev Post) $
    sets ! (agg ! (and_then ! (get ! refl) (no_more !))) refl (single_good b o) $
    move ! (0 ∷ 4 ∷ []) $ use2 𝓛 (‵ (part_at U full_share u b at)) (part_in 𝓛 U refl full_share u b at v) $ move ! (0 ∷ 5 ∷ []) $ fjoin ! $
    nothing ! $ fpack ! Asked (λ _. ftrue) asked $ fjoin ! $ fpack ! U.Denot (labelled X U R b o gp.label d.tag) u $
    -- [the owner's part; the right's name; the room with the rest; the invariant; nothing; the tokens]
    move ! (0 ∷ 2 ∷ []) $ fjoin ! $ move ! (1 ∷ 0 ∷ []) $ fjoin ! $ move ! (0 ∷ 1 ∷ []) $ fjoin ! $ room_in X U R gp ! b o d.tag t $
    let r : C.Denot = record { at = block_ptr b o; tag = d.tag } in let Told : Type 0 = (block_ptr b o, d.tag) ≡ (d.at, d.tag) in
    use0 𝓛 (raw (fact 𝓤 Told)) (fact_i 𝓤 Told (emp 𝓤) (ap (λ (q : Ptr). (q, d.tag)) (sym e))) $ nothing ! $ nothing ! $ fjoin ! $ nothing ! $ fjoin ! $
    returns ! (look_at ! 0 refl) $ free_all ! refl $ keep ! (4 ∷ 0 ∷ 2 ∷ 1 ∷ []) $ by ! (leaves 𝓛 En hs c z w r (tt, (tt, tt)) (tt, (tt, tt)))))))
