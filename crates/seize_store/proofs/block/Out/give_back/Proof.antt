-- `give_back` puts the room back in one step. Where the store is gone, the chunk's memory comes out.
use Rattle.seize_store.proofs.Kit.{ℕ, ◌+◌, List, [], ◌∷◌, ◌++◌, refl, sym, subst, lit<, w64, proved_at, leaves, fm, found, finds, seq_cst, swaps, Val, vint, vptr, vcons, vnil, SProp, ent, via, id⊢, Fml, ftrue, flft, ‵, raw, ◌⊛◌, mean, at_ret, ◌$◌, ◌∵◌, !, qed, by, move, keep, split, fsplit, fjoin, use0, use1, use2, rewrite, suffices, stop, fld, addr, lit, of_opd, no_more, and_then, first, blocks, exec, Calls-last, returns, enter, alloc_all, pass_all, free_all, look_at, get, get_in, through, sets, lands_last, env, agg, sub, whole, tables, no, RattleType, owns, types_at, plain, block_ptr, nothing, Stays, stay_dropped, walk_of, Goes-dropped}
use mir.Syntax.{a_type, dcons, dnil}
use mir.MapTy.{inst_fn}
use lib.Dec.{eqb→eq}
use prog.Wp.{WpFn}
use types.Run.{bin, branches}
use types.ByLocal.{sets_last}
use types.Match.{live}
use denote.Param.{param, bounded, layout}
use Rattle.core.proofs.alloc.Shapes.{after}
use Rattle.core.proofs.cell.Inside.{Good}
use Rattle.seize_store.proofs.Steps as steps
use Rattle.seize_store.proofs.Fields.{single, single_good}
use Rattle.core.specs.declared.option.Option.TheVariants.{None, Some}
use Rattle.core.specs.contracts.option.Option.{the_row as OptionOf}
use Rattle.core.proofs.option.Made.{Some-of, none_of}
use Rattle.seize_store.specs.Chunk.{remains}
use Rattle.seize_store.specs.contracts.block.Out as room
use Rattle.seize_store.proofs.Memory as memory
use Rattle.seize_store.proofs.Fields.{room_out}
use Rattle.seize_store.proofs.Pieces.{Remains, remains_in}
use Rattle.seize_store.specs.contracts.block.Out.give_back.{ended, clauses}
use Rattle.seize_store.specs.contracts.block.Out.give_back.Key.{name as #self}
use Rattle.seize_store.proofs.block.Out.give_back.Statement.{statement}
use Rattle.seize_store.proofs.block.Out.give_back.Code as code

pub give_back_spec : {M : Type 1} → statement M
give_back_spec 𝓤 𝓛 𝓜 𝓡 wired Y W Z LY LW LZ gp dp met =
    let H = 𝓛.H in let 𝓣 = tables 𝓤 H 𝓜 𝓡 𝓡.env in let X : RattleType = param 0 Y in let U : RattleType = param 1 W in let R : RattleType = param 2 Z in let En = ended Y W Z gp dp in let inst = bounded (a_type ∷ a_type ∷ a_type ∷ []) (Y, (W, (Z, tt))) (dcons dp dnil) in let fn = inst_fn inst code.function in
    let Row : RattleType = room.the_row X U R gp in let C : RattleType = Remains X U R in let c = clauses Y W Z gp dp 𝓛 𝓜.mem 𝓡.returns in
    let hs : Stays En.signature.params En.kept = (stay_dropped (plain (λ _. Row)) no, tt) in
    proved_at 𝓛 En hs c 𝓜 𝓡 (Goes-dropped 𝓛 3 (plain (λ _. Row)) no (λ κs x f. refl), tt) (#self inst) fn (code.unfolded 𝓤 H 𝓜 𝓡 wired (Y, (W, (Z, tt))) dp) (λ z are.
    let κs = z.0.0 in let qs = z.0.1 in let d = z.0.3.0 in let Post : Val → SProp 𝓤 = (walk_of 𝓛 En hs c).post z in let Run : List Val → SProp 𝓤 = λ ws. WpFn 𝓤 H 𝓣.C 𝓣.Λ fn ws Post in
    let toks = ‵ (flft κs.0 qs.0) ⊛ ‵ (flft κs.1.0 qs.1.0) ⊛ ‵ (flft κs.1.1.0 qs.1.1.0) ⊛ ‵ ftrue in
    qed 𝓛 ((toks ⊛ ‵ (owns (types_at En.signature.params κs) z.0.3 z.0.4)) ∷ raw ((c κs z.0.3).requires z.1) ∷ []) ∵ split ! $ move ! (1 ∷ []) $ fsplit ! $ room_out X U R gp ! d z.0.4.0 (λ b o t e ws. fsplit ! $
    -- [the right; the invariant; nothing; the tokens; a fact]
    let a = t.0 in let δ = t.1.0 in let η = t.1.1 in let w : Val = single (vptr b o) in let out : ℕ → Fml = steps.after_give 𝓛 X U R b o gp.label d.tag a δ η in
    suffices ! (Run (w ∷ [])) (subst (λ (us : List Val). ent 𝓤 (Run (w ∷ [])) (Run us)) (sym (λ i. ws i ++ [])) (id⊢ 𝓤 (Run (w ∷ [])))) $
    enter ! 𝓣.C 𝓣.Λ fn (w ∷ []) Post $ alloc_all ! (λ l. pass_all ! refl (single_good b o, tt) $ let Ev = env fn.locals l in
    sets ! (of_opd ! (get_in ! (fld ! refl (stop !)) (sub ! 0 refl (whole !)))) refl (tt, tt) $ first ! $ blocks ! $ sets ! (addr ! (through ! refl (fld ! refl (stop !)))) refl (tt, tt) $
    move ! (1 ∷ 0 ∷ []) $ use2 𝓛 (raw (𝓣.C _ (vptr b (o + 0) ∷ vint w64 0 ∷ seq_cst ∷ []) (λ u. mean 𝓛 (found out u))))
    (via 𝓤 _ (steps.gives 𝓛 X U R b o gp.label d.tag a δ η) (swaps 𝓛 𝓜 𝓡 (code.calls-core::raw_atomic::swap 𝓡.env wired) (block_ptr b (o + 0)) 0 (lit< tt) out)) $
    sets ! (agg ! (and_then ! (lit ! tt) (no_more !))) refl (tt, (record { fits = lit< tt }, tt)) $
    Calls-last ! (fm 𝓛 𝓜 𝓡) (found out) (and_then ! (get ! refl) (and_then ! (lit ! tt) (and_then ! (get ! refl) (no_more !)))) (λ u. finds ! out (λ n fits. lands_last ! refl (tt, record { fits = fits }) $ exec ! 𝓣.C 𝓣.Λ Ev (after 2 fn.body) (at_ret Ev Post) $
    -- [what was gained; nothing; the tokens; a fact]
    sets ! (of_opd ! (get ! refl)) refl (tt, record { fits = fits }) $ sets ! (bin ! (get ! refl) (lit ! tt) tt) refl (tt, tt) $ first ! $ branches ! (get ! refl)
    (λ hit. let v : Val = single (vptr b o) in let val : Val = live 1 (vcons v vnil) in let r : C.Denot = record { at = block_ptr b o } in
    let good : Good (layout (OptionOf C)) val = (tt, (record { fits = lit< tt }, ((tt, tt), tt))) in
    rewrite ! 0 (λ (m : ℕ). ‵ (steps.after_give 𝓛 X U R b o gp.label d.tag a δ η m)) (eqb→eq n 2 hit) refl $ fsplit ! $
    use2 𝓛 (‵ (remains X U R b o)) (memory.gathers X U R 𝓛 b o gp.label d.tag 0) $ remains_in X U R ! b o $
    sets ! (of_opd ! (get ! refl)) refl (tt, tt) $ sets ! (agg ! (and_then ! (get ! refl) (no_more !))) refl (single_good b o) $
    sets_last ! (agg ! (and_then ! (lit ! tt) (and_then ! (get ! refl) (no_more !)))) refl good $ exec ! 𝓣.C 𝓣.Λ Ev (after 5 fn.body) (at_ret Ev Post) $ sets ! (of_opd ! (get ! refl)) refl good $
    use1 𝓛 (‵ ((OptionOf C).own_val (Some r) (val ∷ []))) (Some-of 𝓛 C r v) $ nothing ! $ nothing ! $ nothing ! $ fjoin ! $
    returns ! (look_at ! 0 refl) $ free_all ! refl $ keep ! (4 ∷ 0 ∷ 2 ∷ 1 ∷ []) $ by ! (leaves 𝓛 En hs c z val (Some r) (tt, tt) (tt, tt)))
    (λ miss. let val : Val = live 0 vnil in sets_last ! (agg ! (and_then ! (lit ! tt) (no_more !))) refl (tt, (record { fits = lit< tt }, tt)) $ exec ! 𝓣.C 𝓣.Λ Ev (after 5 fn.body) (at_ret Ev Post) $ sets ! (of_opd ! (get ! refl)) refl (tt, (record { fits = lit< tt }, tt)) $
    use0 𝓛 (‵ ((OptionOf C).own_val None (val ∷ []))) (none_of 𝓛 C) $ nothing ! $ nothing ! $ nothing ! $ fjoin ! $
    returns ! (look_at ! 0 refl) $ free_all ! refl $ keep ! (5 ∷ 0 ∷ 2 ∷ 1 ∷ []) $ by ! (leaves 𝓛 En hs c z val None (tt, tt) (tt, tt))))))))
