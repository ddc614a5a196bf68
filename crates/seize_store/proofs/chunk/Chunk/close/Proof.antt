-- `close` takes the header out, ends the chunk's lifetime, and takes the memory in one step, if the room is in.
use Rattle.seize_store.proofs.Kit.{◌≡◌, ℕ, ◌+◌, List, [], ◌∷◌, ◌++◌, refl, sym, subst, lit<, w64, proved_at, leaves, fm, found, finds, seq_cst, swaps, Val, vint, vptr, vcons, vnil, SProp, ent, emp, via, id⊢, Fml, ftrue, flft, full_share, ‵, raw, ◌⊛◌, some, given, later, mean, at_ret, ◌$◌, ◌∵◌, !, qed, by, move, keep, split, fsplit, fjoin, pick, use0, use1, use2, await, rewrite, suffices, stop, fld, addr, lit, load, of_opd, no_more, and_then, first, blocks, exec, Calls-last, returns, enter, alloc_all, pass_all, free_all, look_at, get, get_in, through, sets, lands_last, env, agg, sub, whole, fact, fact_i, tables, no, RattleType, owns, types_at, plain, block_ptr, nothing, Stays, stay_dropped, walk_of, Goes-dropped}
use mir.Syntax.{a_type, dcons, dnil}
use mir.MapTy.{inst_fn}
use lib.Dec.{eqb→eq}
use prog.Wp.{WpFn}
use types.Run.{bin, branches}
use types.ByLocal.{sets_last}
use types.Match.{live}
use denote.Param.{param, bounded, layout}
use Rattle.core.proofs.alloc.Shapes.{after}
use Rattle.core.proofs.cell.Inside.{Good}
use Rattle.seize_store.specs.Body.{header_at}
use Rattle.seize_store.specs.contracts.chunk.Chunk as chunk
use Rattle.seize_store.proofs.Steps as steps
use Rattle.seize_store.proofs.Fields.{single, single_good}
use Rattle.core.specs.declared.option.Option.TheVariants.{None, Some}
use Rattle.core.specs.contracts.option.Option.{the_row as OptionOf}
use Rattle.core.proofs.option.Made.{Some-of, none_of}
use base.Fml.{froom, fat}
use borrow.Table.OneValue.{part_out}
use denote.Struct.Tuple.{Tuple}
use types.Kit.{learn}
use types.Run.{look}
use Rattle.std_alloc.proofs.Pairs.{pair_val, pair_Typed, pair_of}
use Rattle.seize_store.specs.Body.{header_room}
use Rattle.seize_store.specs.Chunk.{legacy, remains}
use Rattle.seize_store.proofs.Memory as memory
use Rattle.seize_store.proofs.Fields.{chunk_out}
use Rattle.seize_store.proofs.Pieces.{Remains, remains_in}
use Rattle.seize_store.specs.contracts.chunk.Chunk.close.{ended, clauses}
use Rattle.seize_store.specs.contracts.chunk.Chunk.close.Key.{name as #self}
use Rattle.seize_store.proofs.chunk.Chunk.close.Statement.{statement}
use Rattle.seize_store.proofs.chunk.Chunk.close.Code as code

pub close_spec : {M : Type 1} → statement M
close_spec 𝓤 𝓛 𝓜 𝓡 wired Y W Z LY LW LZ gp dp met =
    let H = 𝓛.H in let 𝓣 = tables 𝓤 H 𝓜 𝓡 𝓡.env in let X : RattleType = param 0 Y in let U : RattleType = param 1 W in let R : RattleType = param 2 Z in let En = ended Y W Z gp dp in let inst = bounded (a_type ∷ a_type ∷ a_type ∷ []) (Y, (W, (Z, tt))) (dcons dp dnil) in let fn = inst_fn inst code.function in
    let Row : RattleType = chunk.the_row X U R gp in let C : RattleType = Remains X U R in let c = clauses Y W Z gp dp 𝓛 𝓜.mem 𝓡.returns in let Opt : RattleType = OptionOf C in let Two : RattleType = Tuple (X ∷ Opt ∷ []) in
    let hs : Stays En.signature.params En.kept = (stay_dropped (plain (λ _. Row)) no, tt) in
    proved_at 𝓛 En hs c 𝓜 𝓡 (Goes-dropped 𝓛 3 (plain (λ _. Row)) no (λ κs x f. refl), tt) (#self inst) fn (code.unfolded 𝓤 H 𝓜 𝓡 wired (Y, (W, (Z, tt))) dp) (λ z are.
    let κs = z.0.0 in let qs = z.0.1 in let d = z.0.3.0 in let x : Y.Denot = d.header in let Post : Val → SProp 𝓤 = (walk_of 𝓛 En hs c).post z in let Run : List Val → SProp 𝓤 = λ ws. WpFn 𝓤 H 𝓣.C 𝓣.Λ fn ws Post in
    let toks = ‵ (flft κs.0 qs.0) ⊛ ‵ (flft κs.1.0 qs.1.0) ⊛ ‵ (flft κs.1.1.0 qs.1.1.0) ⊛ ‵ ftrue in
    qed 𝓛 ((toks ⊛ ‵ (owns (types_at En.signature.params κs) z.0.3 z.0.4)) ∷ raw ((c κs z.0.3).requires z.1) ∷ []) ∵ split ! $ move ! (1 ∷ []) $ fsplit ! $ chunk_out X U R gp ! d z.0.4.0 (λ b o e ws. fsplit ! $ let at : ℕ = header_at X U R o in let T = layout Y in
    use1 𝓛 (some (λ (u : Val). ‵ (fat full_share T b at u) ⊛ ‵ (X.own_val x (u ∷ [])))) (part_out 𝓛 X refl full_share x b at) $ pick ! (λ v. split ! $ use1 𝓛 (given (Good T v) (‵ (fat full_share T b at v))) (𝓛.laws.at_wt full_share T b at v) $ learn ! (λ fv. move ! (2 ∷ []) $ fsplit ! $
    -- [the store's side; the invariant; the header's cell; the header; the handle; nothing; the tokens; a fact]
    let a = d.life in let δ = d.out in let η = d.home in let w : Val = single (vptr b o) in let out : ℕ → Fml = steps.after_close 𝓛 X U R b o gp.label d.tag a δ η in let going : Fml = legacy X U R b o gp.label d.tag a δ η in
    suffices ! (Run (w ∷ [])) (subst (λ (us : List Val). ent 𝓤 (Run (w ∷ [])) (Run us)) (sym (λ i. ws i ++ [])) (id⊢ 𝓤 (Run (w ∷ [])))) $
    enter ! 𝓣.C 𝓣.Λ fn (w ∷ []) Post $ alloc_all ! (λ l. pass_all ! refl (single_good b o, tt) $ let Ev = env fn.locals l in
    sets ! (of_opd ! (get_in ! (fld ! refl (stop !)) (sub ! 0 refl (whole !)))) refl (tt, tt) $ first ! $ blocks ! $ sets ! (addr ! (through ! refl (fld ! refl (stop !)))) refl (tt, tt) $
    sets_last ! (of_opd ! (load ! (through ! refl (stop !)) (look ! 2 refl))) refl fv $ exec ! 𝓣.C 𝓣.Λ Ev (after 2 fn.body) (at_ret Ev Post) $ sets ! (of_opd ! (get ! refl)) refl fv $
    move ! (2 ∷ []) $ use1 𝓛 (‵ (froom T b at)) (𝓛.laws.at_room T b at v) $ use1 𝓛 (‵ (header_room X U R b o)) (𝓛.laws.room-raw T b at) $ move ! (1 ∷ 0 ∷ []) $
    use2 𝓛 (later (‵ going)) (steps.ends 𝓛 X U R b o gp.label d.tag a δ η) $ await ! tt $ first ! $ blocks ! $ sets ! (addr ! (through ! refl (fld ! refl (stop !)))) refl (tt, tt) $
    move ! (1 ∷ 0 ∷ []) $ use2 𝓛 (raw (𝓣.C _ (vptr b (o + 0) ∷ vint w64 2 ∷ seq_cst ∷ []) (λ u. mean 𝓛 (found out u))))
    (via 𝓤 _ (steps.closes 𝓛 X U R b o gp.label d.tag a δ η) (swaps 𝓛 𝓜 𝓡 (code.calls-core::raw_atomic::swap 𝓡.env wired) (block_ptr b (o + 0)) 2 (lit< tt) out)) $
    sets ! (agg ! (and_then ! (lit ! tt) (no_more !))) refl (tt, (record { fits = lit< tt }, tt)) $
    Calls-last ! (fm 𝓛 𝓜 𝓡) (found out) (and_then ! (get ! refl) (and_then ! (lit ! tt) (and_then ! (get ! refl) (no_more !)))) (λ u. finds ! out (λ n fits. lands_last ! refl (tt, record { fits = fits }) $ exec ! 𝓣.C 𝓣.Λ Ev (after 4 fn.body) (at_ret Ev Post) $
    -- [what was gained; the header; the handle; nothing; the tokens; a fact]
    sets ! (of_opd ! (get ! refl)) refl (tt, record { fits = fits }) $ sets ! (bin ! (get ! refl) (lit ! tt) tt) refl (tt, tt) $ first ! $ branches ! (get ! refl)
    (λ hit. let r : C.Denot = record { at = block_ptr b o } in let k : Val = single (vptr b o) in let val : Val = live 1 (vcons k vnil) in
    let good : Good (layout Opt) val = (tt, (record { fits = lit< tt }, ((tt, tt), tt))) in let pair : Val = pair_val v val in let all = pair_Typed T (layout Opt) v val fv good in
    rewrite ! 0 (λ (m : ℕ). ‵ (steps.after_close 𝓛 X U R b o gp.label d.tag a δ η m)) (eqb→eq n 0 hit) refl $ fsplit ! $
    use2 𝓛 (‵ (remains X U R b o)) (memory.gathers X U R 𝓛 b o gp.label d.tag 2) $ remains_in X U R ! b o $
    use1 𝓛 (‵ (Opt.own_val (Some r) (val ∷ []))) (Some-of 𝓛 C r k) $ move ! (1 ∷ 0 ∷ []) $ use2 𝓛 (‵ (Two.own_val (x, Some r) (pair ∷ []))) (pair_of 𝓛 X Opt x (Some r) v val) $
    sets ! (of_opd ! (get ! refl)) refl fv $ sets ! (of_opd ! (get ! refl)) refl (tt, tt) $ sets ! (agg ! (and_then ! (get ! refl) (no_more !))) refl (single_good b o) $
    sets ! (agg ! (and_then ! (lit ! tt) (and_then ! (get ! refl) (no_more !)))) refl good $ sets_last ! (agg ! (and_then ! (get ! refl) (and_then ! (get ! refl) (no_more !)))) refl all $
    exec ! 𝓣.C 𝓣.Λ Ev (after 7 fn.body) (at_ret Ev Post) $ sets ! (of_opd ! (get ! refl)) refl all $
    use0 𝓛 (raw (fact 𝓤 (x ≡ x))) (fact_i 𝓤 (x ≡ x) (emp 𝓤) refl) $ nothing ! $ nothing ! $ fjoin ! $
    returns ! (look_at ! 0 refl) $ free_all ! refl $ keep ! (4 ∷ 0 ∷ 2 ∷ 1 ∷ []) $ by ! (leaves 𝓛 En hs c z pair (x, Some r) (tt, tt) (tt, tt)))
    (λ miss. let val : Val = live 0 vnil in let good : Good (layout Opt) val = (tt, (record { fits = lit< tt }, tt)) in let pair : Val = pair_val v val in let all = pair_Typed T (layout Opt) v val fv good in
    use0 𝓛 (‵ (Opt.own_val None (val ∷ []))) (none_of 𝓛 C) $ move ! (2 ∷ 0 ∷ []) $ use2 𝓛 (‵ (Two.own_val (x, None) (pair ∷ []))) (pair_of 𝓛 X Opt x None v val) $
    sets ! (of_opd ! (get ! refl)) refl fv $ sets ! (agg ! (and_then ! (lit ! tt) (no_more !))) refl good $ sets_last ! (agg ! (and_then ! (get ! refl) (and_then ! (get ! refl) (no_more !)))) refl all $
    exec ! 𝓣.C 𝓣.Λ Ev (after 7 fn.body) (at_ret Ev Post) $ sets ! (of_opd ! (get ! refl)) refl all $
    use0 𝓛 (raw (fact 𝓤 (x ≡ x))) (fact_i 𝓤 (x ≡ x) (emp 𝓤) refl) $ nothing ! $ nothing ! $ fjoin ! $
    returns ! (look_at ! 0 refl) $ free_all ! refl $ keep ! (5 ∷ 0 ∷ 2 ∷ 1 ∷ []) $ by ! (leaves 𝓛 En hs c z pair (x, None) (tt, tt) (tt, tt))))))))))
