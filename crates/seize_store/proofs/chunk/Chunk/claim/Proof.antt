-- `claim` takes the room in one step, if it is in.
use Rattle.seize_store.proofs.Kit.{◌≡◌, ℕ, ◌+◌, List, [], ◌∷◌, refl, sym, ap, ◌∙◌, lit<, w64, proved, leaves, fm, found, finds, seq_cst, swaps, Val, vint, vptr, vcons, vnil, SProp, emp, never, via, id⊢, Lft, Share, Fml, ftrue, fsep, flft, finv, ‵, raw, ◌⊛◌, mean, at_ret, ◌$◌, ◌∵◌, !, qed, by, move, keep, drop, split, join, fsplit, fjoin, use0, use1, use2, rewrite, stop, fld, addr, lit, load, of_opd, no_more, and_then, first, blocks, exec, Calls-last, returns, enter, alloc_all, pass_all, free_all, look_at, get, through, sets, lands_last, env, agg, sub, whole, fact, fact_i, tables, yes, RattleType, owns, types_at, plain, RefOf, shr_vals, shr_Tells, block_ptr, unhide, nothing, Stays, stay_dropped, walk_of, Goes-dropped}
use mir.Syntax.{a_type, dcons, dnil, named}
use mir.MapTy.{inst_fn}
use lib.Dec.{eqb→eq}
use base.Fml.{fhide}
use base.Share
use types.Run.{bin, branches}
use types.ByLocal.{sets_last}
use types.Match.{live}
use types.Part.{look_in}
use types.Tokens.{shr_bor-open, obor_close}
use types.Within.{tokens_halve}
use denote.Laws.{Is, shows}
use denote.Memory.{cell_at, hidden_shr}
use denote.Param.{param, bounded, layout}
use denote.RawPtr.{Ptr, ptr_val, in_a_block}
use denote.Steps.{peeks, looks, shuts}
use denote.Struct.Lending.{lent_out}
use Rattle.core.proofs.alloc.Shapes.{after}
use Rattle.core.proofs.cell.Inside.{Good}
use Rattle.seize_store.specs.Chunk.{chunk_shares, Inv}
use Rattle.seize_store.specs.contracts.chunk.Chunk as chunk
use Rattle.seize_store.specs.contracts.block.Out as room
use Rattle.seize_store.proofs.Steps as steps
use Rattle.core.specs.declared.option.Option.TheVariants.{None, Some}
use Rattle.core.specs.contracts.option.Option.{the_row as OptionOf}
use Rattle.core.proofs.option.Made.{Some-of, none_of}
use Rattle.seize_store.proofs.Fields.{single, single_good, Data, told, opened, room_in}
use Rattle.seize_store.specs.contracts.chunk.Chunk.claim.{ended, clauses}
use Rattle.seize_store.specs.contracts.chunk.Chunk.claim.Key.{name as #self}
use Rattle.seize_store.proofs.chunk.Chunk.claim.Statement.{statement}
use Rattle.seize_store.proofs.chunk.Chunk.claim.Code as code

pub claim_spec : {M : Type 1} → statement M
claim_spec 𝓤 𝓛 𝓜 𝓡 wired Y W Z LY LW LZ gp dp met =
    let H = 𝓛.H in let 𝓣 = tables 𝓤 H 𝓜 𝓡 𝓡.env in let X : RattleType = param 0 Y in let U : RattleType = param 1 W in let R : RattleType = param 2 Z in let En = ended Y W Z gp dp in let inst = bounded (a_type ∷ a_type ∷ a_type ∷ []) (Y, (W, (Z, tt))) (dcons dp dnil) in let fn = inst_fn inst code.function in
    let Row : RattleType = chunk.the_row X U R gp in let D : RattleType = Data X U R gp in let C : RattleType = room.the_row X U R gp in let c = clauses Y W Z gp dp 𝓛 𝓜.mem 𝓡.returns in
    let self = RefOf (0 ∷ []) tt (plain (λ _. Row)) (λ _. tt) in let hs : Stays En.signature.params En.kept = (stay_dropped self yes, tt) in
    proved 𝓛 En hs c 𝓜 𝓡 (Goes-dropped 𝓛 4 self yes (λ κs x f. refl), tt) (#self inst) fn (code.unfolded 𝓤 H 𝓜 𝓡 wired (Y, (W, (Z, tt))) dp)
    (λ κs. (shr_vals, tt)) (λ κs. (shr_Tells (named 0) κs.0 Row, tt)) (λ κs qs bounds a gh are.
    let rb : ℕ = a.0.ref_ptr.0 in let ro : ℕ = a.0.ref_ptr.1 in let κ : Lft = κs.0 in let q : Share = qs.0 in let d : Row.Denot = a.0.now in let p : Ptr = d.at in let x : Y.Denot = d.header in let others : Fml = fsep (flft κs.1.0 qs.1.0) (fsep (flft κs.1.1.0 qs.1.1.0) (fsep (flft κs.1.1.1.0 qs.1.1.1.0) ftrue)) in
    let y : (walk_of 𝓛 En hs c).Ghost = ((κs, qs, bounds, a, (vptr rb ro ∷ [], tt)), gh) in let Post : Val → SProp 𝓤 = (walk_of 𝓛 En hs c).post y in
    qed 𝓛 (((‵ (flft κ q) ⊛ ‵ others) ⊛ ‵ (owns (types_at En.signature.params κs) a y.0.4)) ∷ raw ((c κs a).requires gh) ∷ []) ∵
    split ! $ split ! $ move ! (2 ∷ []) $ fsplit ! $ fsplit ! $ keep ! (1 ∷ 3 ∷ 4 ∷ []) $
    enter ! 𝓣.C 𝓣.Λ fn (vptr rb ro ∷ []) Post $ alloc_all ! (λ l. pass_all ! refl ((tt, tt), tt) $ let Ev = env fn.locals l in
    use1 𝓛 (‵ (hidden_shr D κ (p, tt) rb ro) ⊛ ‵ (fhide (chunk_shares X U R gp.label d.tag d.life d.out d.home p x κ))) (lent_out 𝓛 (chunk.struct X U R gp) (chunk.the_codes Y.Denot W.Denot Z.Denot X.coded U.coded R.coded) (chunk.the_heap X U R gp) (chunk.the_lent X U R gp) κ d rb ro) $
    split ! $ move ! (1 ∷ []) $ unhide ! $ in_a_block ! p (λ s. chunk_shares X U R gp.label d.tag d.life d.out d.home s x κ) (id⊢ 𝓤 (never 𝓤)) (λ b o e. fsplit ! $ drop ! $ fsplit ! $
    -- [the share of the token; the invariant; the fields; κ's token; others]
    move ! (3 ∷ []) $ use1 𝓛 (‵ (flft κ (Share.left q)) ⊛ ‵ (flft κ (Share.right q))) (𝓛.lfts.lft_split κ q) $ split ! $
    move ! (2 ∷ 0 ∷ []) $ shr_bor-open ! tt (tokens_halve 𝓛 (d.life ∷ [])) (λ s. let I : Fml = Inv X U R b o gp.label d.tag d.life d.out d.home in
    move ! (3 ∷ []) $ use1 𝓛 (‵ (finv I) ⊛ ‵ (finv I)) (𝓛.invs.inv_dup I) $ split ! $
    -- [the invariant, twice; the open share; its token; κ's half; the fields; others]
    move ! (5 ∷ 4 ∷ []) $ looks ! tt D (opened X U R gp 𝓛) (p, tt) rb ro (λ q' vs. move ! (1 ∷ []) $ peeks ! D (Is D) (shows 𝓛 D) (p, tt) vs (λ so.
    let ev : vs ≡ single (vptr b o) ∷ [] = told X U R gp p vs so ∙ ap (λ (r : Ptr). single (ptr_val r) ∷ []) e in
    rewrite ! 1 (λ (ws : List Val). ‵ (cell_at q' D.mir ws rb ro)) ev refl $
    sets ! (of_opd ! (load ! (through ! refl (fld ! refl (stop !))) (look_in ! 1 (sub ! 0 refl (whole !))))) refl (tt, tt) $
    rewrite ! 1 (λ (ws : List Val). ‵ (cell_at q' D.mir ws rb ro)) (sym ev) refl $ move ! (1 ∷ 0 ∷ 2 ∷ []) $ shuts ! tt D q' (p, tt) vs rb ro $
    -- [κ's half; the fields; the invariant, twice; the open share; its token; others]
    first ! $ blocks ! $ sets ! (addr ! (through ! refl (fld ! refl (stop !)))) refl (tt, tt) $
    let out : ℕ → Fml = steps.after_claim 𝓛 X U R b o gp.label d.tag d.life d.out d.home s in
    move ! (2 ∷ 5 ∷ []) $ use2 𝓛 (raw (𝓣.C _ (vptr b (o + 0) ∷ vint w64 1 ∷ seq_cst ∷ []) (λ u. mean 𝓛 (found out u))))
    (via 𝓤 _ (steps.claims 𝓛 X U R b o gp.label d.tag d.life d.out d.home s) (swaps 𝓛 𝓜 𝓡 (code.calls-core::raw_atomic::swap 𝓡.env wired) (block_ptr b (o + 0)) 1 (lit< tt) out)) $
    sets ! (agg ! (and_then ! (lit ! tt) (no_more !))) refl (tt, (record { fits = lit< tt }, tt)) $
    Calls-last ! (fm 𝓛 𝓜 𝓡) (found out) (and_then ! (get ! refl) (and_then ! (lit ! tt) (and_then ! (get ! refl) (no_more !)))) (λ u. finds ! out (λ n fits. lands_last ! refl (tt, record { fits = fits }) $ exec ! 𝓣.C 𝓣.Λ Ev (after 2 fn.body) (at_ret Ev Post) $
    fsplit ! $ move ! (5 ∷ 0 ∷ []) $ obor_close ! tt $ drop ! $ move ! (0 ∷ 2 ∷ []) $ use2 𝓛 (‵ (flft κ q)) (𝓛.lfts.lft_join κ q) $ move ! (0 ∷ 4 ∷ []) $ join ! $
    -- [the tokens; what was gained; the fields; the invariant]
    sets ! (of_opd ! (get ! refl)) refl (tt, record { fits = fits }) $ sets ! (bin ! (get ! refl) (lit ! tt) tt) refl (tt, tt) $ first ! $ branches ! (get ! refl)
    (λ hit. let w : Val = single (vptr b o) in let val : Val = live 1 (vcons w vnil) in let good : Good (layout (OptionOf C)) val = (tt, (record { fits = lit< tt }, ((tt, tt), tt))) in let r : C.Denot = record { at = block_ptr b o; tag = d.tag } in
    move ! (1 ∷ []) $ rewrite ! 0 (λ (m : ℕ). ‵ (steps.gained 𝓛 X U R b o gp.label d.tag d.life d.out d.home s m)) (eqb→eq n 0 hit) refl $ move ! (0 ∷ 3 ∷ []) $ fjoin ! $ room_in X U R gp ! b o d.tag (d.life, (d.out, d.home)) $
    sets ! (of_opd ! (get ! refl)) refl (tt, tt) $ sets ! (agg ! (and_then ! (get ! refl) (no_more !))) refl (single_good b o) $
    sets_last ! (agg ! (and_then ! (lit ! tt) (and_then ! (get ! refl) (no_more !)))) refl good $ exec ! 𝓣.C 𝓣.Λ Ev (after 5 fn.body) (at_ret Ev Post) $ sets ! (of_opd ! (get ! refl)) refl good $
    use1 𝓛 (‵ ((OptionOf C).own_val (Some r) (val ∷ []))) (Some-of 𝓛 C r w) $ use0 𝓛 (raw (fact 𝓤 ((block_ptr b o, d.tag) ≡ (p, d.tag)))) (fact_i 𝓤 ((block_ptr b o, d.tag) ≡ (p, d.tag)) (emp 𝓤) (ap (λ (s : Ptr). (s, d.tag)) (sym e))) $ nothing ! $ nothing ! $ fjoin ! $
    returns ! (look_at ! 0 refl) $ free_all ! refl $ keep ! (3 ∷ 0 ∷ 2 ∷ 1 ∷ []) $ by ! (leaves 𝓛 En hs c y val (Some r) (tt, tt) (tt, tt)))
    (λ miss. let val : Val = live 0 vnil in sets_last ! (agg ! (and_then ! (lit ! tt) (no_more !))) refl (tt, (record { fits = lit< tt }, tt)) $ exec ! 𝓣.C 𝓣.Λ Ev (after 5 fn.body) (at_ret Ev Post) $ sets ! (of_opd ! (get ! refl)) refl (tt, (record { fits = lit< tt }, tt)) $
    use0 𝓛 (‵ ((OptionOf C).own_val None (val ∷ []))) (none_of 𝓛 C) $ use0 𝓛 (raw (fact 𝓤 (Unit {0}))) (fact_i 𝓤 (Unit {0}) (emp 𝓤) tt) $ nothing ! $ nothing ! $ fjoin ! $
    returns ! (look_at ! 0 refl) $ free_all ! refl $ keep ! (3 ∷ 0 ∷ 2 ∷ 1 ∷ []) $ by ! (leaves 𝓛 En hs c y val None (tt, tt) (tt, tt)))))))))))
