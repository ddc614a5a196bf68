-- `is_in` loads the word.
use Rattle.seize_store.proofs.Kit.{◌≡◌, ℕ, ◌+◌, List, [], ◌∷◌, refl, sym, ap, ◌∙◌, lit<, proved, leaves, fm, found, finds, seq_cst, loads, Val, vptr, SProp, never, via, id⊢, Lft, Share, Fml, ftrue, fsep, flft, finv, ‵, raw, ◌⊛◌, mean, at_ret, ◌$◌, ◌∵◌, !, qed, by, move, keep, drop, split, join, fsplit, fjoin, use1, use2, rewrite, feq_i, stop, fld, addr, lit, load, of_opd, no_more, and_then, first, blocks, exec, Calls-last, returns, enter, alloc_all, pass_all, free_all, look_at, get, through, sets, lands_last, env, agg, sub, whole, tables, yes, RattleType, owns, types_at, plain, RefOf, shr_vals, shr_Tells, block_ptr, unhide, nothing, Stays, stay_dropped, walk_of, Goes-dropped}
use mir.Syntax.{a_type, dcons, dnil, named}
use mir.MapTy.{inst_fn}
use mir.Val.{vbool}
use Rattle.std.proofs.Common.{Bool}
use lib.Dec.{eqb}
use base.Fml.{fhide}
use base.Share
use types.Run.{bin}
use types.Part.{look_in}
use types.Tokens.{shr_bor-open, obor_close}
use types.Within.{tokens_halve}
use denote.Laws.{Is, shows}
use denote.Memory.{cell_at, hidden_shr}
use denote.Param.{param, bounded}
use denote.RawPtr.{Ptr, ptr_val, in_a_block}
use denote.Steps.{peeks, looks, shuts}
use denote.Struct.Lending.{lent_out}
use Rattle.core.proofs.alloc.Shapes.{after}
use Rattle.seize_store.specs.Chunk.{chunk_shares, Inv}
use Rattle.seize_store.specs.contracts.chunk.Chunk as chunk
use Rattle.seize_store.proofs.Steps as steps
use Rattle.seize_store.proofs.Fields.{single, Data, told, opened}
use Rattle.seize_store.specs.contracts.chunk.Chunk.is_in.{ended, clauses}
use Rattle.seize_store.specs.contracts.chunk.Chunk.is_in.Key.{name as #self}
use Rattle.seize_store.proofs.chunk.Chunk.is_in.Statement.{statement}
use Rattle.seize_store.proofs.chunk.Chunk.is_in.Code as code

pub is_in_spec : {M : Type 1} → statement M
is_in_spec 𝓤 𝓛 𝓜 𝓡 wired Y W Z LY LW LZ gp dp met =
    let H = 𝓛.H in let 𝓣 = tables 𝓤 H 𝓜 𝓡 𝓡.env in let X : RattleType = param 0 Y in let U : RattleType = param 1 W in let R : RattleType = param 2 Z in let En = ended Y W Z gp dp in let inst = bounded (a_type ∷ a_type ∷ a_type ∷ []) (Y, (W, (Z, tt))) (dcons dp dnil) in let fn = inst_fn inst code.function in
    let Row : RattleType = chunk.the_row X U R gp in let D : RattleType = Data X U R gp in let c = clauses Y W Z gp dp 𝓛 𝓜.mem 𝓡.returns in
    let self = RefOf (0 ∷ []) tt (plain (λ _. Row)) (λ _. tt) in let hs : Stays En.signature.params En.kept = (stay_dropped self yes, tt) in
    proved 𝓛 En hs c 𝓜 𝓡 (Goes-dropped 𝓛 4 self yes (λ κs x f. refl), tt) (#self inst) fn (code.unfolded 𝓤 H 𝓜 𝓡 wired (Y, (W, (Z, tt))) dp)
    (λ κs. (shr_vals, tt)) (λ κs. (shr_Tells (named 0) κs.0 Row, tt)) (λ κs qs bounds a gh are.
    let rb : ℕ = a.0.ref_ptr.0 in let ro : ℕ = a.0.ref_ptr.1 in let κ : Lft = κs.0 in let q : Share = qs.0 in let d : Row.Denot = a.0.now in let p : Ptr = d.at in let x : Y.Denot = d.header in let others : Fml = fsep (flft κs.1.0 qs.1.0) (fsep (flft κs.1.1.0 qs.1.1.0) (fsep (flft κs.1.1.1.0 qs.1.1.1.0) ftrue)) in
    let y : (walk_of 𝓛 En hs c).Ghost = ((κs, qs, bounds, a, (vptr rb ro ∷ [], tt)), gh) in let Post : Val → SProp 𝓤 = (walk_of 𝓛 En hs c).post y in
    qed 𝓛 (((‵ (flft κ q) ⊛ ‵ others) ⊛ ‵ (owns (types_at En.signature.params κs) a y.0.4)) ∷ raw ((c κs a).requires gh) ∷ []) ∵
    split ! $ split ! $ move ! (2 ∷ []) $ fsplit ! $ fsplit ! $ keep ! (1 ∷ 3 ∷ 4 ∷ []) $
    enter ! 𝓣.C 𝓣.Λ fn (vptr rb ro ∷ []) Post $ alloc_all ! (λ l. pass_all ! refl ((tt, tt), tt) $ let Ev = env fn.locals l in
    use1 𝓛 (‵ (hidden_shr D κ (p, tt) rb ro) ⊛ ‵ (fhide (chunk_shares X U R gp.label d.tag d.life d.out d.home p x κ))) (lent_out 𝓛 (chunk.struct X U R gp) (chunk.the_codes Y.Denot W.Denot Z.Denot X.coded U.coded R.coded) (chunk.the_heap X U R gp) (chunk.the_lent X U R gp) κ d rb ro) $
    split ! $ move ! (1 ∷ []) $ unhide ! $ in_a_block ! p (λ s. chunk_shares X U R gp.label d.tag d.life d.out d.home s x κ) (id⊢ 𝓤 (never 𝓤)) (λ b o e. fsplit ! $ drop ! $ fsplit ! $
    -- [the share of the token; the invariant; the fields; κ's token; others]
    move ! (3 ∷ []) $ use1 𝓛 (‵ (flft κ (Share.left q)) ⊛ ‵ (flft κ (Share.right q))) (𝓛.lfts.lft_split κ q) $ split ! $
    move ! (2 ∷ 0 ∷ []) $ shr_bor-open ! tt (tokens_halve 𝓛 (d.life ∷ [])) (λ s. let I : Fml = Inv X U R b o gp.label d.tag d.life d.out d.home in
    move ! (3 ∷ []) $ use1 𝓛 (‵ (finv I) ⊛ ‵ (finv I)) (𝓛.invs.inv_dup I) $ split ! $
    -- [the invariant, twice; the open share; its token; κ's half; the fields; others]
    move ! (5 ∷ 4 ∷ []) $ looks ! tt D (opened X U R gp 𝓛) (p, tt) rb ro (λ q' vs. move ! (1 ∷ []) $ peeks ! D (Is D) (shows 𝓛 D) (p, tt) vs (λ so.
    let ev : vs ≡ single (vptr b o) ∷ [] = told X U R gp p vs so ∙ ap (λ (r : Ptr). single (ptr_val r) ∷ []) e in
    rewrite ! 1 (λ (ws : List Val). ‵ (cell_at q' D.mir ws rb ro)) ev refl $
    sets ! (of_opd ! (load ! (through ! refl (fld ! refl (stop !))) (look_in ! 1 (sub ! 0 refl (whole !))))) refl (tt, tt) $
    rewrite ! 1 (λ (ws : List Val). ‵ (cell_at q' D.mir ws rb ro)) (sym ev) refl $ move ! (1 ∷ 0 ∷ 2 ∷ []) $ shuts ! tt D q' (p, tt) vs rb ro $
    -- [κ's half; the fields; the invariant, twice; the open share; its token; others]
    first ! $ blocks ! $ sets ! (addr ! (through ! refl (fld ! refl (stop !)))) refl (tt, tt) $
    let out : ℕ → Fml = steps.after_look 𝓛 X U R b o gp.label d.tag d.life d.out d.home s in
    move ! (2 ∷ 5 ∷ []) $ use2 𝓛 (raw (𝓣.C _ (vptr b (o + 0) ∷ seq_cst ∷ []) (λ u. mean 𝓛 (found out u))))
    (via 𝓤 _ (steps.looks 𝓛 X U R b o gp.label d.tag d.life d.out d.home s) (loads 𝓛 𝓜 𝓡 (code.calls-core::raw_atomic::load 𝓡.env wired) (block_ptr b (o + 0)) out)) $
    sets ! (agg ! (and_then ! (lit ! tt) (no_more !))) refl (tt, (record { fits = lit< tt }, tt)) $
    Calls-last ! (fm 𝓛 𝓜 𝓡) (found out) (and_then ! (get ! refl) (and_then ! (get ! refl) (no_more !))) (λ u. finds ! out (λ n fits. lands_last ! refl (tt, record { fits = fits }) $ exec ! 𝓣.C 𝓣.Λ Ev (after 2 fn.body) (at_ret Ev Post) $
    move ! (4 ∷ 0 ∷ []) $ obor_close ! tt $ drop ! $ use2 𝓛 (‵ (flft κ q)) (𝓛.lfts.lft_join κ q) $ move ! (0 ∷ 3 ∷ []) $ join ! $
    -- [the tokens; the fields; the invariant]
    let r : Bool = eqb n 0 in sets ! (of_opd ! (get ! refl)) refl (tt, record { fits = fits }) $ sets ! (bin ! (get ! refl) (lit ! tt) tt) refl (tt, tt) $
    feq_i ! (List Val) (vbool r ∷ []) (vbool r ∷ []) refl $ nothing ! $ nothing ! $ nothing ! $ fjoin ! $
    returns ! (look_at ! 0 refl) $ free_all ! refl $ keep ! (3 ∷ 0 ∷ 2 ∷ 1 ∷ []) $ by ! (leaves 𝓛 En hs c y (vbool r) r (tt, tt) (tt, tt))))))))))
