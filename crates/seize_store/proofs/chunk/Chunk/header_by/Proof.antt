-- `header_by` shows the header for as long as the chunk is borrowed. It reads nothing of the handle: where the chunk lies follows from
-- where its row begins.
use Rattle.seize_store.proofs.Kit.{◌≡◌, ℕ, List, [], ◌∷◌, refl, sym, ap, ◌∙◌, proved, leaves, Val, vptr, SProp, emp, never, id⊢, Lft, Fml, ftrue, fsep, flft, ‵, raw, ◌⊛◌, at_ret, ◌$◌, ◌∵◌, !, qed, by, move, keep, split, join, fsplit, fjoin, use0, use1, rewrite, feq_i, stop, fld, addr, first, blocks, exec, returns, enter, alloc_all, pass_all, free_all, look_at, get, of_opd, through, sets, env, sub, whole, fact, fact_i, tables, yes, RattleType, owns, types_at, plain, RefOf, shr_vals, shr_Tells, unhide, nothing, Stays, stay_dropped, walk_of, Goes-dropped, tail}
use mir.Syntax.{a_type, dcons, dnil, named}
use mir.MapTy.{inst_fn}
use base.Fml.{fhide}
use types.ByLocal.{sets_last}
use types.Part.{look_in}
use denote.Laws.{Is, shows}
use denote.Memory.{cell_at, hidden_shr}
use denote.Opens.{hide}
use denote.Param.{param, bounded}
use denote.RawPtr.{Ptr, ptr_val, in_a_block}
use denote.Steps.{peeks, looks, shuts}
use denote.Struct.Lending.{lent_out}
use Rattle.seize_store.specs.Body.{header_at}
use Rattle.seize_store.specs.Chunk.{chunk_shares}
use Rattle.seize_store.specs.contracts.chunk.Chunk as chunk
use Rattle.seize_store.proofs.Fields.{single, Data}
use Rattle.seize_store.specs.contracts.chunk.Chunk.header_by.{ended, clauses}
use Rattle.seize_store.specs.contracts.chunk.Chunk.header_by.Key.{name as #self}
use Rattle.seize_store.proofs.chunk.Chunk.header_by.Statement.{statement}
use Rattle.seize_store.proofs.chunk.Chunk.header_by.Code as code
use Rattle.std.proofs.Common.{◌*◌, ◌^◌, ◌<◌, arith, w64, subst}
use mir.Val.{vint}
use types.Kit.{drop, fpick}
use types.Run.{bin, size_word}
use types.ByLocal.{is}
use denote.Builtin.{usize}
use denote.Plain.{uint_vals, uint_Tells}
use denote.Steps.{heard}
use Rattle.seize_store.specs.Body.{stride}
use Rattle.std.proofs.Common.{◌≤◌, length, mul-le-mul_right}
use types.Kit.{split3}
use denote.RawPtr.{block_ptr}
use types.Run.{load}
use Rattle.seize_store.specs.Row.{IsRow, at_entry, fact as row_fact}
use Rattle.seize_store.specs.contracts.chunk.Base as base_row
use Rattle.seize_store.proofs.Pieces.{Base, BaseData, base_told, base_opened, begins_at, uncapped}

pub header_by_spec : {M : Type 1} → statement M
header_by_spec 𝓤 𝓛 𝓜 𝓡 wired Y W Z LY LW LZ gp dp met =
    let H = 𝓛.H in let 𝓣 = tables 𝓤 H 𝓜 𝓡 𝓡.env in let X : RattleType = param 0 Y in let U : RattleType = param 1 W in let R : RattleType = param 2 Z in let En = ended Y W Z gp dp in let inst = bounded (a_type ∷ a_type ∷ a_type ∷ []) (Y, (W, (Z, tt))) (dcons dp dnil) in let fn = inst_fn inst code.function in
    let Row : RattleType = chunk.the_row X U R gp in let D : RattleType = Data X U R gp in let B : RattleType = Base X U R in let E : RattleType = BaseData X U R in let c = clauses Y W Z gp dp 𝓛 𝓜.mem 𝓡.returns in let s : ℕ = stride X U R in
    let self = RefOf (0 ∷ []) tt (plain (λ _. Row)) (λ _. tt) in let where' = RefOf (1 ∷ []) tt (plain (λ _. B)) (λ _. tt) in let hs : Stays En.signature.params En.kept = (stay_dropped self yes, (stay_dropped where' yes, (stay_dropped (plain (λ _. usize)) yes, tt))) in
    proved 𝓛 En hs c 𝓜 𝓡 (Goes-dropped 𝓛 5 self yes (λ κs x f. refl), (Goes-dropped 𝓛 5 where' yes (λ κs x f. refl), (Goes-dropped 𝓛 5 (plain (λ _. usize)) yes (λ κs x f. refl), tt))) (#self inst) fn (code.unfolded 𝓤 H 𝓜 𝓡 wired (Y, (W, (Z, tt))) dp)
    (λ κs. (shr_vals, (shr_vals, (uint_vals w64, tt)))) (λ κs. (shr_Tells (named 0) κs.0 Row, (shr_Tells (named 1) κs.1.0 B, (uint_Tells w64, tt)))) (λ κs qs bounds a gh are.
    let rb : ℕ = a.0.ref_ptr.0 in let ro : ℕ = a.0.ref_ptr.1 in let wb : ℕ = a.1.0.ref_ptr.0 in let wo : ℕ = a.1.0.ref_ptr.1 in let κ : Lft = κs.0 in let μ : Lft = κs.1.0 in let d : Row.Denot = a.0.now in let p : Ptr = d.at in let x : Y.Denot = d.header in let others : Fml = fsep (flft κs.1.1.0 qs.1.1.0) (fsep (flft κs.1.1.1.0 qs.1.1.1.0) (fsep (flft κs.1.1.1.1.0 qs.1.1.1.1.0) ftrue)) in
    let gb : B.Denot = a.1.0.now in let base : Ptr = gb.at in let n : ℕ = a.1.1.0 in let Asked : Type 0 = (n < length gb.places) × (p ≡ at_entry gb.places n) in let Row' : Type 0 = IsRow X U R base gb.places in
    let y : (walk_of 𝓛 En hs c).Ghost = ((κs, qs, bounds, a, (vptr rb ro ∷ [], (vptr wb wo ∷ [], (vint w64 n ∷ [], tt)))), gh) in let Post : Val → SProp 𝓤 = (walk_of 𝓛 En hs c).post y in let us : List Val = vptr rb ro ∷ vptr wb wo ∷ vint w64 n ∷ [] in
    qed 𝓛 (((‵ (flft κ qs.0) ⊛ ‵ (flft μ qs.1.0) ⊛ ‵ others) ⊛ ‵ (owns (types_at En.signature.params κs) a y.0.4)) ∷ raw (fact 𝓤 _) ∷ raw (fact 𝓤 _) ∷ raw (fact 𝓤 _) ∷ raw (fact 𝓤 Asked) ∷ []) ∵
    move ! (4 ∷ []) $ heard ! Asked (λ asked. keep ! (0 ∷ []) $ split ! $ split3 ! $ move ! (3 ∷ []) $ fsplit ! $ fsplit ! $ move ! (2 ∷ []) $ fsplit ! $ fsplit ! $ keep ! (4 ∷ 1 ∷ 5 ∷ 6 ∷ 7 ∷ []) $
    use1 𝓛 (‵ (hidden_shr D κ (p, tt) rb ro) ⊛ ‵ (fhide (chunk_shares X U R gp.label d.tag d.life d.out d.home p x κ))) (lent_out 𝓛 (chunk.struct X U R gp) (chunk.the_codes Y.Denot W.Denot Z.Denot X.coded U.coded R.coded) (chunk.the_heap X U R gp) (chunk.the_lent X U R gp) κ d rb ro) $
    split ! $ drop ! $ unhide ! $ in_a_block ! p (λ s. chunk_shares X U R gp.label d.tag d.life d.out d.home s x κ) (id⊢ 𝓤 (never 𝓤)) (λ b o e. fsplit ! $ fsplit ! $ move ! (1 ∷ []) $ hide ! $ keep ! (3 ∷ 0 ∷ 4 ∷ 5 ∷ 6 ∷ []) $
    use1 𝓛 (‵ (hidden_shr E μ (base, tt) wb wo) ⊛ ‵ (fhide (row_fact Row'))) (lent_out 𝓛 (base_row.struct X U R) (base_row.the_codes Y.Denot W.Denot Z.Denot X.coded U.coded R.coded) (base_row.the_heap X U R) (base_row.the_lent X U R) μ gb wb wo) $
    split ! $ move ! (1 ∷ []) $ unhide ! $ fpick ! (λ is_row. drop ! $
    -- [the fields of the base; what a `&` to the header holds; the chunk's token; the base's token; others]
    let from = begins_at X U R base (length gb.places) n b o asked.0 (subst (λ (ps : List Ptr). at_entry ps n ≡ block_ptr b o) is_row.0 (sym asked.1 ∙ e)) in let k : ℕ = from.0 in let there : Val = vptr b (header_at X U R o) in
    let most : n * s ≤ length gb.places * s = mul-le-mul_right s (let z = asked.0 in let r : n ≤ length gb.places = omega arith in r) in let small : n * s < 2 ^ 64 = (let z = is_row.1 in omega arith) in
    enter ! 𝓣.C 𝓣.Λ fn us Post $ alloc_all ! (λ l. pass_all ! refl ((tt, tt), ((tt, tt), ((tt, record { fits = are.1.1.0.1 }), tt))) $ let Ev = env fn.locals l in first ! $ blocks ! $
    move ! (0 ∷ 3 ∷ []) $ looks ! tt E (base_opened X U R 𝓛) (base, tt) wb wo (λ q vs. move ! (1 ∷ []) $ peeks ! E (Is E) (shows 𝓛 E) (base, tt) vs (λ so.
    let ev : vs ≡ single (vptr b k) ∷ [] = base_told X U R base vs so ∙ ap (λ (r : Ptr). single (ptr_val r) ∷ []) from.1 in
    rewrite ! 1 (λ (ws : List Val). ‵ (cell_at q E.mir ws wb wo)) ev refl $
    sets ! (of_opd ! (load ! (through ! refl (fld ! refl (stop !))) (look_in ! 1 (sub ! 0 refl (whole !))))) refl (tt, tt) $
    rewrite ! 1 (λ (ws : List Val). ‵ (cell_at q E.mir ws wb wo)) (sym ev) refl $ move ! (1 ∷ 0 ∷ 2 ∷ []) $ shuts ! tt E q (base, tt) vs wb wo $
    sets ! (is ! (bin ! (get ! refl) (size_word !) (record { fits = subst (λ (j : ℕ). j < 2 ^ 64) (sym (uncapped n s small)) small })) (ap (vint w64) (uncapped n s small))) refl (tt, record { fits = small }) $
    sets ! (is ! (bin ! (get ! refl) (get ! refl) tt) (ap (vptr b) from.2)) refl (tt, tt) $
    -- [the base's token; the fields of the base; what a `&` to the header holds; the chunk's token; others]
    sets_last ! (addr ! (through ! refl (fld ! refl (stop !)))) refl (tt, tt) $ exec ! 𝓣.C 𝓣.Λ Ev (tail fn.body) (at_ret Ev Post) $ sets ! (of_opd ! (get ! refl)) refl (tt, tt) $
    move ! (0 ∷ 4 ∷ []) $ join ! $ move ! (3 ∷ 0 ∷ []) $ join ! $ move ! (2 ∷ []) $ feq_i ! (List Val) (there ∷ []) (there ∷ []) refl $ fjoin ! $ use0 𝓛 (raw (fact 𝓤 (x ≡ x))) (fact_i 𝓤 (x ≡ x) (emp 𝓤) refl) $ nothing ! $ nothing ! $ fjoin ! $ nothing ! $ fjoin ! $ nothing ! $ fjoin ! $
    returns ! (look_at ! 0 refl) $ free_all ! refl $ keep ! (3 ∷ 0 ∷ 2 ∷ 1 ∷ []) $ by ! (leaves 𝓛 En hs c y there (record { ref_ptr = (b, header_at X U R o); now = x }) (tt, (tt, (tt, tt))) (tt, (tt, (tt, tt)))))))))))
