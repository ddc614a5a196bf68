-- `of` writes the head, and makes the row's tickets.
use Rattle.seize_store.proofs.Kit.{◌≡◌, ℕ, suc, ◌+◌, ◌^◌, ◌<◌, List, [], ◌∷◌, ◌++◌, length, refl, sym, ap, subst, arith, w64, proved_at, leaves, Val, vint, vptr, SProp, ent, emp, id⊢, ftrue, fsep, flft, finv, ‵, raw, ◌⊛◌, some, given, later, at_ret, ◌$◌, ◌∵◌, !, qed, by, move, keep, split, fsplit, fsplit3, fjoin, fpack, pick, learn, use0, use1, use2, await, rewrite, suffices, stop, fld, addr, lit, of_opd, no_more, and_then, first, blocks, exec, returns, enter, alloc_all, pass_all, free_all, look_at, get, get_in, through, sets, env, agg, sub, whole, fact, fact_i, tables, yes, no, RattleType, owns, types_at, plain, block_ptr, nothing, heard, Stays, stay_dropped, walk_of, Goes-dropped}
use Rattle.std.proofs.Common.{◌*◌, one-mul, zero-mul, suc-mul}
use mir.Syntax.{a_type, ty_ptr}
use mir.MapTy.{inst_fn}
use base.Fml.{Fml, froom}
use prog.Wp.{WpFn}
use types.Run.{init, assigns, assigns_last, bin, size_word}
use types.ByLocal.{sets_last, is}
use denote.Builtin.{u64}
use denote.Param.{param, layouts, layout}
use denote.RawPtr.{Ptr}
use denote.Struct.Tuple.{Tuple}
use Rattle.core.proofs.alloc.Shapes.{after}
use Rattle.std_alloc.proofs.Pairs.{pair_val, pair_Typed, pair_of}
use Rattle.std.specs.contracts.alloc.Global as heap
use Rattle.std.specs.contracts.impls.GlobalAllocator.TheImpl.{ghosts}
use Rattle.seize_store.specs.Body.{stride, row_ty, rooms, rim}
use Rattle.seize_store.specs.Freeable.{freeable}
use Rattle.seize_store.specs.Row.{RowDeed, Fits, Has, held_all, IsRow, Shared, Tail, line}
use Rattle.seize_store.proofs.Fields.{single, both}
use Rattle.seize_store.proofs.Memory as memory
use Rattle.seize_store.proofs.Pieces.{Base, Strip, Rooms, base_in, line_length, strip_in, rooms_out, three, uncapped}
use Rattle.seize_store.proofs.Rows as rows
use Rattle.seize_store.specs.contracts.strip.Strip.of.{ended, clauses}
use Rattle.seize_store.specs.contracts.strip.Strip.of.Key.{name as #self}
use Rattle.seize_store.proofs.strip.Strip.of.Statement.{statement}
use Rattle.seize_store.proofs.strip.Strip.of.Code as code

pub of_spec : {M : Type 1} → statement M
of_spec 𝓤 𝓛 𝓜 𝓡 wired Y W Z LY LW LZ =
    let H = 𝓛.H in let 𝓣 = tables 𝓤 H 𝓜 𝓡 𝓡.env in let X : RattleType = param 0 Y in let U : RattleType = param 1 W in let R : RattleType = param 2 Z in let En = ended Y W Z in let inst = layouts (a_type ∷ a_type ∷ a_type ∷ []) (Y, (W, (Z, tt))) in let fn = inst_fn inst code.function in
    let Ro : RattleType = Rooms X U R heap.the_row ghosts in let c = clauses Y W Z 𝓛 𝓜.mem 𝓡.returns in let B : RattleType = Base X U R in let S : RattleType = Strip X U R in let Two : RattleType = Tuple (B ∷ S ∷ []) in let s : ℕ = stride X U R in
    let hs : Stays En.signature.params En.kept = (stay_dropped (plain (λ _. Ro)) no, (stay_dropped (plain (λ _. u64)) yes, tt)) in
    proved_at 𝓛 En hs c 𝓜 𝓡 (Goes-dropped 𝓛 3 (plain (λ _. Ro)) no (λ κs x f. refl), (Goes-dropped 𝓛 3 (plain (λ _. u64)) yes (λ κs x f. refl), tt)) (#self inst) fn (code.unfolded 𝓤 H 𝓜 𝓡 wired (Y, (W, (Z, tt)))) (λ z are.
    let κs = z.0.0 in let qs = z.0.1 in let d = z.0.3.0 in let n : ℕ = z.0.3.1.0 in let Post : Val → SProp 𝓤 = (walk_of 𝓛 En hs c).post z in let Run : List Val → SProp 𝓤 = λ ws. WpFn 𝓤 H 𝓣.C 𝓣.Λ fn ws Post in
    let toks = ‵ (flft κs.0 qs.0) ⊛ ‵ (flft κs.1.0 qs.1.0) ⊛ ‵ (flft κs.1.1.0 qs.1.1.0) ⊛ ‵ ftrue in let Asked : Type 0 = (n + 1 ≡ d.len) × Fits X U R d.len in
    qed 𝓛 ((toks ⊛ ‵ (owns (types_at En.signature.params κs) z.0.3 z.0.4)) ∷ raw (fact 𝓤 _) ∷ raw (fact 𝓤 _) ∷ raw (fact 𝓤 _) ∷ raw (fact 𝓤 Asked) ∷ []) ∵
    move ! (4 ∷ []) $ heard ! Asked (λ asked. keep ! (0 ∷ []) $ split ! $ move ! (1 ∷ []) $ fsplit ! $ rooms_out X U R heap.the_row ghosts ! d z.0.4.0 (λ b o e ws lenfits.
    let len : d.len ≡ suc n = (let x = asked.0 in omega arith) in let fits : Fits X U R (suc n) = subst (Fits X U R) len asked.1 in let one_is = one-mul s in let m = suc-mul n s in let small : s < 2 ^ 63 = omega arith in
    rewrite ! 0 (λ (k : ℕ). ‵ (fsep (froom (row_ty X U R k) b o) (freeable (row_ty X U R k) (block_ptr b o)))) len refl $ fsplit ! $
    use1 𝓛 (‵ (rows.body X U R 𝓛 b o) ⊛ ‵ (froom (row_ty X U R n) b (o + s))) (rows.cuts X U R 𝓛 b n o) $ split ! $
    use1 𝓛 (‵ (rooms X U R b o) ⊛ ‵ (rim X U R b o)) (memory.spreads X U R 𝓛 b o) $ split ! $ fsplit3 ! $ move ! (2 ∷ []) $ fsplit ! $ move ! (1 ∷ []) $ fsplit3 ! $ move ! (2 ∷ []) $ fsplit3 ! $
    -- [the length's room; the rest; nothing; the content's room; the pointer's room; the part's room; the word's room; the header's room; the rim; the other rooms; the right to free; nothing; the tokens]
    let w : Val = three (vptr b o) d.len in let p : Ptr = block_ptr b (o + s) in
    suffices ! (Run (w ∷ vint w64 n ∷ [])) (subst (λ (us : List Val). ent 𝓤 (Run (w ∷ vint w64 n ∷ [])) (Run us)) (sym (λ i. ws i ++ (are.1.0.0 i ++ []))) (id⊢ 𝓤 (Run (w ∷ vint w64 n ∷ [])))) $
    enter ! 𝓣.C 𝓣.Λ fn (w ∷ vint w64 n ∷ []) Post $ alloc_all ! (λ l. pass_all ! refl ((tt, (tt, (record { fits = lenfits }, (tt, tt)))), ((tt, record { fits = are.1.0.1 }), tt)) $ let Ev = env fn.locals l in
    sets ! (of_opd ! (get_in ! (fld ! refl (stop !)) (sub ! 0 refl (whole !)))) refl (tt, tt) $ sets ! (of_opd ! (get_in ! (fld ! refl (stop !)) (sub ! 1 refl (whole !)))) refl (tt, record { fits = lenfits }) $
    first ! $ blocks ! $ sets ! (addr ! (through ! refl (fld ! refl (stop !)))) refl (tt, tt) $ assigns ! (of_opd ! (get ! refl)) (through ! refl (stop !)) (init ! 6 refl (tt, record { fits = are.1.0.1 })) $
    sets ! (addr ! (through ! refl (fld ! refl (stop !)))) refl (tt, tt) $ assigns_last ! (of_opd ! (get ! refl)) (through ! refl (stop !)) (init ! 0 refl (tt, record { fits = lenfits })) $
    exec ! 𝓣.C 𝓣.Λ Ev (after 3 fn.body) (at_ret Ev Post) $ let small' : 1 * s < 2 ^ 64 = omega arith in
    first ! $ blocks ! $ sets ! (is ! (bin ! (lit ! tt) (size_word !) (record { fits = subst (λ (j : ℕ). j < 2 ^ 64) (sym (uncapped 1 s small')) small' })) (ap (vint w64) (uncapped 1 s small'))) refl (tt, record { fits = small' }) $
    sets_last ! (is ! (bin ! (get ! refl) (get ! refl) tt) (ap (vptr b) (let r : 1 * s + o ≡ o + s = omega arith in r))) refl (tt, tt) $ exec ! 𝓣.C 𝓣.Λ Ev (after 4 fn.body) (at_ret Ev Post) $
    let pair : Val = pair_val (single (vptr b (o + s))) (both (vptr b (o + s)) (vptr b o)) in
    sets ! (of_opd ! (get ! refl)) refl (tt, tt) $ sets ! (agg ! (and_then ! (get ! refl) (no_more !))) refl (tt, (tt, tt)) $ sets ! (agg ! (and_then ! (get ! refl) (and_then ! (get ! refl) (no_more !)))) refl (tt, (tt, (tt, tt))) $
    sets ! (agg ! (and_then ! (get ! refl) (and_then ! (get ! refl) (no_more !)))) refl (pair_Typed (layout B) (layout S) (single (vptr b (o + s))) (both (vptr b (o + s)) (vptr b o)) (tt, (tt, tt)) (tt, (tt, (tt, tt)))) $
    -- the head
    rewrite ! 0 (λ (k : ℕ). ‵ (base.Fml.fat base.Fraction.full_share (mir.Syntax.ty_int w64) b (Rattle.seize_store.specs.Body.len_at X U R o) (vint w64 k))) len refl $
    nothing ! $ fpack ! (Fits X U R (suc n)) (λ _. ftrue) fits $ move ! (11 ∷ 0 ∷ []) $ fjoin ! $ move ! (9 ∷ 0 ∷ []) $ fjoin ! $ move ! (2 ∷ 0 ∷ []) $ fjoin ! $ move ! (1 ∷ 0 ∷ []) $ fjoin ! $ move ! (3 ∷ 0 ∷ []) $ fjoin ! $ move ! (2 ∷ 0 ∷ []) $ fjoin ! $ move ! (2 ∷ 0 ∷ []) $ fjoin ! $ move ! (3 ∷ 0 ∷ []) $ fjoin ! $ move ! (2 ∷ 0 ∷ []) $
    -- [the word; the head; nothing; the other rooms; nothing; the tokens]
    use2 𝓛 (later (some (λ (γs : List ℕ). given (length γs ≡ n) (‵ (held_all γs) ⊛ ‵ (finv (Shared X U R b (record { at = o; tickets = γs }))))))) (rows.begins X U R 𝓛 b o n are.1.0.1) $ await ! tt $ pick ! (λ γs. learn ! (λ long. split ! $
    let de : RowDeed = record { at = o; tickets = γs } in let t : RowDeed × ℕ × List ℕ = (de, 0, γs) in let none = zero-mul s in
    move ! (3 ∷ 0 ∷ []) $ fjoin ! $ move ! (1 ∷ 0 ∷ []) $ fjoin ! $
    nothing ! $ fpack ! ((length γs ≡ n) × Tail γs 0 γs × (o + s ≡ 0 * s + (o + s)) × (s < 2 ^ 63)) (λ _. ftrue) (long, (λ k γ has. subst (λ (j : ℕ). Has γs j γ) (let r : k ≡ k + 0 = omega arith in r) has), omega arith, small) $ fjoin ! $
    let ps : List Ptr = line X U R p n in let len_is : length ps ≡ n = line_length X U R p n in let row : IsRow X U R p ps = (ap (λ (k : ℕ). line X U R p k) (sym len_is), subst (Fits X U R) (sym len_is) (let r : n * s < 2 ^ 63 = omega arith in r)) in
    strip_in X U R ! b (o + s) n t $ base_in X U R ! p ps row $ let r1 : B.Denot = record { at = p; places = ps } in let r2 : S.Denot = record { at = p; head = block_ptr b o; places = ps } in
    use2 𝓛 (‵ (Two.own_val (r1, r2) (pair ∷ []))) (pair_of 𝓛 B S r1 r2 (single (vptr b (o + s))) (both (vptr b (o + s)) (vptr b o))) $
    use0 𝓛 (raw (fact 𝓤 ((ps ≡ ps) × (length ps ≡ n)))) (fact_i 𝓤 ((ps ≡ ps) × (length ps ≡ n)) (emp 𝓤) (refl, len_is)) $ nothing ! $ nothing ! $ fjoin ! $ nothing ! $ fjoin ! $
    returns ! (look_at ! 0 refl) $ free_all ! refl $ keep ! (5 ∷ 0 ∷ 2 ∷ 1 ∷ []) $ by ! (leaves 𝓛 En hs c z pair (r1, r2) (tt, (tt, tt)) (tt, (tt, tt)))))))))
