-- `cut` writes the way to the head into the next chunk, and gives it its ticket.
use Rattle.seize_store.proofs.Kit.{◌≡◌, ℕ, suc, ◌+◌, ◌-◌, ◌^◌, ◌<◌, List, [], ◌∷◌, ◌++◌, length, refl, sym, ap, ◌∙◌, subst, arith, w64, proved_at, leaves, Val, vint, vptr, SProp, ent, emp, id⊢, ftrue, fex, flft, ‵, raw, ◌⊛◌, some, given, at_ret, ◌$◌, ◌∵◌, !, qed, by, move, keep, split, split3, fsplit, fsplit3, fjoin, fpack, pick, learn, use0, use1, use2, rewrite, suffices, stop, fld, addr, lit, of_opd, no_more, and_then, first, blocks, exec, returns, enter, alloc_all, pass_all, free_all, look_at, get, get_in, through, sets, env, agg, sub, whole, fact, fact_i, tables, no, RattleType, owns, types_at, plain, block_ptr, nothing, heard, Stays, stay_dropped, walk_of, Goes-dropped}
use Rattle.std.proofs.Common.{◌*◌, one-mul}
use mir.Syntax.{a_type}
use mir.MapTy.{inst_fn}
use prog.Wp.{WpFn}
use types.Run.{init, assigns_last, bin, size_word}
use types.ByLocal.{sets_last, is}
use denote.Param.{param, layouts, layout}
use denote.RawPtr.{Ptr}
use denote.Struct.Tuple.{Tuple}
use Rattle.core.proofs.alloc.Shapes.{after}
use Rattle.std_alloc.proofs.Pairs.{pair_val, pair_Typed, pair_of}
use Rattle.seize_store.specs.Body.{stride, rooms, rim}
use Rattle.seize_store.specs.Row.{RowDeed, ticket, leads, line, uncut}
use Rattle.seize_store.proofs.Fields.{single, both}
use Rattle.seize_store.proofs.Memory as memory
use Rattle.seize_store.proofs.Pieces.{Piece, Strip, piece_in, strip_in, strip_out, uncapped}
use Rattle.seize_store.proofs.Rows as rows
use Rattle.seize_store.specs.contracts.strip.Strip.cut.{ended, clauses}
use Rattle.seize_store.specs.contracts.strip.Strip.cut.Key.{name as #self}
use Rattle.seize_store.proofs.strip.Strip.cut.Statement.{statement}
use Rattle.seize_store.proofs.strip.Strip.cut.Code as code

pub cut_spec : {M : Type 1} → statement M
cut_spec 𝓤 𝓛 𝓜 𝓡 wired Y W Z LY LW LZ =
    let H = 𝓛.H in let 𝓣 = tables 𝓤 H 𝓜 𝓡 𝓡.env in let X : RattleType = param 0 Y in let U : RattleType = param 1 W in let R : RattleType = param 2 Z in let En = ended Y W Z in let inst = layouts (a_type ∷ a_type ∷ a_type ∷ []) (Y, (W, (Z, tt))) in let fn = inst_fn inst code.function in
    let c = clauses Y W Z 𝓛 𝓜.mem 𝓡.returns in let P : RattleType = Piece X U R in let S : RattleType = Strip X U R in let Two : RattleType = Tuple (P ∷ S ∷ []) in let s : ℕ = stride X U R in
    let hs : Stays En.signature.params En.kept = (stay_dropped (plain (λ _. S)) no, tt) in
    proved_at 𝓛 En hs c 𝓜 𝓡 (Goes-dropped 𝓛 3 (plain (λ _. S)) no (λ κs x f. refl), tt) (#self inst) fn (code.unfolded 𝓤 H 𝓜 𝓡 wired (Y, (W, (Z, tt)))) (λ z are.
    let κs = z.0.0 in let qs = z.0.1 in let d = z.0.3.0 in let Post : Val → SProp 𝓤 = (walk_of 𝓛 En hs c).post z in let Run : List Val → SProp 𝓤 = λ ws. WpFn 𝓤 H 𝓣.C 𝓣.Λ fn ws Post in
    let toks = ‵ (flft κs.0 qs.0) ⊛ ‵ (flft κs.1.0 qs.1.0) ⊛ ‵ (flft κs.1.1.0 qs.1.1.0) ⊛ ‵ ftrue in let Asked : Type 0 = 0 < length d.places in let n : ℕ = length d.places - 1 in
    qed 𝓛 ((toks ⊛ ‵ (owns (types_at En.signature.params κs) z.0.3 z.0.4)) ∷ raw (fact 𝓤 _) ∷ raw (fact 𝓤 _) ∷ raw (fact 𝓤 _) ∷ raw (fact 𝓤 Asked) ∷ []) ∵
    move ! (4 ∷ []) $ heard ! Asked (λ asked. keep ! (0 ∷ []) $ split ! $ move ! (1 ∷ []) $ fsplit ! $ strip_out X U R ! d z.0.4.0 (λ b o t so ws. let de : RowDeed = t.0 in let at : ℕ = de.at in
    rewrite ! 0 (λ (k : ℕ). ‵ (uncut X U R b o k t)) (let r : length d.places ≡ suc n = omega arith in r) refl $
    use1 𝓛 (some (λ (δs : List ℕ). given (s < 2 ^ 63) (‵ (rows.body X U R 𝓛 b o) ⊛ ‵ (fex (ℕ × ℕ) (ticket X U R b de o)) ⊛ ‵ (uncut X U R b (o + s) n (de, suc t.1, δs))))) (rows.cut_next X U R 𝓛 b o n t) $ pick ! (λ δs. learn ! (λ small. split3 ! $
    use1 𝓛 (‵ (rooms X U R b o) ⊛ ‵ (rim X U R b o)) (memory.spreads X U R 𝓛 b o) $ split ! $ fsplit3 ! $ move ! (2 ∷ []) $ fsplit ! $ move ! (1 ∷ []) $ fsplit3 ! $ move ! (2 ∷ []) $ fsplit3 ! $
    -- [the length's room; the rest; nothing; the content's room; the pointer's room; the part's room; the word's room; the header's room; the rim; the ticket; the others; nothing; the tokens]
    let one_is = one-mul s in let small' : 1 * s < 2 ^ 64 = omega arith in let w : Val = both (vptr b o) (vptr b at) in let p : Ptr = block_ptr b o in let q : Ptr = block_ptr b (o + s) in
    suffices ! (Run (w ∷ [])) (subst (λ (us : List Val). ent 𝓤 (Run (w ∷ [])) (Run us)) (sym (λ i. ws i ++ [])) (id⊢ 𝓤 (Run (w ∷ [])))) $
    enter ! 𝓣.C 𝓣.Λ fn (w ∷ []) Post $ alloc_all ! (λ l. pass_all ! refl ((tt, (tt, (tt, tt))), tt) $ let Ev = env fn.locals l in
    sets ! (of_opd ! (get_in ! (fld ! refl (stop !)) (sub ! 0 refl (whole !)))) refl (tt, tt) $ sets ! (of_opd ! (get_in ! (fld ! refl (stop !)) (sub ! 1 refl (whole !)))) refl (tt, tt) $
    first ! $ blocks ! $ sets ! (addr ! (through ! refl (fld ! refl (stop !)))) refl (tt, tt) $ sets ! (of_opd ! (get ! refl)) refl (tt, tt) $ assigns_last ! (of_opd ! (get ! refl)) (through ! refl (stop !)) (init ! 4 refl (tt, tt)) $
    exec ! 𝓣.C 𝓣.Λ Ev (after 3 fn.body) (at_ret Ev Post) $
    first ! $ blocks ! $ sets ! (is ! (bin ! (lit ! tt) (size_word !) (record { fits = subst (λ (j : ℕ). j < 2 ^ 64) (sym (uncapped 1 s small')) small' })) (ap (vint w64) (uncapped 1 s small'))) refl (tt, record { fits = small' }) $
    sets_last ! (is ! (bin ! (get ! refl) (get ! refl) tt) (ap (vptr b) (let r : 1 * s + o ≡ o + s = omega arith in r))) refl (tt, tt) $ exec ! 𝓣.C 𝓣.Λ Ev (after 4 fn.body) (at_ret Ev Post) $
    let pair : Val = pair_val (single (vptr b o)) (both (vptr b (o + s)) (vptr b at)) in
    sets ! (of_opd ! (get ! refl)) refl (tt, tt) $ sets ! (agg ! (and_then ! (get ! refl) (no_more !))) refl (tt, (tt, tt)) $ sets ! (agg ! (and_then ! (get ! refl) (and_then ! (get ! refl) (no_more !)))) refl (tt, (tt, (tt, tt))) $
    sets ! (agg ! (and_then ! (get ! refl) (and_then ! (get ! refl) (no_more !)))) refl (pair_Typed (layout P) (layout S) (single (vptr b o)) (both (vptr b (o + s)) (vptr b at)) (tt, (tt, tt)) (tt, (tt, (tt, tt)))) $
    -- the piece
    move ! (4 ∷ 9 ∷ []) $ fjoin ! $ fpack ! RowDeed (leads X U R b o) de $ move ! (1 ∷ 0 ∷ []) $ fjoin ! $ move ! (7 ∷ 0 ∷ []) $ fjoin ! $ move ! (1 ∷ 0 ∷ []) $ fjoin ! $ move ! (2 ∷ 0 ∷ []) $ fjoin ! $ move ! (4 ∷ 0 ∷ []) $ fjoin ! $ move ! (2 ∷ 0 ∷ []) $ fjoin ! $ move ! (2 ∷ 0 ∷ []) $ fjoin ! $
    piece_in X U R ! b o $ move ! (2 ∷ []) $ strip_in X U R ! b (o + s) n (de, suc t.1, δs) $ let r1 : P.Denot = record { at = p } in let r2 : S.Denot = record { at = q; head = block_ptr b at; places = line X U R q n } in
    move ! (1 ∷ 0 ∷ []) $ use2 𝓛 (‵ (Two.own_val (r1, r2) (pair ∷ []))) (pair_of 𝓛 P S r1 r2 (single (vptr b o)) (both (vptr b (o + s)) (vptr b at))) $
    let Told : Type 0 = d.places ≡ p ∷ line X U R q n in
    use0 𝓛 (raw (fact 𝓤 Told)) (fact_i 𝓤 Told (emp 𝓤) (so ∙ ap (λ (k : ℕ). line X U R p k) (let r : length d.places ≡ suc n = omega arith in r))) $ nothing ! $ nothing ! $ fjoin ! $
    returns ! (look_at ! 0 refl) $ free_all ! refl $ keep ! (5 ∷ 0 ∷ 2 ∷ 1 ∷ []) $ by ! (leaves 𝓛 En hs c z pair (r1, r2) (tt, tt) (tt, tt))))))))
