-- `swap` is one step, and one event.
use Rattle.seize_book.proofs.Kit.{named_lft, ap, NamedLft, Lfts, ℕ, ◌^◌, List, [], ◌∷◌, refl, sym, ◌∙◌, w64, lit<, fm, found, finds, seq_cst, swaps, tail, proved, named, Val, vint, vptr, SProp, wand, emp, via, apply∗, Lft, Share, Fml, ftrue, fsep, flft, fnamed, ‵, raw, ◌⊛◌, some, given, later, mean, at_ret, ◌$◌, ◌∵◌, !, qed, by, move, keep, drop, split, split3, join, fsplit, fsplit3, fjoin, fjoin3, fpick, pick, learn, use1, use2, use3, await, rewrite, feq_i, flt_i, stop, addr, lit, of_opd, no_more, and_then, first, blocks, exec, Calls-last, returns, enter, alloc_all, pass_all, free_all, look_at, get, through, sets, lands_last, env, agg, fact, fact_i, tables, Lends-one, yes, owns, types_at, plain, RefOf, block_ptr, unhide, uint_vals, uint_Tells, u64, mut_vals, mut_Tells, shr_vals, shr_Tells, nothing, opens, closes, heard, Stays, stay_dropped, stay_ref, walk_of, Goes-dropped, Goes-ref}
use mir.Syntax.{a_type, dcons, dnil}
use mir.MapTy.{inst_fn}
use base.Fraction.{full_share}
use denote.Param.{bounded}
use Rattle.seize_book.proofs.Borrowed.{opens_adder, closes_pass, two_out, two_in}
use Rattle.seize_book.specs.Entry.{Entry}
use Rattle.seize_words.specs.Atomic.{MayTakeStep}
use Rattle.seize_book.specs.Tokens.{Name, adder_owns, inside, keys_own, knows, over, pass_adds}
use Rattle.seize_words.specs.contracts.activation.Ended as Ended
use Rattle.seize_book.specs.contracts.book.keys.Keys as Keys
use Rattle.seize_book.specs.contracts.book.pass.Pass as Pass
use Rattle.seize_words.specs.contracts.word.Word as Word
use Rattle.seize_book.proofs.Lives.{over_twice}
use Rattle.seize_book.proofs.Passes.{IsDistinct}
use Rattle.seize_words.proofs.Steps.{after_step, opened_adder, steps}
use Rattle.seize_book.proofs.Fields.{ends}
use Rattle.seize_words.specs.contracts.word.Word.swap.{ended, clauses}
use Rattle.seize_words.specs.contracts.word.Word.swap.Key.{name as #self}
use Rattle.seize_words.proofs.word.Word.swap.Statement.{statement}
use Rattle.seize_words.proofs.word.Word.swap.Code as code

pub swap_spec : {M : Type 1} → statement M
swap_spec 𝓤 𝓛 𝓜 𝓡 wired P LP g d _ =
    let H = 𝓛.H in let 𝓣 = tables 𝓤 H 𝓜 𝓡 𝓡.env in let En = ended P g d in let c = clauses P g d 𝓛 𝓜.mem 𝓡.returns in
    let inst = bounded (a_type ∷ []) (P, tt) (dcons d dnil) in let fn = inst_fn inst code.function in let self = RefOf (0 ∷ []) tt (plain (λ _. Word.the_row)) (λ _. tt) in
    let Pa = plain (λ (κs : Lfts 6). Pass.the_row (named_lft 6 4 tt κs)) in let hs : Stays En.signature.params En.kept = (stay_dropped self yes, (stay_dropped (plain (λ _. u64)) yes, (stay_ref (1 ∷ []) tt (plain (λ _. Keys.the_row)), (stay_ref (2 ∷ []) tt (plain (λ _. Ended.the_row)), (stay_ref (3 ∷ []) tt (Pa), tt))))) in
    proved 𝓛 En hs c 𝓜 𝓡 (Goes-dropped 𝓛 6 self yes (λ κs x f. refl), (Goes-dropped 𝓛 6 (plain (λ _. u64)) yes (λ κs x f. refl), (Goes-ref 𝓛 6 1 tt (plain (λ _. Keys.the_row)), (Goes-ref 𝓛 6 2 tt (plain (λ _. Ended.the_row)), (Goes-ref 𝓛 6 3 tt (Pa), tt))))) (#self inst) fn (code.unfolded 𝓤 H 𝓜 𝓡 wired (P, tt) d)
    (λ κs. (shr_vals, (uint_vals w64, (mut_vals, (mut_vals, (mut_vals, tt)))))) (λ κs. (shr_Tells (named 0) κs.0 Word.the_row, (uint_Tells w64, (mut_Tells (named 1) κs.1.0 Keys.the_row, (mut_Tells (named 2) κs.1.1.0 Ended.the_row, (mut_Tells (named 3) κs.1.1.1.0 (Pass.the_row (named_lft 6 4 tt κs)), tt)))))) (λ κs qs bounds a gh are.
    let site = a.0.now in let new : ℕ = a.1.0 in let keys = a.1.1.0.now in let over_ = a.1.1.1.0.now in let pass = a.1.1.1.1.0.now in let b : ℕ = a.0.ref_ptr.0 in let o : ℕ = a.0.ref_ptr.1 in let kb : ℕ = a.1.1.0.ref_ptr.0 in let ko : ℕ = a.1.1.0.ref_ptr.1 in let eb : ℕ = a.1.1.1.0.ref_ptr.0 in let eo : ℕ = a.1.1.1.0.ref_ptr.1 in let pb : ℕ = a.1.1.1.1.0.ref_ptr.0 in let po : ℕ = a.1.1.1.1.0.ref_ptr.1 in let f : ℕ → ℕ = λ v. new in
    let n : Name = site.name in
    let ℓ : NamedLft = named_lft 6 4 tt κs in let y : (walk_of 𝓛 En hs c).Ghost = ((κs, qs, bounds, a, (vptr b o ∷ [], (vint w64 new ∷ [], (vptr kb ko ∷ [], (vptr eb eo ∷ [], (vptr pb po ∷ [], tt)))))), gh) in let Post : Val → SProp 𝓤 = (walk_of 𝓛 En hs c).post y in
    let toks : Fml = fsep (flft κs.0 qs.0) (fsep (flft κs.1.0 qs.1.0) (fsep (flft κs.1.1.0 qs.1.1.0) (fsep (flft κs.1.1.1.0 qs.1.1.1.0) (fsep (flft κs.1.1.1.1.0 qs.1.1.1.1.0) (fsep (flft κs.1.1.1.1.1.0 qs.1.1.1.1.1.0) ftrue))))) in
    let Asked : Type 0 = MayTakeStep site keys pass [] over_.lives f g.entry g.trades in
    qed 𝓛 ((‵ toks ⊛ ‵ (owns (types_at En.signature.params κs) a y.0.4)) ∷ raw (fact 𝓤 _) ∷ raw (fact 𝓤 Asked) ∷ []) ∵ keep ! (2 ∷ 0 ∷ []) $ heard ! Asked (λ asked. split ! $
    fsplit ! $ move ! (1 ∷ []) $ fsplit ! $ move ! (1 ∷ []) $ fsplit ! $ move ! (1 ∷ []) $ fsplit ! $ two_out ! $ move ! (5 ∷ []) $ fsplit ! $ fsplit ! $ move ! (2 ∷ []) $ fsplit ! $ move ! (1 ∷ []) $ fsplit ! $ fsplit3 ! $ move ! (3 ∷ []) $ fsplit ! $ fsplit3 ! $ move ! (3 ∷ []) $ fsplit ! $ fsplit3 ! $
    -- [the pass, in two; the keys, in two; the word; the tokens of the three, last first; the other tokens]
    keep ! (1 ∷ 2 ∷ 8 ∷ 9 ∷ 12 ∷ 13 ∷ 16 ∷ 17 ∷ 14 ∷ 5 ∷ 6 ∷ 15 ∷ []) $
    enter ! 𝓣.C 𝓣.Λ fn (vptr b o ∷ vint w64 new ∷ vptr kb ko ∷ vptr eb eo ∷ vptr pb po ∷ []) Post $ alloc_all ! (λ l. pass_all ! refl ((tt, tt), ((tt, record { fits = are.1.0.1 }), ((tt, tt), ((tt, tt), ((tt, tt), tt))))) $ let Ev = env fn.locals l in
    move ! (9 ∷ 10 ∷ 11 ∷ []) $ opens ! tt Ended.the_row eb eo (λ vs2. move ! (1 ∷ []) $ fsplit ! $ move ! (1 ∷ []) $
    -- [what is over; the token that says so; its cell, in four entries; the pass, in two; the keys, in two; the word; the tokens of the three, last first; the other tokens]
    use1 𝓛 (‵ (over over_.lives) ⊛ ‵ (over over_.lives)) (over_twice 𝓛 over_.lives) $ split ! $ move ! (2 ∷ 0 ∷ []) $ fjoin ! $ move ! (2 ∷ 0 ∷ 3 ∷ 4 ∷ 5 ∷ []) $ closes ! tt Ended.the_row over_ vs2 eb eo $
    -- [the token, in two; its own; what is over; the pass, in two; the keys, in two; the word; the tokens of the three, last first; the other tokens]
    move ! (4 ∷ 5 ∷ 6 ∷ 7 ∷ 8 ∷ 9 ∷ 10 ∷ 11 ∷ 12 ∷ 3 ∷ []) $
    move ! (4 ∷ []) $ unhide ! $ fpick ! (λ t. fsplit3 ! $ move ! (1 ∷ []) $ fpick ! (λ apart. drop ! $ let ν : Lft = t.0 in move ! (0 ∷ 8 ∷ []) $
    use2 𝓛 (later (some (λ (s : Share). ‵ (flft ν s) ⊛ raw (wand 𝓤 (𝓛.A.lft ν s) (H.⇛ (𝓛.A.lft κs.0 qs.0)))))) (Lends-one 𝓛 𝓜 𝓡 κs.0 ν qs.0) $ await ! tt $ pick ! (λ s. split ! $
    -- [the token; the way back; the word's invariant; the pass, in two; the keys, in two; their tokens, the pass's first; the other tokens]
    move ! (5 ∷ 6 ∷ 8 ∷ []) $ opens ! tt Keys.the_row kb ko (λ vs0. move ! (1 ∷ []) $ fsplit ! $ move ! (1 ∷ []) $ rewrite ! 0 (λ (z : Name). ‵ (keys_own z keys.held)) (asked.1 ∙ sym asked.0) refl $
    move ! (9 ∷ 10 ∷ 11 ∷ []) $ opens_adder ! tt ℓ pass pb po (λ vs1. rewrite ! 0 (λ (z : Name). ‵ (adder_owns z pass.id pass.size pass.seen)) (sym asked.0) refl $
    use1 𝓛 (given (IsDistinct 𝓛 n) (‵ (knows n) ⊛ ‵ (fnamed n.number (inside n)) ⊛ ‵ (pass_adds n pass.id pass.size pass.seen))) (opened_adder 𝓛 site pass.id pass.size pass.seen) $ learn ! (λ distinct. split3 ! $
    -- [the book; its invariant; the pass's; the pass; its cell, in four entries; the keys'; the keys; their cell; the token; the way back; the word's invariant; the other tokens]
    let entry : ℕ → List Entry → Entry = g.entry in let after : ℕ → Fml = after_step 𝓛 site [] pass.id pass.seen keys.held [] over_.lives full_share f entry g.trades in let out : ℕ → Fml = λ v. fsep (flft ν s) (after v) in
    first ! $ blocks ! $ sets ! (addr ! (through ! refl (stop !))) refl (tt, tt) $ sets ! (of_opd ! (get ! refl)) refl (tt, tt) $
    nothing ! $ move ! (19 ∷ 0 ∷ []) $ join ! $ move ! (9 ∷ 0 ∷ []) $ join ! $ move ! (3 ∷ 0 ∷ []) $ join ! $ move ! (13 ∷ 0 ∷ []) $ join ! $ move ! (14 ∷ 2 ∷ 0 ∷ []) $
    use3 𝓛 (raw (𝓣.C _ (vptr b o ∷ vint w64 new ∷ seq_cst ∷ []) (λ u. mean 𝓛 (found out u))))
    (via 𝓤 _ (steps 𝓛 site [] pass.id pass.seen keys.held [] over_.lives full_share f entry g.trades b o t.1 ν s apart distinct pass.size asked.3 asked.2) (swaps 𝓛 𝓜 𝓡 (code.calls-core::raw_atomic::swap 𝓡.env wired) (block_ptr b o) new are.1.0.1 out)) $
    sets ! (agg ! (and_then ! (lit ! tt) (no_more !))) refl (tt, (record { fits = lit< tt }, tt)) $
    Calls-last ! (fm 𝓛 𝓜 𝓡) (found out) (and_then ! (get ! refl) (and_then ! (get ! refl) (and_then ! (get ! refl) (no_more !)))) (λ u. finds ! out (λ v fits. lands_last ! refl (tt, record { fits = fits }) $ exec ! 𝓣.C 𝓣.Λ Ev (tail fn.body) (at_ret Ev Post) $ sets ! (of_opd ! (get ! refl)) refl (tt, record { fits = fits }) $
    fsplit ! $ move ! (0 ∷ 13 ∷ []) $ use2 𝓛 (later (‵ (flft κs.0 qs.0))) (apply∗ 𝓤 (𝓛.A.lft ν s) (H.⇛ (𝓛.A.lft κs.0 qs.0))) $ await ! tt $ move ! (1 ∷ []) $ fpick ! (λ x. fsplit ! $ fpick ! (λ so. drop ! $ fsplit ! $ move ! (1 ∷ []) $ fsplit ! $ move ! (1 ∷ []) $ drop ! $ move ! (1 ∷ 0 ∷ []) $
    -- [the pass's; the keys'; the word's token; the book; the pass; its cell, in four entries; the keys; their cell; the other tokens]
    let keys' : Keys.the_row.Denot = record keys { name = n; held = x.1 } in let pass' : (Pass.the_row ℓ).Denot = record pass { name = n; seen = x.0 } in
    move ! (3 ∷ 0 ∷ []) $ fjoin ! $ move ! (3 ∷ 0 ∷ []) $ join ! $ move ! (3 ∷ 0 ∷ 4 ∷ 5 ∷ 6 ∷ []) $ closes_pass ! tt ℓ pass' (ap (λ (z : Name). z.gate) (sym asked.0)) vs1 pb po $
    move ! (5 ∷ 3 ∷ []) $ fjoin ! $ move ! (5 ∷ 0 ∷ 6 ∷ 7 ∷ 8 ∷ []) $ closes ! tt Keys.the_row keys' vs0 kb ko $
    -- [the keys, in two; their token; the pass, in two; its token; the word's token; the other tokens]
    flt_i ! v (2 ^ 64) fits $ feq_i ! (List Val) (vint w64 v ∷ []) (vint w64 v ∷ []) refl $ fjoin ! $
    move ! (6 ∷ 8 ∷ []) $ two_in ! $ move ! (10 ∷ 0 ∷ []) $ fjoin ! $ move ! (4 ∷ 0 ∷ []) $ fjoin ! $ move ! (6 ∷ 0 ∷ []) $ fjoin ! $
    -- [the tokens; the result; the keys, in two; the pass, in two]
    nothing ! $ feq_i ! (List Val) (vptr pb po ∷ []) (vptr pb po ∷ []) refl $ move ! (0 ∷ 6 ∷ 7 ∷ []) $ fjoin3 ! $ fjoin ! $ feq_i ! (List Val) (vptr eb eo ∷ []) (vptr eb eo ∷ []) refl $ move ! (0 ∷ 6 ∷ 7 ∷ []) $ fjoin3 ! $ fjoin ! $ feq_i ! (List Val) (vptr kb ko ∷ []) (vptr kb ko ∷ []) refl $ move ! (0 ∷ 4 ∷ 5 ∷ []) $ fjoin3 ! $ fjoin ! $ nothing ! $ fjoin ! $ nothing ! $ fjoin ! $
    returns ! (look_at ! 0 refl) $ free_all ! refl $ keep ! (1 ∷ 0 ∷ 2 ∷ []) $
    by ! (ends 𝓛 En hs c y (vint w64 v) v (tt, (tt, (keys', (over_, (pass', tt))))) (tt, (tt, (tt, (tt, (tt, tt))))) (fact_i 𝓤 _ (emp 𝓤) ((asked.0, refl, refl), asked.0 ∙ sym asked.1, so)))))))))))))))))
