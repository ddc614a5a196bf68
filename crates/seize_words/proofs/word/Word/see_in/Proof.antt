-- `see_in` is one step, and one event; a share of what is lent goes out in it.
use Rattle.seize_book.proofs.Kit.{ap, NamedLft, Lfts, use0, ◌++◌, ℕ, ◌^◌, List, [], ◌∷◌, refl, sym, ◌∙◌, w64, lit<, fm, found, finds, seq_cst, loads, tail, proved, named, Val, vint, vptr, SProp, wand, emp, via, apply∗, Lft, Share, Fml, ftrue, fsep, flft, fnamed, ‵, raw, ◌⊛◌, some, given, later, mean, at_ret, ◌$◌, ◌∵◌, !, qed, by, move, keep, drop, split, split3, join, fsplit, fsplit3, fjoin, fjoin3, fpick, pick, learn, use1, use2, use3, await, rewrite, feq_i, flt_i, stop, addr, lit, of_opd, no_more, and_then, first, blocks, exec, Calls-last, returns, enter, alloc_all, pass_all, free_all, look_at, get, through, sets, lands_last, env, agg, fact, fact_i, tables, Lends-one, yes, owns, types_at, plain, RefOf, block_ptr, unhide, mut_vals, mut_Tells, shr_vals, shr_Tells, nothing, opens, closes, heard, Stays, stay_dropped, stay_ref, walk_of, Goes-dropped, Goes-ref}
use mir.Syntax.{a_type, dcons, dnil}
use mir.MapTy.{inst_fn}
use base.Before.{before}
use base.Share
use contract.BorrowLft.{meet_⊑_left}
use types.Na.{before-Incl, before_lent}
use denote.Param.{bounded}
use Rattle.seize_book.proofs.Borrowed.{opens_adder, closes_pass, two_out, two_in}
use Rattle.seize_book.specs.Entry.{Entry}
use Rattle.std.specs.Prelude.{Option}
use base.Fml.{flent, fobor, fshr_bor}
use denote.Builtin.{u64, unit}
use denote.Ref.{ShrRef}
use denote.RattleType.{RattleType}
use denote.Signature.{named_lft}
use denote.Struct.Tuple.{Tuple}
use Rattle.seize_content.specs.Readers.{escrow, ready}
use Rattle.seize_content.proofs.Fields.{Marked, marked_made}
use Rattle.seize_content.proofs.Readers.{readies}
use Rattle.seize_words.specs.Atomic.{MaySeeIn}
use Rattle.seize_words.specs.Glimpses.{glimpse}
use Rattle.seize_book.specs.Tokens.{Name, adder_owns, inside, keys_own, knows, pass_adds}
use Rattle.seize_words.specs.contracts.activation.Activation as Activation
use Rattle.seize_book.specs.contracts.book.keys.Keys as Keys
use Rattle.seize_book.specs.contracts.book.pass.Pass as Pass
use Rattle.seize_words.specs.contracts.glimpse.Glimpse as Glimpse
use Rattle.seize_words.specs.contracts.word.Word as Word
use Rattle.seize_book.proofs.Passes.{IsDistinct}
use Rattle.seize_words.proofs.Glimpses.{brought, closes_glimpse, had_of, seen_there, takes}
use Rattle.seize_words.proofs.Steps.{after_with, opened_adder, steps_with}
use Rattle.seize_book.proofs.Fields.{ends, token}
use Rattle.seize_book.proofs.Tuples.{pair_of, pair_val}
use Rattle.seize_words.specs.contracts.word.Word.see_in.{ended, clauses}
use Rattle.seize_words.specs.contracts.word.Word.see_in.Key.{name as #self}
use Rattle.seize_words.proofs.word.Word.see_in.Statement.{statement}
use Rattle.seize_words.proofs.word.Word.see_in.Code as code

pub see_in_spec : {M : Type 1} → statement M
see_in_spec 𝓤 𝓛 𝓜 𝓡 wired P LP g d _ =
    let H = 𝓛.H in let 𝓣 = tables 𝓤 H 𝓜 𝓡 𝓡.env in let En = ended P g d in let c = clauses P g d 𝓛 𝓜.mem 𝓡.returns in
    let inst = bounded (a_type ∷ []) (P, tt) (dcons d dnil) in let fn = inst_fn inst code.function in let self = RefOf (0 ∷ []) tt (plain (λ _. Word.the_row)) (λ _. tt) in let lent = RefOf (2 ∷ []) tt (plain (λ _. Activation.the_row)) (λ _. tt) in
    let Pa = plain (λ (κs : Lfts 6). Pass.the_row (named_lft 6 4 tt κs)) in let hs : Stays En.signature.params En.kept = (stay_dropped self yes, (stay_ref (1 ∷ []) tt (plain (λ _. Keys.the_row)), (stay_dropped lent yes, (stay_ref (3 ∷ []) tt (Pa), tt)))) in
    proved 𝓛 En hs c 𝓜 𝓡 (Goes-dropped 𝓛 6 self yes (λ κs x f. refl), (Goes-ref 𝓛 6 1 tt (plain (λ _. Keys.the_row)), (Goes-dropped 𝓛 6 lent yes (λ κs x f. refl), (Goes-ref 𝓛 6 3 tt (Pa), tt)))) (#self inst) fn (code.unfolded 𝓤 H 𝓜 𝓡 wired (P, tt) d)
    (λ κs. (shr_vals, (mut_vals, (shr_vals, (mut_vals, tt))))) (λ κs. (shr_Tells (named 0) κs.0 Word.the_row, (mut_Tells (named 1) κs.1.0 Keys.the_row, (shr_Tells (named 2) κs.1.1.0 Activation.the_row, (mut_Tells (named 3) κs.1.1.1.0 (Pass.the_row (named_lft 6 4 tt κs)), tt))))) (λ κs qs bounds a gh are.
    let site = a.0.now in let keys = a.1.0.now in let activation = a.1.1.0.now in let pass = a.1.1.1.0.now in let b : ℕ = a.0.ref_ptr.0 in let o : ℕ = a.0.ref_ptr.1 in let kb : ℕ = a.1.0.ref_ptr.0 in let ko : ℕ = a.1.0.ref_ptr.1 in let gb : ℕ = a.1.1.0.ref_ptr.0 in let go : ℕ = a.1.1.0.ref_ptr.1 in let pb : ℕ = a.1.1.1.0.ref_ptr.0 in let po : ℕ = a.1.1.1.0.ref_ptr.1 in let β : Lft = activation.life ∷ [] in
    let κ : Lft = κs.1.1.0 in let n : Name = site.name in
    let ℓ : NamedLft = named_lft 6 4 tt κs in let y : (walk_of 𝓛 En hs c).Ghost = ((κs, qs, bounds, a, (vptr b o ∷ [], (vptr kb ko ∷ [], (vptr gb go ∷ [], (vptr pb po ∷ [], tt))))), gh) in let Post : Val → SProp 𝓤 = (walk_of 𝓛 En hs c).post y in
    let toks : Fml = fsep (flft κs.0 qs.0) (fsep (flft κs.1.0 qs.1.0) (fsep (flft κs.1.1.0 qs.1.1.0) (fsep (flft κs.1.1.1.0 qs.1.1.1.0) (fsep (flft κs.1.1.1.1.0 qs.1.1.1.1.0) (fsep (flft κs.1.1.1.1.1.0 qs.1.1.1.1.1.0) ftrue))))) in
    let Asked : Type 0 = MaySeeIn site keys pass activation (λ v. v) g.entry g.trades in
    let Seen : RattleType = Glimpse.the_row (named_lft 6 2 tt κs) in let mark : RattleType = ShrRef (named 2) κ unit in
    qed 𝓛 ((‵ toks ⊛ ‵ (owns (types_at En.signature.params κs) a y.0.4)) ∷ raw (fact 𝓤 _) ∷ raw (fact 𝓤 Asked) ∷ []) ∵ keep ! (2 ∷ 0 ∷ []) $ heard ! Asked (λ asked. split ! $
    fsplit ! $ move ! (1 ∷ []) $ fsplit ! $ move ! (1 ∷ []) $ fsplit ! $ move ! (1 ∷ []) $ fsplit ! $ two_out ! $ move ! (5 ∷ []) $ fsplit ! $ fsplit ! $ move ! (2 ∷ []) $ fsplit ! $ fsplit3 ! $ move ! (3 ∷ []) $ fsplit ! $ fsplit ! $ move ! (2 ∷ []) $ fsplit ! $ fsplit3 ! $
    -- [the pass, in two; the keys, in two; the word; the tokens of the three, last first; the other tokens; the activation; its token]
    keep ! (1 ∷ 2 ∷ 7 ∷ 8 ∷ 10 ∷ 11 ∷ 14 ∷ 15 ∷ 12 ∷ 5 ∷ 13 ∷ []) $
    enter ! 𝓣.C 𝓣.Λ fn (vptr b o ∷ vptr kb ko ∷ vptr gb go ∷ vptr pb po ∷ []) Post $ alloc_all ! (λ l. pass_all ! refl ((tt, tt), ((tt, tt), ((tt, tt), ((tt, tt), tt)))) $ let Ev = env fn.locals l in
    move ! (9 ∷ []) $ unhide ! $ fsplit ! $ drop ! $ use1 𝓛 (‵ (fshr_bor κ (λ s. flft β s)) ⊛ ‵ (fshr_bor κ (λ s. flft β s))) (𝓛.shr_bors.shr_bor_dup κ (λ s. flft β s)) $ split ! $
    use0 𝓛 (‵ (before (β ++ κ) β)) (before-Incl 𝓛 (β ++ κ) β (meet_⊑_left β κ)) $ move ! (1 ∷ 0 ∷ []) $ use2 𝓛 (‵ (before κ β)) (before_lent 𝓛 κ β β) $ move ! (0 ∷ 11 ∷ []) $
    use2 𝓛 (later (some (λ (r : Share). ‵ (flft β r) ⊛ raw (wand 𝓤 (𝓛.A.lft β r) (H.⇛ (𝓛.A.lft κ qs.1.1.0)))))) (Lends-one 𝓛 𝓜 𝓡 κ β qs.1.1.0) $ await ! tt $ pick ! (λ r. split ! $
    -- half of the activation's token shows in the step that it has not ended, and half opens the escrow
    use1 𝓛 (‵ (flft β (Share.left r)) ⊛ ‵ (flft β (Share.right r))) (𝓛.lfts.lft_split β r) $ split ! $ move ! (1 ∷ []) $
    use1 𝓛 (later (some (λ (γ : ℕ). ‵ (ready γ) ⊛ ‵ (fobor β (Share.right r) (escrow γ)) ⊛ ‵ (flent β (escrow γ))))) (readies 𝓛 β (Share.right r)) $ await ! tt $ pick ! (λ γ. split3 ! $ move ! (0 ∷ 2 ∷ []) $ join ! $
    -- [what is brought; the open escrow; half of the token; its way back; the activation; the pass, in two; the keys, in two; the word; the tokens of the three; the other tokens]
    move ! (5 ∷ 6 ∷ 7 ∷ 8 ∷ 9 ∷ 10 ∷ 11 ∷ 12 ∷ 13 ∷ []) $
    -- [the pass, in two; the keys, in two; the word; the tokens of the three, last first; the other tokens; what is brought; the open escrow; half of the token; its way back; the activation]
    move ! (4 ∷ []) $ unhide ! $ fpick ! (λ t. fsplit3 ! $ move ! (1 ∷ []) $ fpick ! (λ apart. drop ! $ let ν : Lft = t.0 in move ! (0 ∷ 8 ∷ []) $
    use2 𝓛 (later (some (λ (s : Share). ‵ (flft ν s) ⊛ raw (wand 𝓤 (𝓛.A.lft ν s) (H.⇛ (𝓛.A.lft κs.0 qs.0)))))) (Lends-one 𝓛 𝓜 𝓡 κs.0 ν qs.0) $ await ! tt $ pick ! (λ s. split ! $
    -- [the token; the way back; the word's invariant; the pass, in two; the keys, in two; their tokens, the pass's first; the other tokens; ..]
    move ! (5 ∷ 6 ∷ 8 ∷ []) $ opens ! tt Keys.the_row kb ko (λ vs0. move ! (1 ∷ []) $ fsplit ! $ move ! (1 ∷ []) $ rewrite ! 0 (λ (z : Name). ‵ (keys_own z keys.held)) (asked.1.1 ∙ sym asked.1.0) refl $
    move ! (9 ∷ 10 ∷ 11 ∷ []) $ opens_adder ! tt ℓ pass pb po (λ vs1. rewrite ! 0 (λ (z : Name). ‵ (adder_owns z pass.id pass.size pass.seen)) (sym asked.1.0) refl $
    use1 𝓛 (given (IsDistinct 𝓛 n) (‵ (knows n) ⊛ ‵ (fnamed n.number (inside n)) ⊛ ‵ (pass_adds n pass.id pass.size pass.seen))) (opened_adder 𝓛 site pass.id pass.size pass.seen) $ learn ! (λ distinct. split3 ! $
    -- [the book; its invariant; the pass's; the pass; its cell, in four entries; the keys'; the keys; their cell; the token; the way back; the word's invariant; the other tokens; what is brought; the open escrow; half of the token; its way back; the activation]
    let entry : ℕ → List Entry → Entry = g.entry in let L : Share = Share.left r in let had : ℕ → _ = had_of 𝓛 site pass keys.held activation.life [] L (λ v. v) entry g.trades γ in
    let after : ℕ → Fml = after_with 𝓛 site [] pass.id pass.seen keys.held β [] L (λ v. v) entry g.trades had in let out : ℕ → Fml = λ v. fsep (flft ν s) (after v) in
    first ! $ blocks ! $ sets ! (addr ! (through ! refl (stop !))) refl (tt, tt) $ sets ! (of_opd ! (get ! refl)) refl (tt, tt) $
    nothing ! $ move ! (21 ∷ 0 ∷ []) $ fjoin ! $ nothing ! $ join ! $ move ! (0 ∷ 19 ∷ []) $ join ! $ move ! (9 ∷ 0 ∷ []) $ join ! $ move ! (3 ∷ 0 ∷ []) $ join ! $ move ! (13 ∷ 0 ∷ []) $ join ! $ move ! (14 ∷ 2 ∷ 0 ∷ []) $
    use3 𝓛 (raw (𝓣.C _ (vptr b o ∷ seq_cst ∷ []) (λ u. mean 𝓛 (found out u))))
    (via 𝓤 _ (steps_with 𝓛 site [] pass.id pass.seen keys.held β [] L (λ v. v) entry g.trades b o t.1 ν s apart distinct pass.size asked.1.3 asked.1.2 (brought 𝓛 activation.life γ) had (takes 𝓛 site pass keys.held activation.life [] L (λ v. v) entry g.trades γ asked.0 asked.2))
    (loads 𝓛 𝓜 𝓡 (code.calls-core::raw_atomic::load 𝓡.env wired) (block_ptr b o) out)) $
    sets ! (agg ! (and_then ! (lit ! tt) (no_more !))) refl (tt, (record { fits = lit< tt }, tt)) $
    Calls-last ! (fm 𝓛 𝓜 𝓡) (found out) (and_then ! (get ! refl) (and_then ! (get ! refl) (no_more !))) (λ u. finds ! out (λ v fits. lands_last ! refl (tt, record { fits = fits }) $ exec ! 𝓣.C 𝓣.Λ Ev (tail fn.body) (at_ret Ev Post) $ sets ! (of_opd ! (get ! refl)) refl (tt, record { fits = fits }) $
    fsplit ! $ move ! (0 ∷ 13 ∷ []) $ use2 𝓛 (later (‵ (flft κs.0 qs.0))) (apply∗ 𝓤 (𝓛.A.lft ν s) (H.⇛ (𝓛.A.lft κs.0 qs.0))) $ await ! tt $ move ! (1 ∷ []) $ fpick ! (λ x. fsplit ! $ fpick ! (λ so. drop ! $ fsplit ! $ move ! (1 ∷ []) $ fsplit ! $ move ! (1 ∷ []) $ fsplit ! $ fsplit ! $
    -- [half of the token; nothing; what was taken; the keys'; the pass's; the word's token; the book; the pass; its cell, in four entries; the keys; their cell; the other tokens; the open escrow; the way back; the activation]
    let shown : Option ℕ = seen_there 𝓛 site pass keys.held activation.life [] L (λ v. v) entry g.trades γ v x in move ! (2 ∷ 18 ∷ 20 ∷ []) $
    use3 𝓛 (later (‵ (glimpse κ shown) ⊛ ‵ (flft β (Share.right r)))) (closes_glimpse 𝓛 activation.life γ κ (Share.right r) shown) $ await ! tt $ split ! $ move ! (2 ∷ 1 ∷ []) $ use2 𝓛 (‵ (flft β r)) (𝓛.lfts.lft_join β r) $
    move ! (0 ∷ 18 ∷ []) $ use2 𝓛 (later (‵ (flft κ qs.1.1.0))) (apply∗ 𝓤 (𝓛.A.lft β r) (H.⇛ (𝓛.A.lft κ qs.1.1.0))) $ await ! tt $
    -- [the activation's token; the glimpse; nothing; the keys'; the pass's; the word's token; the book; the pass; its cell, in four entries; the keys; their cell; the other tokens]
    move ! (2 ∷ []) $ drop ! $ move ! (3 ∷ 2 ∷ 4 ∷ 5 ∷ 6 ∷ 7 ∷ 8 ∷ 9 ∷ 10 ∷ 11 ∷ 12 ∷ 13 ∷ 14 ∷ 15 ∷ 16 ∷ []) $
    -- [the pass's; the keys'; the word's token; the book; the pass; its cell, in four entries; the keys; their cell; the other tokens; the activation's; the glimpse]
    let keys' : Keys.the_row.Denot = record keys { name = n; held = x.1 } in let pass' : (Pass.the_row ℓ).Denot = record pass { name = n; seen = x.0 } in
    move ! (3 ∷ 0 ∷ []) $ fjoin ! $ move ! (3 ∷ 0 ∷ []) $ join ! $ move ! (3 ∷ 0 ∷ 4 ∷ 5 ∷ 6 ∷ []) $ closes_pass ! tt ℓ pass' (ap (λ (z : Name). z.gate) (sym asked.1.0)) vs1 pb po $
    move ! (5 ∷ 3 ∷ []) $ fjoin ! $ move ! (5 ∷ 0 ∷ 6 ∷ 7 ∷ 8 ∷ []) $ closes ! tt Keys.the_row keys' vs0 kb ko $
    -- [the keys, in two; their token; the pass, in two; its token; the word's token; the other tokens; the activation's; the glimpse]
    flt_i ! v (2 ^ 64) fits $ feq_i ! (List Val) (vint w64 v ∷ []) (vint w64 v ∷ []) refl $ fjoin ! $ let res : Seen.Denot = record { marker = record {}; value = shown } in let pair : Val = pair_val (vint w64 v) token in
    move ! (10 ∷ []) $ use0 𝓛 (‵ ((Marked mark).own_val (record {}, tt) (token ∷ []))) (marked_made mark 𝓛) $ fjoin ! $ move ! (1 ∷ 0 ∷ []) $ use2 𝓛 (‵ ((Tuple (u64 ∷ Seen ∷ [])).own_val (v, res) (pair ∷ []))) (pair_of 𝓛 u64 Seen v res (vint w64 v) token) $
    sets ! (agg ! (no_more !)) refl (tt, tt) $ sets ! (agg ! (and_then ! (get ! refl) (no_more !))) refl (tt, (tt, tt)) $
    sets ! (agg ! (and_then ! (get ! refl) (and_then ! (get ! refl) (no_more !)))) refl (tt, (record { fits = fits }, ((tt, tt), tt))) $
    -- [the result; the keys, in two; their token; the pass, in two; its token; the word's; the other tokens; the activation's]
    move ! (6 ∷ 8 ∷ []) $ two_in ! $ move ! (8 ∷ 0 ∷ []) $ fjoin ! $ move ! (4 ∷ 0 ∷ []) $ fjoin ! $ move ! (6 ∷ 0 ∷ []) $ fjoin ! $
    -- [the tokens; the result; the keys, in two; the pass, in two]
    nothing ! $ feq_i ! (List Val) (vptr pb po ∷ []) (vptr pb po ∷ []) refl $ move ! (0 ∷ 6 ∷ 7 ∷ []) $ fjoin3 ! $ fjoin ! $ nothing ! $ fjoin ! $ feq_i ! (List Val) (vptr kb ko ∷ []) (vptr kb ko ∷ []) refl $ move ! (0 ∷ 4 ∷ 5 ∷ []) $ fjoin3 ! $ fjoin ! $ nothing ! $ fjoin ! $
    returns ! (look_at ! 0 refl) $ free_all ! refl $ keep ! (1 ∷ 0 ∷ 2 ∷ []) $
    by ! (ends 𝓛 En hs c y pair (v, res) (tt, (keys', (tt, (pass', tt)))) (tt, (tt, (tt, (tt, tt)))) (fact_i 𝓤 _ (emp 𝓤) (((asked.1.0, refl, refl), asked.1.0 ∙ sym asked.1.1, so), refl))))))))))))))))))
