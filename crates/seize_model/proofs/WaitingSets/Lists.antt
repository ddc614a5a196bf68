-- Lists of calls where memory may be refused.
use Rattle.std.proofs.Common.{◌≡◌, ℕ, true≢false, List, [], ◌∷◌, ◌++◌, inl, inr, refl, sym, ◌∙◌, ap, subst}
use Rattle.std.specs.List.{list_any}
use Rattle.std.proofs.lemmas.List.{append_assoc, append-nil}
use Rattle.seize_model.specs.Waiting.State.{ModelState}
use Rattle.seize_model.specs.Waiting.Attempt.{StateAndGone, with_gone}
use Rattle.seize_model.specs.Waiting.Lists.{Call, Reply, step, run, Answered, Replied, wants_memory, AmpleLaw}
use Rattle.seize_model.proofs.Cases.{or_false}

-- a call more at the end
pub replied_more : {T R : Type 0} (puts : R → T → List T) (weight : T → ℕ) (st : ModelState T R) (calls : List (Call T R)) (answers : List (Reply T)) (o : StateAndGone T R) (call : Call T R) (answer : Reply T) (last : StateAndGone T R)
    → Replied puts weight st calls answers o
    → Answered puts weight o.0 call answer last
    → Replied puts weight st (calls ++ call ∷ []) (answers ++ answer ∷ []) (with_gone o.1 last)
replied_more puts weight st calls answers o call answer last (Replied.no_call _) done =
    subst (λ gone. Replied puts weight st (call ∷ []) (answer ∷ []) (last.0, gone)) (append-nil last.1)
    (Replied.first_call st call answer last [] [] (last.0, []) done (Replied.no_call last.0))
replied_more puts weight st calls answers o call answer last (Replied.first_call _ c a first cs said rest is more) done =
    subst (λ gone. Replied puts weight st (c ∷ cs ++ call ∷ []) (a ∷ said ++ answer ∷ []) (last.0, gone)) (sym (append_assoc first.1 rest.1 last.1))
    (Replied.first_call st c a first (cs ++ call ∷ []) (said ++ answer ∷ []) (with_gone rest.1 last) is
    (replied_more puts weight first.0 cs said rest call answer last more done))

-- where no reply is that memory was refused, the calls did what `run` says
pub ample : {T R : Type 0} (puts : R → T → List T) (weight : T → ℕ) → AmpleLaw puts weight
ample puts weight st calls answers o (Replied.no_call _) e = refl
ample puts weight st calls answers o (Replied.first_call _ c a first cs said rest (inl did) more) e =
    let later : (said, rest) ≡ run puts weight first.0 cs = ample puts weight first.0 cs said rest more (or_false (wants_memory a) (list_any wants_memory said) e).1 in
    ap (λ r. (a ∷ r.0, with_gone first.1 r.1)) later
    ∙ ap (λ k. (a ∷ (run puts weight k.0 cs).0, with_gone k.1 (run puts weight k.0 cs).1)) did.1
    ∙ ap (λ k. (k ∷ (run puts weight (step puts weight st c).1.0 cs).0, with_gone (step puts weight st c).1.1 (run puts weight (step puts weight st c).1.0 cs).1)) did.0
ample puts weight st calls answers o (Replied.first_call _ c a first cs said rest (inr did) more) e =
    absurd (true≢false (sym (ap wants_memory did.1) ∙ (or_false (wants_memory a) (list_any wants_memory said) e).0))
