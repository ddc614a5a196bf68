-- One turn of the loop over a list of calls.
use Rattle.std.proofs.Common.{◌≡◌, ℕ, List, [], ◌∷◌, ◌++◌, map, All, inl, inr, refl, sym, ◌∙◌, ap, subst}
use Rattle.std.proofs.lemmas.List.Elements.{All-nil, All-cons, All-append, All-same}
use Rattle.std.proofs.lemmas.List.{append_assoc, append-nil, map-append}
use Rattle.std.proofs.lemmas.List.Sums.{fold-append}
use Rattle.seize_model.specs.Waiting.Attempt.{StateAndGone, with_gone}
use Rattle.seize_model.specs.Waiting.Lists.{Call, step, Answered, Replied}
use Rattle.seize_model.specs.Waiting.State.{ModelState}
use Rattle.seize_model.proofs.WaitingSets.Lists.{replied_more}
use Rattle.seize.specs.Running.{call_of, reply_of, AreFor, DoesCall}
use Rattle.seize_parts.specs.Told.{told_of}
use Rattle.seize.specs.declared.alone.running.Call.{Call as CodeCall}
use Rattle.seize.specs.declared.alone.running.Reply.{Reply as CodeReply}

pub all_pushed : {X : Type 0} (P : X → Type 0) (xs ys : List X) (x : X) → All P xs → P x → ys ≡ xs ++ x ∷ [] → All P ys
all_pushed P xs ys x all one e = All-same P ys (xs ++ x ∷ []) e (All-append P xs (x ∷ []) all (All-cons P x [] one (All-nil P)))

module _ {T Seen : Type 0} (puts : ℕ → T → List T) (weight : T → ℕ) (told : Seen → T → Seen)
    (owners : T → List (List ℕ)) (store : List ℕ) (links : ℕ) where
  -- what was done so far
  abbrev pub Made : List (CodeCall T) → List (CodeCall T) → List (CodeReply T) → List (CodeReply T) → ModelState T ℕ → ModelState T ℕ → Seen → Seen → Type 0
  Made calls0 calls replies0 replies old now seen seen' =
      (made : List (Call T ℕ)) × (added : List (CodeReply T)) × (o : StateAndGone T ℕ)
      × Replied puts weight old made (map reply_of added) o
      × (made ++ map call_of calls ≡ map call_of calls0)
      × AreFor owners store links calls
      × (replies ≡ replies0 ++ added)
      × (now ≡ o.0) × (seen' ≡ told_of told seen o.1)

  pub made_none_yet : (calls : List (CodeCall T)) (replies start : List (CodeReply T)) (now : ModelState T ℕ) (seen : Seen)
      → AreFor owners store links calls → start ≡ replies → Made calls calls replies start now now seen seen
  made_none_yet calls replies start now seen h e =
      ([], [], (now, []), Replied.no_call now, refl, h, e ∙ sym (append-nil replies), refl, refl)

  -- one call after these
  one_more : (calls0 calls : List (CodeCall T)) (replies0 replies more : List (CodeReply T)) (old now next : ModelState T ℕ) (seen heard after : Seen)
      → (call : CodeCall T) (rest : List (CodeCall T)) (reply : CodeReply T) (last : StateAndGone T ℕ)
      → Made calls0 calls replies0 replies old now seen heard
      → calls ≡ call ∷ rest
      → Answered puts weight now (call_of call) (reply_of reply) last
      → next ≡ last.0 → after ≡ told_of told heard last.1
      → more ≡ replies ++ reply ∷ []
      → Made calls0 rest replies0 more old next seen after
  one_more calls0 calls replies0 replies more old now next seen heard after call rest reply last (made, added, o, replied, split, ranges, texts, state, before) e answered is tells pushed = (
    made ++ call_of call ∷ [],
    added ++ reply ∷ [],
    with_gone o.1 last,
    subst (λ answers. Replied puts weight old (made ++ call_of call ∷ []) answers (with_gone o.1 last)) (sym (map-append reply_of added (reply ∷ [])))
        (replied_more puts weight old made (map reply_of added) o (call_of call) (reply_of reply) last replied
        (subst (λ k. Answered puts weight k (call_of call) (reply_of reply) last) state answered)),
    append_assoc made (call_of call ∷ []) (map call_of rest) ∙ ap (λ cs. made ++ map call_of cs) (sym e) ∙ split,
    (subst (λ (cs : List (CodeCall T)). AreFor owners store links cs) e ranges).1,
    pushed ∙ ap (λ rs. rs ++ reply ∷ []) texts ∙ append_assoc replies0 added (reply ∷ []),
    is,
    tells ∙ ap (λ s. told_of told s last.1) before ∙ sym (fold-append (λ s v. told s v.0) seen o.1 last.1),
  )

  -- one turn of the loop
  pub made_next : (calls0 calls : List (CodeCall T)) (replies0 replies more : List (CodeReply T)) (old now next : ModelState T ℕ) (seen heard after : Seen)
      → (call : CodeCall T) (rest : List (CodeCall T)) (reply : CodeReply T)
      → Made calls0 calls replies0 replies old now seen heard
      → calls ≡ call ∷ rest
      → DoesCall puts weight told call reply now next heard after
      → more ≡ replies ++ reply ∷ []
      → Made calls0 rest replies0 more old next seen after
  made_next calls0 calls replies0 replies more old now next seen heard after call rest reply made e (inl (answer, state, tells)) pushed =
      one_more calls0 calls replies0 replies more old now next seen heard after call rest reply (step puts weight now (call_of call)).1
      made e (inl (answer, refl)) state tells pushed
  made_next calls0 calls replies0 replies more old now next seen heard after call rest reply made e (inr (number, refused, state, tells)) pushed =
      one_more calls0 calls replies0 replies more old now next seen heard after call rest reply (now, [])
      made e (inr (number, refused, refl)) state tells pushed
