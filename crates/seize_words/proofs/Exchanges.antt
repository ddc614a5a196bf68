-- The calls of links: what is asked of them is enough for a step, and what is known after one.
use Rattle.std.proofs.Common.{◌≡◌, ◌≢◌, ℕ, ◌+◌, ◌<◌, Bool, true, false, ◌==◌, List, [], ◌∷◌, ◌++◌, length, Option, Some, None, refl, sym, ◌∙◌, ap, subst, ◌⊎◌, inl, inr, arith}
use mathlib.Core.List.{IsPrefix}
use base.Growing.{prefix_trans}
use Rattle.seize_machine.specs.Machine.State.{State, head_at, is_active, link_at}
use Rattle.seize_machine.specs.Machine.Event.{ReadLink, ExchangeLink}
use Rattle.seize_machine.specs.Machine.Next.{is_stored, same_link}
use Rattle.seize_machine.specs.declared.machine.event.Exchange.{Exchange}
use Rattle.seize_machine.specs.declared.machine.event.Exchange.TheVariants.{Compare, Swap}
use Rattle.seize_machine.specs.declared.machine.event.Answer.{Answer}
use Rattle.seize_machine.specs.declared.machine.event.Answer.TheVariants.{Link as Held_}
use Rattle.seize_machine.proofs.Facts.{Step, linked_named, and_true, eq_true, is_true, links_length, next_of, step_of}
use Rattle.atomic_table.proofs.Lists as kit
use Rattle.seize_words.specs.Atomic.{after_exchange}
use Rattle.seize_book.specs.Blocks.{block_number, link_word}
use Rattle.seize_book.specs.Book.{Does, IsLegalList, after, blocks, kinds}
use Rattle.seize_book.specs.Entry.{Deed, Entry, Made, Used}
use Rattle.seize_book.specs.Homes.{home_of}
use Rattle.seize_book.specs.Laws.{IsAmong, Reader, ended_lives, life}
use Rattle.seize_book.specs.Ledger.{HeldKey, WithKinds}
use Rattle.seize_words.specs.Links.{IsNewIn, IsWithin, at_link, is_at_most_one, value_in, IsPairAllowed}
use Rattle.seize_words.specs.Stepping.{FoundAs, IsStepFor, MayStep, MayStepFor}
use Rattle.seize_book.specs.Tokens.{Name, start}
use Rattle.seize_book.proofs.Facts.{after_push, equal, reached_after, unequal}
use Rattle.seize_book.proofs.Facts as facts
use Rattle.seize_book.proofs.Loans.{found_named, found_now, reader_later}
use Rattle.seize_words.proofs.Activations.{still}
use Rattle.seize_words.proofs.Links.{found_first, legal_link, miss_does, miss_step, read_step, same, store_step}
use Rattle.seize_book.proofs.Lives.{legal_first}

-- there are as many links as at the beginning
links_stay : (st : State) (log : List Entry) → IsLegalList st log → length (after st log).links ≡ length st.links
links_stay st [] l = refl
links_stay st (Used u ∷ log) l = links_stay st log l
links_stay st (Made e ∷ log) l =
    let w = legal_first st e log l in
    ap (λ (d : _). length (after d.0 log).links) w.2 ∙ links_stay (w.0).0 log w.3 ∙ links_length e.size st e.event w.0 (step_of _ _ _ _ w.1)

-- An exchange that compares stores where the link holds just that, and where its word differs it doesn't.

is_same : (o : Option ℕ) → same_link o o ≡ true
is_same None = refl
is_same (Some v) = equal v v refl

same_words : (o q : Option ℕ) → same_link o q ≡ true → link_word o ≡ link_word q
same_words None None h = refl
same_words (Some v) (Some w) h = ap (λ (k : ℕ). link_word (Some k)) (eq_true v w h)
same_words None (Some w) h = absurd (cc)
same_words (Some v) None h = absurd (cc)

pub hit : (current old o : Option ℕ) → old ≡ current → is_stored old (Compare current o) ≡ true
hit current old o same = ap (λ (q : Option ℕ). same_link q current) same ∙ is_same current

pub missed : (current old o : Option ℕ) → link_word old ≢ link_word current → is_stored old (Compare current o) ≡ false
missed current old o differs = apart (is_true (same_link old current))
  where
    apart : (same_link old current ≡ true) ⊎ (same_link old current ≡ false) → same_link old current ≡ false
    apart (inl h) = absurd (differs (same_words old current h))
    apart (inr h) = h

module _ (n : Name) (s a l : ℕ) (since seen : List Entry) (in_ : IsWithin n s a since seen l) where
  abbrev st : State
  st = start n

  abbrev At : Type 0
  At = List Entry × List (HeldKey Entry)

  -- whoever has the activation knows that the slot is active, in this activation, and that the link is there
  pub within : (v p : ℕ) (held : List (HeldKey Entry)) (t : At) (log : List Entry) → FoundAs (at_link n l) v p seen held (a ∷ []) t log
      → (is_active (head_at (after st log) s) ≡ true) × (l < length (after st log).links) × (life s log ≡ a)
  within v p held t log found =
      let on = active (now (prefix_trans since seen log in_.known found.before.grows)) in
      (on.0, subst (λ (k : ℕ). l < k) (sym (links_stay st log found.before.legal)) in_.is_link, on.1)
    where
      During : List Entry → ℕ → Type 0
      During z b = ((is_active (head_at (after st z) s) ≡ true) × (life s z ≡ b)) ⊎ IsAmong (ended_lives z) b

      now : IsPrefix since log → During log a
      now grows =
          subst (During log) in_.its
          (subst (λ (z : List Entry). During z (life s since)) grows.1
          (still st since grows.0 s (subst (IsLegalList st) (sym grows.1) found.before.legal) in_.active))

      active : During log a → (is_active (head_at (after st log) s) ≡ true) × (life s log ≡ a)
      active (inl on) = on
      active (inr over) = absurd (found.none_ended a (inl refl) over)

  pub may_read_link : (p size : ℕ) → MayStep (at_link n l) p seen [] (a ∷ []) [] (λ v. v) (λ v log. Made (record { pass = p; size = size; event = ReadLink s l; life = 0; kepts = [] })) (λ v. false)
  may_read_link p size = (tt, (λ v t own log found. let w = within v p [] t log found in read_step n l v p size s seen [] (a ∷ []) t own log found w.0 w.1))

  -- and finds what the link holds
  pub read_finds : (p size : ℕ) (v : ℕ) (t : At) (log : List Entry) → FoundAs (at_link n l) v p seen [] (a ∷ []) t log → (w : ℕ)
      → link_at (after st (log ++ Made (record { pass = p; size = size; event = ReadLink s l; life = 0; kepts = [] }) ∷ [])) l ≡ Some w
      → Reader st (log ++ Made (record { pass = p; size = size; event = ReadLink s l; life = 0; kepts = [] }) ∷ []) w a
  read_finds p size v t log found w is =
      let e : Deed = record { pass = p; size = size; event = ReadLink s l; life = 0; kepts = [] } in let now : State = after st log in let d : State × Answer = (now, Held_ (link_at now l)) in let here = within v p [] t log found in
      let does : Does st log (Made e) d = next_of size now (ReadLink s l) d (Step.read s l (legal_link now s l here.0 here.1)) in
      let holds : link_at now l ≡ Some w = sym (ap (λ (z : State). link_at z l) (after_push st log (Made e) d found.before.legal does)) ∙ is in
      subst (Reader st (log ++ Made e ∷ []) w) here.2 (found_now st log e d s w does (equal s s refl) holds)

  all_blocks : (held : List (HeldKey Entry)) → is_at_most_one held ≡ true → WithKinds kinds held
  all_blocks [] one = tt
  all_blocks (x ∷ []) one = (let is : x.kind ≡ blocks = eq_true x.kind blocks (and_true (x.kind == blocks) (x.key == home_of x.label) one).0 in omega arith, tt)
  all_blocks (x ∷ y ∷ held) one = absurd (cc)

  pub may_swap_link : (p size new : ℕ) (held : List (HeldKey Entry)) → is_at_most_one held ≡ true → IsNewIn n (value_in held) held → new ≡ link_word (value_in held)
      → (allowed : List ℕ) → ((old : Option ℕ) → IsPairAllowed allowed p l old (value_in held))
      → MayStepFor allowed [] (at_link n l) p seen held (a ∷ []) [] (λ v. new) (λ v log. Made (record { pass = p; size = size; event = ExchangeLink s l (Swap (value_in held)); life = 0; kepts = [] })) (λ v. true)
  may_swap_link p size new held one fresh word allowed pairs =
      (all_blocks held one, (λ v t own log found. let w = within v p held t log found in store_step n l v p size s seen held (a ∷ []) t own log found w.0 w.1 (value_in held) (Swap (value_in held)) refl fresh allowed new word refl (pairs (link_at (after st log) l))))

  -- Where the link holds a value of the block in which a value was found, in an activation that has not ended, it holds that: both are named
  -- and not reclaimed, and blocks of one number are one block.
  module _ (b : ℕ) (current : Option ℕ) (was : (x : ℕ) → current ≡ Some x → Reader st seen x b) (p : ℕ) (held : List (HeldKey Entry)) where
    Found : ℕ → At → List Entry → Type 0
    Found v t log = FoundAs (at_link n l) v p seen held (a ∷ b ∷ []) t log

    holds_current : (v : ℕ) (t : At) (log : List Entry) → Found v t log → (old o : Option ℕ) → link_at (after st log) l ≡ old → current ≡ o → link_word old ≡ link_word o → old ≡ o
    unfolding Found
    holds_current v t log found None None at is word = refl
    holds_current v t log found None (Some x) at is word = absurd (let e : 0 ≡ block_number x + 1 = word in omega (arith, e))
    holds_current v t log found (Some y) None at is word = absurd (let e : block_number y + 1 ≡ 0 = word in omega (arith, e))
    holds_current v t log found (Some y) (Some x) at is word =
        let before = found.before in let there : Reader st log x b = reader_later st seen log x b before.grows (was x is) in
        let lives = linked_named (after st log) (reached_after n log found.distinct before.legal) l y at in
        let named = found_named st log there.1 x there.0 (reached_after n [] found.distinct refl) before.legal there.2 in
        let stands = facts.found_stands n log found.distinct before.legal x b there (found.none_ended b (inr (inl refl))) in
        let numbers : block_number y ≡ block_number x = (let e : block_number y + 1 ≡ block_number x + 1 = word in omega (arith, e)) in
        ap Option.Some (before.sound.one y x (before.homes y x lives.0 named numbers) lives.0 named lives.1 stands)

    pub is_current : (v : ℕ) (t : At) (log : List Entry) → FoundAs (at_link n l) v p seen held (a ∷ b ∷ []) t log → v ≡ link_word current → link_at (after st log) l ≡ current
    unfolding Found
    is_current v t log found word = holds_current v t log found (link_at (after st log) l) current refl refl (sym (found.shows ∙ ap link_word (same n l v p seen held (a ∷ b ∷ []) t log found)) ∙ word)

    abbrev exchange : Exchange
    exchange = Compare current (value_in held)

    abbrev entry : ℕ → Entry
    entry size = Made (record { pass = p; size = size; event = ExchangeLink s l exchange; life = 0; kepts = [] })

    pub may_compare_link : (size new : ℕ) → is_at_most_one held ≡ true → IsNewIn n (value_in held) held → new ≡ link_word (value_in held)
        → (allowed : List ℕ) → IsPairAllowed allowed p l current (value_in held)
        → MayStepFor allowed [] (at_link n l) p seen held (a ∷ b ∷ []) [] (after_exchange (link_word current) new) (λ v log. Made (record { pass = p; size = size; event = ExchangeLink s l (Compare current (value_in held)); life = 0; kepts = [] })) (λ v. v == link_word current)
    may_compare_link size new one fresh word allowed pair = (all_blocks held one, step)
      where
        step : (v : ℕ) (t : At) (own log : List Entry) → FoundAs (at_link n l) v p seen held (a ∷ b ∷ []) t log
            → IsStepFor allowed [] (at_link n l) p held [] (after_exchange (link_word current) new v) (entry size) (v == link_word current) t own log
        step v t own log found =
            let w = within v p held t log (found_first a (b ∷ []) found) in let old : Option ℕ = link_at (after st log) l in let is : v ≡ link_word old = found.shows ∙ ap link_word (same n l v p seen held (a ∷ b ∷ []) t log found) in
            kit.exchanged v (link_word current) new (λ x. IsStepFor allowed [] (at_link n l) p held [] x (entry size) (v == link_word current) t own log)
            (λ seen_there. let at : old ≡ current = is_current v t log found seen_there in
            subst (λ (c : Bool). IsStepFor allowed [] (at_link n l) p held [] new (entry size) c t own log) (sym (equal v (link_word current) seen_there))
            (store_step n l v p size s seen held (a ∷ b ∷ []) t own log found w.0 w.1 (value_in held) exchange refl fresh allowed new word (hit current old (value_in held) at) (subst (λ (o : Option ℕ). IsPairAllowed allowed p l o (value_in held)) (sym at) pair)))
            (λ differs. subst (λ (c : Bool). IsStepFor allowed [] (at_link n l) p held [] v (entry size) c t own log) (sym (unequal v (link_word current) differs))
            (miss_step n l v p size s seen held (a ∷ b ∷ []) t own log found w.0 w.1 (value_in held) exchange refl fresh allowed (missed current old (value_in held) (λ x. differs (is ∙ x)))))

  -- and where something else is there, finds that
  pub compare_finds : (p size : ℕ) (current : Option ℕ) (held : List (HeldKey Entry)) → IsNewIn n (value_in held) held → (v : ℕ) (t : At) (log : List Entry) → FoundAs (at_link n l) v p seen held (a ∷ []) t log → (v == link_word current) ≡ false → (w : ℕ)
      → link_at (after st (log ++ Made (record { pass = p; size = size; event = ExchangeLink s l (Compare current (value_in held)); life = 0; kepts = [] }) ∷ [])) l ≡ Some w
      → Reader st (log ++ Made (record { pass = p; size = size; event = ExchangeLink s l (Compare current (value_in held)); life = 0; kepts = [] }) ∷ []) w a
  compare_finds p size current held fresh v t log found differs w is =
      let now : State = after st log in let old : Option ℕ = link_at now l in let o : Option ℕ = value_in held in let e : Deed = record { pass = p; size = size; event = ExchangeLink s l (Compare current o); life = 0; kepts = [] } in
      let d : State × Answer = (now, Held_ old) in let here = within v p held t log found in
      let shows : v ≡ link_word old = found.shows ∙ ap link_word (same n l v p seen held (a ∷ []) t log found) in
      let not_seen : link_word old ≢ link_word current = λ x. absurd (let both : true ≡ false = sym (equal v (link_word current) (shows ∙ x)) ∙ differs in cc) in
      let does : Does st log (Made e) d = miss_does n l v p size s seen held (a ∷ []) t log log found here.0 here.1 o (Compare current o) refl fresh (missed current old o not_seen) in
      let holds : old ≡ Some w = sym (ap (λ (z : State). link_at z l) (after_push st log (Made e) d found.before.legal does)) ∙ is in
      subst (Reader st (log ++ Made e ∷ []) w) here.2 (found_now st log e d s w does (equal s s refl) holds)
