-- What each list of the book keeps beside being legal: of the values of one home that were named, at most one was not reclaimed.
use Rattle.std.proofs.Common.{◌≡◌, ℕ, ◌+◌, ◌<◌, ◌≤◌, Bool, true, false, ◌||◌, ◌==◌, if◌then◌else◌, List, [], ◌∷◌, ◌++◌, length, refl, sym, ◌∙◌, ap, subst, ◌⊎◌, inl, inr, arith}
use mathlib.Core.List.{IsPrefix}
use Rattle.seize_table.specs.Place.{all_numbers}
use Rattle.seize_machine.specs.Machine.State.{State, has}
use Rattle.seize_machine.specs.Machine.Event.{Event}
use Rattle.seize_machine.specs.Machine.Frames.{slots_added}
use Rattle.seize_machine.specs.Machine.History.{done_by}
use Rattle.seize_machine.specs.Machine.Next.{next}
use Rattle.seize_machine.specs.declared.machine.event.Answer.{Answer}
use Rattle.seize_machine.proofs.Facts.{Step, eq_true, gone_grows, is_true, named_grows, slots_length, some_is, step_of, value_frame}
use Rattle.seize_book.specs.Entry.{Entry, Made, Used, timed_deed}
use Rattle.seize_book.specs.Book.{IsLegalList, Does, HolderKnows, TheBlock, after}
use Rattle.seize_book.specs.Ledger.{HeldKey}
use Rattle.seize_book.specs.Fair.{NamesLabels}
use Rattle.seize_book.specs.Homes.{HasOne, IsSound, IsVacant, changes_home, home_of}
use Rattle.seize_book.proofs.Homes.{home_value}
use Rattle.seize_book.proofs.Lists.{after_push}
use Rattle.seize_book.proofs.Lives.{legal_first}

-- what was not reclaimed afterwards was not before
not_gone : (v size : ℕ) (st : State) (event : Event) (d : State × Answer) → Step size st event d → has v (d.0).gone ≡ false → has v st.gone ≡ false
not_gone v size st event d step h = go (is_true (has v st.gone))
  where
    go : (has v st.gone ≡ true) ⊎ (has v st.gone ≡ false) → has v st.gone ≡ false
    go (inl t) = absurd (let b : true ≡ false = sym (gone_grows v size st event d step t) ∙ h in cc)
    go (inr f) = f

-- a change that no event takes back, and no use makes
module _ (Is : State → Type 0) (stays : (size : ℕ) (st : State) (event : Event) (d : State × Answer) → Step size st event d → Is st → Is d.0) where
  stays_after : (st : State) (more : List Entry) → IsLegalList st more → Is st → Is (after st more)
  stays_after st [] l h = h
  stays_after st (Used u ∷ more) l h = stays_after st more l h
  stays_after st (Made e ∷ more) l h =
      let w = legal_first st e more l in subst (λ (d : State × Answer). Is (after d.0 more)) (sym w.2) (stays_after (w.0).0 more w.3 (stays e.size st e.event w.0 (step_of _ _ _ _ w.1) h))

  stays_on : (st : State) (own more : List Entry) → IsLegalList st (own ++ more) → Is (after st own) → Is (after st (own ++ more))
  stays_on st [] more l h = stays_after st more l h
  stays_on st (Used u ∷ own) more l h = stays_on st own more l h
  stays_on st (Made e ∷ own) more l h =
      let w = legal_first st e (own ++ more) l in stays_on (done_by next st (timed_deed e)).0 own more (subst (λ (d : State × Answer). IsLegalList d.0 (own ++ more)) (sym w.2) w.3) h

  stays_later : (st : State) (own log : List Entry) → IsPrefix own log → IsLegalList st log → Is (after st own) → Is (after st log)
  stays_later st own log grows l h = subst (λ (x : List Entry). Is (after st x)) grows.1 (stays_on st own grows.0 (subst (IsLegalList st) (sym grows.1) l) h)

-- what was named stays so as the list goes on
pub named_later : (st : State) (own log : List Entry) (v : ℕ) → IsPrefix own log → IsLegalList st log → has v (after st own).named ≡ true → has v (after st log).named ≡ true
named_later st own log v = stays_later (λ z. has v z.named ≡ true) (λ size st event d step. named_grows v size st event d step) st own log

-- and what was reclaimed
pub gone_later : (st : State) (own log : List Entry) (v : ℕ) → IsPrefix own log → IsLegalList st log → has v (after st own).gone ≡ true → has v (after st log).gone ≡ true
gone_later st own log v = stays_later (λ z. has v z.gone ≡ true) (λ size st event d step. gone_grows v size st event d step) st own log

-- and a home that its key knows to be vacant
pub vacant_later : (st : State) (own log : List Entry) (k : ℕ) → IsLegalList st log → HolderKnows st TheBlock k own log → IsVacant (after st own) k → IsVacant (after st log) k
vacant_later st own log k l kept vacant = λ v home named. gone_later st own log v kept.0 l (vacant v home ((kept.1 v home).0 ∙ named))

-- an event that names nothing that was not named
pub old_named : (size : ℕ) (st : State) (event : Event) (d : State × Answer) → Step size st event d → ((v : ℕ) → has v (d.0).named ≡ true → has v st.named ≡ true) → HasOne st → HasOne d.0
old_named size st event d step names one = λ v w home a b c e. one v w home (names v a) (names w b) (not_gone v size st event d step c) (not_gone w size st event d step e)

-- an event that names no value
pub same_named : (size : ℕ) (st : State) (event : Event) (d : State × Answer) → Step size st event d → ((k : ℕ) → changes_home st k event ≡ false) → (v : ℕ) → has v (d.0).named ≡ has v st.named
same_named size st event d step none v = (value_frame v size st event d step (home_value st v event (none (home_of v)))).0

pub no_labels : (held : List (HeldKey Entry)) (size : ℕ) (st : State) (event : Event) (d : State × Answer) → Step size st event d → ((k : ℕ) → changes_home st k event ≡ false) → NamesLabels st held d.0
no_labels held size st event d step none v named = inl (sym (same_named size st event d step none v) ∙ named)

pub none_named : (size : ℕ) (st : State) (event : Event) (d : State × Answer) → Step size st event d → ((k : ℕ) → changes_home st k event ≡ false) → HasOne st → HasOne d.0
none_named size st event d step none = old_named size st event d step (λ v a. sym (same_named size st event d step none v) ∙ a)

-- an event that names at most this value, in whose home all that were named were reclaimed
pub new_named : (size : ℕ) (st : State) (event : Event) (d : State × Answer) (new : ℕ) → Step size st event d → ((v : ℕ) → has v (d.0).named ≡ true → (v ≡ new) ⊎ (has v st.named ≡ true)) → IsVacant st (home_of new) → HasOne st → HasOne d.0
new_named size st event d new step names vacant one = λ v w home a b c e. go v w home (not_gone v size st event d step c) (not_gone w size st event d step e) (names v a) (names w b)
  where
    gone : (v : ℕ) → home_of v ≡ home_of new → has v st.named ≡ true → has v st.gone ≡ false → ⊥
    gone v home a c = let b : true ≡ false = sym (vacant v home a) ∙ c in cc

    go : (v w : ℕ) → home_of v ≡ home_of w → has v st.gone ≡ false → has w st.gone ≡ false → (v ≡ new) ⊎ (has v st.named ≡ true) → (w ≡ new) ⊎ (has w st.named ≡ true) → v ≡ w
    go v w home c e (inl x) (inl y) = x ∙ sym y
    go v w home c e (inl x) (inr y) = absurd (gone w (sym home ∙ ap home_of x) y e)
    go v w home c e (inr x) (inl y) = absurd (gone v (home ∙ ap home_of y) x c)
    go v w home c e (inr x) (inr y) = one v w home x y c e

-- a value after others
pub pushed : (v : ℕ) (xs : List ℕ) (u : ℕ) → has u (xs ++ v ∷ []) ≡ true → (u ≡ v) ⊎ (has u xs ≡ true)
pushed v [] u h = inl (sym (eq_true v u (one (v == u) h)))
  where
    one : (b : Bool) → (b || false) ≡ true → b ≡ true
    one true e = refl
    one false e = e
pushed v (x ∷ xs) u h = first (x == u) (pushed v xs u) h
  where
    first : (b : Bool) → (has u (xs ++ v ∷ []) ≡ true → (u ≡ v) ⊎ (has u xs ≡ true)) → (b || has u (xs ++ v ∷ [])) ≡ true → (u ≡ v) ⊎ ((b || has u xs) ≡ true)
    first true rest e = inr refl
    first false rest e = rest e

pub has_last : (v : ℕ) (xs : List ℕ) → has v (xs ++ v ∷ []) ≡ true
has_last v [] = grind arith
has_last v (x ∷ xs) = ap (λ (b : Bool). (x == v) || b) (has_last v xs) ∙ or_true (x == v)
  where
    or_true : (b : Bool) → (b || true) ≡ true
    or_true true = refl
    or_true false = refl

few_added : (size : ℕ) (st : State) (event : Event) (d : State × Answer) → Step size st event d → length st.slots ≤ all_numbers → length st.slots + slots_added st event ≤ all_numbers
few_added size st event _ (Step.took_new s e free) few = at_most s (s == length st.slots) refl free.1
  where
    at_most : (s : ℕ) (b : Bool) → (s == length st.slots) ≡ b → s < all_numbers → length st.slots + (if b then 1 else 0) ≤ all_numbers
    at_most s true e less = (let is : s ≡ length st.slots = grind arith in omega (arith, less, is))
    at_most s false e less = omega (arith, few)
few_added size st event _ (Step.took_old s l u free) few = at_most (s == length st.slots) refl
  where
    at_most : (b : Bool) → (s == length st.slots) ≡ b → length st.slots + (if b then 1 else 0) ≤ all_numbers
    at_most true e = (let is : s ≡ length st.slots = grind arith in omega (arith, l, is))
    at_most false e = omega (arith, few)
few_added size st event _ _ few = omega (arith, few)

few_kept : (size : ℕ) (st : State) (event : Event) (d : State × Answer) → Step size st event d → length st.slots ≤ all_numbers → length (d.0).slots ≤ all_numbers
few_kept size st event d step few = subst (λ (n : ℕ). n ≤ all_numbers) (sym (slots_length size st event d step)) (few_added size st event d step few)

few_still : (st : State) (log : List Entry) (e : Entry) (d : State × Answer) → Does st log e d → length (after st log).slots ≤ all_numbers → length (d.0).slots ≤ all_numbers
few_still st log (Made x) d h few = few_kept x.size (after st log) x.event d (step_of _ _ _ _ h) few
few_still st log (Used u) d h few = subst (λ (z : State). length z.slots ≤ all_numbers) (ap (λ (x : State × Answer). x.0) (some_is _ _ h)) few

-- so does a longer list
pub sound_push : (st : State) (log : List Entry) (e : Entry) (d : State × Answer) → IsLegalList st log → Does st log e d → (HasOne (after st log) → HasOne d.0) → IsSound (after st log) → IsSound (after st (log ++ e ∷ []))
sound_push st log e d l h one sound =
    subst IsSound (sym (after_push st log e d l h)) (record { one = one sound.one; few = few_still st log e d h sound.few })
