-- Events that change nothing but a slot's own record: its key is enough.
use Rattle.std.proofs.Common.{◌≡◌, ℕ, zero, suc, ◌<◌, true, false, ◌==◌, List, [], ◌∷◌, ◌++◌, Option, Some, is_some, refl, sym, ◌∙◌, ap, subst, ⊎_elim, append-nil, arith}
use base.Stored.{gnil}
use Rattle.std.specs.Prelude.{take, drop}
use Rattle.seize_machine.specs.Machine.State.{State, slot_at, head_at, is_active}
use Rattle.seize_machine.specs.Machine.Event.{Event, event_slot}
use Rattle.seize_machine.specs.Machine.Next.{next}
use Rattle.seize_machine.specs.Machine.Frames.{changes_slot, changes_used, changes_numbers}
use Rattle.seize_machine.specs.declared.machine.event.Answer.{Answer}
use Rattle.seize_machine.proofs.Facts.{is_true, eq_true, step_of}
use Rattle.seize_book.specs.Ledger.{HeldKey, HoldersKnow, WithKinds, with_list, keys_made}
use Rattle.seize_book.specs.Blocks.{plans}
use Rattle.seize_book.specs.Chains.{field_value}
use Rattle.seize_book.specs.Entry.{Entry, Made, Deed}
use Rattle.seize_book.specs.Book.{after, births, makes_slot, TheSlot, TheTotal, HolderKnows, kinds, rules, slots, touches}
use Rattle.seize_book.specs.Fair.{AddsEntryWith, Before, Covers, Fair, MakesPlaced, EndsNone, StartsNone, MayAdd, pass_key}
use Rattle.seize_book.specs.Others.{BearsNone}
use Rattle.seize_book.specs.Private.{IsOwn, IsOpen, is_one, key_of, label_of, note_of, own_of}
use Rattle.seize_book.specs.Tokens.{Name, start}
use Rattle.seize_book.proofs.Chains.{unled}
use Rattle.seize_book.proofs.Pairs.{no_pair}
use Rattle.seize_book.proofs.Saying.{says_none}
use Rattle.seize_book.proofs.Sound.{no_labels, none_named}

-- the one key there is
abbrev pub only : ℕ → List (HeldKey Entry) → List (HeldKey Entry)
only r held = record { kind = r; key = key_of held; own = own_of held; label = label_of held; note = note_of held } ∷ []

pub only_is : (r : ℕ) (held : List (HeldKey Entry)) → is_one r held ≡ true → held ≡ only r held
only_is r [] h = absurd (cc)
only_is r (x ∷ y ∷ held) h = absurd (cc)
only_is r (x ∷ []) h = ap (λ (k : ℕ). record { kind = k; key = x.key; own = x.own; label = x.label; note = x.note } ∷ []) (eq_true x.kind r h)

-- the key after an event that it made
pub one_after : (r : ℕ) (held : List (HeldKey Entry)) (births : List (ℕ × ℕ)) (seen : List Entry) → is_one r held ≡ true
    → (key_of (with_list held seen ++ keys_made births seen) ≡ key_of held) × (own_of (with_list held seen ++ keys_made births seen) ≡ seen)
one_after r [] births seen h = absurd (cc)
one_after r (x ∷ y ∷ held) births seen h = absurd (cc)
one_after r (x ∷ []) births seen h = (refl, refl)

pub renewed_label : (held : List (HeldKey Entry)) (seen : List Entry) → label_of (with_list held seen) ≡ label_of held
renewed_label [] seen = refl
renewed_label (x ∷ held) seen = refl

-- or after a look
pub after_one : (r : ℕ) (held : List (HeldKey Entry)) (seen : List Entry) → is_one r held ≡ true → (key_of (with_list held seen) ≡ key_of held) × (own_of (with_list held seen) ≡ seen)
after_one r [] seen one = absurd (cc)
after_one r (x ∷ y ∷ held) seen one = absurd (cc)
after_one r (x ∷ []) seen one = (refl, refl)

-- what it knew just before
pub one_kept : (st : State) (held : List (HeldKey Entry)) (log : List Entry) → is_one slots held ≡ true → HoldersKnow (rules st) held log → HolderKnows st TheSlot (key_of held) (own_of held) log
one_kept st held log h kept = (subst (λ (hs : List (HeldKey Entry)). HoldersKnow (rules st) hs log) (only_is slots held h) kept).0

pub one_within : (held : List (HeldKey Entry)) → is_one slots held ≡ true → WithKinds kinds held
one_within held h = subst (WithKinds kinds) (sym (only_is slots held h)) (omega arith, tt)

pub differ : (a k : ℕ) → ¬ (k ≡ a) → (a == k) ≡ false
differ a k n = ⊎_elim (λ e. absurd (n (sym (eq_true a k e)))) (λ e. e) (is_true (a == k))

-- an event of another slot
of_other : (event : Event) (k : ℕ) → (event_slot event == k) ≡ false → changes_slot k event ≡ false
of_other (Event.ReadLink s l) k h = refl
of_other (Event.ExchangeLink s l exchange) k h = refl
of_other _ k h = h

-- an event that changes neither the numbers nor the rest changes no number
pub none_used : (event : Event) → changes_numbers event ≡ false → changes_used event ≡ false
none_used (Event.Take s) h = absurd (cc)
none_used (Event.Give s) h = absurd (cc)
none_used _ h = refl

-- and makes no slot
pub makes_none : (st : State) (event : Event) → changes_numbers event ≡ false → makes_slot st event ≡ false
makes_none st (Event.Take s) h = absurd (cc)
makes_none st _ h = refl

-- an entry that makes none needs no place
pub no_place : (st : State) (held : List (HeldKey Entry)) (e : Entry) → touches st e TheTotal 0 ≡ false → MakesPlaced st held e
no_place st held e none makes = absurd (let x : true ≡ false = sym makes ∙ none in cc)

covers : (st : State) (log : List Entry) (e : Deed) (p s : ℕ) (mine own : List Entry) → e.pass ≡ p → IsOwn s e.event
    → Covers st (pass_key p mine ∷ record { kind = slots; key = s; own = own; label = 0; note = gnil } ∷ []) log (Made e)
covers st log e p s mine own pe private zero k b there = differ e.pass k (λ i. b.0 (refl, i ∙ pe))
covers st log e p s mine own pe private (suc zero) k b there = private.1
covers st log e p s mine own pe private (suc (suc zero)) k b there = of_other e.event k (differ (event_slot e.event) k (λ i. b.1.0 (refl, i ∙ private.0)))
covers st log e p s mine own pe private (suc (suc (suc zero))) k b there = (private.2 k).0
covers st log e p s mine own pe private (suc (suc (suc (suc zero)))) k b there = (private.2 k).1
covers st log e p s mine own pe private (suc (suc (suc (suc (suc zero))))) k b there = (private.3 (after st log) k).0
covers st log e p s mine own pe private (suc (suc (suc (suc (suc (suc zero)))))) k b there = (private.3 (after st log) k).1
covers st log e p s mine own pe private (suc (suc (suc (suc (suc (suc (suc zero))))))) k b there = refl
covers st log e p s mine own pe private (suc (suc (suc (suc (suc (suc (suc (suc zero)))))))) k b there = makes_none (after st log) e.event private.1
covers st log e p s mine own pe private (suc (suc (suc (suc (suc (suc (suc (suc (suc r))))))))) k b there = refl

ends_none : (s : ℕ) (event : Event) → IsOwn s event → EndsNone event
ends_none s (Event.SwapOut t) private lives = absurd (let x : (t == t) ≡ false = (private.2 t).0 in grind arith)
ends_none s _ private lives = refl

starts_none : (s : ℕ) (event : Event) → IsOwn s event → StartsNone event
starts_none s (Event.Enter t) private k = absurd (let x : (t == t) ≡ false = (private.2 t).0 in grind arith)
starts_none s (Event.SwapOut t) private k = absurd (let x : (t == t) ≡ false = (private.2 t).0 in grind arith)
starts_none s _ private k = refl

does : (size : ℕ) (st : State) (event : Event) → is_some (next size st event) ≡ true → (d : State × Answer) × (next size st event ≡ Some d)
does size st event h = go (next size st event) refl h
  where
    go : (o : Option (State × Answer)) → next size st event ≡ o → is_some o ≡ true → (d : State × Answer) × (next size st event ≡ Some d)
    go Option.None e n = absurd (cc)
    go (Some d) e n = (d, e)

pub may_add : (n : Name) (p : ℕ) (seen : List Entry) (held : List (HeldKey Entry)) (e : Deed) → is_one slots held ≡ true → e.pass ≡ p → IsOwn (key_of held) e.event
    → IsOpen (slot_at (after (start n) (own_of held)) (key_of held)) (is_active (head_at (after (start n) (own_of held)) (key_of held))) (key_of held) e.size e.event
    → MayAdd n p seen held e
may_add n p seen held e one pe private open_ = subst (λ (hs : List (HeldKey Entry)). MayAdd n p seen hs e) (sym (only_is slots held one)) ((omega arith, tt), ends_none (key_of held) e.event private, (starts_none (key_of held) e.event private, no_pair e.event (λ l. (private.2 l).1)), fair)
  where
    fair : (own log : List Entry) → Before n p seen (only slots held) log → Fair n (pass_key p own ∷ only slots held) log (Made e)
    fair mine log before =
        let k = before.kept.0.1 in let d = does e.size (after (start n) log) e.event (open_ (after (start n) log) (sym k.1) (sym k.2)) in
        record {
          done = d.0;
          legal = d.1;
          covers = covers (start n) log e p (key_of held) mine (own_of held) pe private;
          names = λ many was there. (subst (λ (z : ℕ). z < many 0) (sym pe) there.0, (λ j le. (private.3 (after (start n) log) j).0), (λ j le. (private.3 (after (start n) log) j).1), λ f le. refl);
          one = none_named e.size (after (start n) log) e.event d.0 (step_of _ _ _ _ d.1) (λ j. (private.3 (after (start n) log) j).1);
          leads = unled (after (start n) log) (plans (start n) log) (field_value log) e.event (λ j. (private.2 j).0);
          labels = no_labels (pass_key p mine ∷ only slots held) e.size (after (start n) log) e.event d.0 (step_of _ _ _ _ d.1) (λ j. (private.3 (after (start n) log) j).1);
          says = says_none (after (start n) log) e (λ j. (private.3 (after (start n) log) j).1);
          places = no_place (after (start n) log) (pass_key p mine ∷ only slots held) (Made e) (makes_none (after (start n) log) e.event private.1);
        }

-- A slot's key, and others after it.

-- they are of the same kinds afterwards
pub same_kind : (q : ℕ) (held : List (HeldKey Entry)) (seen : List Entry) → is_one q held ≡ true → is_one q (with_list held seen) ≡ true
same_kind q [] seen h = absurd (cc)
same_kind q (x ∷ y ∷ held) seen h = absurd (cc)
same_kind q (x ∷ []) seen h = h

abbrev all_after : List (HeldKey Entry) → List (HeldKey Entry) → List Entry → List (HeldKey Entry)
all_after a b seen = with_list (a ++ b) seen ++ keys_made [] seen

pub record Parted (a b : List (HeldKey Entry)) (seen : List Entry) : Type 0 where
  pub number : key_of (take 1 (all_after a b seen)) ≡ key_of a
  pub own : own_of (take 1 (all_after a b seen)) ≡ seen
  pub others : drop 1 (all_after a b seen) ≡ with_list b seen

pub parted : (a b : List (HeldKey Entry)) (seen : List Entry) → is_one slots a ≡ true → Parted a b seen
parted [] b seen h = absurd (cc)
parted (x ∷ y ∷ a) b seen h = absurd (cc)
parted (x ∷ []) b seen h = record { number = refl; own = refl; others = append-nil (with_list b seen) }

pub held_after : (n : Name) (p : ℕ) (seen seen' : List Entry) (held held' a b : List (HeldKey Entry)) (e : Deed) → held ≡ a ++ b → BearsNone n p seen (a ++ b) e.event
    → AddsEntryWith n p seen seen' held held' e → held' ≡ all_after a b seen'
held_after n p seen seen' held held' a b e joined none added =
    let log = added.noted.before in
    added.keys
    ∙ ap (λ (hs : List (HeldKey Entry)). with_list hs seen' ++ keys_made (births (after (start n) log) e.event) seen') joined
    ∙ ap (λ (bs : List (ℕ × ℕ)). with_list (a ++ b) seen' ++ keys_made bs seen') (none log (subst (λ (hs : List (HeldKey Entry)). Before n p seen hs log) joined added.before))

pub two_kept : (st : State) (a b : List (HeldKey Entry)) (log : List Entry) → is_one slots a ≡ true → HoldersKnow (rules st) (a ++ b) log → HolderKnows st TheSlot (key_of a) (own_of a) log
two_kept st a b log h kept = (subst (λ (hs : List (HeldKey Entry)). HoldersKnow (rules st) (hs ++ b) log) (only_is slots a h) kept).0
