-- What is known after a slot was made by a step on the total.
use Rattle.std.proofs.Common.{◌≡◌, ℕ, suc, true, false, List, [], ◌∷◌, ◌++◌, length, refl, sym, ◌∙◌, ap, subst}
use base.Stored.{gnil}
use Rattle.seize_machine.specs.Machine.State.{State, Inactive, head_at, slot_at}
use Rattle.seize_machine.specs.Machine.Event.{Take}
use Rattle.seize_machine.specs.Machine.Next.{first_free}
use Rattle.seize_machine.specs.declared.machine.event.Answer.{Answer}
use Rattle.seize_words.specs.Atomic.{TakesStepWith, entries, plus}
use Rattle.seize_book.specs.Book.{HolderKnows, TheSlot, acts, after, by_slot, heads, numbers, of_slot, slots}
use Rattle.seize_book.specs.Entry.{Entry, Made}
use Rattle.seize_book.specs.Ledger.{HeldKey}
use Rattle.seize_book.specs.Others.{rest_of, state_of}
use Rattle.seize_book.specs.Passes.{IsSamePass}
use Rattle.seize_book.specs.Private.{is_one, key_of, label_of, note_of, own_of}
use Rattle.seize_words.specs.Stepping.{FoundAs, HasSteppedWith, MayStepWith}
use Rattle.seize_book.specs.Tokens.{AddsEntry, Name, start}
use Rattle.seize_book.specs.Tables.{IsPlaced}
use Rattle.seize_words.specs.Totals.{MayMake, made_of}
use Rattle.seize_words.specs.Words.{IsTotal, Site}
use Rattle.seize_book.specs.declared.book.keys.Keys.{Keys}
use Rattle.seize_book.specs.declared.book.numbers_key.NumbersKey.{NumbersKey}
use Rattle.seize_book.specs.declared.book.pass.Pass.{Pass}
use Rattle.seize_book.specs.declared.book.slot_key.SlotKey.{SlotKey}
use Rattle.seize_book.proofs.Facts.{equal, reached_after}
use Rattle.seize_book.proofs.Lists.{selected_in}
use Rattle.seize_words.proofs.Makes.{MayMakeIt, all_keys, at_total, may_make, new_full, new_head, new_rest, new_slot, next_head, slot_is, slot_kept, takes}

own_first : (a b : List (HeldKey Entry)) → is_one numbers a ≡ true → own_of (a ++ b) ≡ own_of a
own_first [] b one = absurd (cc)
own_first (x ∷ a) b one = refl

-- what a key knows, of the state that its list leads to
pub now_at : {X : Type 0} (keys : Keys) (n : Name) (seen : List Entry) (later : State) (s : ℕ) → keys.name ≡ n → own_of keys.held ≡ seen → key_of keys.held ≡ s → after (start n) seen ≡ later
    → (f : State → ℕ → X) → f (after (start keys.name) (own_of keys.held)) (key_of keys.held) ≡ f later s
now_at keys n seen later s name own number leads f =
    ap (λ (m : Name). f (after (start m) (own_of keys.held)) (key_of keys.held)) name
    ∙ ap (λ (l : List Entry). f (after (start n) l) (key_of keys.held)) own
    ∙ ap (λ (st : State). f st (key_of keys.held)) leads
    ∙ ap (λ (j : ℕ). f later j) number

-- the two keys together
abbrev pub AreBoth : Keys → NumbersKey → SlotKey → Type 0
AreBoth both numbers_ key = (both.name ≡ numbers_.keys.name) × (both.held ≡ numbers_.keys.held ++ key.keys.held)

module _ (word : Site) (numbers_ : NumbersKey) (key : SlotKey) (pass : Pass) (both : Keys) (total : IsTotal word)
    (book : (key.keys.name ≡ pass.name) × (numbers_.keys.name ≡ pass.name) × (word.name ≡ pass.name)) (may : MayMake numbers_ key) (placed : IsPlaced key)
    (joined : AreBoth both numbers_ key) where
  abbrev n : Name
  n = numbers_.keys.name

  abbrev a : List (HeldKey Entry)
  a = numbers_.keys.held

  abbrev b : List (HeldKey Entry)
  b = key.keys.held

  abbrev s : ℕ
  s = made_of numbers_

  abbrev event : ℕ → List Entry → Entry
  event v log = Made (takes pass.id pass.size s)

  its : MayMakeIt n a b
  its = record { one = numbers_.one; zero_is = numbers_.zero; slot = key.one; full = may.0.0; few = may.0.1; its = may.1; placed = placed }

  is_word : word ≡ at_total n
  is_word = ap (λ (t : Name × (ℕ × ℕ)). record { name = t.0; kind = t.1.0; number = t.1.1 }) (λ j. ((book.2 ∙ sym book.1) j, (total.0 j, total.1 j)))

  many : length (state_of both).slots ≡ s
  many = ap (λ (t : Name × List Entry). length (after (start t.0) t.1).slots) (λ j. (joined.0 j, (ap own_of joined.1 ∙ own_first a b numbers_.one) j))

  pub may_take : MayStepWith (of_slot (suc (length (state_of both).slots))) word pass.id pass.seen both.held [] [] (plus 1) (entries pass 0 (λ v log. Take (length (state_of both).slots))) (λ v. false)
  may_take =
      subst (λ (t : Site × (List (HeldKey Entry) × ℕ)). MayStepWith (of_slot (suc t.1.1)) t.0 pass.id pass.seen t.1.0 [] [] (plus 1) (entries pass 0 (λ v log. Take t.1.1)) (λ v. false))
      (λ j. (sym is_word j, (sym joined.1 j, sym many j))) (may_make n a b its pass.id pass.size pass.seen)

  pub record Told (keys' : Keys) (pass' : Pass) : Type 0 where
    pub same : IsSamePass pass pass'
    pub name : keys'.name ≡ n
    pub noted : AddsEntry n pass.id pass.seen pass'.seen (Made (takes pass.id pass.size s))
    pub held : keys'.held ≡ record { kind = numbers; key = key_of a; own = pass'.seen; label = label_of a; note = note_of a } ∷ record { kind = slots; key = key_of b; own = pass'.seen; label = label_of b; note = note_of b }
        ∷ record { kind = slots; key = suc s; own = pass'.seen; label = 0; note = gnil } ∷ record { kind = heads; key = suc s; own = pass'.seen; label = 0; note = gnil } ∷ []
    pub acts : by_slot (start n) s pass'.seen ≡ by_slot (start n) s (own_of b) ++ (Made (takes pass.id pass.size s), noted.answer) ∷ []
    pub slot : slot_at noted.later s ≡ new_slot
    pub head : head_at noted.later s ≡ Inactive
    pub next_head : head_at noted.later (suc s) ≡ Inactive
    pub full : (length noted.later.slots ≡ suc s) × (first_free noted.later.slots ≡ suc s)
    pub rest : (rest_of numbers_ ≡ []) × (noted.later.rest ≡ [])

  module _ (keys' : Keys) (pass' : Pass) (v : ℕ) where
    pub told : TakesStepWith (of_slot (suc (length (state_of both).slots))) word both pass keys' pass' [] (plus 1) v (entries pass 0 (λ v log. Take (length (state_of both).slots))) (λ v. false) → Told keys' pass'
    told took =
        let step : HasSteppedWith (of_slot (suc s)) (at_total n) pass.id pass.seen pass'.seen (a ++ b) keys'.held [] v (plus 1 v) event (λ v. false) =
        subst (λ (t : Site × (List (HeldKey Entry) × ℕ)). HasSteppedWith (of_slot (suc t.1.1)) t.0 pass.id pass.seen pass'.seen t.1.0 keys'.held [] v (plus 1 v) (entries pass 0 (λ v log. Take t.1.1)) (λ v. false))
        (λ j. (is_word j, (joined.1 j, many j))) took.2 in
        let noted = step.noted in
        let found = subst (λ (log : List Entry). FoundAs (at_total n) v pass.id pass.seen (a ++ b) [] step.since log) (sym step.is_log) step.found in
        let reached = reached_after n noted.before noted.distinct found.before.legal in
        record {
          same = took.0;
          name = took.1 ∙ joined.0;
          noted = noted;
          held = step.keys ∙ all_keys n a b its pass.id pass.size v pass.seen step.since noted.before found pass'.seen;
          acts =
              ap (λ (log : List Entry). by_slot (start n) s log) noted.appended
              ∙ selected_in (λ x. acts s x.0) (start n) noted.before (Made (takes pass.id pass.size s)) (noted.later, noted.answer) noted.does (equal s s refl)
              ∙ ap (λ (made : List (Entry × Answer)). made ++ (Made (takes pass.id pass.size s), noted.answer) ∷ [])
              (sym (subst (λ (k : ℕ). HolderKnows (start n) TheSlot k (own_of b) noted.before) may.1
              (slot_kept n a b its pass.id pass.size v pass.seen step.since noted.before found)).1.0);
          slot = slot_is n a b its pass.id pass.size v pass.seen step.since noted.before found (noted.later, noted.answer) noted.does;
          head = new_head n a b its pass.id pass.size v pass.seen step.since noted.before found (noted.later, noted.answer) noted.does reached;
          next_head = next_head n a b its pass.id pass.size v pass.seen step.since noted.before found (noted.later, noted.answer) noted.does reached;
          full = new_full n a b its pass.id pass.size v pass.seen step.since noted.before found (noted.later, noted.answer) noted.does;
          rest = new_rest n a b its pass.id pass.size v pass.seen step.since noted.before found (noted.later, noted.answer) noted.does;
        }
