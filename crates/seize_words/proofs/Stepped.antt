-- What is known after an atomic step on a head's word by a slot's holder.
use Rattle.std.proofs.Common.{if◌then◌else◌, arith, ◌≡◌, ℕ, Bool, true, false, List, [], ◌∷◌, ◌++◌, sym, refl, ap, ◌∙◌, subst}
use Rattle.seize_machine.specs.Machine.Frames.{changes_slot}
use Rattle.seize_machine.specs.Machine.State.{Head, Inactive, Active, head_at, is_active}
use Rattle.seize_words.specs.Atomic.{Events, TakesStep, deed, entries}
use Rattle.seize_book.specs.Blocks.{block_for, head_word, word_of}
use Rattle.seize_book.specs.Book.{IsLegalList, after, heads, rules, slots}
use Rattle.seize_book.specs.Entry.{Entry, Made, Deed, deeds}
use Rattle.seize_book.specs.Ledger.{HeldKey, HoldersKnow, with_list}
use Rattle.seize_book.specs.Laws.{life, life_from, starts}
use Rattle.seize_words.specs.Activations.{IsActivationFor, HasAllUnits}
use Rattle.seize_words.specs.Reservations.{IsActivationOf}
use Rattle.seize_book.specs.Private.{is_one, key_of, own_of}
use Rattle.seize_book.specs.Slots.{AddsDeed, IsAfter, IsKeyOfBook, Moves, slot_number}
use Rattle.seize_words.specs.Stepping.{HasStepped}
use Rattle.seize_book.specs.Tokens.{Name, start}
use Rattle.seize_words.specs.Words.{Site}
use Rattle.seize_words.specs.declared.activation.Activation.{Activation}
use Rattle.seize_book.specs.declared.book.keys.Keys.{Keys}
use Rattle.seize_book.specs.declared.book.pass.Pass.{Pass}
use Rattle.seize_book.specs.declared.book.slot_key.SlotKey.{SlotKey}
use Rattle.seize_words.proofs.Heads.{at_head, found_word}
use Rattle.seize_book.proofs.Facts.{deeds_append, moves, after_one, one_kept, same_kind}

-- a head's word, named by the pass's book
pub is_at_head : (word : Site) (n : Name) → word.name ≡ n → word.kind ≡ heads → word ≡ at_head n word.number
is_at_head word n e k = ap (λ (t : Name × ℕ). record { name = t.0; kind = t.1; number = word.number }) (λ j. (e j, k j))

-- a slot's key, with all that a step tells it
abbrev pub key_then : (key : SlotKey) (keys' : Keys) (seen' : List Entry) → keys'.held ≡ with_list key.keys.held seen' → SlotKey
key_then key keys' seen' is = record { keys = keys'; one = ap (is_one slots) is ∙ same_kind slots key.keys.held seen' key.one }

-- a word with no key beside its own
module _ (r m : ℕ) (key key' : SlotKey) (pass pass' : Pass) (f : ℕ → ℕ) (v life : ℕ) (event : Events)
    (told : TakesStep (record { name = pass.name; kind = r; number = m }) key.keys pass key'.keys pass' [] f v (entries pass life event) (λ _. false)) where
  abbrev step : HasStepped (record { name = pass.name; kind = r; number = m }) pass.id pass.seen pass'.seen key.keys.held key'.keys.held [] v (f v) (entries pass life event) (λ _. false)
  step = told.2

  -- the slot's holder added the entry
  pub moved : step.since.1 ≡ [] → changes_slot (slot_number key) (event v step.log) ≡ true → IsKeyOfBook key pass → IsAfter key pass' key' × Moves key key' step.noted.before (deed pass life event v step.log) step.noted.later step.noted.answer
  moved none its book =
      let noted = step.noted in let e : Deed = deed pass life event v step.log in
      let kept_then = subst (λ (vs : List (HeldKey Entry)). HoldersKnow (rules (start pass.name)) (vs ++ key.keys.held) step.log) none step.found.before.kept.1 in
      let one = after_one slots key.keys.held pass'.seen key.one in
      let number = ap key_of step.keys ∙ one.0 in let own = ap own_of step.keys ∙ one.1 in
      let legal : IsLegalList (start pass.name) noted.before = subst (IsLegalList (start pass.name)) (sym step.is_log) step.found.before.legal in
      let kept = one_kept (start pass.name) key.keys.held noted.before key.one (subst (HoldersKnow (rules (start pass.name)) key.keys.held) (sym step.is_log) kept_then) in (
        (told.1, number, own),
        moves key key' pass.name e noted.before (noted.later, noted.answer) book (told.1 ∙ book) its legal noted.does kept number (own ∙ noted.appended),
      )

-- a head's
pub noted_by : (m : ℕ) (key key' : SlotKey) (pass pass' : Pass) (f : ℕ → ℕ) (v life : ℕ) (event : Events) (told : TakesStep (at_head pass.name m) key.keys pass key'.keys pass' [] f v (entries pass life event) (λ _. false))
    → changes_slot (slot_number key) (event v told.2.log) ≡ true → IsKeyOfBook key pass → AddsDeed key pass key' pass' (deed pass life event v told.2.log)
noted_by m key key' pass pass' f v life event told its book =
    let parts = moved heads m key key' pass pass' f v life event told told.2.found.stands its book in (told.0, parts.0, (told.2.noted, parts.1))

-- the word shows it afterwards, and what it held the list showed just before
module _ (m : ℕ) (pass pass' : Pass) (keys keys' : Keys) (f : ℕ → ℕ) (v life : ℕ) (event : Events) (told : TakesStep (at_head pass.name m) keys pass keys' pass' [] f v (entries pass life event) (λ _. false)) where
  pub shows_after : f v ≡ head_word (start pass.name) pass'.seen m
  shows_after = told.2.left

  pub found_before : (before : List Entry) × (last : Entry) × (pass'.seen ≡ before ++ last ∷ []) × (v ≡ head_word (start pass.name) before m)
  found_before = let step = told.2 in (
    step.noted.before,
    entries pass life event v step.log,
    step.noted.appended,
    subst (λ (log : List Entry). v ≡ head_word (start pass.name) log m) (sym step.is_log) (found_word pass.name m v pass.id pass.seen keys.held step.since step.log step.found),
  )

-- An activation has begun with the last event.

pub life_push : (s : ℕ) (log : List Entry) (e : Deed) → life s (log ++ Made e ∷ []) ≡ (if starts s e.event then e.life else life s log)
life_push s log e = ap (life_from 0 s) (deeds_append log (Made e ∷ [])) ∙ from 0 (deeds log)
  where
    from : (a : ℕ) (ds : List Deed) → life_from a s (ds ++ e ∷ []) ≡ (if starts s e.event then e.life else life_from a s ds)
    from a [] = refl
    from a (x ∷ ds) = from (if starts s x.event then x.life else a) ds

-- An activation of the slot is one still, when the slot has made a step.
pub for_then : (m : ℕ) (pass pass' : Pass) (keys keys' : Keys) (f : ℕ → ℕ) (v life : ℕ) (event : Events) (told : TakesStep (at_head pass.name m) keys pass keys' pass' [] f v (entries pass life event) (λ _. false))
    → is_one slots keys.held ≡ true → (a a' : Activation) → IsActivationFor keys a → a'.name ≡ a.name → a'.slot ≡ a.slot → HasAllUnits a' → IsActivationFor keys' a'
for_then m pass pass' keys keys' f v life event told one a a' of name slot whole =
    (name ∙ of.0 ∙ sym told.1, slot ∙ of.1 ∙ sym (ap key_of told.2.keys ∙ (after_one slots keys.held pass'.seen one).0), whole)

active_word : (block : ℕ → ℕ) (h : Head) → 1 ≡ word_of block h → is_active h ≡ true
active_word block (Active waiting) e = refl
active_word block Inactive e = absurd (omega (arith, e))

pub activation_is : (m : ℕ) (pass pass' : Pass) (keys keys' : Keys) (f : ℕ → ℕ) (v life : ℕ) (event : Events) (told : TakesStep (at_head pass.name m) keys pass keys' pass' [] f v (entries pass life event) (λ _. false))
    → f v ≡ 1 → starts m (event v told.2.log) ≡ true → is_one slots keys.held ≡ true → keys.name ≡ pass.name → key_of keys.held ≡ m
    → (key' : SlotKey) (a : Activation) → key'.keys ≡ keys' → a.name ≡ keys.name → a.slot ≡ key_of keys.held → a.since ≡ own_of keys'.held → a.life ≡ life → HasAllUnits a → IsActivationOf key' a
activation_is m pass pass' keys keys' f v life_ event told one begins is_slot book is_m key' a same name slot since its whole =
    let step = told.2 in let e : Deed = deed pass life_ event v step.log in let after_it = after_one slots keys.held pass'.seen is_slot in
    let number = ap key_of step.keys ∙ after_it.0 in let own = ap own_of step.keys ∙ after_it.1 in let all = since ∙ own in
    record {
      of_slot = (name ∙ sym (ap (λ (k : Keys). k.name) same ∙ told.1), slot ∙ sym (ap (λ (k : Keys). key_of k.held) same ∙ number), whole);
      since = since ∙ sym (ap (λ (k : Keys). own_of k.held) same);
      active =
          ap (λ (t : Name × (List Entry × ℕ)). is_active (head_at (after (start t.0) t.1.0) t.1.1)) (λ j. ((name ∙ book) j, (all j, (slot ∙ is_m) j)))
          ∙ active_word (λ b. block_for (start pass.name) pass'.seen b m) (head_at (after (start pass.name) pass'.seen) m) (sym one ∙ step.left);
      its =
          ap (λ (t : ℕ × List Entry). life t.0 t.1) (λ j. ((slot ∙ is_m) j, (all ∙ step.noted.appended) j))
          ∙ life_push m step.noted.before e
          ∙ ap (λ (b : Bool). if b then life_ else life m step.noted.before) begins
          ∙ sym its;
    }
