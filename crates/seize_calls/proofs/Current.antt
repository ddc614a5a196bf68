-- What a look at the list leaves of a slot, and shows of it; and an activation that has begun, and lasts, is the slot's current one.
use Rattle.std.proofs.Common.{◌≡◌, ◌⊎◌, inl, inr, true, List, [], ◌++◌, sym, subst, ◌∙◌, append-nil}
use base.Growing.{prefix_trans}
use mathlib.Core.List.{IsPrefix}
use Rattle.seize_machine.specs.Machine.State.{head_at, is_active, slot_at}
use Rattle.seize_book.specs.Book.{IsLegalList, after}
use Rattle.seize_book.specs.Entry.{Entry}
use Rattle.seize_book.specs.Homesteads.{state_seen}
use Rattle.seize_book.specs.Laws.{IsAmong, ended_lives, life}
use Rattle.seize_book.specs.Slots.{LooksWithSlotKey, active_of, life_of, own_list, slot_number, slot_of}
use Rattle.seize_book.specs.Tokens.{Name, start}
use Rattle.seize_book.specs.declared.book.pass.Pass.{Pass}
use Rattle.seize_book.specs.declared.book.slot_key.SlotKey.{SlotKey}
use Rattle.seize_words.specs.Activations.{IsLasting}
use Rattle.seize_words.specs.declared.activation.Activation.{Activation}
use Rattle.seize_words.proofs.Activations.{still}
use Rattle.seize_calls.specs.Calls.{HasBegun}
use Rattle.seize_calls.specs.Slots.{InActivation, IsActive, SlotLooks, seen_book, its_number}
use Rattle.seize_calls.specs.Together.{what_saw}
use Rattle.seize_calls.specs.declared.slot.Slot.{Slot}
use Rattle.seize_calls.proofs.Slots.{begun_later}

-- the slot is active, in this activation, in what the pass has seen
pub is_current : (a : Activation) (pass : Pass) → HasBegun a pass → IsLegalList (start pass.name) pass.seen → IsLasting a pass
    → (is_active (head_at (after (start pass.name) pass.seen) a.slot) ≡ true) × (life a.slot pass.seen ≡ a.life)
is_current a pass begun legal lasts =
    let more : List Entry = begun.known.0 in let all : a.since ++ more ≡ pass.seen = begun.known.1 in
    let active = subst (λ (n : Name). is_active (head_at (after (start n) a.since) a.slot) ≡ true) begun.book begun.active in
    now (subst At all (still (start pass.name) a.since more a.slot (subst (IsLegalList (start pass.name)) (sym all) legal) active))
  where
    At : List Entry → Type 0
    At log = ((is_active (head_at (after (start pass.name) log) a.slot) ≡ true) × (life a.slot log ≡ life a.slot a.since)) ⊎ IsAmong (ended_lives log) (life a.slot a.since)

    now : At pass.seen → (is_active (head_at (after (start pass.name) pass.seen) a.slot) ≡ true) × (life a.slot pass.seen ≡ a.life)
    now (inl on) = (on.0, on.1 ∙ begun.its)
    now (inr over) = absurd (lasts (subst (IsAmong (ended_lives pass.seen)) begun.its over))

-- A look with a slot's key.
module _ (key : SlotKey) (p : Pass) (key' : SlotKey) (pass' : Pass) (looks : LooksWithSlotKey key p key' pass') where
  pub looked_slot : slot_of key' ≡ slot_of key
  looked_slot = let by = looks.seen_by in (λ j. slot_at (after (start (by.0 j)) (by.2 j)) (by.1 j)) ∙ looks.slot

  pub looked_active : active_of key' ≡ active_of key
  looked_active = let by = looks.seen_by in (λ j. is_active (head_at (after (start (by.0 j)) (by.2 j)) (by.1 j))) ∙ looks.active

  pub looked_life : life_of key' ≡ life_of key
  looked_life = let by = looks.seen_by in (λ j. life (by.1 j) (by.2 j)) ∙ looks.lives

module _ {T : Type 0} (s s' : Slot T) (pass pass' : Pass) (looks : SlotLooks s pass s' pass') (named : seen_book s ≡ pass.name) where
  now_named : s'.seen.name ≡ pass'.name
  now_named = let l = looks.0 in l.same.1 ∙ named ∙ sym l.prepares.same.0 ∙ sym l.does.on.same.0

  book : s'.holder.key.keys.name ≡ pass'.name
  book = s'.together.book ∙ now_named

  number : slot_number s'.holder.key ≡ its_number s
  number = s'.together.numbered ∙ looks.0.same.0

  own : own_list s'.holder.key ≡ pass'.seen
  own = looks.0.does.seen_by.2

  -- the pass knows of the slot what the slot's key knows, by its number
  pub shown : (slot_at (state_seen pass') (its_number s) ≡ slot_of s'.holder.key) × (is_active (head_at (state_seen pass') (its_number s)) ≡ active_of s'.holder.key)
  shown = (
    (λ j. slot_at (after (start (sym book j)) (sym own j)) (sym number j)),
    (λ j. is_active (head_at (after (start (sym book j)) (sym own j)) (sym number j))),
  )

  -- an activation of it that has begun, and lasts, is the one that its key knows
  module _ (a : Activation) (its : a.slot ≡ its_number s) (begun : HasBegun a pass) (lasts : IsLasting a pass') where
    grows : IsPrefix pass.seen pass'.seen
    grows = let l = looks.0 in prefix_trans pass.seen l.ready.seen pass'.seen l.prepares.grows.0 l.does.on.grows

    has_begun : HasBegun a pass'
    has_begun = let l = looks.0 in begun_later a pass pass' (l.does.on.same.0 ∙ l.prepares.same.0) grows begun

    current : (is_active (head_at (after (start pass'.name) pass'.seen) a.slot) ≡ true) × (life a.slot pass'.seen ≡ a.life)
    current = let on = looks.0.does.on in is_current a pass' has_begun (subst (λ (n : Name). IsLegalList (start n) pass'.seen) (sym on.same.0) on.legal) lasts

    pub current_in : InActivation s' a
    current_in = record {
      active = (λ j. is_active (head_at (after (start (book j)) (own j)) ((number ∙ sym its) j))) ∙ current.0;
      its = (has_begun.book ∙ sym book, its ∙ sym number, sym current.1 ∙ (λ j. life ((its ∙ sym number) j) (sym own j)));
      begun = begun_later a pass' (what_saw s'.seen) now_named ([], append-nil pass'.seen ∙ sym looks.0.seen) has_begun;
    }

    pub current_active : IsActive s
    current_active = sym (looked_active s.holder.key looks.0.ready s'.holder.key pass' looks.0.does) ∙ current_in.active
