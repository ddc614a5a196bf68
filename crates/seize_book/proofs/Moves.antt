-- What a slot's key knows after an event that its holder added.
use Rattle.std.proofs.Common.{◌≡◌, ℕ, List, [], ◌∷◌, ◌++◌, sym, ap, ◌∙◌, true}
use Rattle.seize_machine.specs.Machine.State.{State, slot_at, head_at, is_active}
use Rattle.seize_machine.specs.Machine.Frames.{changes_slot}
use Rattle.seize_machine.specs.Machine.Next.{next}
use Rattle.seize_machine.specs.declared.machine.event.Answer.{Answer}
use Rattle.seize_book.specs.Blocks.{plans}
use Rattle.seize_book.specs.Chains.{field_value, insertion_fields}
use Rattle.seize_book.specs.Entry.{Entry, Made, Deed}
use Rattle.seize_book.specs.Book.{after, acts, by_slot, IsLegalList, Does, TheSlot, HolderKnows, mine, slots}
use Rattle.seize_book.specs.Slots.{LooksWithSlotKey, Moves, own_list, slot_number}
use Rattle.seize_book.specs.Tokens.{Name, start}
use Rattle.seize_book.specs.Adding as adding
use Rattle.seize_book.specs.Passes.{LooksOn}
use Rattle.seize_book.specs.Private.{is_one, key_of, own_of}
use Rattle.seize_book.specs.declared.book.keys.Keys.{Keys}
use Rattle.seize_book.specs.declared.book.pass.Pass.{Pass}
use Rattle.seize_book.specs.declared.book.slot_key.SlotKey.{SlotKey}
use Rattle.seize_book.proofs.Lists.{after_push, selected_in}
use Rattle.seize_book.proofs.Lives.{life_kept}
use Rattle.seize_book.proofs.Private.{after_one, one_kept}

-- what a key knows, of the state that its list ends with
now : {X : Type 0} (key key' : SlotKey) (n : Name) (e : Deed) (later : State) (log : List Entry) → key'.keys.name ≡ n → own_list key' ≡ log ++ Made e ∷ [] → after (start n) (log ++ Made e ∷ []) ≡ later
    → slot_number key' ≡ slot_number key → (f : State → ℕ → X) → f (after (start key'.keys.name) (own_list key')) (slot_number key') ≡ f later (slot_number key)
now key key' n e later log name own push number f =
    ap (λ (m : Name). f (after (start m) (own_list key')) (slot_number key')) name
    ∙ ap (λ (l : List Entry). f (after (start n) l) (slot_number key')) own
    ∙ ap (λ (st : State). f st (slot_number key')) push
    ∙ ap (λ (j : ℕ). f later j) number

in_book : {X : Type 0} {m n : Name} → m ≡ n → (log : List Entry) (f : State → X) → f (after (start m) log) ≡ f (after (start n) log)
in_book e log f = ap (λ (z : Name). f (after (start z) log)) e

-- where the slot had made no event since its key's list, and the key's list now ends with this one
pub moves : (key key' : SlotKey) (n : Name) (e : Deed) (log : List Entry) (d : State × Answer) → key.keys.name ≡ n → key'.keys.name ≡ n → changes_slot (slot_number key) e.event ≡ true → IsLegalList (start n) log → Does (start n) log (Made e) d
    → HolderKnows (start n) TheSlot (slot_number key) (own_list key) log → slot_number key' ≡ slot_number key → own_list key' ≡ log ++ Made e ∷ [] → Moves key key' log e d.0 d.1
moves key key' n e log d name name' its legal does kept number own =
    let k = slot_number key in let same = kept.1 in let push = after_push (start n) log (Made e) d legal does in
    record {
      knew = kept.0;
      lived = sym (life_kept (start n) k (own_list key) log kept);
      was = in_book name log (λ s. slot_at s k) ∙ sym same.1 ∙ sym (in_book name (own_list key) (λ s. slot_at s k));
      was_active = in_book name log (λ s. is_active (head_at s k)) ∙ sym same.2 ∙ sym (in_book name (own_list key) (λ s. is_active (head_at s k)));
      legal = ap (λ (m : Name). next e.size (after (start m) log) e.event) name ∙ does;
      is = now key key' n e d.0 log name' own push number (λ s j. slot_at s j);
      is_now_active = now key key' n e d.0 log name' own push number (λ s j. is_active (head_at s j));
      acts =
          ap (λ (t : Name × (ℕ × List Entry)). by_slot (start t.0) t.1.0 t.1.1) (λ j. (name' j, (number j, own j)))
          ∙ selected_in (λ a. acts k a.0) (start n) log (Made e) d does its
          ∙ ap (λ (xs : List (Entry × Answer)). xs ++ (Made e, d.1) ∷ []) (sym same.0 ∙ sym (ap (λ (m : Name). by_slot (start m) k (own_list key)) name));
    }

-- what the pass has seen by then
pub looks_on : (keys keys' : Keys) (pass pass' : Pass) → adding.LooksWithKeys keys pass keys' pass' → LooksOn pass pass'
looks_on keys keys' pass pass' looks =
    let same = looks.0 in let before = looks.2 in
    record {
      same = same;
      none_made = ap (λ (m : Name). mine (start m) pass'.id pass'.seen) same.0 ∙ ap (λ (p : ℕ). mine (start pass.name) p pass'.seen) same.1 ∙ before.none_made;
      grows = before.grows;
      alone = before.alone;
      legal = before.legal;
      sound = before.sound;
      lent = before.lent;
      distinct = looks.3;
    }

-- where its holder only looked
pub stays : (key key' : SlotKey) (pass pass' : Pass) → key.keys.name ≡ pass.name → adding.LooksWithKeys key.keys pass key'.keys pass' → is_one slots key.keys.held ≡ true → LooksWithSlotKey key pass key' pass'
stays key key' pass pass' book looks one =
    let is = looks.1 in let before = looks.2 in
    let k = slot_number key in let known = after_one slots key.keys.held pass'.seen one in let kept_all = one_kept (start pass.name) key.keys.held pass'.seen one before.kept in let kept = kept_all.1 in
    record {
      on = looks_on key.keys key'.keys pass pass' looks;
      seen_by = (is.0, ap key_of is.1 ∙ known.0, ap own_of is.1 ∙ known.1);
      knows = kept_all.0;
      lives = sym (life_kept (start pass.name) k (own_list key) pass'.seen kept_all);
      slot = in_book book pass'.seen (λ s. slot_at s k) ∙ sym kept.1 ∙ sym (in_book book (own_list key) (λ s. slot_at s k));
      active = in_book book pass'.seen (λ s. is_active (head_at s k)) ∙ sym kept.2 ∙ sym (in_book book (own_list key) (λ s. is_active (head_at s k)));
      written =
          ap (λ (t : Name × (List Entry × ℕ)). insertion_fields (after (start t.0) t.1.0) (plans (start t.0) t.1.0) (field_value t.1.0) t.1.1)
          (λ i. ((is.0 ∙ book) i, ((ap own_of is.1 ∙ known.1) i, (ap key_of is.1 ∙ known.0) i)))
          ∙ sym kept.3 ∙ ap (λ (m : Name). insertion_fields (after (start m) (own_list key)) (plans (start m) (own_list key)) (field_value (own_list key)) k) (sym book);
      acts =
          ap (λ (t : Name × (ℕ × List Entry)). by_slot (start t.0) t.1.0 t.1.1) (λ j. ((is.0 ∙ book) j, ((ap key_of is.1 ∙ known.0) j, (ap own_of is.1 ∙ known.1) j)))
          ∙ sym kept.0 ∙ sym (ap (λ (m : Name). by_slot (start m) k (own_list key)) book);
    }
