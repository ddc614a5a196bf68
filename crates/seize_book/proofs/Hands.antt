-- A value that goes to its reclaimer: what the laws say of it.
use Rattle.std.proofs.Common.{◌≡◌, ℕ, Bool, true, false, if◌then◌else◌, List, [], ◌∷◌, ◌++◌, Option, Some, None, IfSome, sym, ap, append-nil, ◌∙◌, subst, refl}
use Rattle.seize_machine.specs.Machine.State.{State, has, slot_at, linked_values, are_distinct}
use Rattle.seize_machine.specs.Machine.Event.{Hand}
use Rattle.seize_machine.specs.Machine.Next.{are_fresh, next, scheme, hand, of_call, handing_at}
use Rattle.seize_machine.specs.Machine.History.{handed_value, or_illegal}
use Rattle.seize_machine.specs.declared.machine.event.Answer.{Answer}
use Rattle.seize_machine.proofs.Facts.{gone_named, some_is}
use Rattle.seize_book.specs.Entry.{Entry, Made, Deed}
use Rattle.seize_book.specs.Book.{after, IsLegalList, Does}
use Rattle.seize_book.specs.Adding.{deed_with_words}
use Rattle.seize_book.specs.Books.{IsNextAfter, MaySettle}
use Rattle.seize_book.specs.Slots.{AddsDeed, HandsOnce, HandsSoon, hands_next, slot_number, slot_of}
use Rattle.seize_book.specs.Tokens.{Name, start}
use Rattle.seize_book.specs.declared.book.pass.Pass.{Pass}
use Rattle.seize_book.specs.declared.book.slot_key.SlotKey.{SlotKey}
use Rattle.seize_book.specs.declared.book.value_key.ValueKey.{ValueKey}
use Rattle.seize_book.proofs.Further.{handed_to}
use Rattle.seize_book.proofs.Handed.{all_parted, not_handed, retired_and_left}
use Rattle.seize_book.proofs.Lists.{after_push, legal_front, legal_push, reached_after}
use Rattle.seize_book.proofs.Lives.{all_over}
use Rattle.seize_book.proofs.Sound.{has_last}

-- the answer is the value, whatever its reclaimer puts
hands_it : (size : ℕ) (st : State) (s v : ℕ) (puts : List ℕ) (d : State × Answer) → of_call handing_at (slot_at st s).call ≡ Some v → next size st (Hand s puts) ≡ Some d → handed_value d.1 ≡ Some v
hands_it size st s v puts d is h = go (are_fresh st.named puts) (sym (ap (hand scheme st s puts) is) ∙ h)
  where
    go : (b : Bool) → (if b then Some (handed_to st s v puts) else None) ≡ Some d → handed_value d.1 ≡ Some v
    go true e = ap (λ (x : State × Answer). handed_value x.1) (sym (some_is _ _ e))
    go false e = absurd (cc)

pub hands_once : (key key' : SlotKey) (pass pass' : Pass) (v : ℕ) (puts kepts : List ℕ) → key.keys.name ≡ pass.name → hands_next (slot_of key) ≡ Some v
    → AddsDeed key pass key' pass' (deed_with_words pass (Hand (slot_number key) puts) kepts) → HandsOnce key pass' v
hands_once key key' pass pass' v puts kepts name is notes =
    let noted = notes.2.0 in let moves = notes.2.1 in let n : Name = key.keys.name in let e : Deed = deed_with_words pass (Hand (slot_number key) puts) kepts in let log = noted.before in
    let legal : IsLegalList (start n) (log ++ Made e ∷ []) = subst (λ (l : List Entry). IsLegalList (start n) l) noted.appended (subst (λ (m : Name). IsLegalList (start m) pass'.seen) (sym name) noted.legal) in
    let front : IsLegalList (start n) log = legal_front (start n) log (Made e) legal in
    let d : State × Answer = (noted.later, noted.answer) in
    let does : Does (start n) log (Made e) d = moves.legal in
    let distinct : are_distinct (linked_values n.links) ≡ Rattle.std.proofs.Common.true = ap (λ (m : Name). are_distinct (linked_values m.links)) name ∙ noted.distinct in
    let hands = hands_it pass.size (after (start n) log) (slot_number key) v puts d (ap (λ slot. of_call handing_at slot.call) moves.was ∙ is) moves.legal in
    let parted = all_parted n.slots n.links distinct log e d v front does hands in let left = retired_and_left n.slots n.links distinct log e d v front does hands in
    record {
      before = log;
      last = e;
      ends = noted.appended;
      hands = ap (λ o. handed_value (or_illegal (after (start n) log) o).1) does ∙ hands;
      not_handed = not_handed n.slots n.links distinct log e d v front does hands;
      retired = left.0;
      all_left = left.1;
      all_parted = parted;
      all_over = all_over (start n) log v front parted;
    }

-- Before it is handed all this is known already, for it could be handed now, with no further value.
pub hands_soon : (n : Name) (log : List Entry) (s v : ℕ) → are_distinct (linked_values n.links) ≡ true → IsLegalList (start n) log → hands_next (slot_at (after (start n) log) s) ≡ Some v → HandsSoon (start n) log v
hands_soon n log s v distinct legal is =
    let st : State = start n in let now : State = after st log in let e : Deed = record { pass = 0; size = 0; event = Hand s []; life = 0; kepts = [] } in let d : State × Answer = handed_to now s v [] in
    let does : Does st log (Made e) d = ap (hand scheme now s []) is in let hands = hands_it 0 now s v [] d is does in
    let parted = all_parted n.slots n.links distinct log e d v legal does hands in let left = retired_and_left n.slots n.links distinct log e d v legal does hands in
    record {
      not_handed = not_handed n.slots n.links distinct log e d v legal does hands;
      retired = left.0;
      all_left = left.1;
      all_parted = parted;
      all_over = all_over st log v legal parted;
    }

-- And it was named: it would be gone were it handed, and what is gone was named.
pub soon_named : (n : Name) (log : List Entry) (s v : ℕ) → are_distinct (linked_values n.links) ≡ true → IsLegalList (start n) log → hands_next (slot_at (after (start n) log) s) ≡ Some v → has v (after (start n) log).named ≡ true
soon_named n log s v distinct legal is =
    let st : State = start n in let now : State = after st log in let e : Deed = record { pass = 0; size = 0; event = Hand s []; life = 0; kepts = [] } in let d : State × Answer = handed_to now s v [] in
    let does : Does st log (Made e) d = ap (hand scheme now s []) is in let later = log ++ Made e ∷ [] in let leads : after st later ≡ d.0 = after_push st log (Made e) d legal does in
    let named = gone_named (after st later) (reached_after n later distinct (legal_push st log (Made e) d legal does)) v (subst (λ (z : State). has v z.gone ≡ true) (sym leads) (has_last v now.gone)) in
    subst (λ (vs : List ℕ). has v vs ≡ true) (append-nil now.named) (subst (λ (z : State). has v z.named ≡ true) leads named)

goes : (size : ℕ) (st : State) (s v : ℕ) (puts : List ℕ) (d : State × Answer) → of_call handing_at (slot_at st s).call ≡ Some v → next size st (Hand s puts) ≡ Some d → has v (d.0).gone ≡ true
goes size st s v puts d is h = go (are_fresh st.named puts) (sym (ap (hand scheme st s puts) is) ∙ h)
  where
    go : (b : Bool) → (if b then Some (handed_to st s v puts) else None) ≡ Some d → has v (d.0).gone ≡ true
    go true e = subst (λ (x : State × Answer). has v (x.0).gone ≡ true) (some_is _ _ e) (has_last v st.gone)
    go false e = absurd (cc)

-- afterwards it is gone, as the pass has seen
pub hands_gone : (key key' : SlotKey) (pass pass' : Pass) (v : ℕ) (puts kepts : List ℕ) → key.keys.name ≡ pass.name → hands_next (slot_of key) ≡ Some v
    → AddsDeed key pass key' pass' (deed_with_words pass (Hand (slot_number key) puts) kepts)
    → has v (after (start pass'.name) pass'.seen).gone ≡ true
hands_gone key key' pass pass' v puts kepts name is notes =
    let noted = notes.2.0 in let moves = notes.2.1 in let n : Name = key.keys.name in let log = noted.before in
    let gone = goes pass.size (after (start n) log) (slot_number key) v puts (noted.later, noted.answer) (ap (λ slot. of_call handing_at slot.call) moves.was ∙ is) moves.legal in
    subst (λ (m : Name). has v (after (start m) pass'.seen).gone ≡ true) (sym notes.0.0) (subst (λ (z : State). has v z.gone ≡ true) (sym noted.leads) gone)

-- so a key that was made ready by it may be settled
pub settles_after : (value : ValueKey) (key key' : SlotKey) (pass pass' : Pass) (v number : ℕ) (puts kepts : List ℕ) → IsNextAfter value v number → key.keys.name ≡ pass.name → hands_next (slot_of key) ≡ Some v
    → AddsDeed key pass key' pass' (deed_with_words pass (Hand (slot_number key) puts) kepts) → MaySettle value pass'
settles_after value key key' pass pass' v number puts kepts next_ name is notes = (v, (next_.0, next_.1, next_.2, refl), hands_gone key key' pass pass' v puts kepts name is notes)

-- what is so of a value, if there is one
pub if_some : {P : ℕ → Type 0} (o : Option ℕ) → ((v : ℕ) → o ≡ Some v → P v) → IfSome o P
if_some Option.None h = tt
if_some (Some v) h = h v refl
