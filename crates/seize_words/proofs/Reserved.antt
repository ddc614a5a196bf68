-- What the label says of what lies in an entry of the table. These facts are for callers.
use Rattle.std.proofs.Common.{◌≡◌, ℕ, ◌<◌, ◌≤◌, List, length, get_or, sym, ◌∙◌, ap, subst, arith}
use Rattle.crossbeam_utils.specs.Padded.{padded_value}
use Rattle.seize_table.specs.Place.{all_numbers}
use Rattle.seize_book.specs.Book.{after}
use Rattle.seize_book.specs.Passes.{LooksOn}
use Rattle.seize_words.specs.Reservations.{slot}
use Rattle.seize_book.specs.Tokens.{Name, label_at, slot_labels, start}
use Rattle.seize_words.specs.Totals.{slots_seen}
use Rattle.seize_book.specs.declared.book.pass.Pass.{Pass}
use Rattle.seize_words.specs.declared.slots.Reservation.{Reservation}
use Rattle.seize_words.proofs.Chunked.{same_family, same_number}
use Rattle.seize_words.proofs.Facts.{more_seen}
use Rattle.seize_book.proofs.Tables.{label_of_slot, labels_long}

-- slots are never taken away, and there are no more than numbers
pub still_seen : (pass pass' : Pass) (s : ℕ) → LooksOn pass pass' → s < slots_seen pass → s < slots_seen pass'
still_seen pass pass' s looks less = let more = more_seen pass pass' looks in omega (arith, less, more)

pub few_seen : (pass pass' : Pass) → LooksOn pass pass' → slots_seen pass' ≤ all_numbers
few_seen pass pass' looks = subst (λ (n : Name). length (after (start n) pass'.seen).slots ≤ all_numbers) (sym looks.same.0) looks.sound.few

abbrev pub label : Reservation → ℕ
label r = label_at r.book.name (slot (padded_value r.head))

-- what has the label of an entry is of the book, and its head is that of the entry's slot
module _ (n : Name) (m s : ℕ) (labels : List ℕ) (are : labels ≡ slot_labels n m) (less : s < m) (r : Reservation) (its : label r ≡ get_or labels s 0) where
  its_label : label r ≡ label_at n s
  its_label = its ∙ ap (λ (ls : List ℕ). get_or ls s 0) are ∙ label_of_slot n m s less

  pub of_family : r.book.name.family ≡ n.family
  of_family = same_family r.book.name n (slot (padded_value r.head)) s its_label

  pub of_slot : slot (padded_value r.head) ≡ s
  of_slot = same_number r.book.name n (slot (padded_value r.head)) s its_label

-- the labels of so many slots, by how many there are
pub long_labels : (n : Name) (m : ℕ) (labels : List ℕ) → labels ≡ slot_labels n m → length labels ≡ m
long_labels n m labels are = ap length are ∙ labels_long n m

pub their_labels : (n b : Name) (m : ℕ) (labels : List ℕ) → labels ≡ slot_labels n m → n ≡ b → labels ≡ slot_labels b (length labels)
their_labels n b m labels are same = are ∙ ap (λ (t : Name × ℕ). slot_labels t.0 t.1) (λ j. (same j, sym (long_labels n m labels are) j))

pub is_there : (n : Name) (m s : ℕ) (labels : List ℕ) → labels ≡ slot_labels n m → s < m → s < length labels
is_there n m s labels are less = subst (λ (k : ℕ). s < k) (sym (long_labels n m labels are)) less
