-- What reclaiming all leaves of a collector, which nobody shares meanwhile.
--     its_state c              the state where the list leads that the collector has seen
--     moments_of c             the events of that list, each with the states before and after it;  moments_kept known     those that a
--                              `Seen` keeps of a pass
--     IsSameCollector c c'     it is the same one: its list, its batch size, its id, and the greatest batch size that it ever had
--     AddsNothing c seen       nothing was made in this list with the collector's own pass, the first one (0), beyond what it had seen
--     Learns c c' known        the same collector has seen what the `Seen` has, and no less than before, and added nothing
--     NoneInUse c              no number is in use, as the collector has seen
--     FindsInUse c c'          the same collector has seen a longer list, to which it added nothing, and some number is in use
--     AllReclaimed c           each value that was ever retired is reclaimed, as the collector has seen
--     ReclaimsAll c c' all     the same collector has seen a longer list. At the call the list was this: the collector had added nothing to
--                              what it had seen, and all that comes after was made with its own pass. Links are as they were then, and a
--                              number that is in use afterwards was so then. It says `all` just where no number is in use; then each slot
--                              is as if it had never been made, and each value that was ever retired is reclaimed. For either answer:
--                              where no slot had a call or was active at the call, so it is afterwards. And where no slot has a call or
--                              is active afterwards, each value that was ever retired is reclaimed, or stands in the batch of a slot
--                              whose number is in use (StandsInUse)
use Rattle.std.specs.Prelude.{◌≡◌, ◌⊎◌, ◌↔◌, ℕ, Bool, true, false, List, ◌++◌}
use mathlib.Core.List.{IsPrefix}
use Rattle.seize_machine.specs.Machine.History.{Moment, Reclaimed, Retired}
use Rattle.seize_machine.specs.Machine.Laws.{is_quiet}
use Rattle.seize_machine.specs.Machine.State.{State, head_at, is_active, link_at, no_slot, slot_at}
use Rattle.seize_book.specs.Book.{after, mine, moments}
use Rattle.seize_book.specs.Entry.{Entry}
use Rattle.seize_book.specs.Porters.{GoesOnTo}
use Rattle.seize_book.specs.Tokens.{start}
use Rattle.seize_book.specs.declared.book.seen.Seen.{Seen}
use Rattle.seize_calls.specs.Alone.{AllBy}
use Rattle.seize.specs.Collectors.{its_book, its_id, its_most, its_size, seen_by}
use Rattle.seize_parts.specs.Sweeps.{StandsInUse}
use Rattle.seize.specs.declared.collector.Collector.{Collector}

abbrev pub moments_kept : Seen → List Moment
moments_kept known = moments (start known.name) known.seen

module _ {T R : Type 0} where
  abbrev pub its_state : Collector T R → State
  its_state c = after (start (its_book c)) (seen_by c)

  abbrev pub moments_of : Collector T R → List Moment
  moments_of c = moments (start (its_book c)) (seen_by c)

  abbrev pub IsSameCollector : Collector T R → Collector T R → Type 0
  IsSameCollector c c' =
      (its_book c' ≡ its_book c) × (its_size c' ≡ its_size c) × (its_id c' ≡ its_id c) × (its_most c' ≡ its_most c)

  abbrev pub AddsNothing : Collector T R → List Entry → Type 0
  AddsNothing c seen = mine (start (its_book c)) 0 seen ≡ mine (start (its_book c)) 0 (seen_by c)

  pub record Learns (c c' : Collector T R) (known : Seen) : Type 0 where
    pub same : IsSameCollector c c'
    pub goes_on : GoesOnTo (its_book c) (seen_by c) (seen_by c')
    pub nothing : AddsNothing c (seen_by c')
    pub knows : IsPrefix known.seen (seen_by c')

  abbrev pub NoneInUse : Collector T R → Type 0
  NoneInUse c = (s : ℕ) → (slot_at (its_state c) s).used ≡ false

  pub record FindsInUse (c c' : Collector T R) : Type 0 where
    pub same : IsSameCollector c c'
    pub goes_on : GoesOnTo (its_book c) (seen_by c) (seen_by c')
    pub nothing : AddsNothing c (seen_by c')
    pub in_use : ¬ (NoneInUse c')

  abbrev pub AllReclaimed : Collector T R → Type 0
  AllReclaimed c = (v q : ℕ) → Retired (moments_of c) v q → (k : ℕ) × Reclaimed (moments_of c) v k

  pub record ReclaimsAll (c c' : Collector T R) (all : Bool) : Type 0 where
    pub same : IsSameCollector c c'
    pub at_call : List Entry
    pub goes_on : GoesOnTo (its_book c) (seen_by c) at_call
    pub nothing : AddsNothing c at_call
    pub grows : GoesOnTo (its_book c) at_call (seen_by c')
    pub by_itself : (added : List Entry) × (seen_by c' ≡ at_call ++ added) × AllBy 0 added
    pub links : (l : ℕ) → link_at (its_state c') l ≡ link_at (after (start (its_book c)) at_call) l
    pub numbers : (s : ℕ) → (slot_at (its_state c') s).used ≡ true → (slot_at (after (start (its_book c)) at_call) s).used ≡ true
    pub none_in_use : (all ≡ true) ↔ NoneInUse c'
    pub cleared : all ≡ true → (s : ℕ) → (slot_at (its_state c') s ≡ no_slot) × (is_active (head_at (its_state c') s) ≡ false)
    pub reclaimed : all ≡ true → AllReclaimed c'
    pub quiet : is_quiet (after (start (its_book c)) at_call) ≡ true → is_quiet (its_state c') ≡ true
    pub rests : is_quiet (its_state c') ≡ true → (v q : ℕ) → Retired (moments_of c') v q
        → ((k : ℕ) × Reclaimed (moments_of c') v k) ⊎ StandsInUse (its_state c') v
