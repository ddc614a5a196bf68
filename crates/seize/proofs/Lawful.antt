-- The laws of the machine hold of each legal list of a book.
use Rattle.std.proofs.Common.{◌≡◌, true, List}
use Rattle.seize_machine.specs.Machine.History.{Moment}
use Rattle.seize_machine.specs.Machine.Laws.{After, AtMostOnce, Gone, Holders, HoldsOfAll, NoLaterHolders, Protection, Quiet, Tries, UnderGuard, Unused, Whereabouts}
use Rattle.seize_machine.specs.Machine.State.{State, are_distinct, linked_values}
use Rattle.seize_book.specs.Book.{IsLegalList, moments}
use Rattle.seize_book.specs.Entry.{Entry, events_of}
use Rattle.seize_book.specs.Tokens.{Name, start}
use Rattle.seize_book.proofs.Facts.{as_legal}
use Rattle.seize_parts.specs.Laws.{LawsOf}

-- by what `machine::laws` says, clause by clause
pub laws_of : HoldsOfAll AtMostOnce → HoldsOfAll After → HoldsOfAll Quiet → HoldsOfAll Unused → HoldsOfAll Protection → HoldsOfAll Whereabouts → HoldsOfAll Gone → HoldsOfAll Holders → HoldsOfAll NoLaterHolders → HoldsOfAll UnderGuard → HoldsOfAll Tries
    → (n : Name) (log : List Entry) → are_distinct (linked_values n.links) ≡ true → IsLegalList (start n) log → LawsOf (start n) (moments (start n) log)
laws_of once after quiet unused protection whereabouts gone holders later guard tries n log distinct legal =
    let of : (law : State → List Moment → Type 0) → HoldsOfAll law → law (start n) (moments (start n) log)
    = λ law holds. holds n.slots n.links (events_of log) _ _ distinct (as_legal (start n) log legal) in
    record {
      at_most_once = of AtMostOnce once;
      after = of After after;
      quiet = of Quiet quiet;
      unused = of Unused unused;
      protection = of Protection protection;
      whereabouts = of Whereabouts whereabouts;
      gone = of Gone gone;
      holders = of Holders holders;
      no_later_holders = of NoLaterHolders later;
      under_guard = of UnderGuard guard;
      tries = of Tries tries;
    }
