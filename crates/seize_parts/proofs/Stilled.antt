-- What a pass that is alone does when it learns, looks, or makes one event.
use Rattle.std.proofs.Common.{◌≡◌, sym, subst, ◌∙◌}
use Rattle.seize_machine.specs.Machine.Event.{Event}
use Rattle.seize_machine.specs.declared.machine.event.Answer.{Answer}
use Rattle.seize_book.specs.Books.{Learns}
use Rattle.seize_book.specs.Passes.{LooksOn}
use Rattle.seize_book.specs.Tokens.{IsSole}
use Rattle.seize_book.specs.declared.book.pass.Pass.{Pass}
use Rattle.seize_book.specs.declared.book.seen.Seen.{Seen}
use Rattle.seize_calls.specs.Slots.{Prepares, SlotLooks}
use Rattle.seize_calls.specs.declared.slot.Slot.{Slot}
use Rattle.seize_alone.specs.Events.{MakesAlone}
use Rattle.seize_parts.specs.Places.{IsUnmoved}

-- Passes by which nothing was done.

pub still_then : {p q r : Pass} → IsUnmoved p q → IsUnmoved q r → IsUnmoved p r
still_then {p} {q} {r} one two = record {
  same = (two.same.0 ∙ one.same.0, two.same.1 ∙ one.same.1, two.same.2 ∙ one.same.2);
  alone = λ sole. two.alone (subst IsSole (sym one.same.1) sole) ∙ one.alone sole;
}

pub still_prepared : {T : Type 0} (slot : Slot T) {p q : Pass} → Prepares slot p q → IsUnmoved p q
still_prepared slot prepares = record { same = prepares.same; alone = prepares.alone }

pub still_looked : {T : Type 0} (slot slot' : Slot T) {p q : Pass} → SlotLooks slot p slot' q → IsUnmoved p q
still_looked slot slot' {p} {q} looks =
    let on : LooksOn looks.0.ready q = looks.0.does.on in
    still_then (still_prepared slot looks.0.prepares) (record { same = on.same; alone = on.alone })

pub still_learned : {p q : Pass} (seen : Seen) → Learns p seen q → IsUnmoved p q
still_learned seen learns = record { same = learns.0; alone = learns.3 }

pub same_pass : {p q : Pass} → IsSole p.id → IsUnmoved p q → q ≡ p
same_pass sole still = λ j. record { marker = record {}; name = still.same.0 j; size = still.same.2 j; id = still.same.1 j; seen = still.alone sole j }

pub alone_from : {p q r : Pass} {event : Event} {answer : Answer} → IsSole p.id → IsUnmoved p q → MakesAlone q r event answer → MakesAlone p r event answer
alone_from {p} {q} {r} {event} {answer} sole still makes = subst (λ (t : Pass). MakesAlone t r event answer) (same_pass sole still) makes
