use Rattle.std.proofs.Common.{ℕ, ap, ◌-◌, ◌^◌, refl, sym, subst, ◌∙◌}
use Rattle.seize_machine.specs.declared.machine.event.Job.TheVariants.{Retire}
use Rattle.seize_book.specs.declared.book.pass.Pass.{Pass}
use Rattle.seize_calls.specs.Slots.{IsLooseOf, IsPassOf, its_number, its_value}
use Rattle.seize_calls.specs.declared.slot.Loose.{Loose}
use Rattle.seize_words.specs.declared.words.Words.{Words}
use Rattle.seize_words.specs.Joined.{words_book}
use Rattle.seize_guards.specs.Guards.{guard_collector, guard_slot}
use Rattle.seize_parts.specs.Makes.{Defers, IsOfKind}
use Rattle.seize_parts.proofs.Placed.{unit_as}
use Rattle.seize_parts.proofs.Places.{in_place}
use Rattle.seize_guards.proofs.Guarded.{guard_place}
use Rattle.seize_guards.proofs.guard.local.LocalGuardGuard.defer_retire_as.Goals as goal

-- Where the value came back the pass is as it was.

pub with-requires : goal.with-requires
with-requires g c =
    let guard = c.args.self.now in let collector = guard_collector guard in let n = words_book collector in let s = guard_slot guard in let core = guard.core in let back = c.in-Err.ensures.back in let T = g.row.T.Denot in
    let its = subst (λ (t : Words T × Loose). IsLooseOf t.0 t.1) (λ j. (c.requires.of.1 j, sym back.0 j)) c.into_loose.ensures.1 in let for = subst (IsPassOf collector) (sym back.1) c.requires.of.0 in
    λ r keeps. let at = in_place n s (2 ^ 64 - 1) r (keeps.0 ∙ guard_place guard) in
    (at.0, for, its, unit_as n s (its_number r.slot) core.unit core.unit core.seen at.1 refl (core.its, core.known), c.ender.ensures)

pub returns-clause-call : goal.returns-clause-call
returns-clause-call g c =
    let guard = c.args.self.now in let at = in_place (words_book (guard_collector guard)) (guard_slot guard) (2 ^ 64 - 1) c.with.ensures.before (c.with.ensures.was.0 ∙ guard_place guard) in
    let back = c.in-Err.ensures.back in let named = ap its_value back.0 ∙ c.into_loose.ensures.0 in
    subst (λ (t : ℕ × ℕ × Pass). Defers t.0 (Retire t.1) t.2 c.with.new.with) (λ j. (at.1 j, named j, back.1 j)) c.with.ensures.gives.0

pub returns-clause-kind : goal.returns-clause-kind
returns-clause-kind g c = subst (λ (v : ℕ). IsOfKind v c.args.kind c.with.new.with) (ap its_value c.in-Err.ensures.back.0 ∙ c.into_loose.ensures.0) c.with.ensures.gives.1
