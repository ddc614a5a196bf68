use Rattle.std.proofs.Common.{ℕ, ◌⊎◌, ◌-◌, ◌^◌, refl, sym, subst, ◌∙◌}
use Rattle.seize_machine.specs.declared.machine.event.Job.TheVariants.{Leave}
use Rattle.seize_book.specs.declared.book.pass.Pass.{Pass}
use Rattle.seize_calls.specs.Slots.{IsPassOf, its_number}
use Rattle.seize_words.specs.declared.words.Words.{Words}
use Rattle.seize_words.specs.Joined.{words_book}
use Rattle.seize_guards.specs.Guards.{guard_collector, guard_slot}
use Rattle.seize_parts.specs.Puts.{PutBy}
use Rattle.seize_parts.specs.Makes.{MakesCall, StaysActive}
use Rattle.seize_parts.specs.Reservations.{IsUnit}
use Rattle.seize_parts.proofs.Placed.{unit_as}
use Rattle.seize_parts.proofs.Places.{head_for, in_place, one_of_two}
use Rattle.seize_guards.proofs.Guarded.{guard_head, guard_place}
use Rattle.seize_guards.proofs.guard.local.LocalGuard.leave.Goals as goal

-- Where the guard did not leave beside others, the pass is as it was, and the unit is its own.

pub with-requires : goal.with-requires
with-requires g c =
    let guard = c.args.self in let n = words_book (guard_collector guard) in let s = guard_slot guard in let unit = c.in-Some.unit in let seen = c.in-Some.seen in let back = c.in-Some.ensures.back in let T = g.row.T.Denot in
    let its = subst (λ (t : Words T × ℕ). IsUnit (words_book t.0) t.1 unit seen) (λ j. (sym guard.its.0 j, sym guard.its.1 j)) back.0 in
    λ r keeps. let at = in_place n s (2 ^ 64 - 1) r (keeps.0 ∙ guard_place guard) in (
      at.0,
      subst (IsPassOf (guard_collector guard)) (sym back.1) c.requires.of,
      unit_as n s (its_number r.slot) unit unit seen at.1 refl its,
      head_for n s (its_number r.slot) guard.registration.now.head.now (guard_head guard) at.1,
      c.ender.ensures,
    )

pub returns : goal.returns
returns g c =
    let guard = c.args.self in let at = in_place (words_book (guard_collector guard)) (guard_slot guard) (2 ^ 64 - 1) c.with.ensures.before (c.with.ensures.was.0 ∙ guard_place guard) in
    subst (λ (t : ℕ × Pass). MakesCall (PutBy g.row.T.coded.code g.R.Puts.puts) t.0 Leave t.1 c.with.new.with ⊎ StaysActive t.0 t.1 c.with.new.with) (λ j. (at.1 j, c.in-Some.ensures.back.1 j)) (one_of_two c.with.ensures.gives.0)
