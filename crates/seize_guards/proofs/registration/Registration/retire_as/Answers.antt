use Rattle.std.proofs.Common.{ℕ, ap, ◌-◌, ◌^◌, sym, subst, ◌∙◌}
use Rattle.seize_machine.specs.declared.machine.event.Job.TheVariants.{Retire}
use Rattle.seize_book.specs.declared.book.pass.Pass.{Pass}
use Rattle.seize_calls.specs.Slots.{IsLooseOf, IsPassOf, its_value}
use Rattle.seize_calls.specs.declared.slot.Loose.{Loose}
use Rattle.seize_words.specs.declared.words.Words.{Words}
use Rattle.seize_words.specs.Joined.{words_book}
use Rattle.seize_parts.specs.Puts.{PutBy}
use Rattle.seize_parts.specs.Makes.{IsOfKind, MakesCall}
use Rattle.seize_parts.proofs.Places.{in_place}
use Rattle.seize_parts.proofs.Wholly.{any_reclaimer}
use Rattle.seize_guards.proofs.registration.Registration.retire_as.Goals as goal

-- Where the value came back the pass is as it was.

pub with-requires : goal.with-requires
with-requires g c =
    let self = c.args.self.now in let words = self.parts.now.words in let back = c.in-Err.ensures.back in let T = g.row.T.Denot in
    let its = subst (λ (t : Words T × Loose). IsLooseOf t.0 t.1) (λ j. (c.requires.value j, sym back.0 j)) c.into_loose.ensures.1 in let for = subst (IsPassOf words) (sym back.1) c.requires.pass in
    λ r keeps. ((in_place (words_book words) self.number (2 ^ 64 - 1) r (keeps.0 ∙ self.at)).0, for, its, c.ender.ensures)

pub returns-clause-call : goal.returns-clause-call
returns-clause-call g c =
    let self = c.args.self.now in let at = in_place (words_book self.parts.now.words) self.number (2 ^ 64 - 1) c.with.ensures.before (c.with.ensures.was.0 ∙ self.at) in let back = c.in-Err.ensures.back in let named = ap its_value back.0 ∙ c.into_loose.ensures.0 in
    subst (λ (t : ℕ × ℕ × Pass). MakesCall (PutBy g.row.T.coded.code g.R.Puts.puts) t.0 (Retire t.1) t.2 c.with.new.with) (λ j. (at.1 j, named j, back.1 j)) c.with.ensures.gives.0

pub returns-clause-kind : goal.returns-clause-kind
returns-clause-kind g c = subst (λ (v : ℕ). IsOfKind v c.args.kind c.with.new.with) (ap its_value c.in-Err.ensures.back.0 ∙ c.into_loose.ensures.0) c.with.ensures.gives.1

pub returns-in_default-clause-call : goal.returns-in_default-clause-call
returns-in_default-clause-call g c =
    let IsPut = PutBy g.row.T.coded.code g.R.Puts.puts in
    subst (λ (v : ℕ). MakesCall IsPut c.args.self.now.number (Retire v) c.args.pass.now c.retire_short.new.pass) c.into_loose.ensures.0 (any_reclaimer IsPut c.in_default.ensures.retired.0)
