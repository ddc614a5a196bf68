use Rattle.std.proofs.Common.{◌≡◌, ℕ, None, Some, false, refl, sym, ap, subst, ◌∙◌, arith}
use Rattle.std.proofs.lemmas.List.{get_or_default}
use Rattle.std.specs.Option.{is_none}
use Rattle.seize_model.specs.Waiting.Calls.{is_free}
use Rattle.seize_model.specs.Waiting.State.{has_guard, model_slot}
use Rattle.seize_book.specs.Tokens.{Name}
use Rattle.seize_calls.specs.Furthers.{further_in}
use Rattle.seize_calls.specs.Handing.{IsServed}
use Rattle.seize_calls.specs.Slots.{IsOfList}
use Rattle.seize_alone.specs.Reclaiming.{batch_in_turn}
use Rattle.seize_parts.proofs.Going.{goes_as, goes_none}
use Rattle.seize_parts.proofs.InUse.{kept_at, kept_same, set_twice}
use Rattle.seize_parts.proofs.Keeping.{free_place, used_place}
use Rattle.seize_parts.proofs.Numbered.{some_same}
use Rattle.seize_parts.proofs.Outlined.{batch_free}
use Rattle.seize_parts.specs.Numbers.{IsKeptAt}
use Rattle.seize_parts.proofs.numbers.Numbers.attempt_at.Goals as goal

pub attempt-requires : goal.attempt-requires
attempt-requires g c =
    let self = c.args.self.now in let n = c.args.n in let items = self.kept.items in let numbers = c.requires.numbers in let slot = c.in-Some.slot in
    let is = get_or_default items n None c.index_mut.result.now numbers.2 ∙ sym c.index_mut.ensures.value ∙ sym c.take.ensures.value ∙ c.in-Some.is in
    let at = numbers.0.kept n slot is in
    (omega arith, (((subst (λ (m : Name). IsOfList m slot) numbers.1 at.its, at.used), at.inactive), ((c.requires.pass.0, c.requires.pass.1), (c.requires.pass.2, c.requires.queue))))

pub returns-in-Some-clause-numbers : goal.returns-in-Some-clause-numbers
returns-in-Some-clause-numbers g c =
    let self = c.args.self.now in let n = c.args.n in let items = self.kept.items in let numbers = c.requires.numbers in let slot = c.in-Some.slot in let slot' = c.attempt.new.slot in let one = c.attempt.ensures.slot in
    let is = get_or_default items n None c.index_mut.result.now numbers.2 ∙ sym c.index_mut.ensures.value ∙ sym c.take.ensures.value ∙ c.in-Some.is in
    let at = numbers.0.kept n slot is in
    kept_same self numbers.0 n (Some slot') (sym (ap is_none is))
    (λ s same. subst (IsKeptAt self.book.name n) (some_same slot' s same) (kept_at c.args.words.now self.book.name n slot' numbers.1 one.0 one.1 (one.2 ∙ at.number))) numbers.2
    _ (set_twice items n c.take.new.self (Some slot')) refl refl refl refl refl refl refl

pub returns-in-Some-clause-goes : goal.returns-in-Some-clause-goes
returns-in-Some-clause-goes g c =
    let numbers = c.requires.numbers in let items = c.args.self.now.kept.items in let n = c.args.n in let slot = c.in-Some.slot in let W = g.W.Watch in let p = c.args.pass.now in
    let is = get_or_default items n None c.index_mut.result.now numbers.2 ∙ sym c.index_mut.ensures.value ∙ sym c.take.ensures.value ∙ c.in-Some.is in
    let goes = c.attempt.ensures.goes in let number = (numbers.0.kept n slot is).number in
    goes_as g.row.T.coded.code g.R.Puts.puts W.told
    (λ st may. let there = subst (λ (k : ℕ). (is_free (model_slot st k).kind ≡ false) × (has_guard (model_slot st k) ≡ false)) (sym number) (used_place items n slot st is may.1) in (may.0, there.0, there.1)) (λ st may. ap (λ (k : ℕ). batch_in_turn st k) number) goes

pub returns-in_default-clause-numbers : goal.returns-in_default-clause-numbers
returns-in_default-clause-numbers g c =
    let self = c.args.self.now in let n = c.args.n in let items = self.kept.items in let numbers = c.requires.numbers in
    let is = get_or_default items n None c.index_mut.result.now numbers.2 ∙ sym c.index_mut.ensures.value ∙ sym c.take.ensures.value ∙ c.in_default.is in
    kept_same self numbers.0 n c.take.new.self (ap is_none c.take.ensures.after ∙ sym (ap is_none is)) (λ s same. absurd (let e = sym c.take.ensures.after ∙ same in cc)) numbers.2
    _ refl refl refl refl refl refl refl refl

pub returns-in_default-clause-goes : goal.returns-in_default-clause-goes
returns-in_default-clause-goes g c =
    let W = g.W.Watch in let T = g.row.T in let puts = g.R.Puts.puts in let pass = c.args.pass.now in let n = c.args.n in let items = c.args.self.now.kept.items in let queue = c.args.aside.now.queue in
    let none = get_or_default items n None c.index_mut.result.now c.requires.numbers.2 ∙ sym c.index_mut.ensures.value ∙ sym c.take.ensures.value ∙ c.in_default.is in
    goes_as T.coded.code puts W.told (λ st may. may) (λ st may. sym (batch_free st n (free_place items n st none may.1)))
    (goes_none T.coded.code puts W.told _ pass (W.seen c.args.aside.now.watch.now) queue (subst (IsServed (further_in queue)) c.requires.pass.0.0 c.requires.queue.0))
