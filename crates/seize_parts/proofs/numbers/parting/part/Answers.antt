use Rattle.std.proofs.Common.{◌≡◌, ℕ, false, sym, ap, subst, ◌∙◌, arith}
use Rattle.seize_machine.specs.Machine.State.{head_at, is_active}
use Rattle.seize_model.specs.Waiting.Calls.{is_free, one_guard_less, set_guards}
use Rattle.seize_model.specs.Waiting.State.{has_guard, model_slot}
use Rattle.seize_book.specs.Book.{after}
use Rattle.seize_book.specs.Tokens.{Name, start}
use Rattle.seize_book.specs.declared.book.pass.Pass.{Pass}
use Rattle.seize_words.specs.Joined.{words_book}
use Rattle.seize_calls.proofs.Current.{shown}
use Rattle.seize_calls.specs.Slots.{its_number}
use Rattle.seize_alone.specs.Reclaiming.{last_guard_left}
use Rattle.seize_parts.specs.Aparts.{Fits, Goes, IsIn}
use Rattle.seize_parts.specs.Placing.{Lies}
use Rattle.seize_parts.specs.Reservations.{its_label, place_label}
use Rattle.seize_parts.proofs.Called.{only_there, unit_there}
use Rattle.seize_parts.proofs.Going.{goes_as, goes_none}
use Rattle.seize_parts.proofs.Lying.{head_held}
use Rattle.seize_parts.proofs.Parting.{goes_from, left_off, left_on, one_guards, one_held, one_used, unit_none, unit_some}
use Rattle.seize_parts.proofs.Places.{in_place}
use Rattle.seize_parts.proofs.Stilled.{same_pass, still_looked}
use Rattle.seize_parts.proofs.numbers.parting.part.Goals as goal
use Rattle.seize_calls.specs.Furthers.{further_in}
use Rattle.seize_calls.specs.Handing.{IsServed}

pub agree-requires : goal.agree-requires
agree-requires g c =
    let words = c.args.words.now in let pass = c.args.pass.now in let for = c.requires.pass.0 in let s = c.args._s in let place = c.args.place in
    let label : its_label place.reservation ≡ place_label (words_book words) s 1 = ap (λ (t : Lies). t.1.1.0) c.requires.held.4.2.0 ∙ ap (λ (n : Name). place_label n s 1) (sym for.0) in
    ap (λ (n : Name). n.family) c.seen.ensures.0 ∙ (in_place (words_book words) s 1 c.args.place.reservation label).0

pub returns-in_default-clause-slot : goal.returns-in_default-clause-slot
returns-in_default-clause-slot g c =
    let words = c.args.words.now in let pass = c.args.pass.now in let for = c.requires.pass.0 in let s = c.args._s in let place = c.args.place in let held = c.requires.held in
    let label : its_label place.reservation ≡ place_label (words_book words) s 1 = ap (λ (t : Lies). t.1.1.0) held.4.2.0 ∙ ap (λ (n : Name). place_label n s 1) (sym for.0) in
    let slot = c.args.place.reservation.slot in let number = (in_place (words_book words) s 1 c.args.place.reservation label).1 in let slot' = c.look.new.self in let looks = c.look.ensures.looks in
    let off : has_guard (model_slot held.0 s) ≡ false = unit_none pass.name s place.unit (has_guard (model_slot held.0 s)) (ap (λ (t : Lies). t.1.1.1.0) held.4.2.0) c.in_default.is in
    let same = same_pass c.requires.pass.1 (still_looked slot slot' looks) in let so = shown slot slot' pass c.look.new.pass looks (sym c.seen.ensures.0 ∙ c.agree.ensures ∙ for.0) in (
      c.look.ensures.of.0,
      sym so.1 ∙ ap (λ (q : Pass). is_active (head_at (after (start q.name) q.seen) (its_number slot))) same ∙ head_held held.3 (its_number slot) ∙ subst (λ (k : ℕ). has_guard (model_slot held.0 k) ≡ false) (sym number) off,
      looks.0.same.0 ∙ number,
    )

pub returns-in_default-clause-goes : goal.returns-in_default-clause-goes
returns-in_default-clause-goes g c =
    let W = g.W.Watch in let code = g.row.T.coded.code in let puts = g.R.Puts.puts in let pass = c.args.pass.now in let s = c.args._s in let place = c.args.place in let seen = W.seen c.args.aside.now.watch.now in let queue = c.args.aside.now.queue in
    let same = same_pass c.requires.pass.1 (still_looked c.args.place.reservation.slot c.look.new.self c.look.ensures.looks) in
    subst (λ (q : Pass). Goes code puts W.told (IsIn pass s place) (λ st. last_guard_left st s) pass q seen seen queue queue) (sym same)
    (goes_as code puts W.told (λ st is. is) (λ st is. left_off st s (unit_none pass.name s place.unit (has_guard (model_slot st s)) (ap (λ (t : Lies). t.1.1.1.0) is.2.0) c.in_default.is))
    (goes_none code puts W.told (IsIn pass s place) pass seen queue (subst (IsServed (further_in queue)) c.requires.pass.0.0 c.requires.queue.0)))

pub leave_last-requires : goal.leave_last-requires
leave_last-requires g c =
    let words = c.args.words.now in let pass = c.args.pass.now in let for = c.requires.pass.0 in let s = c.args._s in let place = c.args.place in let held = c.requires.held in
    let label : its_label place.reservation ≡ place_label (words_book words) s 1 = ap (λ (t : Lies). t.1.1.0) held.4.2.0 ∙ ap (λ (n : Name). place_label n s 1) (sym for.0) in
    let only = only_there words s pass place.reservation label for c.requires.pass.1 in
    let its = unit_some pass.name s place.unit c.in-Some.unit (has_guard (model_slot held.0 s)) (ap (λ (t : Lies). t.1.1.1.0) held.4.2.0) c.in-Some.is in
    (omega arith, ((held.4.2.1, only.0), (unit_there (words_book words) s (its_number c.args.place.reservation.slot) c.in-Some.unit (its.2 ∙ sym for.0) its.1 only.1, (c.requires.ender, c.requires.queue))))

pub returns-clause-slot : goal.returns-clause-slot
returns-clause-slot g c =
    let words = c.args.words.now in let pass = c.args.pass.now in let for = c.requires.pass.0 in let s = c.args._s in let place = c.args.place in let held = c.requires.held in
    let label : its_label place.reservation ≡ place_label (words_book words) s 1 = ap (λ (t : Lies). t.1.1.0) held.4.2.0 ∙ ap (λ (n : Name). place_label n s 1) (sym for.0) in
    let only = only_there words s pass place.reservation label for c.requires.pass.1 in let slot = c.leave_last.ensures.slot in
    (slot.0, slot.1, slot.2 ∙ only.1)

pub returns-clause-goes : goal.returns-clause-goes
returns-clause-goes g c =
    let W = g.W.Watch in let T = g.row.T in let puts = g.R.Puts.puts in let words = c.args.words.now in let pass = c.args.pass.now in let for = c.requires.pass.0 in let s = c.args._s in let place = c.args.place in let held = c.requires.held in
    let label : its_label place.reservation ≡ place_label (words_book words) s 1 = ap (λ (t : Lies). t.1.1.0) held.4.2.0 ∙ ap (λ (n : Name). place_label n s 1) (sym for.0) in
    let only = only_there words s pass place.reservation label for c.requires.pass.1 in
    let left = subst (λ (k : ℕ). Goes T.coded.code puts W.told (λ st. Fits pass st × (is_free (model_slot st k).kind ≡ false) × ((model_slot st k).guards ≡ 1)) (λ st. one_guard_less st k)
    pass c.leave_last.new.pass (W.seen c.args.aside.now.watch.now) (W.seen c.leave_last.new.aside.watch.now) c.args.aside.now.queue c.leave_last.new.aside.queue) only.1 c.leave_last.ensures.goes in
    goes_from T.coded puts W.told (λ st. set_guards st s 1)
    (λ st names kinds may holds.
    let on = (unit_some pass.name s place.unit c.in-Some.unit (has_guard (model_slot st s)) (ap (λ (t : Lies). t.1.1.1.0) may.2.0) c.in-Some.is).0 in
    (one_held T.coded st names kinds s pass holds may.1 on, (may.0, one_used st s may.1, one_guards st s may.1), left_on st s on))
    left
