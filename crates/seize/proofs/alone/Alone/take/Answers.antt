use Rattle.std.proofs.Common.{◌≡◌, ℕ, None, Ok, List, inr, length, refl, sym, ap, subst, ◌∙◌}
use mathlib.Core.List.{IsPrefix}
use Rattle.seize_model.specs.declared.kind.Kind.{Kind}
use Rattle.seize_model.specs.Waiting.Attempt.{StateAndGone}
use Rattle.seize_model.specs.Waiting.Calls.{Response, take_number, taking, with_number_in_use}
use Rattle.seize_model.specs.Waiting.State.{ModelState}
use Rattle.seize_book.specs.Entry.{Entry}
use Rattle.seize_book.specs.Tokens.{Name}
use Rattle.seize_words.specs.Joined.{words_book}
use Rattle.seize_alone.specs.Holding.{Holds}
use Rattle.seize_alone.proofs.Outlines.{outline, slots_in, taking_frame}
use Rattle.seize_alone.proofs.Ready.{taken, taken_as}
use Rattle.seize_alone.proofs.Sizes.{taking_size}
use Rattle.seize.specs.Alones.{View}
use Rattle.seize_parts.specs.Kinds.{kind_if_owned}
use Rattle.seize_parts.specs.Placing.{ArePlaces}
use Rattle.seize_parts.specs.Reservations.{its_label, place_label}
use Rattle.seize_parts.specs.Told.{Grew, told_of}
use Rattle.seize.proofs.Grown.{grown_places, kind_owned, kind_used, many_then, places_same, within}
use Rattle.seize.proofs.Lone.{alone_again}
use Rattle.seize.proofs.Outlined.{places_still}
use Rattle.seize.proofs.Taking.{takes}
use Rattle.seize.proofs.alone.Alone.take.Goals as goal

-- where there is no room, or no number was taken
pub invariant_of-self : goal.invariant_of-self
invariant_of-self g c =
    let a = c.self.invariant in let inside = c.self.inside in
    alone_again a {pass' = inside.pass} (refl, refl, refl) a.numbered inside.hands c.room.new.places.items inside.made a.counted refl refl
    (places_same (words_book inside.words) inside.hands.state inside.places.items c.room.new.places.items c.room.ensures.same a.placed) a.knows.holds refl

pub invariant_of-self-in_err-slot : goal.invariant_of-self-in_err-slot
invariant_of-self-in_err-slot g c =
    let a = c.self.invariant in let inside = c.self.inside in let hands = inside.hands in let numbers = c.take.ensures.numbers in let still = c.in_err-slot.ensures.refused.1 in
    alone_again a {pass' = c.take.new.pass} still.same (numbers.0, ap (λ b. b.name) numbers.1 ∙ a.numbered.1, numbers.2) hands c.room.new.places.items inside.made a.counted refl refl
    (places_same (words_book inside.words) hands.state inside.places.items c.room.new.places.items c.room.ensures.same a.placed)
    (subst (λ (t : Name × List Entry). Holds g.row.T.coded.code hands.state hands.names hands.kinds t.0 t.1) (λ j. (sym still.same.0 j, sym (still.alone a.knows.sole) j)) a.knows.holds) refl

pub back-requires : goal.back-requires
back-requires g c =
    let a = c.self.invariant in let inside = c.self.inside in let n = c.number-number.result in let st = inside.hands.state in let kind = kind_if_owned c.args.owned in let P = g.R.Puts in let made = c.in_ok-slot.ensures.made in let went = c.attempt_taken in
    let it = takes g.row.T.coded P.puts P.weight P.lighter g.W.Watch.told a.knows kind (kind_used c.args.owned) _ went.new.slot _ went.new.pass (g.W.Watch.seen c.args.watch.now) (g.W.Watch.seen went.new.watch) _ n made.0 went.ensures.of.0 c.number-number.ensures went.ensures.resumes went.ensures.none in
    within st n kind inside.made (length c.room.new.places.items) it.least a.counted c.in_ok-room.ensures.room

pub of-requires : goal.of-requires
of-requires g c =
    let a = c.self.invariant in let inside = c.self.inside in let n = c.number-number.result in let st = inside.hands.state in let kind = kind_if_owned c.args.owned in let P = g.R.Puts in let made = c.in_ok-slot.ensures.made in let went = c.attempt_taken in
    let it = takes g.row.T.coded P.puts P.weight P.lighter g.W.Watch.told a.knows kind (kind_used c.args.owned) _ went.new.slot _ went.new.pass (g.W.Watch.seen c.args.watch.now) (g.W.Watch.seen went.new.watch) _ n made.0 went.ensures.of.0 c.number-number.ensures went.ensures.resumes went.ensures.none in
    ((taking P.puts P.weight st n kind).0, it.now.names, it.now.kinds, inside.hands.held, (refl, it.now.holds, refl))

pub invariant_of-self-2 : goal.invariant_of-self-2
invariant_of-self-2 g c =
    let a = c.self.invariant in let inside = c.self.inside in let n = c.number-number.result in let st = inside.hands.state in let kind = kind_if_owned c.args.owned in let P = g.R.Puts in let made = c.in_ok-slot.ensures.made in let went = c.attempt_taken in
    let it = takes g.row.T.coded P.puts P.weight P.lighter g.W.Watch.told a.knows kind (kind_used c.args.owned) _ went.new.slot _ went.new.pass (g.W.Watch.seen c.args.watch.now) (g.W.Watch.seen went.new.watch) _ n made.0 went.ensures.of.0 c.number-number.ensures went.ensures.resumes went.ensures.none in
    let words = inside.words in let book = words_book words in let result = c.of.result in let items = c.back.new.places.items in let numbers = c.take.ensures.numbers in let reservation = c.new-reservation in
    let then : ModelState g.row.T.Denot ℕ = (taking P.puts P.weight st n kind).0 in let grown : ModelState g.row.T.Denot ℕ = with_number_in_use st n kind in
    let now : result.state ≡ then = c.of.ensures.0 in
    let frame = taking_frame P.puts P.weight st n kind in let same : outline then ≡ outline grown = ap (λ f. f.0) frame in
    let label : its_label reservation.result ≡ place_label book n 1 = reservation.ensures.1 ∙ ap (λ (t : ℕ). place_label book t 1) (sym c.number-number.ensures) in
    alone_again a it.same (numbers.0, ap (λ b. b.name) numbers.1 ∙ a.numbered.1, numbers.2) result items c.made_then-self-inside.result
    (c.made_then-self-inside.ensures ∙ many_then st n kind inside.made a.counted ∙ sym (ap (λ (x : ModelState g.row.T.Denot ℕ). length x.slots) now ∙ slots_in then grown same))
    (ap (λ (x : ModelState g.row.T.Denot ℕ). x.size) now ∙ taking_size P.puts P.weight st n kind) (ap (λ (x : ModelState g.row.T.Denot ℕ). x.links) now ∙ ap (λ f. f.1) frame)
    (subst (λ (x : ModelState g.row.T.Denot ℕ). ArePlaces book x items) (sym now)
    (places_still book grown then items same
    (grown_places st n kind book inside.places.items c.room.new.places.items items _ a.placed c.room.ensures.same
    (within st n kind inside.made (length c.room.new.places.items) it.least a.counted c.in_ok-room.ensures.room) c.back.ensures it.least (kind_used c.args.owned)
    ((λ j. (sym (kind_owned c.args.owned) j, (0, (label j, (None, made.1 j))))), reservation.ensures.0))))
    c.of.ensures.1 c.of.ensures.2

pub returns-clause-done : goal.returns-clause-done
returns-clause-done g c =
    let a = c.self.invariant in let inside = c.self.inside in let n = c.number-number.result in let st = inside.hands.state in let kind = kind_if_owned c.args.owned in let P = g.R.Puts in let made = c.in_ok-slot.ensures.made in let went = c.attempt_taken in
    let it = takes g.row.T.coded P.puts P.weight P.lighter g.W.Watch.told a.knows kind (kind_used c.args.owned) _ went.new.slot _ went.new.pass (g.W.Watch.seen c.args.watch.now) (g.W.Watch.seen went.new.watch) _ n made.0 went.ensures.of.0 c.number-number.ensures went.ensures.resumes went.ensures.none in
    let told : take_number P.puts P.weight st kind 0 ≡ (Ok n, taking P.puts P.weight st n kind) = taken st n kind it.least P.puts P.weight 0 it.few ∙ ap (λ (o : StateAndGone g.row.T.Denot ℕ). (Ok n, o)) (taken_as st n kind it.least P.puts P.weight) in
    let seen = g.W.Watch.seen c.args.watch.now in
    subst (λ (x : ModelState g.row.T.Denot ℕ). Grew g.W.Watch.told (take_number P.puts P.weight x kind 0) (Ok n) x c.of.result.state seen (g.W.Watch.seen went.new.watch)) (ap (λ (v : View g.row.T.Denot). v.state) c.self.view_is)
    (inr ((ap (λ (r : Response ℕ g.row.T.Denot ℕ). r.0) (sym told), c.of.ensures.0 ∙ ap (λ (r : Response ℕ g.row.T.Denot ℕ). r.1.0) (sym told)), it.now.hears ∙ ap (λ (r : Response ℕ g.row.T.Denot ℕ). told_of g.W.Watch.told seen r.1.1) (sym told)))

pub returns-clause-grows : goal.returns-clause-grows
returns-clause-grows g c =
    let a = c.self.invariant in let inside = c.self.inside in let n = c.number-number.result in let st = inside.hands.state in let kind = kind_if_owned c.args.owned in let P = g.R.Puts in let made = c.in_ok-slot.ensures.made in let went = c.attempt_taken in
    let it = takes g.row.T.coded P.puts P.weight P.lighter g.W.Watch.told a.knows kind (kind_used c.args.owned) _ went.new.slot _ went.new.pass (g.W.Watch.seen c.args.watch.now) (g.W.Watch.seen went.new.watch) _ n made.0 went.ensures.of.0 c.number-number.ensures went.ensures.resumes went.ensures.none in
    subst (λ (x : List Entry). IsPrefix x went.new.pass.seen) (ap (λ (v : View g.row.T.Denot). v.seen) c.self.view_is) it.grows
