use Rattle.std.proofs.Common.{◌==◌, ◌≡◌, ◌+◌, ◌<◌, true, not, refl, sym, ap, subst, ◌∙◌, arith}
use Rattle.seize_book.specs.Books.{Learns}
use Rattle.seize_book.specs.Homesteads.{state_seen}
use Rattle.seize_book.specs.declared.book.pass.Pass.{Pass}
use Rattle.seize_words.specs.Joined.{words_book}
use Rattle.seize_words.specs.declared.activation.Activation.{Activation}
use Rattle.seize_alone.specs.Begins.{IsUsedAs}
use Rattle.seize_parts.specs.Kinds.{kind_if_owned}
use Rattle.seize_calls.specs.Slots.{InActivation, its_number}
use Rattle.seize_calls.proofs.Current.{looked_active}
use Rattle.seize_parts.proofs.OneLife.{forgotten_begun}
use Rattle.seize_parts.proofs.Placed.{active_some, at_some, placed, placed_slot, some_at, still_for, unit_in, units_within}
use Rattle.seize_parts.proofs.Shelved.{label_left, some_held, some_not, used_left}
use Rattle.seize_parts.proofs.Stilled.{same_pass, still_learned, still_looked, still_then}
use Rattle.seize_parts.proofs.alone.shelving.with_guards.Goals as goal

pub current-requires : goal.current-requires
current-requires g c =
    let words = c.args.words.now in let r = c.args.r in let p0 = c.args.pass.now in let p1 = c.learn.new.self in let a = c.args.forgotten in let of = c.requires.forgotten in
    let learns : Learns p0 a.seen p1 = subst (λ (p : Pass). Learns p a.seen p1) c.agree-2.ensures.0 c.learn.ensures in (
      omega arith,
      (
        (placed_slot words r c.requires.r.0 (sym c.seen.ensures.0 ∙ c.agree.ensures), still_for words p0 p1 c.requires.pass.0 learns.0),
        (of.0.1.0.slot ∙ of.1, forgotten_begun (words_book words).family a p0 p1 of.0 learns (c.agree-2.ensures.1 ∙ ap (λ (p : Pass). p.name) c.agree-2.ensures.0)),
      ),
    )

pub invariant_of-result : goal.invariant_of-result
invariant_of-result g c =
    let words = c.args.words.now in let r = c.args.r in let is = c.requires.r.0 in let p0 = c.args.pass.now in let p1 = c.learn.new.self in let a = c.args.forgotten in
    let learns : Learns p0 a.seen p1 = subst (λ (p : Pass). Learns p a.seen p1) c.agree-2.ensures.0 c.learn.ensures in let current = c.current.ensures in let slot' = c.current.new.self in let p2 = c.current.new.pass in
    let some : 0 < r.guards = active_some r.slot r.rest r.guards current.within.0 is.at in let within : InActivation slot' r.rest = current.of.1 r.rest (at_some r.slot r.rest r.guards some is.at) in
    let whole = c.join.new.self in let rest' = c.split-unit.new.self in let split = c.split-unit.ensures in let joined : whole.units ≡ r.rest.units + a.units.units = ap (λ (u : Activation). u.units) c.join.ensures in
    let within1 : InActivation slot' whole = units_within slot' r.rest whole _ c.join.ensures within in let within2 : InActivation slot' rest' = units_within slot' whole rest' rest'.units split.1 within1 in
    let unit = unit_in (words_book words) (its_number r.slot) slot' whole c.split-unit.result c.seen-seen.result current.of.0.0.book current.looks.0.same.0 within1 split.0 c.seen-seen.ensures.0 c.seen-seen.ensures.1 in
    record { its = record { book = refl; slot = unit.0.slot ∙ sym c.requires.forgotten.1; one = unit.0.one; same = unit.0.same; active = unit.0.active; its = unit.0.its }; known = unit.1 }

pub returns-clause-still : goal.returns-clause-still
returns-clause-still g c =
    let p0 = c.args.pass.now in let p1 = c.learn.new.self in let a = c.args.forgotten in let learns : Learns p0 a.seen p1 = subst (λ (p : Pass). Learns p a.seen p1) c.agree-2.ensures.0 c.learn.ensures in
    same_pass c.requires.pass.1 (still_then (still_learned a.seen learns) (still_looked c.args.r.slot c.current.new.self c.current.ensures.looks))

pub returns-clause-place : goal.returns-clause-place
returns-clause-place g c =
    let words = c.args.words.now in let r = c.args.r in let is = c.requires.r.0 in let p0 = c.args.pass.now in let p1 = c.learn.new.self in let a = c.args.forgotten in
    let learns : Learns p0 a.seen p1 = subst (λ (p : Pass). Learns p a.seen p1) c.agree-2.ensures.0 c.learn.ensures in let current = c.current.ensures in let slot' = c.current.new.self in let p2 = c.current.new.pass in
    let some : 0 < r.guards = active_some r.slot r.rest r.guards current.within.0 is.at in let within : InActivation slot' r.rest = current.of.1 r.rest (at_some r.slot r.rest r.guards some is.at) in
    let whole = c.join.new.self in let rest' = c.split-unit.new.self in let split = c.split-unit.ensures in let joined : whole.units ≡ r.rest.units + a.units.units = ap (λ (u : Activation). u.units) c.join.ensures in
    let within1 : InActivation slot' whole = units_within slot' r.rest whole _ c.join.ensures within in let within2 : InActivation slot' rest' = units_within slot' whole rest' rest'.units split.1 within1 in
    let of = placed_slot words r is (sym c.seen.ensures.0 ∙ c.agree.ensures) in let for1 = still_for words p0 p1 c.requires.pass.0 learns.0 in
    let still = same_pass c.requires.pass.1 (still_then (still_learned a.seen learns) (still_looked r.slot slot' current.looks)) in let on : not (r.guards == 0) ≡ true = some_not r.guards some in record {
      used = subst (λ (q : Pass). IsUsedAs (state_seen q) (its_number r.slot) (kind_if_owned (r.most == 1), r.guards)) still
          (used_left words r.slot slot' p1 p2 for1 of current.of.0 current.looks r.most r.guards is.fits (looked_active _ _ _ _ current.looks.0.does ∙ current.within.0 ∙ sym on));
      sound = placed words slot' rest' 1 1 current.of.0 (some_at slot' rest' 1 (omega arith) within2) (let all = is.units in let counted = a.counted in let count = c.requires.forgotten.2 in omega (arith, split.2, joined, counted, count, all)) (omega arith);
      reservation = label_left words r.slot slot' p1 p2 for1 of current.of.0 current.looks;
      unit = some_held (its_number r.slot) (words_book words) r.guards a.number c.seen-seen.result.name some c.requires.forgotten.1 (c.seen-seen.ensures.0 ∙ current.of.0.0.book);
      shelf = c.requires.shelf;
    }
