use Rattle.std.proofs.Common.{[], ◌<◌, ◌≡◌, ◌+◌, IfSome, ap, arith, sym, subst, ◌∙◌}
use Rattle.seize_book.specs.Books.{Learns}
use Rattle.seize_book.specs.Tokens.{IsSole}
use Rattle.seize_book.specs.declared.book.pass.Pass.{Pass}
use Rattle.seize_calls.specs.Aparts.{without_puts}
use Rattle.seize_calls.specs.Slots.{IsPassOf, its_number}
use Rattle.seize_words.specs.Joined.{words_book}
use Rattle.seize_words.specs.declared.activation.Activation.{Activation}
use Rattle.seize_parts.specs.Shelves.{IsForgottenOf}
use Rattle.seize_parts.specs.Sweeps.{IsLedBy}
use Rattle.seize_parts.proofs.Aparts.{more_drain}
use Rattle.seize_parts.proofs.OneLife.{forgotten_begun}
use Rattle.seize_parts.proofs.Placed.{at_some, placed_slot, still_for, units_within}
use Rattle.seize_parts.proofs.Swept.{leaves, led_as, led_none, led_prepared, led_then, looks, still_sole}
use Rattle.seize_parts.proofs.reservation.Reservation.into_slot.Goals as goal

pub current-requires : goal.current-requires
current-requires g c =
    let words = c.args.words.now in let r = c.args.self in let p0 = c.args.pass.now in let p1 = c.learn.new.self in let a = c.in_ok-number.field-0 in
    let f = (words_book words).family in let of : IsForgottenOf f a = subst (λ o. IfSome o (IsForgottenOf f)) c.in_ok-number.was c.requires.forgotten in
    let learns : Learns p0 a.seen p1 = subst (λ (p : Pass). Learns p a.seen p1) c.agree-2.ensures.0 c.learn.ensures in (
      omega arith,
      (
        (placed_slot words r c.requires.of.0 (sym c.seen.ensures.0 ∙ c.agree.ensures), still_for words p0 p1 c.requires.pass.0 learns.0),
        (of.1.0.slot ∙ c.if-number.false ∙ c.number.ensures, forgotten_begun f a p0 p1 of learns (c.agree-2.ensures.1 ∙ ap (λ (p : Pass). p.name) c.agree-2.ensures.0)),
      ),
    )

pub leave_into-requires : goal.leave_into-requires
leave_into-requires g c =
    let words = c.args.words.now in let r = c.args.self in let is = c.requires.of.0 in let p0 = c.args.pass.now in let p1 = c.learn.new.self in let p2 = c.current.new.pass in let p3 = c.head-head.new.pass in let a = c.in_ok-number.field-0 in
    let learns : Learns p0 a.seen p1 = subst (λ (p : Pass). Learns p a.seen p1) c.agree-2.ensures.0 c.learn.ensures in let prepares = c.head-head.ensures.pass in let current = c.current.ensures in let slot' = c.current.new.self in
    let sole1 : IsSole p1.id = still_sole p0 p1 learns.0 c.requires.pass.1 in let led : IsLedBy 0 p1 p2 = looks r.slot p1 slot' p2 sole1 0 current.looks in
    let for2 : IsPassOf words p2 = still_for words p1 p2 (still_for words p0 p1 c.requires.pass.0 learns.0) led.same in
    let some : 0 < r.guards = omega (arith, c.if-guards-eq0.false) in let whole = c.join.new.self in let joined : whole.units ≡ r.rest.units + a.units.units = ap (λ (u : Activation). u.units) c.join.ensures in (
      omega arith,
      (
        (current.of.0, still_for words p2 p3 for2 prepares.same, still_sole p2 p3 prepares.same (still_sole p1 p2 led.same sole1)),
        (c.head-head.ensures.head, ((units_within slot' r.rest whole _ c.join.ensures (current.of.1 r.rest (at_some r.slot r.rest r.guards some is.at)), omega (arith, joined, a.counted, c.if-count-guards.false, is.units)), (c.requires.ender, c.requires.queue.0))),
      ),
    )

pub returns-clause-led : goal.returns-clause-led
returns-clause-led g c =
    let words = c.args.words.now in let slot = c.args.self.slot in let s = its_number slot in let p0 = c.args.pass.now in let p1 = c.learn.new.self in let p2 = c.current.new.pass in let p3 = c.head-head.new.pass in let p4 = c.leave_into.new.pass in
    let a = c.in_ok-number.field-0 in let learns : Learns p0 a.seen p1 = subst (λ (p : Pass). Learns p a.seen p1) c.agree-2.ensures.0 c.learn.ensures in let prepares = c.head-head.ensures.pass in let current = c.current.ensures in
    let slot' = c.current.new.self in let leave = c.leave_into.ensures in let sole = c.requires.pass.1 in let sole1 : IsSole p1.id = still_sole p0 p1 learns.0 sole in
    let led : IsLedBy s p1 p2 = looks slot p1 slot' p2 sole1 s current.looks in let sole2 : IsSole p2.id = still_sole p1 p2 led.same sole1 in
    let for3 : IsPassOf words p3 = still_for words p2 p3 (still_for words p1 p2 (still_for words p0 p1 c.requires.pass.0 learns.0) led.same) prepares.same in
    led_then s p0 p1 p4 (led_none s p0 p1 learns.0 (learns.3 sole))
    (led_then s p1 p2 p4 led
    (led_then s p2 p3 p4 (led_prepared slot' p2 p3 prepares sole2 s)
    (led_as s (its_number slot') p3 p4 current.looks.0.same.0
    (leaves slot' p3 c.leave_into.new.slot p4 (still_sole p2 p3 prepares.same sole2) words leave.of.0.0 for3 [] (without_puts leave.leaves.0) leave.leaves.1))))

pub returns-clause-aside : goal.returns-clause-aside
returns-clause-aside g c =
    let leave = c.leave_into.ensures in let did = leave.leaves.2 in
    (leave.same, more_drain g.row.T.coded.code g.R.Puts.puts _ leave.leaves.0 c.args.aside.now.queue c.leave_into.new.aside.queue did.put did.waits c.requires.queue)
