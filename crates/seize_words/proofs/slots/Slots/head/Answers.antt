use Rattle.std.proofs.Common.{ap, ◌∙◌, refl, arith}
use Rattle.seize_words.specs.Reservations.{slot}
use Rattle.seize_words.specs.Totals.{slots_seen}
use Rattle.seize_words.specs.declared.reservation.Head.{Head}
use Rattle.seize_words.proofs.Reserved.{few_seen, is_there, of_family, of_slot, still_seen}
use Rattle.seize_words.proofs.slots.Slots.head.Goals as goal

pub unreachable-requires : goal.unreachable-requires
unreachable-requires c =
    let pass = c.args.pass.now in let seen = c.slots-all.new.self in let looks = c.slots-all.ensures.0 in
    let less = still_seen pass seen c.args.number looks c.requires.seen in let few = few_seen pass seen looks in let past = c.in_default.ensures.none.0 refl in absurd (omega (arith, less, few, past))

pub get-requires : goal.get-requires
get-requires c =
    let seen = c.slots-all.new.self in let all = c.slots-all.ensures in is_there seen.name (slots_seen seen) c.args.number c.slots-all.result.labels all.1.1 (still_seen c.args.pass.now seen c.args.number all.0 c.requires.seen)

pub agree-requires : goal.agree-requires
agree-requires c =
    let seen = c.slots-all.new.self in let all = c.slots-all.ensures in
    of_family seen.name (slots_seen seen) c.args.number c.slots-all.result.labels all.1.1 (still_seen c.args.pass.now seen c.args.number all.0 c.requires.seen) c.at-reservation.result.now (c.at-reservation.ensures ∙ c.get.ensures.entry.2)

pub returns-clause-head : goal.returns-clause-head
returns-clause-head c =
    let seen = c.slots-all.new.self in let all = c.slots-all.ensures in let r = c.at-reservation.result.now in (
      ap (λ (h : Head). h.word.name) c.head.ensures ∙ r.of_book ∙ c.agree.ensures.1,
      ap slot c.head.ensures
          ∙ of_slot seen.name (slots_seen seen) c.args.number c.slots-all.result.labels all.1.1 (still_seen c.args.pass.now seen c.args.number all.0 c.requires.seen) r (c.at-reservation.ensures ∙ c.get.ensures.entry.2),
    )
