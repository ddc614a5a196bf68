use Rattle.std.proofs.Common.{None, box_value, get_or, sym, ap, subst, ◌∙◌, arith}
use base.Stored.{Coded}
use Rattle.seize_book.specs.Tokens.{IsSole}
use Rattle.seize_calls.specs.Slots.{IsPassOf}
use Rattle.seize.specs.Alones.{IsAlone}
use Rattle.seize_parts.specs.Enders.{IsEnderOf}
use Rattle.seize.proofs.Lone.{may_go}
use Rattle.seize.proofs.alone.Alone.drop.Goals as goal

pub clear-requires : goal.clear-requires
clear-requires g c =
    let inside = c.self.inside in let hands = inside.hands in
    let a = subst (λ (k : Coded g.row.T.Denot). IsAlone k.code inside.words inside.pass inside.numbers inside.places.items inside.made (box_value inside.ender) hands) g.met.T.Codes.same c.self.invariant in (
      omega arith,
      (
        (a.numbered.0, a.numbered.1, a.numbered.2),
        ((a.knows.for, a.knows.sole), ((hands.state, hands.names, hands.kinds, a.knows.holds, may_go a), subst (IsEnderOf inside.words) (sym c.deref.ensures) a.ends)),
      ),
    )

pub stir-requires : goal.stir-requires
stir-requires g c = record { stand = λ l less. (get_or c.self.inside.hands.held l None, (c.self.invariant.stand l less).0) }

pub shared-requires : goal.shared-requires
shared-requires g c =
    let a = c.self.invariant in let did = c.clear.ensures in let same = did.grows.0 in
    let for : IsPassOf c.self.inside.words c.clear.new.pass = (a.knows.for.0 ∙ sym same.0, a.knows.for.1 ∙ sym same.2) in
    (omega arith, (omega arith, ((for, subst IsSole (sym same.1) a.knows.sole), ((did.numbers.0, ap (λ b. b.name) did.numbers.1 ∙ a.numbered.1, did.numbers.2), (a.ends, (c.stir.ensures.shared, λ s place is. absurd (let none = sym (did.places s) ∙ is in cc)))))))
