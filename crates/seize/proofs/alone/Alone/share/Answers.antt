use Rattle.std.proofs.Common.{None, get_or, refl, arith}
use Rattle.seize_words.specs.Joined.{words_book}
use Rattle.seize_alone.proofs.Shown.{owned_shown}
use Rattle.seize_parts.proofs.Homing.{may_lay}
use Rattle.seize.proofs.alone.Alone.share.Goals as goal

pub stir-requires : goal.stir-requires
stir-requires g c = record { stand = λ l less. (get_or c.self.inside.hands.held l None, (c.self.invariant.stand l less).0) }

pub shared-requires : goal.shared-requires
shared-requires g c =
    let a = c.self.invariant in let inside = c.self.inside in let n = words_book inside.words in
    (omega arith, (omega arith, ((a.knows.for, a.knows.sole), (a.numbered, (a.ends, (c.stir.ensures.shared, λ s place is. may_lay n n inside.hands.state inside.places.items a.placed (owned_shown a.knows.holds) refl s place is))))))
