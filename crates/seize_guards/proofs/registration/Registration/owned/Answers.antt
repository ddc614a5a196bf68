use Rattle.std.proofs.Common.{◌-◌, ◌^◌, ◌∙◌}
use Rattle.seize_words.specs.Joined.{words_book}
use Rattle.seize_parts.proofs.Places.{in_place}
use Rattle.seize_guards.proofs.registration.Registration.owned.Goals as goal

pub try_with-requires : goal.try_with-requires
try_with-requires g c =
    let self = c.args.self.now in λ r keeps. (in_place (words_book self.parts.now.words) self.number (2 ^ 64 - 1) r (keeps.0 ∙ self.at)).0
