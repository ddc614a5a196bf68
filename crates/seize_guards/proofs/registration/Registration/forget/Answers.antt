use Rattle.std.proofs.Common.{◌-◌, ◌^◌, sym, ◌∙◌}
use Rattle.seize_words.specs.Joined.{words_book}
use Rattle.seize_parts.proofs.Places.{in_place}
use Rattle.seize_guards.proofs.registration.Registration.forget.Goals as goal

pub lay-requires : goal.lay-requires
lay-requires g c =
    let self = c.args.self in let kept = c.into_value.ensures in
    (kept.1, (in_place (words_book self.parts.now.words) self.number (2 ^ 64 - 1) c.into_value.result (kept.0 ∙ self.at)).0 ∙ sym self.shelved)
