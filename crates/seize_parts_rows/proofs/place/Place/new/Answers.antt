use Rattle.std.proofs.Common.{◌∙◌}
use Rattle.seize_calls.specs.Slots.{its_number}
use Rattle.seize_words.specs.Joined.{words_book}
use Rattle.seize_parts.proofs.Places.{head_for, in_place}
use Rattle.seize_parts_rows.proofs.place.Place.new.Goals as goal

pub returns : goal.returns
returns c =
    let words = c.args.words.now in
    let n = words_book words in
    let r = c.new.result in
    let at = in_place n (its_number c.args.slot) c.args.most r c.new.ensures.1 in
    let head = c.head-head.ensures.head in
    record {
      sound = c.new.ensures.0;
      its = at.0;
      headed = head_for n (its_number c.args.slot) (its_number r.slot) c.head-head.result.now (head.0 ∙ c.requires.slot.0.0.book, head.1) at.1;
      lends = c.requires.lends;
    }
