use Rattle.std.proofs.Common.{[], ◌∷◌, sym, ◌∙◌, subst, inl, inr, arith}
use mathlib.Core.List.{IsPrefix}
use Rattle.seize_book.specs.Chains.{first_field, next_field}
use Rattle.seize_words.specs.Counts.{Counts, GivesUp, MayCountDown, TakesKeys}
use Rattle.seize_words.specs.Headers.{Passes, field_number}
use base.Growing.{prefix_trans}
use Rattle.seize_machine.specs.Machine.Event.{SubCount}
use Rattle.seize_book.specs.Adding.{private}
use Rattle.seize_book.specs.Entry.{Made}
use Rattle.seize_book.specs.Slots.{own_list, slot_number}
use Rattle.seize_book.specs.declared.book.slot_key.SlotKey.{SlotKey}
use Rattle.seize_words.proofs.Traversals.{at_field, at_header, at_number, front_home, front_number, front_shown, knows_still, looks_thrice, looks_twice, rest_walks, same_key, word_stays}
use Rattle.seize_words.proofs.blocks.Blocks.count_down.Goals as goal

pub header-header-requires : goal.header-header-requires
header-header-requires g c =
    let found = at_number c.args.key.now c.args.pass.now c.args.word c.requires.book.0 c.requires.knows c.requires.at in
    (omega arith, (c.requires.book.1, found))

pub load-rest-requires-clause-passed : goal.load-rest-requires-clause-passed
load-rest-requires-clause-passed g c =
    let key = c.args.key.now in let pass = c.args.pass.now in let at = c.requires.at in let header = c.header-header.result.now in
    let its = at_header key pass c.args.word c.requires.book.0 c.requires.knows at c.header-header.new.pass header c.header-header.ensures.looks c.header-header.ensures.header in
    let passes : Passes next_field (field_number header.next) key =
    record {
      batch = at.batch;
      walk = at.walk;
      queue = at.queue;
      walking = at.walking;
      its = at_field key pass c.args.word c.requires.book.0 c.requires.knows at next_field (field_number header.next) header its header.its_next.1;
    } in
    inl passes

pub load-front-requires-clause-passed : goal.load-front-requires-clause-passed
load-front-requires-clause-passed g c =
    let key = c.args.key.now in let pass = c.args.pass.now in let at = c.requires.at in let header = c.header-header.result.now in
    let its = at_header key pass c.args.word c.requires.book.0 c.requires.knows at c.header-header.new.pass header c.header-header.ensures.looks c.header-header.ensures.header in
    let passes : Passes first_field (field_number header.first) key =
    record {
      batch = at.batch;
      walk = at.walk;
      queue = at.queue;
      walking = at.walking;
      its = at_field key pass c.args.word c.requires.book.0 c.requires.knows at first_field (field_number header.first) header its header.its_first.1;
    } in
    inr (subst (λ (k : SlotKey). Passes first_field (field_number header.first) k) (sym (same_key key c.load-rest.new.key c.load-rest.ensures.looks.1)) passes)

pub header-first-requires : goal.header-first-requires
header-first-requires g c =
    let key = c.args.key.now in let pass = c.args.pass.now in let at = c.requires.at in let header = c.header-header.result.now in let then = c.load-front.new.pass in
    let its = at_header key pass c.args.word c.requires.book.0 c.requires.knows at c.header-header.new.pass header c.header-header.ensures.looks c.header-header.ensures.header in
    let field = at_field key pass c.args.word c.requires.book.0 c.requires.knows at first_field (field_number header.first) header its header.its_first.1 in
    let front = front_shown key c.load-rest.new.key c.load-rest.ensures.looks.1 (field_number header.first) c.load-front.result c.load-front.ensures.shows.1 c.args.word at field in
    let looks = looks_thrice pass c.header-header.new.pass c.load-rest.new.pass then c.header-header.ensures.looks c.load-rest.ensures.looks.0 c.load-front.ensures.looks.0 in
    let found = front_number key then c.args.word (c.requires.book.0 ∙ sym looks.same.0) (knows_still key pass then c.requires.knows looks) at c.load-front.result front in
    (omega arith, (c.requires.book.1 ∙ sym looks.same.0, found))

pub subtract-requires-clause-walks : goal.subtract-requires-clause-walks
subtract-requires-clause-walks g c =
    let key = c.args.key.now in let pass = c.args.pass.now in let at = c.requires.at in let header = c.header-header.result.now in let then = c.load-front.new.pass in let first = c.header-first.result.now in
    let its = at_header key pass c.args.word c.requires.book.0 c.requires.knows at c.header-header.new.pass header c.header-header.ensures.looks c.header-header.ensures.header in
    let field = at_field key pass c.args.word c.requires.book.0 c.requires.knows at first_field (field_number header.first) header its header.its_first.1 in
    let front = front_shown key c.load-rest.new.key c.load-rest.ensures.looks.1 (field_number header.first) c.load-front.result c.load-front.ensures.shows.1 c.args.word at field in
    let looks = looks_thrice pass c.header-header.new.pass c.load-rest.new.pass then c.header-header.ensures.looks c.load-rest.ensures.looks.0 c.load-front.ensures.looks.0 in
    let walks : MayCountDown key first.count =
    record {
      batch = at.batch;
      front = front.0;
      walk = at.walk;
      queue = at.queue;
      walking = at.walking;
      its_front = front.1;
      its_home = front_home key then c.args.word (c.requires.book.0 ∙ sym looks.same.0) (knows_still key pass then c.requires.knows looks) at c.load-front.result front c.header-first.new.pass first
          c.header-first.ensures.looks c.header-first.ensures.header;
    } in
    subst (λ (k : SlotKey). MayCountDown k first.count) (sym (same_key key c.load-front.new.key (c.load-front.ensures.looks.1 ∙ c.load-rest.ensures.looks.1))) walks

pub returns-clause-counts : goal.returns-clause-counts
returns-clause-counts g c at =
    let key = c.args.key.now in let pass = c.args.pass.now in let header = c.header-header.result.now in let then = c.load-front.new.pass in let first = c.header-first.result.now in
    let book = c.requires.book.0 in let knows = c.requires.knows in let word = c.args.word in let mid = c.header-first.new.pass in let key' = c.subtract.new.key in let pass' = c.subtract.new.pass in
    let its = at_header key pass word book knows at c.header-header.new.pass header c.header-header.ensures.looks c.header-header.ensures.header in
    let its_next = at_field key pass word book knows at next_field (field_number header.next) header its header.its_next.1 in
    let its_first = at_field key pass word book knows at first_field (field_number header.first) header its header.its_first.1 in
    let front = front_shown key c.load-rest.new.key c.load-rest.ensures.looks.1 (field_number header.first) c.load-front.result c.load-front.ensures.shows.1 word at its_first in
    let looks = looks_thrice pass c.header-header.new.pass c.load-rest.new.pass then c.header-header.ensures.looks c.load-rest.ensures.looks.0 c.load-front.ensures.looks.0 in
    let its_home = front_home key then word (book ∙ sym looks.same.0) (knows_still key pass then knows looks) at c.load-front.result front mid first c.header-first.ensures.looks c.header-first.ensures.header in
    let walks : MayCountDown key first.count = record { batch = at.batch; front = front.0; walk = at.walk; queue = at.queue; walking = at.walking; its_front = front.1; its_home = its_home } in
    let passes : Passes next_field (field_number header.next) key = record { batch = at.batch; walk = at.walk; queue = at.queue; walking = at.walking; its = its_next } in
    let same = same_key key c.load-front.new.key (c.load-front.ensures.looks.1 ∙ c.load-rest.ensures.looks.1) in
    let counts = subst (λ (k : SlotKey). Counts k mid key' pass' (SubCount (slot_number k)) c.subtract.result) same c.subtract.ensures.counts in
    let noted = counts.0.2.0 in
    let grows : IsPrefix (own_list key) (own_list key') =
    subst (IsPrefix (own_list key)) (sym counts.0.1.2) (prefix_trans (own_list key) noted.before pass'.seen counts.0.2.1.knew (Made (private mid (SubCount (slot_number key))) ∷ [], sym noted.appended)) in
    record {
      mid = mid;
      looks = looks_twice pass then mid looks c.header-first.ensures.looks;
      counts = counts;
      gives = (subst (λ (k : SlotKey). (w : MayCountDown k first.count) → GivesUp k key' w.batch w.walk w.queue c.subtract.result) same c.subtract.ensures.gives) walks;
      takes = (subst (λ (k : SlotKey). (w : MayCountDown k first.count) → TakesKeys k w.batch pass' c.subtract.new.values c.subtract.result) same c.subtract.ensures.keys) walks;
      leads = c.load-rest.ensures.shows.0 passes ∙ word_stays key key' pass at.batch at.walk at.queue book knows counts.0.1.0 counts.0.1.1 grows (rest_walks key pass word book knows at);
    }

-- The number of the batch's first block is read before the step.

pub returns-clause-front : goal.returns-clause-front
returns-clause-front g c at =
    let key = c.args.key.now in let pass = c.args.pass.now in let header = c.header-header.result.now in
    let its = at_header key pass c.args.word c.requires.book.0 c.requires.knows at c.header-header.new.pass header c.header-header.ensures.looks c.header-header.ensures.header in
    let field = at_field key pass c.args.word c.requires.book.0 c.requires.knows at first_field (field_number header.first) header its header.its_first.1 in
    front_shown key c.load-rest.new.key c.load-rest.ensures.looks.1 (field_number header.first) c.load-front.result c.load-front.ensures.shows.1 c.args.word at field
