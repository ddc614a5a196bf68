use Rattle.std.proofs.Common.{sym, ◌∙◌, ap, subst}
use Rattle.seize_machine.specs.Machine.Event.{Hand}
use Rattle.seize_book.specs.Ledger.{with_list}
use Rattle.seize_book.specs.Adding.{deed_with_words}
use Rattle.seize_book.specs.Kept.{kepts_in}
use Rattle.seize_book.specs.Others.{IsWith, Knew}
use Rattle.seize_book.specs.Slots.{AddsDeed, hands_next, slot_number, slot_of}
use Rattle.seize_book.specs.Private.{are_of_blocks, labels_of}
use Rattle.seize_book.specs.declared.book.keys.Keys.{Keys}
use Rattle.seize_book.proofs.Further.{known_then, may_hand_with}
use Rattle.seize_book.proofs.Hands.{hands_once, if_some}
use Rattle.seize_book.proofs.Values.{blocks_later, labels_later}
use Rattle.seize_book.specs.Linked.{are_linked}
use Rattle.seize_book.proofs.Linked.{are_later}
use Rattle.seize_book.proofs.book.slot_key.SlotKey.hand_with.Goals as goal

pub add_with-requires-clause-may : goal.add_with-requires-clause-may
add_with-requires-clause-may c =
    let key = c.args.self.now in let pass = c.args.pass.now in
    subst (λ (ks : Keys). IsWith key ks pass (deed_with_words pass (Hand (slot_number key) (labels_of ks.held)) (kepts_in ks.held))) (sym c.apart.ensures.0)
    (may_hand_with key c.args.further.now pass c.apart.ensures.1 c.requires.book.0 c.requires.book.1 c.requires.next c.requires.new)

pub invariant_of-further : goal.invariant_of-further
invariant_of-further c =
    let keys = c.apart.new.self in
    record {
      each = ap are_of_blocks c.add_with.ensures.other.0.1 ∙ blocks_later keys.keys.held c.add_with.new.pass.seen ∙ keys.each;
      linked =
          ap are_linked c.add_with.ensures.other.0.1 ∙ (are_later keys.keys.held c.add_with.new.pass.seen ∙ keys.linked);
    }

pub returns-clause-noted : goal.returns-clause-noted
returns-clause-noted c =
    let key = c.args.self.now in
    subst (λ (ks : Keys). AddsDeed key c.args.pass.now c.add_with.new.self c.add_with.new.pass (deed_with_words c.args.pass.now (Hand (slot_number key) (labels_of ks.held)) (kepts_in ks.held))) c.apart.ensures.0 c.add_with.ensures.noted

pub returns-clause-once : goal.returns-clause-once
returns-clause-once c =
    let key = c.args.self.now in
    if_some (hands_next (slot_of key))
    (λ v is. hands_once key c.add_with.new.self c.args.pass.now c.add_with.new.pass v (labels_of c.apart.new.self.keys.held) (kepts_in c.apart.new.self.keys.held) c.requires.book.0 is c.add_with.ensures.noted)

pub returns-clause-keys : goal.returns-clause-keys
returns-clause-keys c =
    let told = c.add_with.ensures.other.0 in let same = c.apart.ensures.0 in let seen = c.add_with.new.pass.seen in (
      told.0 ∙ ap (λ (ks : Keys). ks.name) same,
      ap labels_of told.1 ∙ labels_later c.apart.new.self.keys.held seen ∙ ap (λ (ks : Keys). labels_of ks.held) same,
      told.1 ∙ ap (λ (ks : Keys). with_list ks.held seen) same,
    )

pub returns-clause-spent : goal.returns-clause-spent
returns-clause-spent c =
    let key = c.args.self.now in let pass = c.args.pass.now in let pass' = c.add_with.new.pass in let told = c.add_with.ensures in let same = c.apart.ensures.0 in
    known_then key c.args.further.now pass c.apart.ensures.1 c.requires.book.0 c.requires.book.1 c.requires.next c.requires.new pass' _
    (ap labels_of told.other.0.1 ∙ labels_later c.apart.new.self.keys.held pass'.seen ∙ ap (λ (ks : Keys). labels_of ks.held) same) told.noted.0.0 told.noted.2.0.distinct
    (subst (λ (ks : Keys). Knew key ks pass pass' (deed_with_words pass (Hand (slot_number key) (labels_of ks.held)) (kepts_in ks.held))) same told.knew)
