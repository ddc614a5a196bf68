use Rattle.std.proofs.Common.{◌≡◌, ℕ, true, List, [], ◌∷◌, ◌++◌, Some, is_some, lit<, refl, sym, ap, ◌∙◌, subst}
use base.Growing.{prefix_trans}
use Rattle.seize_machine.specs.Machine.Event.{Hand}
use Rattle.seize_book.specs.Adding.{deed_with_words}
use Rattle.seize_book.specs.Blocks.{block_number}
use Rattle.seize_book.specs.Others.{value_of}
use Rattle.seize_book.specs.Private.{labels_of}
use Rattle.seize_book.specs.Slots.{AddsDeed, IsKeyOfBook, hands_next, slot_number, slot_of}
use Rattle.seize_book.specs.Passes.{LooksOn}
use Rattle.seize_book.specs.Tokens.{Name}
use Rattle.seize_book.specs.Values.{values_of}
use Rattle.seize_book.specs.declared.book.pass.Pass.{Pass}
use Rattle.seize_book.specs.declared.book.slot_key.SlotKey.{SlotKey}
use Rattle.seize_store.specs.Named.{bare_value}
use Rattle.seize_store.specs.declared.row_token.Title.{Title}
use Rattle.seize_words.proofs.Facts.{named_seen, settles_hollow, takes_block, all_told_later, handing_named, joined_told, knows_noted, knows_still, looks_twice, none_new, put_told, same_key, seen_grows, settles_after, unchanged_last, unchanged_value}
use Rattle.seize_words.specs.Chunks.{IsLentAs}
use Rattle.seize_book.specs.Kept.{kept_in, kepts_of}
use Rattle.seize_calls.specs.Furthers.{further_in}
use Rattle.seize_calls.proofs.Batches.{kepts_kept}
use Rattle.seize_calls.proofs.Handed.{goes_on, hands_so, soon_lent}
use Rattle.seize_calls.proofs.Holders.{holds_on}
use Rattle.seize_calls.proofs.holder.Holder.hand_one.Goals as goal

pub header-header-requires : goal.header-header-requires
header-header-requires g c =
    let named = handing_named c.args.self.now.key c.args.pass.now c.requires.stands.0.holds.keyed.its c.requires.stands.0.holds.keyed.knows (value_of c.args.value) c.requires.soon in
    (lit< tt, (c.requires.stands.0.holds.keyed.of.0, (value_of c.args.value, named, c.requires.value.2)))

-- the header is that of the value's block
pub note-note-requires : goal.note-note-requires
note-note-requires g c =
    let v = value_of c.args.value in let looked = c.header-header in let pass = c.args.pass.now in
    let named = handing_named c.args.self.now.key pass c.requires.stands.0.holds.keyed.its c.requires.stands.0.holds.keyed.knows v c.requires.soon in
    record {
      cell =
          sym (looked.ensures.header.2 v (named_seen pass looked.new.pass v looked.ensures.looks named) c.requires.value.2);
    }

pub redeem-block-requires : goal.redeem-block-requires
redeem-block-requires g c =
    let looked = c.header-header in let noted = c.note-note in let value = c.args.value in let key = c.args.self.now.key in let blocks = c.args.words.now.blocks in
    let name = sym looked.ensures.looks.same.0 in let same = unchanged_value value noted.new.self noted.ensures.same in
    let its = noted.ensures.same.0 ∙ (c.requires.value.0 ∙ name) in let soon = c.requires.soon ∙ ap Some (sym same) in
    let lent = soon_lent noted.new.self key c.args.pass.now looked.new.pass its c.requires.stands.0.holds.keyed.its c.requires.stands.0.holds.keyed.knows looked.ensures.looks soon in (
      lit< tt,
      (
        (its, c.requires.stands.0.holds.keyed.its ∙ name, c.requires.stands.0.holds.keyed.of.0 ∙ name),
        (
          knows_still key c.args.pass.now looked.new.pass c.requires.stands.0.holds.keyed.knows looked.ensures.looks,
          (soon, (unchanged_last value noted.new.self noted.ensures.same c.requires.value.1, (lent, ap block_number same ∙ c.requires.value.2))),
        ),
      ),
    )

-- the permit is for what is lent with the value, which is what comes out of its block
pub reclaim-requires : goal.reclaim-requires
reclaim-requires g c =
    let looked = c.header-header in let noted = c.note-note in let permitted = c.permit-permit.ensures in let redeemed = c.redeem-block in let made = c.new-further.ensures in
    let named = redeemed.ensures.looks.same.0 ∙ looked.ensures.looks.same.0 in
    let its = subst (λ x. IsLentAs (value_of noted.new.self) (g.row.T.coded.code x)) (sym c.take-content.ensures.value) redeemed.ensures.code in (
      lit< tt,
      (
        c.requires.stands.1,
        (
          (permitted.0 ∙ ap (λ (n : Name). n.permits) (noted.ensures.same.0 ∙ (c.requires.value.0 ∙ sym c.requires.stands.0.holds.keyed.of.0)), permitted.1 ∙ ap (λ (l : ℕ). l ∷ []) its),
          ((made.0.0 ∙ (named ∙ sym c.requires.stands.0.holds.keyed.of.0), none_new (further_in c.new-further.result) redeemed.new.pass made.0), ap labels_of made.0.1),
        ),
      ),
    )

pub hand-requires-clause-book : goal.hand-requires-clause-book
hand-requires-clause-book g c =
    let looked = c.header-header in let noted = c.note-note in let redeemed = c.redeem-block in let key = c.args.self.now.key in let still = sym (same_key key redeemed.new.slot redeemed.ensures.slot) in
    let named = redeemed.ensures.looks.same.0 ∙ looked.ensures.looks.same.0 in let same = sym named ∙ sym (ap (λ (p : Pass). p.name) c.new-further.ensures.1) in
    (ap (λ (k : SlotKey). k.keys.name) (sym still) ∙ (c.requires.stands.0.holds.keyed.its ∙ same), c.reclaim.ensures.further.0 ∙ (c.requires.stands.0.holds.keyed.of.0 ∙ same))

pub hand-requires-clause-next : goal.hand-requires-clause-next
hand-requires-clause-next g c =
    let redeemed = c.redeem-block in
    subst (λ (k : SlotKey). is_some (hands_next (slot_of k)) ≡ true) (sym (same_key c.args.self.now.key redeemed.new.slot redeemed.ensures.slot)) (ap is_some c.requires.soon)

pub append-requires : goal.append-requires
append-requires g c = (lit< tt, (c.requires.stands.0.queue_is.0 ∙ sym c.requires.stands.0.holds.keyed.of.0, c.hand.ensures.keys.0 ∙ c.reclaim.ensures.further.0))

-- the same value, of the key that was unchanged when its note was read
pub settle-requires-clause-handed : goal.settle-requires-clause-handed
settle-requires-clause-handed g c =
    let looked = c.header-header in let noted = c.note-note in let redeemed = c.redeem-block in let key = c.args.self.now.key in let v = value_of noted.new.self in let made = c.new-further in
    let still = sym (same_key key redeemed.new.slot redeemed.ensures.slot) in let same = unchanged_value c.args.value noted.new.self noted.ensures.same in
    let soon : hands_next (slot_of redeemed.new.slot) ≡ Some v = subst (λ (k : SlotKey). hands_next (slot_of k) ≡ Some v) still (c.requires.soon ∙ ap Some (sym same)) in
    let book : IsKeyOfBook redeemed.new.slot made.new.pass =
    subst (λ (k : SlotKey). IsKeyOfBook k made.new.pass) still (c.requires.stands.0.holds.keyed.its ∙ sym looked.ensures.looks.same.0 ∙ sym redeemed.ensures.looks.same.0 ∙ sym (ap (λ (p : Pass). p.name) made.ensures.1)) in
    settles_after redeemed.new.key redeemed.new.slot c.hand.new.key made.new.pass c.hand.new.pass v (block_number (value_of redeemed.new.key)) (values_of (further_in c.reclaim.new.further)) (kepts_of (further_in c.reclaim.new.further))
    (let is = redeemed.ensures.block.0.next in (is.0, is.1, is.2, refl)) book soon c.hand.ensures.noted

-- what was in the queue, and what was put with this value
pub returns-clause-stands : goal.returns-clause-stands
returns-clause-stands g c =
    let looked = c.header-header in let redeemed = c.redeem-block in let made = c.new-further in let hand = c.hand in let queue = further_in c.args.queue.now in let put = further_in hand.new.self in let all = further_in c.append.new.self in let pass' = c.settle.new.pass in
    let before : LooksOn c.args.pass.now made.new.pass = subst (λ (p : Pass). LooksOn c.args.pass.now p) (sym made.ensures.1) (looks_twice c.args.pass.now looked.new.pass redeemed.new.pass looked.ensures.looks redeemed.ensures.looks) in
    let grows = prefix_trans c.args.pass.now.seen made.new.pass.seen hand.new.pass.seen before.grows (seen_grows made.new.pass.name made.new.pass.id made.new.pass.seen hand.new.pass.seen _ hand.ensures.noted.2.0) in
    let on = prefix_trans c.args.pass.now.seen hand.new.pass.seen pass'.seen grows c.settle.ensures.looks.grows in
    let its = put_told redeemed.new.slot hand.new.key made.new.pass hand.new.pass (further_in c.reclaim.new.further) put hand.ensures.noted hand.ensures.keys in
    let same = hand.ensures.keys.0 ∙ (c.reclaim.ensures.further.0 ∙ (c.requires.stands.0.holds.keyed.of.0 ∙ sym c.requires.stands.0.queue_is.0)) in
    let told = (joined_told pass'.seen queue.keys.held put.keys.held all.keys.held c.append.ensures.joins.all c.append.ensures.joins.kept
    (all_told_later c.args.pass.now.seen pass'.seen queue.keys.held on c.requires.stands.0.queue_is.1)
    ((all_told_later hand.new.pass.seen pass'.seen put.keys.held c.settle.ensures.looks.grows its))) in
    let key = c.args.self.now.key in let puts = values_of (further_in c.reclaim.new.further) in let words = kepts_of (further_in c.reclaim.new.further) in
    let notes : AddsDeed key made.new.pass hand.new.key hand.new.pass (deed_with_words made.new.pass (Hand (slot_number key) puts) words) =
    subst (λ (k : SlotKey). AddsDeed k made.new.pass hand.new.key hand.new.pass (deed_with_words made.new.pass (Hand (slot_number k) puts) words)) (same_key key redeemed.new.slot redeemed.ensures.slot) hand.ensures.noted in
    let on = goes_on key hand.new.key c.args.pass.now made.new.pass hand.new.pass pass' (value_of c.args.value) puts words before notes c.settle.ensures.looks c.requires.soon in
    let knows = knows_still hand.new.key hand.new.pass pass' (knows_noted key hand.new.key made.new.pass hand.new.pass (deed_with_words made.new.pass (Hand (slot_number key) puts) words) notes) c.settle.ensures.looks in (
      record {
        holds = holds_on c.args.words.now c.args.self.now c.args.pass.now c.requires.stands.0.holds hand.new.key c.lay_into.new.spots pass' on.0 knows c.lay_into.ensures.spots;
        queue_is = (c.append.ensures.joins.book ∙ (c.requires.stands.0.queue_is.0 ∙ sym on.0.on.same.0), told);
      },
      c.reclaim.ensures.serves,
    )

-- once the key is settled, the chunk may be laid into a list
pub lay_into-requires : goal.lay_into-requires
lay_into-requires g c =
    let blocks = c.args.words.now.blocks in let redeemed = c.redeem-block in let taken = c.take-content in let settled = c.settle in let v = value_of c.note-note.new.self in
    let left = takes_block _ blocks (bare_value redeemed.result) redeemed.new.key redeemed.result taken.result.1 taken.ensures.hollow redeemed.ensures.block.0 in
    let hollow = settles_hollow v blocks redeemed.new.key settled.new.self taken.result.1 settled.new.pass left settled.ensures.follows settled.ensures.next in
    (lit< tt, (hollow.book, (hollow.next.1, ((hollow.lay, hollow.store), c.requires.stands.0.holds.spots))))

-- its chunk, by the number by which the block was had back
pub returns-clause-laid : goal.returns-clause-laid
returns-clause-laid g c =
    let taken = c.take-content in
    record { hollow = taken.result.1; its = ap (λ (t : Title). t.number) taken.ensures.hollow ∙ c.redeem-block.ensures.block.1; last = c.lay_into.ensures.last }

pub returns-clause-handed : goal.returns-clause-handed
returns-clause-handed g c =
    let looked = c.header-header in let noted = c.note-note in let redeemed = c.redeem-block in let key = c.args.self.now.key in let hand = c.hand in let made = c.new-further in let puts = values_of (further_in c.reclaim.new.further) in let words = kepts_of (further_in c.reclaim.new.further) in let joins = c.append.ensures.joins in
    let notes : AddsDeed key made.new.pass hand.new.key hand.new.pass (deed_with_words made.new.pass (Hand (slot_number key) puts) words) =
    subst (λ (k : SlotKey). AddsDeed k made.new.pass hand.new.key hand.new.pass (deed_with_words made.new.pass (Hand (slot_number k) puts) words)) (same_key key redeemed.new.slot redeemed.ensures.slot) hand.ensures.noted in
    let looks : LooksOn c.args.pass.now made.new.pass = subst (λ (p : Pass). LooksOn c.args.pass.now p) (sym made.ensures.1) (looks_twice c.args.pass.now looked.new.pass redeemed.new.pass looked.ensures.looks redeemed.ensures.looks) in
    let same : value_of noted.new.self ≡ value_of c.args.value = unchanged_value c.args.value noted.new.self noted.ensures.same in
    let lent : IsLentAs (value_of c.args.value) (g.row.T.coded.code c.take-content.result.0) = subst (λ (v : ℕ). IsLentAs v (g.row.T.coded.code c.take-content.result.0)) same
    (subst (λ x. IsLentAs (value_of noted.new.self) (g.row.T.coded.code x)) (sym c.take-content.ensures.value) redeemed.ensures.code) in (
      refl,
      hands_so key hand.new.key c.args.pass.now made.new.pass hand.new.pass c.settle.new.pass (value_of c.args.value) puts words looks notes c.settle.ensures.looks c.requires.soon
          (further_in c.args.queue.now) (further_in c.append.new.self) (joins.book, joins.all ∙ ap (λ (vs : List ℕ). values_of (further_in c.args.queue.now) ++ vs) hand.ensures.keys.1, joins.kept ∙ ap (λ (ks : List ℕ). kepts_of (further_in c.args.queue.now) ++ ks) (kepts_kept (further_in c.reclaim.new.further) (further_in hand.new.self) hand.new.pass hand.ensures.keys)),
      record { more = (c.note-note.result.kept, g.row.T.coded.code c.take-content.result.0, puts, words) ∷ []; theirs = ((ap kept_in c.note-note.ensures.note, lent, refl, refl), tt); after = c.reclaim.ensures.had },
    )
