use Rattle.std.proofs.Common.{◌≡◌, ℕ, ◌+◌, ◌<◌, ◌^◌, refl, sym, ap, ◌∙◌, subst, arith}
use Rattle.seize_store.specs.RowTokens.{content_in, entry_of, label_in}
use Rattle.seize_store.specs.Named.{bare_known, bare_number}
use Rattle.seize_store.specs.declared.row_token.RowToken.{RowToken}
use Rattle.seize_book.specs.Books.{IsNextAfter}
use Rattle.seize_book.specs.Homesteads.{HasNumber, state_seen}
use Rattle.seize_book.specs.Others.{book_of, value_of}
use Rattle.seize_book.specs.Passes.{LooksOn}
use Rattle.seize_book.specs.Tokens.{Name, chunk_label}
use Rattle.seize_book.specs.declared.book.pass.Pass.{Pass}
use Rattle.seize_book.specs.declared.book.slot_key.SlotKey.{SlotKey}
use Rattle.seize_words.specs.Chunks.{blocks_book}
use Rattle.seize_words.specs.Walks.{Knows}
use Rattle.seize_words.proofs.Chunked.{found_content, found_label, named_seen, number_fits}
use Rattle.seize_words.proofs.Traversals.{handing_named, knows_still, same_key}
use Rattle.seize_words.proofs.blocks.Blocks.redeem.Goals as goal

pub seek-known-requires : goal.seek-known-requires
seek-known-requires g c =
    let redeemed = c.redeem-ticket in let v = value_of c.args.key.now in
    let named = handing_named c.args.slot.now c.args.pass.now c.requires.book.1 c.requires.knows v c.requires.soon in
    record { named = subst (λ (pass : Pass). HasNumber c.args.number (state_seen pass)) (sym redeemed.ensures.still.0) (v, named, c.requires.lent.1) }

pub back-requires : goal.back-requires
back-requires g c =
    let redeemed = c.redeem-ticket in let v = value_of c.args.key.now in let sought = c.seek-known in let seen = sought.new.self in let content = redeemed.ensures.content in
    let looks = subst (λ (pass : Pass). LooksOn pass seen) redeemed.ensures.still.0 sought.ensures.looks in
    let named = named_seen c.args.pass.now seen v looks (handing_named c.args.slot.now c.args.pass.now c.requires.book.1 c.requires.knows v c.requires.soon) in
    let found = found_content sought.result seen c.args.number sought.ensures.homes sought.ensures.row.1 v named c.requires.lent.1 in
    let name : redeemed.new.pass.name ≡ blocks_book c.args.self.now = ap (λ (pass : Pass). pass.name) redeemed.ensures.still.0 ∙ sym c.requires.book.2 in
    (omega arith, (sought.ensures.row.0 ∙ (ap (λ (n : Name). n.store) name ∙ c.args.self.now.stands), (sought.ensures.row.1, (content.0, content.0.0 ∙ (sym content.1.0 ∙ sym found)))))

pub returns-clause-looks : goal.returns-clause-looks
returns-clause-looks g c = subst (λ (pass : Pass). LooksOn pass c.seek-known.new.self) c.redeem-ticket.ensures.still.0 c.seek-known.ensures.looks

pub returns-clause-knows : goal.returns-clause-knows
returns-clause-knows g c =
    let redeemed = c.redeem-ticket in let seen = c.seek-known.new.self in
    let looks = subst (λ (pass : Pass). LooksOn pass seen) redeemed.ensures.still.0 c.seek-known.ensures.looks in
    subst (λ (slot : SlotKey). Knows slot seen) (sym (same_key c.args.slot.now redeemed.new.slot redeemed.ensures.still.1)) (knows_still c.args.slot.now c.args.pass.now seen c.requires.knows looks)

pub returns-clause-block : goal.returns-clause-block
returns-clause-block g c =
    let redeemed = c.redeem-ticket in let v = value_of c.args.key.now in let sought = c.seek-known in let known = sought.result in let number : ℕ = c.args.number in
    let block = c.back.result in let key' = redeemed.new.self in let seen = sought.new.self in let title = c.back.ensures.title in
    let looks = subst (λ (pass : Pass). LooksOn pass seen) redeemed.ensures.still.0 sought.ensures.looks in
    let named = named_seen c.args.pass.now seen v looks (handing_named c.args.slot.now c.args.pass.now c.requires.book.1 c.requires.knows v c.requires.soon) in
    let content = found_content known seen number sought.ensures.homes sought.ensures.row.1 v named c.requires.lent.1 in
    let label = found_label known seen (label_in known.chunks (entry_of number)) number sought.ensures.homes sought.ensures.row.1 refl v named c.requires.lent.1 in
    let name : redeemed.new.pass.name ≡ blocks_book c.args.self.now = ap (λ (pass : Pass). pass.name) redeemed.ensures.still.0 ∙ sym c.requires.book.2 in
    let book : book_of key' ≡ blocks_book c.args.self.now = redeemed.ensures.block.0 ∙ (c.requires.book.0 ∙ sym c.requires.book.2) in
    let its : (bare_known block, bare_number block) ≡ (known, number) = λ j. (title.1 j, title.0 j) in (
      record {
        holds = refl;
        store = sym (sought.ensures.row.0 ∙ ap (λ (n : Name). n.store) name) ∙ ap (λ (k : RowToken). k.store) (sym title.1);
        book = book;
        next = subst (IsNextAfter key' v) (c.requires.lent.1 ∙ sym title.0) redeemed.ensures.value;
        lies =
            ap (λ (t : Name × (ℕ × ℕ)). chunk_label t.0 t.1.0 t.1.1) (λ j. ((book ∙ sym (looks.same.0 ∙ sym c.requires.book.2)) j, (redeemed.ensures.block.1 j, redeemed.ensures.block.2 j)))
            ∙ (sym label ∙ ap (λ (t : RowToken × ℕ). label_in t.0.chunks (entry_of t.1)) (sym its));
        content = redeemed.ensures.place ∙ (sym content ∙ ap (λ (t : RowToken × ℕ). content_in t.0.chunks (entry_of t.1)) (sym its));
        free = redeemed.ensures.free;
        fits = subst (λ (m : ℕ). m + 2 < 2 ^ 64) (sym title.0) (number_fits known number sought.ensures.row.1);
      },
      title.0,
    )
