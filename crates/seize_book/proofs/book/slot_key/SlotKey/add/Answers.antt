use Rattle.std.proofs.Common.{◌∙◌, refl, ap, subst}
use Rattle.seize_machine.specs.Machine.State.{slot_at, head_at, is_active}
use Rattle.seize_book.specs.Book.{after, births, slots}
use Rattle.seize_book.specs.Private.{IsOpen, key_of, own_of}
use Rattle.seize_book.specs.Tokens.{Name, start}
use Rattle.seize_book.specs.Adding.{deed_with_words}
use Rattle.seize_book.proofs.Moves.{moves}
use Rattle.seize_book.proofs.Private.{may_add, one_after, one_kept}
use Rattle.seize_book.proofs.book.slot_key.SlotKey.add.Goals as goal

pub add-requires : goal.add-requires
add-requires g c =
    let key = c.args.self.now in let pass = c.args.pass.now in let event = g.P.Picks.event in let held = key.keys.held in
    let open_at : Name → Type 0 = λ n. IsOpen (slot_at (after (start n) (own_of held)) (key_of held)) (is_active (head_at (after (start n) (own_of held)) (key_of held))) (key_of held) pass.size event in
    (c.requires.book, may_add pass.name pass.id pass.seen held (deed_with_words pass event g.P.Picks.kepts) key.one refl c.requires.private.0 (subst open_at c.requires.book c.requires.open))

pub returns : goal.returns
returns g c =
    let key = c.args.self.now in let pass = c.args.pass.now in let told = c.add.ensures in let added = told.2 in let noted = added.noted in
    let after_it = one_after slots key.keys.held (births (after (start pass.name) noted.before) g.P.Picks.event) c.add.new.pass.seen key.one in
    let number = ap key_of added.keys ∙ after_it.0 in let own = ap own_of added.keys ∙ after_it.1 in
    record {
      noted = (
        told.0,
        (told.1, number, own),
        (
          noted,
          moves key _ pass.name (deed_with_words pass g.P.Picks.event g.P.Picks.kepts) noted.before (noted.later, noted.answer) c.requires.book (told.1 ∙ c.requires.book) c.requires.private.2 added.before.legal noted.does
              (one_kept (start pass.name) key.keys.held noted.before key.one added.before.kept) number (own ∙ noted.appended),
        ),
      );
    }
