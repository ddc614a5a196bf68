use Rattle.std.proofs.Common.{ℕ, ◌==◌, Option, Some, unwrap_or, ap, ◌∙◌, inr}
use Rattle.seize_machine.specs.Machine.Event.{Insert}
use Rattle.seize_book.specs.Adding.{private}
use Rattle.seize_book.specs.Chains.{first_field}
use Rattle.seize_words.specs.Headers.{field_number}
use Rattle.seize_words.specs.Heads.{found_end}
use Rattle.seize_words.specs.Reservations.{slot}
use Rattle.seize_book.specs.Slots.{slot_number}
use Rattle.seize_words.proofs.Facts.{knows_noted, still_stores}
use Rattle.seize_calls.proofs.Sole.{equal_same, found_same}
use Rattle.seize_calls.proofs.Tries.{stores_first, stores_next, tried, tries_at}
use Rattle.seize_calls.proofs.inserting.try_once.Goals as goal

pub store-requires-2-clause-stored : goal.store-requires-2-clause-stored
store-requires-2-clause-stored c =
    let key = c.args.key.now in let pass = c.args.pass.now in
    inr (still_stores key c.store.new.key pass c.store.new.pass _ _ c.store.ensures.uses c.requires.book.0 first_field (field_number c.args.header.now.first)
    (stores_first key pass c.args.head.now c.args.header.now c.args.seen c.args.block c.args.front c.requires.at c.requires.book.0))

pub insert-requires-clause-tries : goal.insert-requires-clause-tries
insert-requires-clause-tries c =
    let key = c.args.key.now in let pass = c.args.pass.now in let head = c.args.head.now in let header = c.args.header.now in let one = c.store in let two = c.store-2 in
    let first = stores_first key pass head header c.args.seen c.args.block c.args.front c.requires.at c.requires.book.0 in
    let stores = still_stores key one.new.key pass one.new.pass _ _ one.ensures.uses c.requires.book.0 first_field (field_number header.first) first in
    tries_at key pass head header c.args.seen c.args.block c.args.front c.requires.at c.requires.book.0 one.new.key two.new.key one.new.pass two.new.pass _ _ one.ensures.uses two.ensures.uses
    (two.ensures.wrote.1 stores ∙ ap (λ (o : Option (ℕ × ℕ)). Some ((unwrap_or o (0, 0)).0, c.args.front)) (one.ensures.wrote.0 (stores_next key pass head header c.args.seen c.args.block c.args.front c.requires.at c.requires.book.0)))

pub returns-clause-knows : goal.returns-clause-knows
returns-clause-knows c =
    let two = c.store-2 in
    knows_noted two.new.key c.insert.new.key two.new.pass c.insert.new.pass (private two.new.pass (Insert (slot_number two.new.key) (slot c.args.head.now) (found_end c.args.seen c.insert.result))) c.insert.ensures.noted

pub returns-clause-tried : goal.returns-clause-tried
returns-clause-tried c = λ at.
    let one = c.store in let two = c.store-2 in
    tried c.args.key.now c.args.pass.now c.args.head.now c.args.header.now c.args.seen c.args.block c.args.front at c.requires.book.0 one.new.key two.new.key one.new.pass two.new.pass _ _ one.ensures.uses two.ensures.uses
    c.insert.new.key c.insert.new.pass (c.insert.result == c.args.seen) c.insert.ensures.noted

pub returns-clause-alone : goal.returns-clause-alone
returns-clause-alone c = λ sole shows.
    let one = c.store in let two = c.store-2 in
    equal_same (found_same c.args.head.now c.args.seen c.insert.result c.args.key.now one.new.key two.new.key c.args.pass.now one.new.pass two.new.pass c.insert.new.pass _ _ _ one.ensures.uses two.ensures.uses
    _ c.insert.ensures.noted.2.0 c.insert.ensures.found sole shows)
