use Rattle.std.specs.Prelude.{false, []}
use Rattle.seize_book.specs.Entry.{Used}
use Rattle.seize_book.specs.Private.{key_of}
use Rattle.seize_words.proofs.header.Field.store.Given as goal

abbrev pub ghosts-replace : goal.ghosts-replace
ghosts-replace a = record { entry = λ v log. Used (record { pass = a.pass.now.id; slot = key_of a.keys.now.held; field = a.self.now.number; value = a.new }); trades = λ v. false; births = [] }
