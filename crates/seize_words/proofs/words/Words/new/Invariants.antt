use Rattle.std.specs.Prelude.{[]}
use Rattle.seize_store.specs.Named.{store_name}
use Rattle.seize_table.specs.Named.{name_of}
use Rattle.seize_words.proofs.words.Words.new.Given as goal

abbrev pub ghosts-open : goal.ghosts-open
ghosts-open g a = record { store = store_name a._store.now; table = name_of a._table.now; permits = a._permits.now.list; pairs = a._pairs.now.list }

abbrev pub ghosts-permits : goal.ghosts-permits
ghosts-permits g a = record { store = store_name a._store.now; table = []; permits = 0; pairs = 0 }

abbrev pub ghosts-permits-2 : goal.ghosts-permits-2
ghosts-permits-2 g a = record { store = store_name a._store.now; table = []; permits = 0; pairs = 0 }
