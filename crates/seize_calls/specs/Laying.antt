-- Which chunks came to a slot's list of spots while values were handed.
--     handed_by made         the values that these events handed, in order;  handed_with event answer     the value, if this one did
--     lay_all titles laid    the titles of a list to which these chunks came, one after the other, each last; of a full one only the first
--                            64 stayed before that
--     Lays pass spots pass' spots'     for each value that was handed with the pass meanwhile, in order, the chunk with the number of its
--                            block came to the list, and nothing else was done to it (lay_all)
use Rattle.std.specs.Prelude.{◌≡◌, ℕ, List, [], ◌∷◌, ◌++◌, map}
use Rattle.seize_machine.specs.Machine.Event.{Event, Hand}
use Rattle.seize_machine.specs.declared.machine.event.Answer.{Answer}
use Rattle.seize_machine.specs.declared.machine.event.Answer.TheVariants.{Handed}
use Rattle.seize_store.specs.Named.{hollow_number, hollow_title, titles_of, titles_with}
use Rattle.seize_store.specs.declared.hollow.Hollow.{Hollow}
use Rattle.seize_store.specs.declared.row_token.Title.{Title}
use Rattle.seize_store.specs.declared.spot.Spots.{Spots}
use Rattle.seize_book.specs.Blocks.{block_number}
use Rattle.seize_book.specs.Entry.{Deed}
use Rattle.seize_book.specs.Passes.{events_by}
use Rattle.seize_book.specs.declared.book.pass.Pass.{Pass}
use Rattle.seize_words.specs.declared.chunk.Header.{Header}
use Rattle.seize_words.specs.declared.chunk.Part.{Part}

abbrev pub handed_with : Event → Answer → List ℕ
handed_with (Hand s puts) (Handed v) = v ∷ []
handed_with _ _ = []

abbrev pub handed_by : List (Deed × Answer) → List ℕ
handed_by [] = []
handed_by (one ∷ made) = handed_with one.0.event one.1 ++ handed_by made

abbrev pub lay_all : {T : Type 0} → List Title → List (Hollow Header Part T) → List Title
lay_all titles [] = titles
lay_all titles (hollow ∷ laid) = lay_all (titles_with titles (hollow_title hollow)) laid

pub record Lays {T : Type 0} (pass : Pass) (spots : Spots Header Part T) (pass' : Pass) (spots' : Spots Header Part T) : Type 0 where
  pub values : List ℕ
  pub handed : handed_by (events_by pass') ≡ handed_by (events_by pass) ++ values
  pub laid : List (Hollow Header Part T)
  pub theirs : map hollow_number laid ≡ map block_number values
  pub last : titles_of spots' ≡ lay_all (titles_of spots) laid
