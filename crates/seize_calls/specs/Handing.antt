-- What reclaimers had of the values that slots' calls handed to them, and what they put.
--     Had                       what was had: of each value the word that was kept of it, its code, and what its reclaimer put, the oldest
--                               first: values, and the words that are kept of these;  had_coded   its code
--     Handings                  values that were handed, each with those that its reclaimer put, and the words that are kept of these
--     HasHad handed kepts had had'     these values were had, in order, beside what was had before: each with the word that was kept of it,
--                               and with a code that is lent with it; and with each these were put
--     values_handed handed, values_put handed, words_put handed     those that were handed, in order;  all that were put, in order, and
--                               the words that are kept of them
--     Queues queue puts words queue'     these came to the queue, last, of which this is kept
--     TakesFirst queue v kept queue'     v was the first of the queue, of which this is kept, and the others are left
--     IsServed keys name        the keys are of this book, and each of their values may be put by a reclaimer (AreNew)
--     GainsSpot spots spots' number     the chunk with this number came to the list, last; of a full one only the first 64 stayed before
--                               that. For each value of a call Lays says so, of Laying
use Rattle.std.specs.Prelude.{◌≡◌, ℕ, List, [], ◌∷◌, ◌++◌}
use base.Stored.{Gv}
use denote.Struct.Codes.{itself}
use mathlib.Core.Path.{refl}
use Rattle.std.specs.Coded.{Coded, code_by, coded_list, coded×, coded_ℕ}
use Rattle.seize_book.specs.Tokens.{Name}
use Rattle.seize_book.specs.Values.{AreNew, book_in, values_of}
use Rattle.seize_book.specs.declared.book.value_keys.ValueKeys.{ValueKeys}
use Rattle.seize_store.specs.Named.{hollow_number, hollow_title, titles_of, titles_with}
use Rattle.seize_store.specs.declared.hollow.Hollow.{Hollow}
use Rattle.seize_store.specs.declared.spot.Spots.{Spots}
use Rattle.seize_words.specs.Chunks.{IsLentAs}
use Rattle.seize_words.specs.declared.chunk.Header.{Header}
use Rattle.seize_words.specs.declared.chunk.Part.{Part}
use Rattle.seize_book.specs.Kept.{kepts_of}

abbrev pub Had : Type 0
Had = List (ℕ × Gv × List ℕ × List ℕ)

-- by which it may stand in a type that owns memory
abbrev pub had_coded : Coded Had
had_coded =
    coded_list (code_by (ℕ × (Gv × (List ℕ × List ℕ))) (coded× coded_ℕ (coded× itself (coded× (coded_list coded_ℕ) (coded_list coded_ℕ))))
    (λ one. (one.0, (one.1, (one.2, one.3)))) (λ t. (t.0, t.1.0, t.1.1.0, t.1.1.1)) (λ _. refl))

abbrev pub Handings : Type 0
Handings = List (ℕ × List ℕ × List ℕ)

abbrev pub AreTheirs : Handings → List ℕ → Had → Type 0
AreTheirs [] [] [] = Unit {0}
AreTheirs (h ∷ handed) (kept ∷ kepts) (one ∷ had) =
    ((one.0 ≡ kept) × IsLentAs h.0 one.1 × (one.2 ≡ h.1) × (one.3 ≡ h.2)) × AreTheirs handed kepts had
AreTheirs _ _ _ = ⊥

pub record HasHad (handed : Handings) (kepts : List ℕ) (had had' : Had) : Type 0 where
  pub more : Had
  pub theirs : AreTheirs handed kepts more
  pub after : had' ≡ had ++ more

abbrev pub values_handed : Handings → List ℕ
values_handed [] = []
values_handed (one ∷ handed) = one.0 ∷ values_handed handed

abbrev pub values_put : Handings → List ℕ
values_put [] = []
values_put (one ∷ handed) = one.1 ++ values_put handed

abbrev pub words_put : Handings → List ℕ
words_put [] = []
words_put (one ∷ handed) = one.2 ++ words_put handed

abbrev pub Queues : ValueKeys → List ℕ → List ℕ → ValueKeys → Type 0
Queues queue puts words queue' =
    (book_in queue' ≡ book_in queue) × (values_of queue' ≡ values_of queue ++ puts) × (kepts_of queue' ≡ kepts_of queue ++ words)

abbrev pub TakesFirst : ValueKeys → ℕ → ℕ → ValueKeys → Type 0
TakesFirst queue v kept queue' =
    (book_in queue' ≡ book_in queue) × (values_of queue ≡ v ∷ values_of queue') × (kepts_of queue ≡ kept ∷ kepts_of queue')

abbrev pub IsServed : ValueKeys → Name → Type 0
IsServed keys name = (book_in keys ≡ name) × AreNew keys

pub record GainsSpot {T : Type 0} (spots spots' : Spots Header Part T) (number : ℕ) : Type 0 where
  pub hollow : Hollow Header Part T
  pub its : hollow_number hollow ≡ number
  pub last : titles_of spots' ≡ titles_with (titles_of spots) (hollow_title hollow)
