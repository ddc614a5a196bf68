-- What contracts see of a collector.
--     its_words c       its words, by which slots and guards know it;  its_book c     its list of events, by name
--     its_size c, its_id c     its batch size and its id
--     its_most c        the greatest batch size that it ever had: the bound of all sizes in its list
--     collector_text size     what `{:?}` writes of a collector of this batch size
--     seen_by c         what it has seen of its list, as its porter knows: a pass that it gives goes on from there
--     BeginsEmpty c links   its list begins with no slot, and with so many links, which are empty
--     IsNewPassOf c pass    it is a pass of the collector, with which nothing was made. It has seen a legal list of the collector's, of
--                       which all laws hold (GoesOnTo). It is none that may add to the list alone
--     IsRefusalFor processors id refusal     a new collector for so many processors, by a source of which this id is the next, may be
--                       refused so
use Rattle.std.specs.Fmt.{decimal}
use Rattle.std.specs.Prelude.{◌≡◌, ◌⊎◌, ℕ, ◌≤◌, ◌<◌, ◌^◌, List, [], ◌++◌, None, codes, replicate}
use Rattle.seize_table.specs.declared.refusal.Refusal.{Refusal}
use Rattle.seize_table.specs.declared.refusal.Refusal.TheVariants.{NoMemory, NoNumbers, TooManyProcessors}
use Rattle.seize_book.specs.Entry.{Entry}
use Rattle.seize_book.specs.Tokens.{IsSole, Name}
use Rattle.seize_book.specs.Porters.{GoesOnTo}
use Rattle.seize_book.specs.declared.book.pass.Pass.{Pass}
use Rattle.seize_words.specs.Joined.{words_book}
use Rattle.seize_words.specs.declared.words.Words.{Words}
use Rattle.seize_parts.specs.Makes.{made_with}
use Rattle.seize.specs.declared.collector.Collector.{Collector}
pub use Rattle.seize_calls.specs.Together.{IsPassOf}
pub use Rattle.seize_guards.specs.Collectors.{BelongsTo, IsBlockOf, collector_id, its_links, its_store}

abbrev pub its_words : {T R : Type 0} → Collector T R → Words T
its_words collector = collector.parts.words

abbrev pub its_book : {T R : Type 0} → Collector T R → Name
its_book collector = words_book (its_words collector)

abbrev pub its_size : {T R : Type 0} → Collector T R → ℕ
its_size collector = (its_words collector).size

abbrev pub its_most : {T R : Type 0} → Collector T R → ℕ
its_most collector = (its_words collector).sizes.most

abbrev pub its_id : {T R : Type 0} → Collector T R → ℕ
its_id collector = collector_id (its_words collector)

abbrev pub collector_text : ℕ → List ℕ
collector_text size = codes "Collector { batch_size: " ++ (decimal size ++ codes " }")

abbrev pub seen_by : {T R : Type 0} → Collector T R → List Entry
seen_by collector = collector.porter.seen

abbrev pub BeginsEmpty : {T R : Type 0} → Collector T R → ℕ → Type 0
BeginsEmpty collector links =
    ((its_book collector).slots ≡ 0) × ((its_book collector).links ≡ replicate links None) × (seen_by collector ≡ [])

abbrev pub IsNewPassOf : {T R : Type 0} → Collector T R → Pass → Type 0
IsNewPassOf collector pass =
    IsPassOf (its_words collector) pass × (made_with pass ≡ []) × GoesOnTo pass.name (seen_by collector) pass.seen × ¬ (IsSole pass.id)

-- in this order
abbrev pub IsRefusalFor : ℕ → ℕ → Refusal → Type 0
IsRefusalFor processors id refusal =
    ((2 ^ 63 < processors) × (refusal ≡ TooManyProcessors))
    ⊎ ((processors ≤ 2 ^ 63) × (2 ^ 64 ≤ id) × (refusal ≡ NoNumbers))
    ⊎ ((processors ≤ 2 ^ 63) × (id < 2 ^ 64) × (refusal ≡ NoMemory))
