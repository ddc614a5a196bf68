-- The words in which the contracts of atomic steps speak.
--     after_exchange seen new v     what a compare and exchange leaves that found v
--     plus k v, minus k v           what an addition or a subtraction of k leaves that found v, round 2^64
--     entries pass life event v log     the entry of an event by a step that found v in the word, where the list was this just before
--     IsSizedBy pass entry     each such entry has at most the pass's batch size
--     MayTakeStep word keys pass alive lives f entry trades     the holder of the keys may take the step with the pass: see MayStep
--     TakesStep word keys pass keys' pass' alive f v entry trades     the step was taken and found v: see HasStepped
--     MayTakeStepIn, TakesStepIn        the same where the activation has not ended
--     MayTakeStepWith, TakesStepWith    the same where the step makes keys
--     FindsFor                      where a step on a link doesn't trade, who makes it finds what the link holds then, in this activation
--     MayTakeStepFor                the same while these activations last, with a permit that covers the pair of a link's exchange
--     SeesFor                       it takes a share of what is lent with that, in the same step;  MaySeeIn, SeesIn   so in one activation
--     MayExchangeIn, ExchangesIn    so does an exchange that compares; the activation lasts too in which was found what it compares with
--     MayLookAtWord word keys pass     they are of one book;  LooksAtWord word keys pass keys' pass' v     see LooksAt
--     site_of keys, IsWordOf keys bits     which word the keys are of;  a word that holds this stands for what they know
use Rattle.std.specs.Prelude.{◌≡◌, ℕ, ◌+◌, ◌-◌, ◌%◌, ◌^◌, Bool, false, List, [], ◌∷◌, ◌++◌, drop, Some}
use lib.Dec.{eqb}
use prog.Atomic.{either}
use Rattle.seize_machine.specs.Machine.Event.{Event}
use Rattle.seize_machine.specs.Machine.State.{link_at}
use Rattle.seize_book.specs.Entry.{Entry, Made, Deed}
use Rattle.seize_book.specs.Book.{after, kinds, links}
use Rattle.seize_book.specs.Bounds.{OneWithin}
use Rattle.seize_words.specs.Glimpses.{value_shown}
use Rattle.seize_book.specs.Laws.{Reader}
use Rattle.seize_book.specs.Ledger.{HeldKey, WithKinds}
use Rattle.seize_book.specs.Private.{key_of, own_of}
use Rattle.seize_book.specs.Passes.{IsSamePass}
use Rattle.seize_words.specs.Stepping.{At, Births, FoundAs, HasSteppedWith, LooksAt, MayStepFor, MayStepWith}
use Rattle.seize_book.specs.Tokens.{start}
use Rattle.seize_words.specs.Words.{Site, ShowsWord, AreOtherKeys, site_keys}
use Rattle.seize_words.specs.declared.activation.Activation.{Activation}
use Rattle.seize_book.specs.declared.book.keys.Keys.{Keys}
use Rattle.seize_book.specs.declared.book.pass.Pass.{Pass}
use Rattle.seize_book.specs.declared.book.permit.Permit.{Permit}
use Rattle.seize_words.specs.declared.glimpse.Glimpse.{Glimpse}
use Rattle.seize_words.specs.declared.lasting.Lasting.{Lasting}

abbrev pub after_exchange : ℕ → ℕ → ℕ → ℕ
after_exchange seen new v = either (eqb v seen) new v

abbrev pub plus : ℕ → ℕ → ℕ
plus k v = (v + k) % 2 ^ 64

abbrev pub minus : ℕ → ℕ → ℕ
minus k v = (v + (2 ^ 64 - k)) % 2 ^ 64

abbrev pub Events : Type 0
Events = ℕ → List Entry → Event

-- what is added, by what the step finds and the list just before
abbrev pub Entries : Type 0
Entries = ℕ → List Entry → Entry

abbrev pub deed : Pass → ℕ → Events → ℕ → List Entry → Deed
deed pass life event v log = record { pass = pass.id; size = pass.size; event = event v log; life = life; kepts = [] }

abbrev pub entries : Pass → ℕ → Events → ℕ → List Entry → Entry
entries pass life event v log = Made (deed pass life event v log)

abbrev pub IsSizedBy : Pass → Entries → Type 0
IsSizedBy pass entry = (v : ℕ) (log : List Entry) → OneWithin pass.size (entry v log)

abbrev pub MayTakeStepWith : Births → Site → Keys → Pass → List ℕ → List ℕ → (ℕ → ℕ) → Entries → (ℕ → Bool) → Type 0
MayTakeStepWith births word keys pass alive lives f entry trades =
    (word.name ≡ pass.name) × (keys.name ≡ pass.name)
    × MayStepWith births word pass.id pass.seen keys.held alive lives f entry trades × IsSizedBy pass entry

abbrev pub TakesStepWith : Births → Site → Keys → Pass → Keys → Pass → List ℕ → (ℕ → ℕ) → ℕ → Entries → (ℕ → Bool) → Type 0
TakesStepWith births word keys pass keys' pass' alive f v entry trades =
    IsSamePass pass pass' × (keys'.name ≡ keys.name)
    × HasSteppedWith births word pass.id pass.seen pass'.seen keys.held keys'.held alive v (f v) entry trades

abbrev pub MayTakeStep : Site → Keys → Pass → List ℕ → List ℕ → (ℕ → ℕ) → Entries → (ℕ → Bool) → Type 0
MayTakeStep = MayTakeStepWith []

abbrev pub TakesStep : Site → Keys → Pass → Keys → Pass → List ℕ → (ℕ → ℕ) → ℕ → Entries → (ℕ → Bool) → Type 0
TakesStep = TakesStepWith []

-- the same where activations have not ended, with a permit that covers what the step exchanges

abbrev pub MayTakeStepFor : Site → Keys → Pass → List ℕ → Permit → (ℕ → ℕ) → Entries → (ℕ → Bool) → Type 0
MayTakeStepFor word keys pass alive permit f entry trades =
    (word.name ≡ pass.name) × (keys.name ≡ pass.name) × (permit.list ≡ pass.name.pairs)
    × MayStepFor permit.codes [] word pass.id pass.seen keys.held alive [] f entry trades × IsSizedBy pass entry

abbrev pub MayTakeStepIn : Site → Keys → Pass → Activation → Permit → (ℕ → ℕ) → Entries → (ℕ → Bool) → Type 0
MayTakeStepIn word keys pass activation = MayTakeStepFor word keys pass (activation.life ∷ [])

abbrev pub TakesStepIn : Site → Keys → Pass → Keys → Pass → Activation → (ℕ → ℕ) → ℕ → Entries → (ℕ → Bool) → Type 0
TakesStepIn word keys pass keys' pass' activation f v entry trades =
    TakesStep word keys pass keys' pass' (activation.life ∷ []) f v entry trades

-- the same on a link, with a share of what is lent with what the link holds

abbrev pub FindsFor : Site → Pass → List (HeldKey Entry) → ℕ → Entries → (ℕ → Bool) → Type 0
FindsFor word pass held life entry trades =
    (v : ℕ) (t : At) (log : List Entry) → FoundAs word v pass.id pass.seen held (life ∷ []) t log → trades v ≡ false
    → (w : ℕ) → link_at (after (start word.name) (log ++ entry v log ∷ [])) word.number ≡ Some w
    → Reader (start word.name) (log ++ entry v log ∷ []) w life

abbrev pub MaySeeIn : Site → Keys → Pass → Activation → (ℕ → ℕ) → Entries → (ℕ → Bool) → Type 0
MaySeeIn word keys pass activation f entry trades =
    (word.kind ≡ links) × MayTakeStep word keys pass (activation.life ∷ []) [] f entry trades
    × FindsFor word pass keys.held activation.life entry trades

abbrev pub MayExchangeIn : Site → Keys → Pass → Activation → Permit → Lasting → (ℕ → ℕ) → Entries → (ℕ → Bool) → Type 0
MayExchangeIn word keys pass activation permit lasting f entry trades =
    (word.kind ≡ links) × MayTakeStepFor word keys pass (activation.life ∷ lasting.life ∷ []) permit f entry trades
    × FindsFor word pass keys.held activation.life entry trades

abbrev pub SeesFor : Site → Keys → Pass → Keys → Pass → List ℕ → (ℕ → ℕ) → ℕ × Glimpse → Entries → (ℕ → Bool) → Type 0
SeesFor word keys pass keys' pass' alive f found entry trades =
    TakesStep word keys pass keys' pass' alive f found.0 entry trades
    × (found.1.value ≡ value_shown (trades found.0) (link_at (after (start word.name) pass'.seen) word.number))

abbrev pub SeesIn : Site → Keys → Pass → Keys → Pass → Activation → (ℕ → ℕ) → ℕ × Glimpse → Entries → (ℕ → Bool) → Type 0
SeesIn word keys pass keys' pass' activation = SeesFor word keys pass keys' pass' (activation.life ∷ [])

abbrev pub ExchangesIn : Site → Keys → Pass → Keys → Pass → Activation → Lasting → (ℕ → ℕ) → ℕ × Glimpse → Entries → (ℕ → Bool) → Type 0
ExchangesIn word keys pass keys' pass' activation lasting = SeesFor word keys pass keys' pass' (activation.life ∷ lasting.life ∷ [])

-- a look, which adds nothing

abbrev pub MayLookAtWord : Site → Keys → Pass → Type 0
MayLookAtWord word keys pass = (word.name ≡ pass.name) × (keys.name ≡ pass.name) × WithKinds kinds keys.held

abbrev pub LooksAtWord : Site → Keys → Pass → Keys → Pass → ℕ → Type 0
LooksAtWord word keys pass keys' pass' v =
    IsSamePass pass pass' × (keys' ≡ keys)
    × LooksAt word pass.id pass.seen pass'.seen keys.held v

-- The word that some keys are of: the first is its own, and the others stand beside it.

abbrev pub first_kind : List (HeldKey Entry) → ℕ
first_kind [] = 0
first_kind (h ∷ held) = h.kind

abbrev pub site_of : Keys → Site
site_of keys = record { name = keys.name; kind = first_kind keys.held; number = key_of keys.held }

abbrev pub IsWordOf : Keys → ℕ → Type 0
IsWordOf keys bits =
    (keys.held ≡ site_keys (site_of keys) (own_of keys.held) (drop 1 keys.held))
    × ShowsWord (site_of keys) bits (own_of keys.held) × AreOtherKeys (site_of keys) (own_of keys.held) (drop 1 keys.held)
