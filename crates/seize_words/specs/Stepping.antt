-- What an atomic step on a word has to be, so that the holder of a pass and of some keys may add the event that it is.
--     FoundAs site v p seen held alive t log     the step finds v in the word; the list is `log` then; t has the list at the last step
--                              on the word, and the keys beside its own; the activations with the lifetimes `alive` have not ended
--     MayStepWith births site p seen held alive lives f entry trades     whatever it finds in the word, and whatever the list is by then:
--                              with f of it in the word, and this entry added, all is as it has to be (IsStep). It ends no activation but
--                              those that have the lifetimes `lives`. Where it trades, the holder's keys stay with the word, for those
--                              that stood there; at a count all but the slot's. It makes these keys, which go to the holder
--     MayStepFor allowed births ..     the same of a step that may exchange a link: the permits with these numbers cover the pair that it
--                              makes
--     HasSteppedWith births site p seen seen' held held' alive v w entry trades   the step was taken, found v and left w
--     IsStep, MayStep, HasStepped     the same where no keys are made
--     LooksAt site p seen seen' held v     the word was read, which held v, and nothing was added to the list, which is seen' now
use Rattle.std.specs.Prelude.{◌≡◌, ℕ, take, drop, Bool, true, if◌then◌else◌, List, [], ◌∷◌, ◌++◌}
use Rattle.seize_machine.specs.Machine.State.{linked_values, are_distinct}
use Rattle.seize_book.specs.Ledger.{HeldKey, WithKinds, keys_made, with_list}
use Rattle.seize_book.specs.Entry.{Entry, maker}
use Rattle.seize_book.specs.Book.{Kind, TheCount, after, births_by, kind_of, kinds}
use Rattle.seize_book.specs.Laws.{IsAmong, ended_in, ended_lives, life}
use Rattle.seize_book.specs.Pairs.{AreCovered, pairs_by}
use Rattle.seize_book.specs.Tokens.{start, AddsEntry}
use Rattle.seize_book.specs.Fair.{Before, Fair, pass_key}
use Rattle.seize_words.specs.Words.{Site, ShowsWord, AreOtherKeys, site_keys}

abbrev pub Keys : Type 0
Keys = List (HeldKey Entry)

-- the list at the last step on the word, and the keys that stand beside its own
abbrev pub At : Type 0
At = List Entry × Keys

-- all keys that are there in the step, the word's first
abbrev pub in_step : Site → List (HeldKey Entry) → At → List (HeldKey Entry)
in_step site held t = site_keys site t.0 (t.1 ++ held)

-- no activation with one of these lifetimes has ended
abbrev pub NoneEnded : List ℕ → List Entry → Type 0
NoneEnded alive log = (a : ℕ) → IsAmong alive a → ¬ (IsAmong (ended_lives log) a)

pub record FoundAs (site : Site) (v p : ℕ) (seen : List Entry) (held : Keys) (alive : List ℕ) (t : At) (log : List Entry) : Type 0 where
  pub shows : ShowsWord site v t.0
  pub stands : AreOtherKeys site t.0 t.1
  pub before : Before site.name p seen (in_step site held t) log
  pub none_ended : NoneEnded alive log
  pub distinct : are_distinct (linked_values site.name.links) ≡ true

-- each activation that the event ends has one of these lifetimes
abbrev pub EndsAmong : List ℕ → List Entry → Entry → Type 0
EndsAmong lives log e = (a : ℕ) → IsAmong (ended_in (λ s. life s log) e) a → IsAmong lives a

-- so many of the holder's keys stay with the holder where others are traded: at a count the slot's
abbrev pub staying : Kind → ℕ
staying TheCount = 1
staying _ = 0

-- the keys that stand beside the word's own afterwards, and those that the holder has
abbrev pub beside_then : Kind → Bool → Keys → Keys → Keys
beside_then kind trades vs held = if trades then drop (staying kind) held else vs

abbrev pub held_then : Kind → Bool → Keys → Keys → Keys
held_then kind trades vs held = if trades then take (staying kind) held ++ vs else held

-- the keys that the step makes, each by its kind and number
abbrev pub Births : Type 0
Births = List (ℕ × ℕ)

-- the holder's, and those
abbrev pub with_births : Keys → Births → List Entry → Keys
with_births held [] log = held
with_births held (b ∷ births) log = held ++ keys_made (b ∷ births) log

pub record IsStepFor (allowed : List ℕ) (births : Births) (site : Site) (p : ℕ) (held : Keys) (lives : List ℕ) (w : ℕ) (e : Entry)
    (trades : Bool) (t : At) (own log : List Entry) : Type 0 where
  pub fair : Fair site.name (pass_key p own ∷ in_step site held t) log e
  pub its : maker e ≡ p
  pub bears : births_by (after (start site.name) log) e ≡ births
  pub ends : EndsAmong lives log e
  pub covered : AreCovered allowed (pairs_by (after (start site.name) log) e)
  pub shows : ShowsWord site w (log ++ e ∷ [])
  pub stands : AreOtherKeys site (log ++ e ∷ []) (with_list (beside_then (kind_of site.kind) trades t.1 held) (log ++ e ∷ []))

abbrev pub MayStepFor : List ℕ → Births → Site → ℕ → List Entry → Keys → List ℕ → List ℕ → (ℕ → ℕ) → (ℕ → List Entry → Entry) → (ℕ → Bool)
    → Type 0
MayStepFor allowed births site p seen held alive lives f entry trades =
    WithKinds kinds held
    × ((v : ℕ) (t : At) (own log : List Entry) → FoundAs site v p seen held alive t log
    → IsStepFor allowed births site p held lives (f v) (entry v log) (trades v) t own log)

-- the same where no link is exchanged
abbrev pub IsStepWith : Births → Site → ℕ → Keys → List ℕ → ℕ → Entry → Bool → At → List Entry → List Entry → Type 0
IsStepWith = IsStepFor []

abbrev pub MayStepWith : Births → Site → ℕ → List Entry → Keys → List ℕ → List ℕ → (ℕ → ℕ) → (ℕ → List Entry → Entry) → (ℕ → Bool) → Type 0
MayStepWith = MayStepFor []

pub record HasSteppedWith (births : Births) (site : Site) (p : ℕ) (seen seen' : List Entry) (held held' : Keys) (alive : List ℕ) (v w : ℕ)
    (entry : ℕ → List Entry → Entry) (trades : ℕ → Bool) : Type 0 where
  pub log : List Entry
  pub noted : AddsEntry site.name p seen seen' (entry v log)
  pub is_log : noted.before ≡ log
  pub since : At
  pub found : FoundAs site v p seen held alive since log
  pub left : ShowsWord site w seen'
  pub keys : held' ≡ with_births (with_list (held_then (kind_of site.kind) (trades v) since.1 held) seen') births seen'

abbrev pub IsStep : Site → ℕ → Keys → List ℕ → ℕ → Entry → Bool → At → List Entry → List Entry → Type 0
IsStep = IsStepWith []

abbrev pub MayStep : Site → ℕ → List Entry → Keys → List ℕ → List ℕ → (ℕ → ℕ) → (ℕ → List Entry → Entry) → (ℕ → Bool) → Type 0
MayStep = MayStepWith []

abbrev pub HasStepped : Site → ℕ → List Entry → List Entry → Keys → Keys → List ℕ → ℕ → ℕ → (ℕ → List Entry → Entry) → (ℕ → Bool) → Type 0
HasStepped = HasSteppedWith []

pub record LooksAt (site : Site) (p : ℕ) (seen seen' : List Entry) (held : Keys) (v : ℕ) : Type 0 where
  pub since : At
  pub found : FoundAs site v p seen held [] since seen'
