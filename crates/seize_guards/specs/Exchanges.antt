-- What contracts see of an exchange that compares.
--     current_name current     what the list calls the value that the caller takes a link to hold, or none;  current_value current     and
--                              that value
--     MakesExchange code collector s a link current new pass pass' result     slot s made one event, an exchange that compares: `put` is
--                              what the list calls the new block, and `held` what the link held at the event
--     ComesBack new back       the block comes back with its content, of the same store, or there is neither
--     FoundIn a o pass         where o is a value, it was found in a link in this activation, as the pass has seen
--     Protects a pass          no value that was found in this activation, as the pass has seen, is reclaimed in what it has seen
--     Learned current pass pass'     the pass has learned what was seen where `current` was found
--     WonOrLost code collector new current held result     where the link held just what the caller took it to hold, that came out, of this
--                              collector; else what the link held was found, and the block that was to go in comes back
use Rattle.std.specs.Prelude.{◌≡◌, ◌≢◌, ℕ, Option, None, Some, IfSome}
use denote.Bor.{Bor}
use base.Stored.{Gv}
use Rattle.core.specs.declared.result.Result.{Result}
use Rattle.core.specs.declared.result.Result.TheVariants.{Err, Ok}
use Rattle.seize_machine.specs.Machine.Event.{ExchangeLink}
use Rattle.seize_machine.specs.Machine.History.{Reclaimed}
use Rattle.seize_machine.specs.declared.machine.event.Answer.TheVariants.{Link}
use Rattle.seize_machine.specs.declared.machine.event.Exchange.TheVariants.{Compare}
use Rattle.seize_book.specs.declared.book.pass.Pass.{Pass}
use Rattle.seize_words.specs.LinkWords.{WasFound}
use Rattle.seize_words.specs.Lasted.{LearnsFrom}
use Rattle.seize_words.specs.declared.activation.Activation.{Activation}
use Rattle.seize_parts.specs.Blocks.{IsNamed, content, owned_store}
use Rattle.seize_guards.specs.Links.{ComesOut, IsUnlinkedOf, Shows, shared_name, shared_value}
use Rattle.seize_parts.specs.Laws.{moments_seen}
use Rattle.seize_parts.specs.Makes.{MakesOne}
use Rattle.seize_guards.specs.declared.block.failed.Failed.{Failed}
use Rattle.seize_parts.specs.declared.block.owned.Owned.{Owned}
use Rattle.seize_guards.specs.declared.block.shared.Shared.{Shared}
use Rattle.seize_guards.specs.declared.block.unlinked.Unlinked.{Unlinked}
use Rattle.seize_words.specs.declared.words.Words.{Words}

abbrev pub current_name : {T : Type 0} → Option (Bor (Shared T)) → Option ℕ
current_name (Some shared) = shared_name shared.now
current_name None = None

abbrev pub current_value : {T : Type 0} → Option (Bor (Shared T)) → Option T
current_value (Some shared) = Some (shared_value shared.now)
current_value None = None

abbrev pub ComesBack : {T : Type 0} → Option (Owned T) → Option (Owned T) → Type 0
ComesBack (Some new) (Some back) = (content back ≡ content new) × (owned_store back ≡ owned_store new)
ComesBack None None = Unit {0}
ComesBack _ _ = ⊥

abbrev pub FoundIn : Activation → Option ℕ → Pass → Type 0
FoundIn a o pass = (v : ℕ) → o ≡ Some v → WasFound a v pass

abbrev pub Protects : Activation → Pass → Type 0
Protects a pass = (v k : ℕ) → FoundIn a (Some v) pass → ¬ (Reclaimed (moments_seen pass) v k)

abbrev pub Learned : {T : Type 0} → Option (Bor (Shared T)) → Pass → Pass → Type 0
Learned (Some shared) pass pass' = LearnsFrom shared.now.lasting pass pass'
Learned None pass pass' = pass' ≡ pass

abbrev pub WonOrLost : {T : Type 0} → (T → Gv) → Words T → Option (Owned T) → Option ℕ → Option ℕ
    → Result (Option (Unlinked T)) (Failed T) → Type 0
WonOrLost code collector new current held (Ok out) =
    (current ≡ held) × ComesOut held out × IfSome out (IsUnlinkedOf collector)
WonOrLost code collector new current held (Err failed) =
    (current ≢ held) × Shows collector code held failed.found × ComesBack new failed.new

pub record MakesExchange {T : Type 0} (code : T → Gv) (collector : Words T) (s : ℕ) (a : Activation) (link : ℕ) (current : Option ℕ)
    (new : Option (Owned T)) (pass pass' : Pass) (result : Result (Option (Unlinked T)) (Failed T)) : Type 0 where
  pub put : Option ℕ
  pub held : Option ℕ
  pub named : IsNamed code new put
  pub made : MakesOne pass pass' (ExchangeLink s link (Compare current put)) (Link held)
  pub outcome : WonOrLost code collector new current held result
  pub found : FoundIn a held pass'
