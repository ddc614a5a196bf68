-- What one try of an alteration leaves.
--     AttemptsCell post code words s i found pass pass' result     slot s exchanged what was found for what the function makes of it, by
--                               one event that compares; or the function refused, or memory for a block was refused, and none was made
use Rattle.std.specs.Prelude.{◌≡◌, ◌≢◌, ℕ, Option, IfSome}
use denote.Bor.{Bor}
use base.Stored.{Gv}
use Rattle.core.specs.declared.result.Result.{Result}
use Rattle.core.specs.declared.result.Result.TheVariants.{Err, Ok}
use Rattle.seize.specs.Answer.TheVariants.{Link}
use Rattle.seize.specs.Exchange.TheVariants.{Compare}
use Rattle.seize.specs.Links.{ComesOut, IsUnlinkedOf, Shows, found_name}
use Rattle.seize.specs.Machine.Event.{ExchangeLink}
use Rattle.seize.specs.Makes.{MakesOne}
use Rattle.seize_book.specs.declared.book.pass.Pass.{Pass}
use Rattle.seize_guards.specs.declared.block.shared.Shared.{Shared}
use Rattle.seize_guards.specs.declared.block.unlinked.Unlinked.{Unlinked}
use Rattle.seize_words.specs.declared.words.Words.{Words}
use Rattle.seize_atomic.specs.Alters.{IsMadeBy, MakesBlock, Refuses}
use Rattle.seize_atomic.specs.declared.attempt.Missed.{Missed}
use Rattle.seize_atomic.specs.declared.attempt.Missed.TheVariants.{Lost, NoMemory, Refused}

abbrev pub AttemptsCell : {T A E : Type 0} → (Option (Bor T) → Result (Option T × A) E → Type 0) → (T → Gv) → Words T → ℕ → ℕ
    → Option (Shared T) → Pass → Pass → Result (Option (Unlinked T) × A) (Missed T E) → Type 0
AttemptsCell post code words s i found pass pass' (Ok (out, a)) =
    (put : Option ℕ) × IsMadeBy post code (found_name found) put a
    × MakesOne pass pass' (ExchangeLink s i (Compare (found_name found) put)) (Link (found_name found))
    × ComesOut (found_name found) out × IfSome out (IsUnlinkedOf words)
AttemptsCell {A = A} post code words s i found pass pass' (Err (Lost other)) =
    (put held : Option ℕ) × (a : A) × IsMadeBy post code (found_name found) put a × (found_name found ≢ held)
    × MakesOne pass pass' (ExchangeLink s i (Compare (found_name found) put)) (Link held) × Shows words code held other
AttemptsCell post code words s i found pass pass' (Err NoMemory) = (pass' ≡ pass) × MakesBlock post code (found_name found)
AttemptsCell post code words s i found pass pass' (Err (Refused e)) = (pass' ≡ pass) × Refuses post code (found_name found) e
