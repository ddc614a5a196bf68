-- What a watch was told, and what calls of a collector in one caller's hands answer.
--     told_of told seen gone     what a watch has seen that was told of these values, in order
--     AreCodes code xs had       these values have the codes of those that were had, in order
--     HasTold code told seen seen' had     a watch that had seen the one and has seen the other was told of the values that were had
--     HasToldFrom c code told first seen' had     so it is with what it had seen first, of which this is the code
--     only_refusal result        the result, where a refusal gives what the caller passed back
--     Said a result new          the call answered as the model does, and this is the model's state after it
--     Did told o new seen seen'  the state is that of this outcome, and the watch was told exactly the values gone, in order
--     Answers told a result new seen seen'     the call answered as the model does, and so it did
--     Grew told a result old new seen seen'     so it did; or it was refused memory, the state is as it was, and the watch was told nothing
use Rattle.std.specs.Prelude.{◌≡◌, ◌⊎◌, List, [], ◌∷◌, Result, Err, Ok}
use Rattle.std.specs.List.{fold}
use base.Stored.{Coded, Gv}
use Rattle.seize_model.specs.Waiting.Attempt.{StateAndGone}
use Rattle.seize_model.specs.Waiting.State.{ModelState}
use Rattle.seize_model.specs.Waiting.Calls.{Response}
use Rattle.seize_table.specs.declared.refusal.Refusal.{Refusal}
use Rattle.seize_table.specs.declared.refusal.Refusal.TheVariants.{NoMemory}
use Rattle.seize_calls.specs.Handing.{Had}

abbrev pub told_of : {T R Seen : Type 0} → (Seen → T → Seen) → Seen → List (T × R) → Seen
told_of told seen gone = fold (λ s v. told s v.0) seen gone

abbrev pub AreCodes : {T : Type 0} → (T → Gv) → List T → Had → Type 0
AreCodes code [] [] = Unit {0}
AreCodes code (x ∷ xs) (one ∷ had) = (code x ≡ one.1) × AreCodes code xs had
AreCodes code _ _ = ⊥

abbrev pub HasTold : {T Seen : Type 0} → (T → Gv) → (Seen → T → Seen) → Seen → Seen → Had → Type 0
HasTold {T} code told seen seen' had = (xs : List T) × AreCodes code xs had × (seen' ≡ fold told seen xs)

abbrev pub HasToldFrom : {T Seen : Type 0} → Coded Seen → (T → Gv) → (Seen → T → Seen) → Gv → Seen → Had → Type 0
HasToldFrom {T} {Seen} c code told first seen' had = (seen : Seen) × (c.code seen ≡ first) × HasTold code told seen seen' had

abbrev pub only_refusal : {A B : Type 0} → Result A (Refusal × B) → Result A Refusal
only_refusal (Ok a) = Ok a
only_refusal (Err e) = Err e.0

abbrev pub Said : {A T R : Type 0} → Response A T R → Result A Refusal → ModelState T R → Type 0
Said a result new = (result ≡ a.0) × (new ≡ a.1.0)

abbrev pub Answers : {A T R Seen : Type 0} → (Seen → T → Seen) → Response A T R → Result A Refusal → ModelState T R → Seen → Seen → Type 0
Answers told a result new seen seen' = Said a result new × (seen' ≡ told_of told seen a.1.1)

abbrev pub Grew : {A T R Seen : Type 0} → (Seen → T → Seen) → Response A T R → Result A Refusal → ModelState T R → ModelState T R
    → Seen → Seen → Type 0
Grew told a result old new seen seen' = ((result ≡ Err NoMemory) × (new ≡ old) × (seen' ≡ seen)) ⊎ Answers told a result new seen seen'

abbrev pub Did : {T R Seen : Type 0} → (Seen → T → Seen) → StateAndGone T R → ModelState T R → Seen → Seen → Type 0
Did told o new seen seen' = (new ≡ o.0) × (seen' ≡ told_of told seen o.1)
