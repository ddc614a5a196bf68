-- The states that a collector comes to, whatever calls are made.
use Rattle.std.specs.Prelude.{◌≡◌, ℕ, false, max, List, [], Option}
use Rattle.seize_model.specs.Waiting.State.{ModelState, new, is_kept, retired_at}
use Rattle.seize_model.specs.Waiting.Calls as calls
use Rattle.seize_model.specs.Waiting.Lists.{Call, step}

-- **Reached.** The state of a collector just made, and each state that a call, a swap without its retirement, a reclaim of all or a
-- change of the size leads to.
pub data Reached {T R : Type 0} (puts : R → T → List T) (weight : T → ℕ) : ModelState T R → Type 0 where
  made : (size links : ℕ) → Reached puts weight (new size links)
  resized : (st : ModelState T R) (size : ℕ) → Reached puts weight st → Reached puts weight (record st { size = size })
  called : (st : ModelState T R) (call : Call T R) → Reached puts weight st → Reached puts weight (step puts weight st call).1.0
  swapped : (st : ModelState T R) (s link : ℕ) (value : Option T) → Reached puts weight st
      → Reached puts weight (calls.swap st s link value).1.0
  reclaimed : (st : ModelState T R) → Reached puts weight st → Reached puts weight (calls.reclaim_all puts weight st).0

-- the largest size that the collector had on the way to the state
abbrev pub largest_size : {T R : Type 0} {puts : R → T → List T} {weight : T → ℕ} {st : ModelState T R} → Reached puts weight st → ℕ
largest_size (Reached.made size links) = size
largest_size (Reached.resized st size before) = max size (largest_size before)
largest_size (Reached.called st call before) = largest_size before
largest_size (Reached.swapped st s link value before) = largest_size before
largest_size (Reached.reclaimed st before) = largest_size before

-- **Gone.** In a reached state a retired batch that waits for no slot has no values left.
abbrev pub GoneLaw : {T R : Type 0} → (R → T → List T) → (T → ℕ) → Type 0
GoneLaw {T} {R} puts weight = (st : ModelState T R) → Reached puts weight st → (b : ℕ) → is_kept st b ≡ false → retired_at st b ≡ []
