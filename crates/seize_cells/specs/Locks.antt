-- What is asked and told of a work under a lock, which knows of its value that it has the label n and is sound.
--     MayLock label sound n may      the work may be done on any such value
--     HadLock label sound n gave     it was done on such a value, and left such a value
use Rattle.core.specs.Prelude.{ℕ}
use Rattle.seize_content.specs.Steady.{keeps}

module _ {X : Type 0} (label : X → ℕ) (sound : X → Type 0) (n : ℕ) where
  abbrev pub MayLock : (X → Type 0) → Type 0
  MayLock may = (x : X) → keeps label sound n x → may x

  pub record HadLock (gave : X → X → Type 0) : Type 0 where
    pub before : X
    pub after : X
    pub was : keeps label sound n before
    pub is : keeps label sound n after
    pub gives : gave before after
