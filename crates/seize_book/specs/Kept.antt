-- What is kept of a value: a word that says for which reclaimer it is. Its holder notes it beside the value's block, and the list says it
-- for good, with the event that begins the value's retirement, or that puts it as a further value.
--     kept_in g              the word that a note of this code keeps
--     kepts_in held, kepts_of keys     those of the values whose keys these are, in order
--     IsTold log v k         an event of the list said that k is kept of value v
--     AllTold log vs ks      it said so of each of these values, in order: the first word of the first value, and so on
--     AreToldIn log held     of each of the values whose keys these are the list says the word that is noted of it
--     AreTold keys pass      so it is in what the pass has seen
use Rattle.std.specs.Prelude.{◌≡◌, ℕ, List, [], ◌∷◌, map, ◌⊎◌}
use base.Stored.{Gv, gnum, gcons}
use Rattle.seize_book.specs.Entry.{Entry, Made, Used}
use Rattle.seize_book.specs.Ledger.{HeldKey}
pub use Rattle.seize_book.specs.Saying.{retires_by}
use Rattle.seize_book.specs.declared.book.pass.Pass.{Pass}
use Rattle.seize_book.specs.declared.book.value_keys.ValueKeys.{ValueKeys}

abbrev pub kept_in : Gv → ℕ
kept_in (gcons a (gcons b (gcons (gnum k) g))) = k
kept_in g = 0

abbrev pub kepts_in : List (HeldKey Entry) → List ℕ
kepts_in held = map (λ h. kept_in h.note) held

abbrev pub kepts_of : ValueKeys → List ℕ
kepts_of keys = kepts_in keys.keys.held

-- the first of these words is of the first value, and so on
abbrev pub SaysKept : List ℕ → List ℕ → ℕ → ℕ → Type 0
SaysKept (x ∷ xs) (y ∷ ys) v k = ((x ≡ v) × (y ≡ k)) ⊎ SaysKept xs ys v k
SaysKept _ _ v k = ⊥

abbrev pub IsTold : List Entry → ℕ → ℕ → Type 0
IsTold [] v k = ⊥
IsTold (Made d ∷ log) v k = SaysKept (retires_by d.event) d.kepts v k ⊎ IsTold log v k
IsTold (Used u ∷ log) v k = IsTold log v k

abbrev pub AllTold : List Entry → List ℕ → List ℕ → Type 0
AllTold log [] [] = Unit {0}
AllTold log (v ∷ vs) (k ∷ ks) = IsTold log v k × AllTold log vs ks
AllTold log _ _ = ⊥

abbrev pub AreToldIn : List Entry → List (HeldKey Entry) → Type 0
AreToldIn log [] = Unit {0}
AreToldIn log (h ∷ held) = IsTold log h.label (kept_in h.note) × AreToldIn log held

abbrev pub AreTold : ValueKeys → Pass → Type 0
AreTold keys pass = AreToldIn pass.seen keys.keys.held
