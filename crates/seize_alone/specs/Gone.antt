-- What a reclaimer had, by the values. `code` is the code of the type of values, and `puts` says what the reclaimer puts with a value of
-- some kind.
--     AreNamesOf code vs xs    these are the names of blocks with these contents, in order
--     PutOne code puts one     with this value, which was had, blocks were put as `puts` says of it and of its kind, and each of these is
--                              of that kind;  PutAs code puts had     so it is with each of these values
--     HadAre code had gone     what was had are these values, each with its kind, in order
use Rattle.std.specs.Prelude.{◌≡◌, ℕ, map, List, [], ◌∷◌}
use base.Stored.{Gv}
use Rattle.seize_calls.specs.Handing.{Had}
use Rattle.seize_words.specs.Chunks.{IsLentAs}

abbrev pub AreNamesOf : {T : Type 0} → (T → Gv) → List ℕ → List T → Type 0
AreNamesOf code [] [] = Unit {0}
AreNamesOf code (v ∷ vs) (x ∷ xs) = IsLentAs v (code x) × AreNamesOf code vs xs
AreNamesOf code _ _ = ⊥

abbrev pub PutOne : {T : Type 0} → (T → Gv) → (ℕ → T → List T) → ℕ × Gv × List ℕ × List ℕ → Type 0
PutOne {T} code puts one = (x : T) × (code x ≡ one.1) × AreNamesOf code one.2 (puts one.0 x) × (one.3 ≡ map (λ _. one.0) one.2)

abbrev pub PutAs : {T : Type 0} → (T → Gv) → (ℕ → T → List T) → Had → Type 0
PutAs code puts [] = Unit {0}
PutAs code puts (one ∷ had) = PutOne code puts one × PutAs code puts had

abbrev pub HadAre : {T : Type 0} → (T → Gv) → Had → List (T × ℕ) → Type 0
HadAre code [] [] = Unit {0}
HadAre code (one ∷ had) (v ∷ gone) = ((one.1 ≡ code v.0) × (one.0 ≡ v.1)) × HadAre code had gone
HadAre code _ _ = ⊥
