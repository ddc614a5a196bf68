-- Blocks in a list: what holds of each of them holds of each when one more comes last.
use Rattle.std.proofs.Common.{◌≡◌, List, [], ◌∷◌, ◌++◌, All}
use Rattle.std.proofs.lemmas.List.Elements.{All-append, All-cons, All-nil, All-same}

pub all_pushed : {X : Type 0} (P : X → Type 0) (xs ys : List X) (x : X) → All P xs → P x → ys ≡ xs ++ x ∷ [] → All P ys
all_pushed P xs ys x all one e = All-same P ys (xs ++ x ∷ []) e (All-append P xs (x ∷ []) all (All-cons P x [] one (All-nil P)))
