-- What a watch is told: nothing yet, and one value more.
use Rattle.std.proofs.Common.{◌≡◌, ℕ, List, [], ◌∷◌, ◌++◌, refl, sym, ap, subst, ◌∙◌}
use Rattle.std.specs.List.{fold}
use base.Stored.{Coded, Gv}
use Rattle.seize_calls.specs.Handing.{Had}
use Rattle.seize_parts.specs.Told.{AreCodes, HasTold, HasToldFrom}

codes_more : {T : Type 0} (code : T → Gv) (xs : List T) (had : Had) (x : T) (one : ℕ × Gv × List ℕ × List ℕ) → AreCodes code xs had → code x ≡ one.1 → AreCodes code (xs ++ x ∷ []) (had ++ one ∷ [])
codes_more code [] [] x one are is = (is, tt)
codes_more code (y ∷ xs) (two ∷ had) x one are is = (are.0, codes_more code xs had x one are.1 is)
codes_more code [] (two ∷ had) x one are is = absurd are
codes_more code (y ∷ xs) [] x one are is = absurd are

fold_more : {T Seen : Type 0} (told : Seen → T → Seen) (seen : Seen) (xs : List T) (x : T) → fold told seen (xs ++ x ∷ []) ≡ told (fold told seen xs) x
fold_more told seen [] x = refl
fold_more told seen (y ∷ xs) x = fold_more told (told seen y) xs x

module _ {T Seen : Type 0} (c : Coded Seen) (code : T → Gv) (told : Seen → T → Seen) where
  -- one value more went, of which the watch was told
  pub told_more : (first : Gv) (seen seen' : Seen) (had had' : Had) (x : T) (one : ℕ × Gv × List ℕ × List ℕ) → HasToldFrom c code told first seen had → seen' ≡ told seen x → code x ≡ one.1 → had' ≡ had ++ one ∷ []
      → HasToldFrom c code told first seen' had'
  told_more first seen seen' had had' x one so hears is more = (
    so.0,
    so.1,
    (
      so.2.0 ++ x ∷ [],
      subst (AreCodes code (so.2.0 ++ x ∷ [])) (sym more) (codes_more code so.2.0 had x one so.2.1 is),
      hears ∙ ap (λ (s : Seen). told s x) so.2.2 ∙ sym (fold_more told so.0 so.2.0 x),
    ),
  )

  -- none went
  pub told_none : (first : Gv) (seen : Seen) (had : Had) → c.code seen ≡ first → had ≡ [] → HasToldFrom c code told first seen had
  told_none first seen had is none = (seen, is, ([], subst (AreCodes code []) (sym none) tt, refl))

  -- what it had seen first is known by its code
  pub told_since : (first : Gv) (seen seen' : Seen) (had : Had) → c.code seen ≡ first → HasToldFrom c code told first seen' had → HasTold code told seen seen' had
  told_since first seen seen' had is so = subst (λ (s : Seen). HasTold code told s seen' had) (c.inj so.0 seen (so.1 ∙ sym is)) so.2
