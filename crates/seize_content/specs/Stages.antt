-- The stages of a content, one after the other. A content's name is that of its list of stages, which has no second holder.
--     Stage           held, in its owner's hands; or lent a g, a thing of code g lent under the lifetime a
--     last s ms       the last of ms, and s where there is none
--     goes s t        t may come after s: after a loan only what comes once its lifetime is over
--     stages          lists of stages, of which a longer one goes on from a shorter one
use Rattle.core.specs.Prelude.{◌≡◌, ℕ, List, [], ◌∷◌}
use mathlib.Core.Path.{refl, sym, ap, ◌∙◌}
use base.Stored.{Gv, Coded, coded×, coded_ℕ, coded_list, coded_via}
use base.Growing.{Order, prefixes}
use base.Fml.{Fml, ftrue, fdead}
use denote.Struct.Codes.{itself}

pub data Stage : Type 0 where
  held : Stage
  lent : ℕ → Gv → Stage

-- a loan is coded as itself, and `held` as no loan
abbrev loans : Stage → List (ℕ × Gv)
loans held = []
loans (lent a g) = (a, g) ∷ []

abbrev of_loans : List (ℕ × Gv) → Stage
of_loans [] = held
of_loans (s ∷ ss) = lent s.0 s.1

pub loans_back : (s : Stage) → of_loans (loans s) ≡ s
loans_back held = refl
loans_back (lent a g) = refl

abbrev pub stage_coded : Coded Stage
stage_coded = coded_via (coded_list (coded× coded_ℕ itself)) loans (λ x y e. sym (loans_back x) ∙ (ap of_loans e ∙ loans_back y))

abbrev pub stages : Order (List Stage)
stages = prefixes stage_coded

abbrev pub last : Stage → List Stage → Stage
last s [] = s
last s (t ∷ ts) = last t ts

abbrev pub goes : Stage → Stage → Fml
goes held t = ftrue
goes (lent a g) t = fdead (a ∷ [])
