-- What stands beside a content, and who has what of it. G is what may be lent there, and γ the content's name.
--     place G γ           the content's invariant: a quarter of its list of stages, and what is there at the last of them
--     named γ s           that quarter, of a list whose only stage is s
--     ticket_owns γ s     the other three quarters, of a list whose last stage is s. It knows nothing of G
--     in_hand G γ x       a thing in its owner's hands, with the ticket
--     stay γ a g          the content was lent under a with a thing of code g, and has been so since while a lives. It knows nothing of G
--     pool_owns γ a g     the whole token of that lifetime
--     sight_owns 'g γ a g     and that 'g ends no later than a
use Rattle.core.specs.Prelude.{◌≡◌, List, [], ◌∷◌, ℕ}
use base.Fraction.{full_share}
use base.Share.{quarter, three_quarters}
use base.Stored.{Gv}
use base.Growing.{latest, at_least}
use base.Fml.{Lft, Fml, ftrue, fsep, fex, flft, flent, fbor, fnamed}
use base.Before.{before}
use denote.Sharing.{beside, said, one}
use Rattle.seize_content.specs.Goods.{Goods}
use Rattle.seize_content.specs.Stages.{Stage, held, lent, stages, last, goes}

abbrev pub fact : Type 0 → Fml
fact φ = fex φ (λ _. ftrue)

module _ (G : Goods) where
  abbrev pub loan : ℕ → Gv → G.Thing → Fml
  loan a g x = fsep (fact (G.code x ≡ g)) (fsep (G.shr x (a ∷ [])) (flent (a ∷ []) (G.own x)))

  abbrev pub body : Stage → Fml
  body held = ftrue
  body (lent a g) = fex G.Thing (loan a g)

  abbrev pub onward : Stage → List Stage → Fml
  onward s [] = body s
  onward s (t ∷ ts) = fsep (goes s t) (onward t ts)

  abbrev pub stands : ℕ → List Stage → Fml
  stands γ ms = fsep (latest stages quarter γ ms) (onward held ms)

  -- what a reader comes to see
  abbrev pub shows : ℕ → Gv → G.Thing → Fml
  shows a g x = fsep (fact (G.code x ≡ g)) (G.shr x (a ∷ []))

  abbrev pub place : ℕ → Fml
  place γ = fex (List Stage) (stands γ)

  abbrev pub lent_place : ℕ → Lft → Lft × ℕ → Fml
  lent_place γ κ t = fsep (before κ t.0) (fnamed t.1 (fbor t.0 (place γ)))

  abbrev pub place_shares : ℕ → Lft → Fml
  place_shares γ κ = fex (Lft × ℕ) (lent_place γ κ)

abbrev pub named : ℕ → Stage → Fml
named γ s = latest stages quarter γ (s ∷ [])

-- ---- its ticket, and the thing in its owner's hands
abbrev pub ticket_at : ℕ → Stage → List Stage → Fml
ticket_at γ s ms = fsep (fact (last held ms ≡ s)) (latest stages three_quarters γ ms)

abbrev pub ticket_owns : ℕ → Stage → Fml
ticket_owns γ s = fex (List Stage) (ticket_at γ s)

abbrev pub in_hand : (G : Goods) → ℕ → G.Thing → Fml
in_hand G γ x = fsep (G.own x) (ticket_owns γ held)

-- ---- a loan: its lifetime, and what is known of it
abbrev pub stay_at : ℕ → ℕ → Gv → List Stage → Fml
stay_at γ a g ms = fsep (fact (last held ms ≡ lent a g)) (at_least stages γ ms)

abbrev pub stay : ℕ → ℕ → Gv → Fml
stay γ a g = fex (List Stage) (stay_at γ a g)

abbrev pub pool_owns : ℕ → ℕ → Gv → Fml
pool_owns γ a g = fsep (flft (a ∷ []) full_share) (stay γ a g)

abbrev pub pool_shares : ℕ → ℕ → Gv → Lft → Fml
pool_shares γ a g = beside (one (λ q. flft (a ∷ []) q)) (said (stay γ a g))

abbrev pub sight_owns : Lft → ℕ → ℕ → Gv → Fml
sight_owns κ γ a g = fsep (before κ (a ∷ [])) (stay γ a g)
