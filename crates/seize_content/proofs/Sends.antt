-- What may pass to another thread: a content, as its value may be seen and be had there; and what names no value, always.
use Rattle.std.proofs.Common.{ℕ, List, [], ◌∷◌}
use mathlib.Core.Option.{Option, none, some}
use base.Fraction.{full_share}
use base.Share
use base.Growing.{latest, at_least}
use base.Fml.{Lft, Share}
use base.Shift.{Keyless}
use base.Stored.{Gv}
use denote.RattleType.{RattleType}
use denote.RawPtr.{block_ptr}
use denote.Param.Send.{IsSend, part_keyless}
use Rattle.core.proofs.atomic.Sent.{chain-Keyless}
use Rattle.seize_content.specs.Goods.{Goods}
use Rattle.seize_content.specs.Stages.{Stage, held, lent, goes}
use Rattle.seize_content.specs.Contents.{body, onward, named, place, place_shares, ticket_owns, stay, pool_owns, pool_shares, sight_owns}
use Rattle.seize_content.specs.Cells.{CellState, there, away, cell_token, lies, cell_shares}
use Rattle.seize_content.specs.Readers.{LifeShare, escrow_deposit, holds, lent_pool, pool}

pub ticket_sent : (γ : ℕ) (s : Stage) → Keyless (ticket_owns γ s)
unfolding latest
ticket_sent γ s = λ ms. ((λ _. tt), tt)

pub named_sent : (γ : ℕ) (s : Stage) → Keyless (named γ s)
unfolding latest
named_sent γ s = tt

pub stay_sent : (γ : ℕ) (a : ℕ) (g : Gv) → Keyless (stay γ a g)
unfolding at_least
stay_sent γ a g = λ ms. ((λ _. tt), tt)

pub pool_sent : (γ : ℕ) (a : ℕ) (g : Gv) → Keyless (pool_owns γ a g)
pool_sent γ a g = (tt, stay_sent γ a g)

pub pool_seen : (γ : ℕ) (a : ℕ) (g : Gv) (κ : Lft) → Keyless (pool_shares γ a g κ)
pool_seen γ a g κ = ((λ _. tt), stay_sent γ a g)

pub sight_sent : (κ : Lft) (γ : ℕ) (a : ℕ) (g : Gv) → Keyless (sight_owns κ γ a g)
sight_sent κ γ a g = ((λ νs. chain-Keyless νs κ (a ∷ [])), stay_sent γ a g)

-- what readers have of a loan, and what is left of it

holds_sent : (o : Option LifeShare) → Keyless (holds o)
holds_sent none = tt
holds_sent (some t) = tt

deposit_sent : (a : ℕ) (e : Share) (d : Lft × ℕ) → Keyless (escrow_deposit a e d)
unfolding latest at_least
deposit_sent a e d = ((λ o. (tt, holds_sent o)), tt)

pool_kept : (a : ℕ) (r : Share) (ds : List (Lft × ℕ)) → Keyless (pool a r ds)
pool_kept a r [] = tt
pool_kept a r (d ∷ ds) = (deposit_sent a (Share.right r) d, pool_kept a (Share.left r) ds)

pub lent_sent : (γ : ℕ) (a : ℕ) (g : Gv) (ds : List (Lft × ℕ)) → Keyless (lent_pool γ a g ds)
lent_sent γ a g ds = (pool_kept a full_share ds, stay_sent γ a g)

-- what is lent is seen on other threads, and comes back on any
module _ (G : Goods) (owned : (x : G.Thing) → Keyless (G.own x)) (seen : (x : G.Thing) (κ : Lft) → Keyless (G.shr x κ)) where
  goes_keyless : (s t : Stage) → Keyless (goes s t)
  goes_keyless held t = tt
  goes_keyless (lent a g) t = tt

  body_keyless : (s : Stage) → Keyless (body G s)
  body_keyless held = tt
  body_keyless (lent a g) = λ x. ((λ _. tt), (seen x (a ∷ []), owned x))

  onward_keyless : (s : Stage) (ts : List Stage) → Keyless (onward G s ts)
  onward_keyless s [] = body_keyless s
  onward_keyless s (t ∷ ts) = (goes_keyless s t, onward_keyless t ts)

  pub place_sent : (γ : ℕ) → Keyless (place G γ)
  unfolding latest
  place_sent γ = λ ms. (tt, onward_keyless held ms)

  pub place_seen : (γ : ℕ) (κ : Lft) → Keyless (place_shares G γ κ)
  place_seen γ κ = λ t. ((λ νs. chain-Keyless νs κ t.0), place_sent γ)

-- a cell's value passes with its token
pub token_sent : (γ : ℕ) (g : Gv) → Keyless (cell_token γ g)
token_sent γ g = tt

module _ (R : RattleType) (send : IsSend R) (fits : R.Denot → Type 0) (γ b o : ℕ) where
  lies_sent : (ν : Lft) (t : CellState) → Keyless (lies R fits γ b o ν t)
  lies_sent ν (there g) = λ x. ((λ _. tt), part_keyless R send full_share x b o)
  lies_sent ν (away r) = tt

  pub cell_seen : (κ : Lft) → Keyless (cell_shares R fits γ (block_ptr b o) κ)
  cell_seen κ = λ t. ((λ νs. chain-Keyless νs κ t.0), λ s. (tt, lies_sent t.0 s))
