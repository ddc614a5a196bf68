-- What may pass to another thread: a latch, with the token beside it.
use Rattle.std.proofs.Common.{ℕ, Option, Some, None}
use base.Fml.{Lft}
use base.Shift.{Keyless}
use base.Stored.{Gv}
use denote.RawPtr.{block_ptr}
use Rattle.core.proofs.atomic.Sent.{chain-Keyless}
use Rattle.seize_content.proofs.Sends.{token_sent}
use Rattle.seize_cells.specs.Latches.{side, Side, latch_shares}

side_sent : (γ w : ℕ) (v : Option Gv) → Keyless (side γ w v)
side_sent γ w (Some g) = token_sent γ g
side_sent γ w None = λ _. tt

pub latch_sent : (γ w : ℕ) → Keyless (Side γ w)
latch_sent γ w = λ v. side_sent γ w v

pub latch_seen : (γ b o : ℕ) (κ : Lft) → Keyless (latch_shares γ (block_ptr b o) κ)
latch_seen γ b o κ = λ ν. ((λ νs. chain-Keyless νs κ ν), λ w. (tt, latch_sent γ w))
