-- Retired batches that are gone, below all others, are forgotten by what the hands hold; so after the steps in which all is reclaimed, the
-- hands hold what the model says.
use Rattle.std.proofs.Common.{ℕ, ◌+◌, List, length, subst}
use base.Stored.{Gv}
use Rattle.seize_model.specs.Waiting.State.{ModelState}
use Rattle.seize_book.specs.Entry.{Entry}
use Rattle.seize_book.specs.Tokens.{Name}
use Rattle.seize_alone.specs.Holding.{Holds, HoldsAll, with_gone_below}
use Rattle.seize_alone.specs.Reclaiming.{AllGoneHeld, in_turn}
use Rattle.seize_alone.proofs.Below.{twice_below}
use Rattle.seize_alone.proofs.Orderly.{orderly_held}
use Rattle.seize_alone.proofs.Reclaiming.{reclaims_in_turn}

pub forgotten : {T : Type 0} (code : T → Gv) (m : ℕ) (st : ModelState T ℕ) (names : List (ℕ × T)) (kinds : List (ℕ × ℕ)) (n : Name) (seen : List Entry) → Holds code (with_gone_below m st) names kinds n seen → Holds code st names kinds n seen
forgotten {T} code m st names kinds n seen holds =
    record { gone = holds.gone + m; all = subst (λ (now : ModelState T ℕ). HoldsAll code now names kinds n seen) (twice_below holds.gone m st) holds.all }

pub all_gone_held : {T : Type 0} (code : T → Gv) (puts : ℕ → T → List T) (weight : T → ℕ) → AllGoneHeld code puts weight
all_gone_held {T} code puts weight st names names' kinds kinds' n seen seen' legal distinct holds later =
    let is = reclaims_in_turn puts weight st (orderly_held code st names kinds n seen legal distinct holds) in (
      forgotten code (length (in_turn st).0.retired) _ names' kinds' n seen' (subst (λ (now : ModelState T ℕ). Holds code now names' kinds' n seen') is.2 later),
      is.0,
    )
