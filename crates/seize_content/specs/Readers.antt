-- How readers share the token of a loan's lifetime a: each takes a half of what is left, and leaves it in an escrow of its own, which ends
-- with its activation. Nothing here knows the value's type.
--     LifeShare         the lifetime that a share is of, and the share
--     escrow γ          what is lent for the time of an activation: nothing yet, or the share that was left there for good
--     escrow_deposit a e d     the right to the escrow d.1, which is lent for d.0 and has the share e
--     pool a r ds       the share r of a's token, of which each reader of ds in turn took the right half of what was left
--     all_dead ds       the lifetimes of all of them are over
--     lent_pool γ a g ds    the pool of a loan of the content γ to the readers ds. With no readers it is what `Pool` owns
--     ready γ           the name of an escrow that is empty
--     reader_share γ a g ε e   what a reader has of that loan after its step: its share e, still to be laid into the escrow ε
use Rattle.core.specs.Prelude.{ℕ, List, [], ◌∷◌}
use mathlib.Core.Option.{Option, none, some}
use base.Fraction.{full_share}
use base.Share
use base.Share.{quarter}
use base.Stored.{Gv, coded_ℕ}
use base.SetCodes.{coded, pair}
use base.Algebras.{shares}
use base.Fml.{Lft, Share, Fml, ftrue, fsep, fex, flft, fdead, flent}
use base.Growing.{Order, once, latest, at_least}
use Rattle.seize_content.specs.Contents.{stay}

abbrev pub LifeShare : Type 0
LifeShare = ℕ × Share

abbrev pub pieces : Order (Option LifeShare)
pieces = once (pair (coded coded_ℕ) shares.set_coded)

abbrev pub holds : Option LifeShare → Fml
holds none = ftrue
holds (some t) = flft (t.0 ∷ []) t.1

abbrev pub filled : ℕ → Option LifeShare → Fml
filled γ o = fsep (latest pieces quarter γ o) (holds o)

abbrev pub escrow : ℕ → Fml
escrow γ = fex (Option LifeShare) (filled γ)

abbrev pub escrow_deposit : ℕ → Share → Lft × ℕ → Fml
escrow_deposit a e d = fsep (flent d.0 (escrow d.1)) (at_least pieces d.1 (some (a, e)))

abbrev pub pool : ℕ → Share → List (Lft × ℕ) → Fml
pool a r [] = flft (a ∷ []) r
pool a r (d ∷ ds) = fsep (escrow_deposit a (Share.right r) d) (pool a (Share.left r) ds)

abbrev pub all_dead : List (Lft × ℕ) → Fml
all_dead [] = ftrue
all_dead (d ∷ ds) = fsep (fdead d.0) (all_dead ds)

abbrev pub share_left : Share → List (Lft × ℕ) → Share
share_left r [] = r
share_left r (d ∷ ds) = share_left (Share.left r) ds

abbrev pub lent_pool : ℕ → ℕ → Gv → List (Lft × ℕ) → Fml
lent_pool γ a g ds = fsep (pool a full_share ds) (stay γ a g)

abbrev pub ready : ℕ → Fml
ready γ = latest pieces full_share γ none

abbrev pub reader_share : ℕ → ℕ → Gv → ℕ → Share → Fml
reader_share γ a g ε e = fsep (latest pieces full_share ε (some (a, e))) (fsep (flft (a ∷ []) e) (stay γ a g))
