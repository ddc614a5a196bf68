-- What the rule of versions carries on: a number that a cell has reached it has reached from then on. `r` is a pass that looked at the list.
use Rattle.std.proofs.Common.{◌<◌, ◌≤◌, ℕ, suc, zero, List, [], length, Option, append-nil, refl, sym, subst, arith}
use base.Stored.{Coded}
use mathlib.Core.List.{IsPrefix}
use Rattle.seize.specs.Answer.{Answer}
use Rattle.seize.specs.Machine.Event.{Event}
use Rattle.seize.specs.Machine.History.{Moment}
use Rattle.seize.specs.Machine.State.{link_at}
use Rattle.seize.specs.Makes.{Makes}
use Rattle.seize.specs.Moments.{StandsSince}
use Rattle.seize.specs.Rules.{HoldsOf, KeepsSince, Says}
use Rattle.seize.proofs.Facts.{held_at_last, held_from, held_through, held_throughout, holds_said, kept_within, since_seen}
use Rattle.seize_book.specs.Book.{after, moments}
use Rattle.seize_book.specs.Entry.{Entry}
use Rattle.seize_book.specs.Homesteads.{state_seen}
use Rattle.seize_book.specs.Tokens.{Name, start}
use Rattle.seize_book.specs.declared.book.pass.Pass.{Pass}
use Rattle.seize_versions.specs.Numbers.{IsOlder, number_of}
use Rattle.seize_versions.specs.Reached.{IsNoOlder}
use Rattle.seize_versions.specs.declared.version.Version.{Version}

-- what follows a version that is no older is no older
pub carries : {T : Type 0} (n : ℕ) (x y : Option (Version T)) → IsNoOlder n x → IsOlder x y → IsNoOlder n y
carries n x y one two = omega (arith, one, two)

-- where nothing is known of number 0
by_size : (n k : ℕ) → (0 < n → n ≤ k) → n ≤ k
by_size zero k known = omega arith
by_size (suc n) k known = known (omega arith)

module _ {T : Type 0} (coded : Coded (Version T)) {from : List Entry} {r : Pass} (kept : KeepsSince coded.code (λ _ x y. IsOlder x y) from r) (l : ℕ) where
  abbrev Reached : ℕ → Pass → Type 0
  Reached n pass = IsPrefix from pass.seen × (0 < n → HoldsOf coded.code (IsNoOlder n) (link_at (state_seen pass) l))

  module _ {p : Pass} {es : List (Event × Answer)} (made : Makes p r es) where
    module _ (n : ℕ) (reached : Reached n p) where
      begun : 0 < n → HoldsOf coded.code (IsNoOlder n) (link_at (after (start r.name) p.seen) l)
      begun some = subst (λ (m : Name). HoldsOf coded.code (IsNoOlder n) (link_at (after (start m) p.seen) l)) (sym made.same.0) (reached.1 some)

      later : KeepsSince coded.code (λ _ x y. IsOlder x y) p.seen r
      later = kept_within kept p.seen r refl reached.0 made.grows ([], append-nil r.seen)

      -- **what a pass knew of it holds when it looks again,**
      pub reached_still : Reached n r
      reached_still = (kept.goes_on, λ some. held_throughout later l (IsNoOlder n) (carries n) (begun some))

      -- **and at each moment until then**
      pub reached_at : (m : Moment) → StandsSince p r m → (x : Option (Version T)) → Says coded.code (link_at m.before l) x → n ≤ number_of x
      reached_at m since x says =
          let begins : length (moments (start r.name) p.seen) ≤ since.0 = subst (λ (m : Name). length (moments (start m) p.seen) ≤ since.0) (sym made.same.0) since.1 in
          by_size n (number_of x) (λ some. holds_said coded (IsNoOlder n) (link_at m.before l) x (held_from later l (IsNoOlder n) (carries n) since.0 m begins since.2 (begun some)) says)

    module _ (known : IsPrefix from p.seen) (m : Moment) (since : StandsSince p r m) where
      begins_there : length (moments (start r.name) from) ≤ since.0
      begins_there = since_seen from p r since.0 made.same.0 known since.1

      -- **What the cell holds after a moment it has reached in the end,**
      pub reached_after : (x : Option (Version T)) → Says coded.code (link_at m.after l) x → Reached (number_of x) r
      reached_after x says = (kept.goes_on, λ some. held_at_last kept l (IsNoOlder (number_of x)) (carries (number_of x)) since.0 m begins_there since.2 (x, says, omega arith))

      -- **and so it is with what it holds before one.**
      pub reached_before : (x : Option (Version T)) → Says coded.code (link_at m.before l) x → Reached (number_of x) r
      reached_before x says =
          let n = number_of x in
          (kept.goes_on, λ some. held_at_last kept l (IsNoOlder n) (carries n) since.0 m begins_there since.2 (held_through kept l (IsNoOlder n) (carries n) since.0 m begins_there since.2 (x, says, omega arith)))
