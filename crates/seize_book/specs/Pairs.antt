-- The rule of links: which content may follow which in a link. A pair is that of a won exchange: the link, and the numbers of the codes
-- that are lent with what it held and with what went in. The names of values say these, so an entry says its pair by itself. Of each pair
-- that another pass than the first one made, the list has a permit, in a list of its own (see `Permits`): what holds of each permit there
-- is said where that list is made.
--     Pair                   the link, and what it held and what went in, by the numbers of their codes: 0 is that of no value
--     pairs_by st e          the pair that the entry makes in this state, if it makes one; pairs_in st log     those of a list, in order
--     MakesNoPair event      an event that exchanges no link makes none, in any state
--     pair_code l w b        the code of a permit: in link l the content b may follow those that w says: 0 each, and suc a this one
--     Admits w a             w says a;  IsCovered ks t    one of the numbers of permits is for the pair;  AreCovered ks ts    so for each
--     IsPairOf keeps g       g is the code of a permit that the rule allows;  AllKeep keeps ts   the rule holds of each of these pairs
--     covered γ t            a permit in the list γ is for the pair, for good;  all_covered γ ts     so for each of these
use Rattle.std.specs.Prelude.{◌≡◌, ℕ, zero, suc, Bool, true, if◌then◌else◌, List, [], ◌∷◌, ◌++◌, Option, Some, None, ◌⊎◌}
use base.Stored.{Gv, gnum, gcons}
use base.Fml.{Fml, ftrue, fsep, fex}
use Rattle.seize_machine.specs.Machine.State.{State, has, link_at}
use Rattle.seize_machine.specs.Machine.Event.{Event, ExchangeLink}
use Rattle.seize_machine.specs.Machine.Next.{is_stored, new_link}
use Rattle.seize_machine.specs.Machine.History.{or_illegal}
use Rattle.seize_book.specs.After.{outcome}
use Rattle.seize_book.specs.Entry.{Entry, Made, Used}
use Rattle.seize_book.specs.Ledger.{fact}
use Rattle.seize_book.specs.Loans.{loan_number, loan_of}
use Rattle.seize_book.specs.Permits.{permit}

pub record Pair : Type 0 where
  pub link : ℕ
  pub was : ℕ
  pub next : ℕ

abbrev pub content_number : Option ℕ → ℕ
content_number None = 0
content_number (Some v) = loan_of v

-- the first pass is in one caller's hands: what it does to links is not bound
abbrev pub unless_first : ℕ → List Pair → List Pair
unless_first zero ps = []
unless_first (suc p) ps = ps

abbrev pub pair_if : Bool → ℕ → Option ℕ → Option ℕ → List Pair
pair_if b l held new = if b then record { link = l; was = content_number held; next = content_number new } ∷ [] else []

abbrev pub pairs_of : State → ℕ → Event → List Pair
pairs_of st p (ExchangeLink s l exchange) =
    unless_first p (pair_if (is_stored (link_at st l) exchange) l (link_at st l) (new_link exchange))
pairs_of st p _ = []

abbrev pub pairs_by : State → Entry → List Pair
pairs_by st (Made d) = pairs_of st d.pass d.event
pairs_by st (Used u) = []

abbrev pub pairs_in : State → List Entry → List Pair
pairs_in st [] = []
pairs_in st (e ∷ log) = pairs_by st e ++ pairs_in (or_illegal st (outcome st e)).0 log

abbrev pub MakesNoPair : Event → Type 0
MakesNoPair event = (st : State) → (p : ℕ) → pairs_of st p event ≡ []

abbrev pub pair_code : ℕ → ℕ → ℕ → Gv
pair_code l w b = gcons (gnum l) (gcons (gnum w) (gnum b))

abbrev pub pair_number : ℕ → ℕ → ℕ → ℕ
pair_number l w b = loan_number (pair_code l w b)

abbrev pub Admits : ℕ → ℕ → Type 0
Admits w a = (w ≡ 0) ⊎ (w ≡ suc a)

abbrev pub IsCovered : List ℕ → Pair → Type 0
IsCovered ks t = (w : ℕ) × Admits w t.was × (has (pair_number t.link w t.next) ks ≡ true)

abbrev pub AreCovered : List ℕ → List Pair → Type 0
AreCovered ks [] = Unit {0}
AreCovered ks (t ∷ ts) = IsCovered ks t × AreCovered ks ts

abbrev pub covered_by : ℕ → Pair → ℕ → Fml
covered_by γ t w = fsep (fact (Admits w t.was)) (permit γ (pair_number t.link w t.next))

abbrev pub covered : ℕ → Pair → Fml
covered γ t = fex ℕ (covered_by γ t)

abbrev pub all_covered : ℕ → List Pair → Fml
all_covered γ [] = ftrue
all_covered γ (t ∷ ts) = fsep (covered γ t) (all_covered γ ts)

-- A rule: what holds of each code of the list of pairs, and so of each pair, by the numbers of the codes before and after.
module _ (keeps : ℕ → ℕ → ℕ → Type 0) where
  abbrev pub IsPairOf : Gv → Type 0
  IsPairOf g = (l : ℕ) × (w : ℕ) × (b : ℕ) × (pair_code l w b ≡ g) × ((a : ℕ) → Admits w a → keeps l a b)

  abbrev pub AllKeep : List Pair → Type 0
  AllKeep [] = Unit {0}
  AllKeep (t ∷ ts) = keeps t.link t.was t.next × AllKeep ts
