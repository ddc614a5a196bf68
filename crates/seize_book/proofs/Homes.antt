-- Homes: values with a given home, and what an event that leaves a home alone does to its values.
use Rattle.std.proofs.Common.{◌≡◌, ℕ, ◌+◌, ◌*◌, ◌/◌, ◌^◌, ◌<◌, ◌≤◌, false, ◌==◌, List, [], ◌∷◌, Option, Some, None, refl, sym, ap, ◌∙◌, arith}
use Rattle.std.specs.List.{list_any}
use Rattle.std.proofs.lemmas.Bool.{true≢false, or_from, or_parts}
use Rattle.seize_machine.specs.Machine.State.{State, link_at, has}
use Rattle.seize_machine.specs.Machine.Event.{Event, Begin, Hand, ExchangeLink}
use Rattle.seize_machine.specs.Machine.Next.{new_link}
use Rattle.seize_machine.specs.Machine.Frames.{is_number, changes_value}
use Rattle.seize_machine.specs.declared.machine.event.Job.TheVariants.{Retire}
use Rattle.seize_book.specs.Homes.{home_of, is_home, changes_home}
use Rattle.seize_table.specs.Pairs.{left_of, pair, right_of}
use Rattle.seize_table.proofs.Pairs.{left_pair, past, right_pair}
use Rattle.seize_book.specs.Blocks.{block_number}
use Rattle.seize_book.specs.Loans.{beside_of, cell_of, loan_of, place_of}
use Rattle.seize_book.proofs.Lists.{equal, unequal}

-- each home has values with any block's number, any place, any cell and anything that is lent with them, past any bound
pub another_with : (k place carried cell p bound : ℕ) → p < 2 ^ 64
    → (v : ℕ) × (home_of v ≡ k) × (block_number v ≡ p) × (bound ≤ v) × (place_of v ≡ place) × (loan_of v ≡ carried) × (cell_of v ≡ cell)
another_with k place carried cell p bound small =
    let inner : ℕ = pair cell bound in let turn : ℕ = pair carried inner in let rest : ℕ = pair place turn in let w : ℕ = pair k rest in let v : ℕ = w * 2 ^ 64 + p in
    let above : v / 2 ^ 64 ≡ w = omega (arith, small) in
    let least : bound ≤ inner = past cell bound in let last : inner ≤ turn = past carried inner in let middle : turn ≤ rest = past place turn in let first : rest ≤ w = past k rest in
    let its_rest : beside_of v ≡ rest = ap right_of above ∙ right_pair k rest in (
      v,
      ap left_of above ∙ left_pair k rest,
      omega (arith, small),
      omega (arith, least, last, middle, first),
      ap left_of its_rest ∙ left_pair place turn,
      ap (λ (r : ℕ). left_of (right_of r)) its_rest ∙ (ap left_of (right_pair place turn) ∙ left_pair carried inner),
      ap (λ (r : ℕ). left_of (right_of (right_of r))) its_rest ∙ (ap (λ (r : ℕ). left_of (right_of r)) (right_pair place turn) ∙ (ap left_of (right_pair carried inner) ∙ left_pair cell bound)),
    )

-- what changes nothing of a home changes nothing of its values

other : (v w : ℕ) → (home_of w == home_of v) ≡ false → (w == v) ≡ false
other v w out = unequal w v (λ e. true≢false (sym (equal (home_of w) (home_of v) (ap home_of e)) ∙ out))

others : (v : ℕ) (values : List ℕ) → list_any (λ w. home_of w == home_of v) values ≡ false → has v values ≡ false
others v [] out = refl
others v (w ∷ values) out = let each = or_parts (home_of w == home_of v) (list_any (λ w. home_of w == home_of v) values) out in
    or_from (w == v) (has v values) (other v w each.0) (others v values each.1)

other_held : (v : ℕ) (held : Option ℕ) → is_home (home_of v) held ≡ false → is_number v held ≡ false
other_held v None out = refl
other_held v (Some w) out = other v w out

pub home_value : (st : State) (v : ℕ) (event : Event) → changes_home st (home_of v) event ≡ false → changes_value st v event ≡ false
home_value st v (Begin s (Retire w)) out = other v w out
home_value st v (Hand s puts) out = others v puts out
home_value st v (ExchangeLink s l exchange) out = let each = or_parts (is_home (home_of v) (new_link exchange)) (is_home (home_of v) (link_at st l)) out in
    or_from (is_number v (new_link exchange)) (is_number v (link_at st l)) (other_held v (new_link exchange) each.0) (other_held v (link_at st l) each.1)
home_value st v event out = refl
