-- What a porter owns that isn't at home, and what a `&` to it is. It has the whole token of a lifetime of its own, a period, and an
-- invariant with a row for each pass that was lent in this period; a `&` to it is a share of that token. So whoever has the porter alone
-- may end the period, and has all tickets back then, whatever became of the passes.
--     the_ticket n       the ticket of a pass that isn't the first
--     period_number n j  the number of a period's invariant, counted from the book's, so that both may be open at once
--     row_has            a ticket that is being lent left a share of the period; one that was lent is there as the lender's right
--     period μ δ         what stands in the invariant: what the porter has, with one more out for each row; the rows before that have keys
--     lending, porter_has      what a porter that isn't at home owns;  and one wherever it is
--     lending_shown, porter_shares     what a `&` to it is;  one that is at home lends nothing
use Rattle.std.specs.Prelude.{ℕ, suc, ◌+◌, Bool, true, false, List, [], ◌∷◌, length}
use base.Before.{before}
use base.Fml.{Lft, Share, Fml, ffalse, ftrue, fsep, fex, fdead, flft, flent, fnamed}
use base.Fraction.{full_share}
use base.SetCodes.{coded_share}
use base.Share.{three_quarters}
use Rattle.seize_book.specs.Entry.{Entry, entry_coded}
use Rattle.seize_book.specs.Ledger.{piece, reached, roster}
use Rattle.seize_book.specs.Tokens.{Name, gate_gives, knows, porter_owns}

abbrev pub the_ticket : Name → Fml
the_ticket n = gate_gives n.gate 1 []

abbrev pub period_number : Name → ℕ → ℕ
period_number n j = suc (n.number + j)

module _ (n : Name) (seen : List Entry) where
  module _ (μ : Lft) where
    abbrev pub row_has : List Share → Fml
    row_has [] = flent μ (the_ticket n)
    row_has (r ∷ rs) = flft μ r

    abbrev pub rows_have : List (List Share) → Fml
    rows_have [] = ftrue
    rows_have (rs ∷ rows) = fsep (row_has rs) (rows_have rows)

    -- row 0 is empty for as long as the period lasts
    abbrev pub side : List (List Share) → Fml
    side [] = ffalse
    side ([] ∷ rows) = fsep (rows_have rows) (porter_owns n false (length rows) seen)
    side ((r ∷ rs) ∷ rows) = fdead μ

    abbrev pub period : ℕ → Fml
    period δ = fex (List (List Share)) (λ all. fsep (roster coded_share δ 0 all) (side all))

  abbrev pub known : Fml
  known = fsep (knows n) (reached entry_coded n.log seen)

  -- its period, the invariant's number as it is counted from the book's, and the name of the keys
  abbrev pub lending : ℕ × (ℕ × ℕ) → Fml
  lending t =
      fsep (fnamed (period_number n t.1.0) (period (t.0 ∷ []) t.1.1))
      (fsep (piece coded_share t.1.1 0 three_quarters []) (fsep (flft (t.0 ∷ []) full_share) known))

  abbrev pub lending_shown : Lft → ℕ × (ℕ × ℕ) → Fml
  lending_shown κ t = fsep (before κ (t.0 ∷ [])) (fsep (fnamed (period_number n t.1.0) (period (t.0 ∷ []) t.1.1)) known)

abbrev pub porter_has : Name → Bool → List Entry → Fml
porter_has n true seen = porter_owns n true 0 seen
porter_has n false seen = fex (ℕ × (ℕ × ℕ)) (lending n seen)

abbrev pub porter_shares : Name → Bool → List Entry → Lft → Fml
porter_shares n true seen κ = ftrue
porter_shares n false seen κ = fex (ℕ × (ℕ × ℕ)) (lending_shown n seen κ)
