use Rattle.std.proofs.Common.{◌≡◌, ℕ, List, sym, ap, ◌∙◌}
use denote.RawPtr.{Ptr}
use Rattle.seize_store.specs.RowTokens.{entry_of, place_in, row_of}
use Rattle.seize_store.specs.Titled.{title_place}
use Rattle.seize_store.specs.declared.row_token.Title.{Title}
use Rattle.seize_store.proofs.spot.Spot.apart.Goals as goal

-- one number lies in one row
same_row : (s t : Title) → s.number ≡ t.number → s.known.row ≡ t.known.row
same_row s t e = sym s.placed.lies ∙ (ap row_of e ∙ t.placed.lies)

-- and, in one list of chunks, at one place
same_place : (s t : Title) → s.number ≡ t.number → s.known.chunks ≡ t.known.chunks → title_place s ≡ title_place t
same_place s t e p = ap (λ (ps : List (Ptr × ℕ)). place_in ps (entry_of s.number)) p ∙ ap (λ (k : ℕ). place_in t.known.chunks (entry_of k)) e

-- src/spot.rt:51:9
pub agree-requires : goal.agree-requires
agree-requires g c = (c.requires, same_row c.args.self.title c.args.other.title c.if-title-other.true)

-- src/spot.rt:52:9
pub unreachable-requires : goal.unreachable-requires
unreachable-requires g c = let s = c.args.self in let t = c.args.other in
    let at = λ (q : Ptr × ℕ). q.0 in
    c.differ-out.ensures.2 (sym (ap at s.titled) ∙ (same_place s.title t.title c.if-title-other.true c.agree.ensures ∙ ap at t.titled))
