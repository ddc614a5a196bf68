-- One permit covers what an exchange of a link makes.
use Rattle.std.proofs.Common.{◌≡◌, ℕ, zero, suc, Bool, true, ◌||◌, List, [], ◌∷◌, Option, refl, sym, ap, subst}
use Rattle.seize_machine.specs.Machine.State.{has}
use Rattle.seize_book.specs.Pairs.{AreCovered, Admits, IsCovered, unless_first, content_number, pair_if, pair_number}
use Rattle.seize_book.proofs.Facts.{equal}
use Rattle.seize_words.specs.Links.{IsPairAllowed}

covered : (w l : ℕ) (held new : Option ℕ) → Admits w (content_number held) → IsCovered (pair_number l w (content_number new) ∷ []) (record { link = l; was = content_number held; next = content_number new })
covered w l held new covers = let k : ℕ = pair_number l w (content_number new) in (w, covers, ap (λ (b : Bool). b || has k []) (equal k k refl))

-- whatever pass makes it
pub pair_allowed : (w l p : ℕ) (held new : Option ℕ) (codes : List ℕ) → codes ≡ pair_number l w (content_number new) ∷ [] → Admits w (content_number held) → IsPairAllowed codes p l held new
pair_allowed w l zero held new codes is covers = tt
pair_allowed w l (suc p) held new codes is covers = subst (λ (ks : List ℕ). AreCovered ks (unless_first (suc p) (pair_if true l held new))) (sym is) (covered w l held new covers, tt)
