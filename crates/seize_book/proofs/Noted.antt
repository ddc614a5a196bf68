-- What a key notes changes nothing else of it.
use Rattle.std.proofs.Common.{◌≡◌, List, [], ◌∷◌, refl, ap}
use base.Stored.{Gv}
use Rattle.seize_book.specs.Entry.{Entry}
use Rattle.seize_book.specs.Ledger.{HeldKey}
use Rattle.seize_book.specs.Notes.{with_note}
use Rattle.seize_book.specs.Private.{note_of}

pub same_note : (held : List (HeldKey Entry)) (g : Gv) → g ≡ note_of held → with_note g held ≡ held
same_note [] g is = refl
same_note (h ∷ held) g is = ap (λ (x : Gv). record { kind = h.kind; key = h.key; own = h.own; label = h.label; note = x } ∷ held) is
