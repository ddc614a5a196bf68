-- A call of a slot in the place of a reservation, made where its pass is alone, with what its reclaimer had and what a watch was told.
use Rattle.std.proofs.Common.{◌≡◌, ℕ, List, refl, sym, subst, ◌∙◌}
use base.Growing.{prefix_trans}
use base.Stored.{Gv}
use mathlib.Core.List.{IsPrefix}
use Rattle.seize_book.specs.Book.{IsLegalList}
use Rattle.seize_book.specs.Entry.{Entry}
use Rattle.seize_book.specs.Passes.{IsSamePass}
use Rattle.seize_book.specs.Tokens.{IsSole, Name, start}
use Rattle.seize_book.specs.declared.book.pass.Pass.{Pass}
use Rattle.seize_words.specs.Joined.{words_book}
use Rattle.seize_words.specs.declared.words.Words.{Words}
use Rattle.seize_calls.specs.Handing.{Had}
use Rattle.seize_calls.specs.Slots.{CallsWith, IsOfWords, IsPassOf, seen_book, its_number}
use Rattle.seize_calls.specs.declared.slot.Slot.{Slot}
use Rattle.seize_alone.specs.Gone.{PutAs}
use Rattle.seize_parts.specs.Places.{CallsSlot, IsOnly, IsUnmoved}
use Rattle.seize_parts.specs.Reservations.{IsUnit, its_label, place_label}
use Rattle.seize_parts.specs.declared.alone.place.Unit.{Unit}
use Rattle.seize_parts.specs.Told.{HasTold}
use Rattle.seize_parts.specs.declared.reservation.Reservation.{Reservation}
use Rattle.seize_parts.proofs.Placed.{label_family, label_most, label_number, still_for}

-- nothing was done
pub still_none : (pass : Pass) → IsUnmoved pass pass
still_none pass = record { same = (refl, refl, refl); alone = λ _. refl }

-- it is alone still
pub sole_still : {pass pass' : Pass} → IsUnmoved pass pass' → IsSole pass.id → IsSole pass'.id
sole_still still sole = subst IsSole (sym still.same.1) sole

-- what the pass has seen is a legal list then, since it is what the slot has seen
pub legal_then : {T : Type 0} (words : Words T) (slot slot' : Slot T) (pass pass' : Pass) (Does : Pass → Type 0) (calls : CallsWith slot pass slot' pass' Does) → IsOfWords words slot' → IsPassOf words pass → IsSamePass calls.ready pass'
    → IsLegalList (start pass'.name) pass'.seen
legal_then words slot slot' pass pass' Does calls of for same =
    subst (λ (t : Name × List Entry). IsLegalList (start t.0) t.1) (λ j. ((of.book ∙ for.0 ∙ sym calls.prepares.same.0 ∙ sym same.0) j, calls.seen j)) of.knows.legal

module _ {T Seen : Type 0} (code : T → Gv) (puts : ℕ → T → List T) (told : Seen → T → Seen) (words : Words T) (r : Reservation T) (pass : Pass) (r' : Reservation T) (pass' : Pass) (seen seen' : Seen)
    (Does : Slot T → Pass → Slot T → Pass → Had → Type 0) where
  pub called : (slot : Slot T) (ready : Pass) (had : Had) (Did : Pass → Type 0) → its_number slot ≡ its_number r.slot → IsUnmoved pass ready → IsSole pass.id → IsPassOf words pass → IsOfWords words r'.slot → Does slot ready r'.slot pass' had
      → (calls : CallsWith slot ready r'.slot pass' Did) → IsSamePass calls.ready pass' → IsPrefix calls.ready.seen pass'.seen → PutAs code puts had → HasTold code told seen seen' had → CallsSlot code puts told r pass r' pass' seen seen' Does
  called slot ready had Did its still sole for of does calls same grows put tells = record {
    same = (same.0 ∙ calls.prepares.same.0 ∙ still.same.0, same.1 ∙ calls.prepares.same.1 ∙ still.same.1, same.2 ∙ calls.prepares.same.2 ∙ still.same.2);
    grows = subst (λ (x : List Entry). IsPrefix x pass'.seen) (still.alone sole) (prefix_trans ready.seen calls.ready.seen pass'.seen calls.prepares.grows.0 grows);
    slot = slot;
    ready = ready;
    its = its;
    still = still;
    had = had;
    does = does;
    legal = legal_then words slot r'.slot ready pass' Did calls of (still_for words pass ready for still.same) same;
    put = put;
    tells = tells;
  }

-- What lies in a place, by its label: a reservation for one guard.

pub only_there : {T : Type 0} (words : Words T) (s : ℕ) (pass : Pass) (r : Reservation T) → its_label r ≡ place_label (words_book words) s 1 → IsPassOf words pass → IsSole pass.id → IsOnly words r pass × (its_number r.slot ≡ s)
only_there words s pass r at for sole =
    let n = seen_book r.slot in let m = words_book words in let t = its_number r.slot in ((label_family n m t s r.most 1 at, label_most n m t s r.most 1 at, for, sole), label_number n m t s r.most 1 at)

-- and the unit of a place is of the slot that lies there
pub unit_there : (n : Name) (s t : ℕ) (unit : Unit) → unit.seen.name ≡ n → unit.number ≡ s → t ≡ s → IsUnit n t unit.unit unit.seen
unit_there n s t unit book number same = subst (λ (k : Name × ℕ). IsUnit k.0 k.1 unit.unit unit.seen) (λ j. (book j, (number ∙ sym same) j)) (unit.its, unit.known)
