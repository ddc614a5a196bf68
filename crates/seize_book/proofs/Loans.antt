-- Loans of values that stand in links: who finds a value is one of its readers for good. Assumes `Logic`.
use Rattle.std.proofs.Common.{◌≡◌, ℕ, zero, suc, ◌≤◌, true, false, List, [], ◌∷◌, ◌++◌, length, take, slice_get, Some, refl, sym, ◌∙◌, ap, subst, arith}
use Rattle.std.proofs.lemmas.Option.{slice_get_within}
use mathlib.Core.List.{IsPrefix}
use seplogic.Ra.Ura.{Ura}
use base.Fml.{Fml}
use base.Logic.{SProp, ent, sep}
use types.Growing.{at_least_dup}
use types.Kit.{‵, ◌⊛◌, ◌$◌, ◌∵◌, !, qed, move, split, fsplit, fjoin, fpick, fpack, done, use1}
use types.Logic.{Logic, sem}
use Rattle.seize_machine.specs.Machine.State.{State, has}
use Rattle.seize_machine.specs.Machine.Event.{Event}
use Rattle.seize_machine.specs.Machine.Next.{next}
use Rattle.seize_machine.specs.Machine.History.{IsReached, Moment, Found, done_by, is_link_event, linked_value, or_illegal}
use Rattle.seize_machine.specs.declared.machine.event.Answer.{Answer}
use Rattle.seize_machine.proofs.Facts.{Step, linked_named, reached_next, some_is, step_of}
use Rattle.seize_book.specs.Entry.{Entry, entry_coded, Made, Used, Deed, deeds, timed_deed}
use Rattle.seize_book.specs.Book.{moments, after, IsLegalList, Does}
use Rattle.seize_book.specs.Laws.{Reader, life, life_from}
use Rattle.seize_book.specs.Ledger.{logs, reached}
use Rattle.seize_book.specs.Tokens.{Name, pass_at, pass_holds}
use Rattle.seize_book.proofs.Handed.{get_last, moment, moments_push}
use Rattle.seize_book.proofs.Lists.{deeds_append}
use Rattle.seize_book.proofs.Lives.{legal_first}
use Rattle.seize_book.proofs.Sound.{named_later}

moments_long : (st : State) (log : List Entry) → length (moments st log) ≡ length (deeds log)
moments_long st [] = refl
moments_long st (Made e ∷ log) = ap suc (moments_long (done_by next st (timed_deed e)).0 log)
moments_long st (Used u ∷ log) = moments_long st log

-- A reader of a list is one of each longer one.

get_more : {X : Type 0} (xs ys : List X) (i : ℕ) (x : X) → slice_get xs i ≡ Some x → slice_get (xs ++ ys) i ≡ Some x
get_more [] ys i x h = absurd (cc)
get_more (z ∷ xs) ys zero x h = h
get_more (z ∷ xs) ys (suc i) x h = get_more xs ys i x h

take_more : {X : Type 0} (xs ys : List X) (i : ℕ) → i ≤ length xs → take i (xs ++ ys) ≡ take i xs
take_more xs ys zero le = refl
take_more [] ys (suc i) le = absurd (omega (arith, le))
take_more (x ∷ xs) ys (suc i) le = ap (λ (l : List _). x ∷ l) (take_more xs ys i (omega (arith, le)))

take_whole : {X : Type 0} (xs : List X) → take (length xs) xs ≡ xs
take_whole [] = refl
take_whole (x ∷ xs) = ap (λ (l : List _). x ∷ l) (take_whole xs)

moments_append : (st : State) (log more : List Entry) → moments st (log ++ more) ≡ moments st log ++ moments (after st log) more
moments_append st [] more = refl
moments_append st (Made e ∷ log) more = ap (λ (ms : List Moment). moment st e ∷ ms) (moments_append (done_by next st (timed_deed e)).0 log more)
moments_append st (Used u ∷ log) more = moments_append st log more

pub reader_later : (st : State) (log log' : List Entry) (v a : ℕ) → IsPrefix log log' → Reader st log v a → Reader st log' v a
reader_later st log log' v a grows r = subst (λ (l : List Entry). Reader st l v a) grows.1 (r.0, r.1, (f.0, still, f.2, f.3), r.3 ∙ same)
  where
    more : List Entry
    more = grows.0

    f : Found (moments st log) r.1 v r.0
    f = r.2

    still : slice_get (moments st (log ++ more)) r.0 ≡ Some f.0
    still = ap (λ (ms : List Moment). slice_get ms r.0) (moments_append st log more) ∙ get_more (moments st log) (moments (after st log) more) r.0 f.0 f.1

    within : r.0 ≤ length (deeds log)
    within = let below = slice_get_within (moments st log) r.0 f.0 f.1 in let n = moments_long st log in omega (arith, below, n)

    same : life_from 0 r.1 (take r.0 (deeds log)) ≡ life_from 0 r.1 (take r.0 (deeds (log ++ more)))
    same = ap (life_from 0 r.1) (sym (ap (take r.0) (deeds_append log more) ∙ take_more (deeds log) (deeds more) r.0 within))

-- A value that was found in a link was named then.

found_first : (s v size : ℕ) (st : State) (event : Event) (d : State × Answer) → IsReached st → Step size st event d → is_link_event s event ≡ true → linked_value d.1 ≡ Some v → has v st.named ≡ true
found_first s v size st event _ r (Step.read i l can) own is = (linked_named st r l v is).0
found_first s v size st event _ r (Step.exchanged i l exchange new can fresh exact) own is = (linked_named st r l v is).0
found_first s v size st event _ r (Step.compared i l exchange can exact) own is = (linked_named st r l v is).0
found_first s v size st event _ r _ own is = absurd (cc)

pub found_named : (st : State) (log : List Entry) (s v i : ℕ) → IsReached st → IsLegalList st log → Found (moments st log) s v i → has v (after st log).named ≡ true
found_named st [] s v i r legal f = absurd (let none = f.1 in cc)
found_named st (Used u ∷ log) s v i r legal f = found_named st log s v i r legal f
found_named st (Made e ∷ log) s v zero r legal f =
    let w = legal_first st e log legal in let d : State × Answer = w.0 in
    let m : moment st e ≡ f.0 = some_is _ _ f.1 in
    let own : is_link_event s e.event ≡ true = ap (λ (x : Moment). is_link_event s x.timed.event) m ∙ f.2 in
    let value : linked_value d.1 ≡ Some v = ap (λ (x : State × Answer). linked_value x.1) (sym w.2) ∙ (ap (λ (x : Moment). linked_value x.answer) m ∙ f.3) in
    let step : Step e.size st e.event d = step_of e.size st e.event d w.1 in
    named_later st [] (Made e ∷ log) v (Made e ∷ log, refl) legal (found_first s v e.size st e.event d r step own value)
found_named st (Made e ∷ log) s v (suc i) r legal f =
    let w = legal_first st e log legal in let d : State × Answer = w.0 in
    let r' : IsReached d.0 = reached_next st (timed_deed e) d r w.1 in
    let f' : Found (moments d.0 log) s v i = subst (λ (x : State × Answer). Found (moments x.0 log) s v i) w.2 (f.0, f.1, f.2, f.3) in
    subst (λ (x : State × Answer). has v (after x.0 log).named ≡ true) (sym w.2) (found_named d.0 log s v i r' w.3 f')

-- so of a value that was never named there are no readers
pub unnamed_unread : (st : State) (log log' : List Entry) (v a : ℕ) → IsReached st → IsLegalList st log' → IsPrefix log log' → has v (after st log').named ≡ false → Reader st log v a → ⊥
unnamed_unread st log log' v a r legal grows unnamed reader_ =
    let later = reader_later st log log' v a grows reader_ in
    let named = found_named st log' later.1 v later.0 r legal later.2 in let no : true ≡ false = sym named ∙ unnamed in cc

-- who finds a value by a legal event is a reader
pub found_now : (st : State) (log : List Entry) (e : Deed) (d : State × Answer) (s w : ℕ) → Does st log (Made e) d → is_link_event s e.event ≡ true → linked_value d.1 ≡ Some w → Reader st (log ++ Made e ∷ []) w (life s log)
found_now st log e d s w does own is = (length (deeds log), s, (moment (after st log) e, last, own, answered), alive)
  where
    last : slice_get (moments st (log ++ Made e ∷ [])) (length (deeds log)) ≡ Some (moment (after st log) e)
    last = ap (λ (ms : List Moment). slice_get ms (length (deeds log))) (moments_push st log e)
        ∙ (ap (λ (n : ℕ). slice_get (moments st log ++ moment (after st log) e ∷ []) n) (sym (moments_long st log)) ∙ get_last (moments st log) (moment (after st log) e))

    answered : linked_value (done_by next (after st log) (timed_deed e)).1 ≡ Some w
    answered = ap (λ o. linked_value (or_illegal (after st log) o).1) does ∙ is

    alive : life s log ≡ life_from 0 s (take (length (deeds log)) (deeds (log ++ Made e ∷ [])))
    alive = ap (life_from 0 s) (sym (ap (take (length (deeds log))) (deeds_append log (Made e ∷ [])) ∙ (take_more (deeds log) (deeds (Made e ∷ [])) (length (deeds log)) (omega arith) ∙ take_whole (deeds log))))

-- As resources.
module _ {M : Type 1} {𝓤 : Ura M} (𝓛 : Logic 𝓤) (n : Name) where
  open 𝓛 use {H, A}

  abbrev Pr : Type 2
  Pr = SProp 𝓤

  abbrev ◌⊢◌ : Pr → Pr → Type 1
  P ⊢ Q = ent 𝓤 P Q

  abbrev ◌∗◌ : Pr → Pr → Pr
  P ∗ Q = sep 𝓤 P Q

  abbrev ⟦◌⟧ : Fml → Pr
  ⟦ P ⟧ = sem 𝓛 P

  infix 26 ◌⊢◌
  infixr 35 ◌∗◌
  abbrev had : List Entry → Fml
  had log = reached entry_coded n.log log

  -- what a pass has seen was reached
  pub pass_shows : (p : ℕ) (log : List Entry) → ⟦ pass_holds n p log ⟧ ⊢ ⟦ pass_holds n p log ⟧ ∗ ⟦ had log ⟧
  pass_shows p log = qed 𝓛 (‵ (pass_holds n p log) ∷ []) ∵ fpick ! (λ own. fsplit ! $ move ! (1 ∷ []) $ fsplit ! $ use1 𝓛 (‵ (had log) ⊛ ‵ (had log)) (at_least_dup (logs entry_coded) 𝓛 n.log log) $ split ! $
      -- [the list, twice; the rest; its key]
      move ! (0 ∷ 2 ∷ []) $ fjoin ! $ move ! (2 ∷ 0 ∷ []) $ fjoin ! $ fpack ! (List Entry) (pass_at n p log) own $ done !)
