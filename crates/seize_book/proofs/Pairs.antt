-- Pairs of won exchanges: those of a list to which an entry is added, what a rule of them says of moments, and the permits that there are
-- for them. Assumes `Logic`.
use Rattle.std.proofs.Common.{◌≡◌, ℕ, zero, suc, ◌≤◌, Bool, true, false, ◌||◌, ◌==◌, cond, List, [], ◌∷◌, ◌++◌, length, slice_get, Some, append-nil, append_assoc, arith, refl, sym, ◌∙◌, ap, subst}
use mathlib.Core.List.{cons≢nil, tail-eq_of_cons-eq}
use seplogic.Ra.Ura.{Ura}
use base.Logic.{SProp, ent, sep, ex, guard}
use base.Fml.{Fml, ftrue}
use types.Logic.{Logic, sem}
use types.Kit.{‵, ◌⊛◌, some, given, ◌$◌, ◌∵◌, !, qed, by, move, keep, drop, split, fsplit, fjoin, fpick, fpack, pick, learn, show, check, rewrite, done, use1, use2}
use denote.Steps.{nothing}
use Rattle.seize_machine.specs.Machine.State.{State, has, link_at}
use Rattle.seize_machine.specs.Machine.Event.{Event}
use Rattle.seize_machine.specs.Machine.Frames.{changes_link}
use Rattle.seize_machine.specs.Machine.Next.{is_stored, new_link, next}
use Rattle.seize_machine.specs.Machine.History.{Moment, done_by}
use Rattle.seize_machine.specs.declared.machine.event.Answer.TheVariants.{Done}
use Rattle.seize_machine.specs.declared.machine.event.Exchange.{Exchange}
use Rattle.seize_machine.proofs.Facts.{eq_true, some_is}
use Rattle.seize_book.specs.Book.{after, mine, moments}
use Rattle.seize_book.specs.Entry.{Deed, Entry, Made, Used, timed_deed}
use Rattle.seize_book.specs.Pairs.{AllKeep, content_number, pair_if, pairs_of, AreCovered, Admits, IsCovered, MakesNoPair, Pair, all_covered, covered, covered_by, pair_number, pairs_by, pairs_in}
use Rattle.seize_book.specs.Permits.{all_permitted, permit, permit_if}
use Rattle.seize_book.proofs.Lists.{equal}
use Rattle.seize_book.proofs.Permits.{permit_if_twice}

-- one entry more
pub pairs_push : (st : State) (log : List Entry) (e : Entry) → pairs_in st (log ++ e ∷ []) ≡ pairs_in st log ++ pairs_by (after st log) e
pairs_push st [] e = append-nil (pairs_by st e)
pairs_push st (Made x ∷ log) e =
    let then_ : State = (done_by next st (timed_deed x)).0 in
    ap (λ (more : List Pair). pairs_by st (Made x) ++ more) (pairs_push then_ log e) ∙ sym (append_assoc (pairs_by st (Made x)) (pairs_in then_ log) (pairs_by (after then_ log) e))
pairs_push st (Used u ∷ log) e = pairs_push st log e

-- what is picked after an entry that is picked or not
none_after : {X : Type 0} (b : Bool) (x : X) (xs : List X) → cond b (x ∷ xs) xs ≡ [] → xs ≡ []
none_after true x xs none = absurd (cons≢nil none)
none_after false x xs none = none

same_after : {X : Type 0} (b : Bool) (x : X) (xs ys : List X) → cond b (x ∷ xs) xs ≡ cond b (x ∷ ys) ys → xs ≡ ys
same_after true x xs ys same = tail-eq_of_cons-eq same
same_after false x xs ys same = same

-- Where the first pass made nothing since a beginning of the list, a rule that holds of all its pairs holds of each won exchange since.
module _ (keeps : ℕ → ℕ → ℕ → Type 0) where
  abbrev pub IsMetBy : Moment → Type 0
  IsMetBy m =
      (s l : ℕ) (x : Exchange) → m.timed.event ≡ Event.ExchangeLink s l x → is_stored (link_at m.before l) x ≡ true
      → keeps l (content_number (link_at m.before l)) (content_number (new_link x))

  first_keep : (ts us : List Pair) → AllKeep keeps (ts ++ us) → AllKeep keeps ts
  first_keep [] us all = tt
  first_keep (t ∷ ts) us all = (all.0, first_keep ts us all.1)

  last_keep : (ts us : List Pair) → AllKeep keeps (ts ++ us) → AllKeep keeps us
  last_keep [] us all = all
  last_keep (t ∷ ts) us all = last_keep ts us all.1

  -- an event that another pass made: it is not picked among those of the first
  by_other : {X : Type 0} (p : ℕ) (y : X) (ys : List X) → cond (p == 0) (y ∷ ys) ys ≡ [] → (st : State) (event : Event) → AllKeep keeps (pairs_of st p event)
      → (s l : ℕ) (x : Exchange) → event ≡ Event.ExchangeLink s l x → is_stored (link_at st l) x ≡ true → keeps l (content_number (link_at st l)) (content_number (new_link x))
  by_other zero y ys none st event all s l x is won = absurd (cons≢nil none)
  by_other (suc p) y ys none st event all s l x is won =
      (subst (AllKeep keeps) (λ j. pair_if (won j) l (link_at st l) (new_link x)) (subst (AllKeep keeps) (λ j. pairs_of st (suc p) (is j)) all)).0

  others_meet : (st : State) (log : List Entry) → mine st 0 log ≡ [] → AllKeep keeps (pairs_in st log) → (e : ℕ) (m : Moment) → slice_get (moments st log) e ≡ Some m → IsMetBy m
  others_meet st [] none all e m is = absurd (cc)
  others_meet st (Used u ∷ log) none all e m is = others_meet st log (none_after (u.pass == 0) (Used u, Done) _ none) all e m is
  others_meet st (Made d ∷ log) none all zero m is =
      subst IsMetBy (some_is _ _ is) (by_other d.pass (Made d, (done_by next st (timed_deed d)).1) _ none st d.event (first_keep (pairs_by st (Made d)) _ all))
  others_meet st (Made d ∷ log) none all (suc e) m is =
      let done = done_by next st (timed_deed d) in
      others_meet done.0 log (none_after (d.pass == 0) (Made d, done.1) _ none) (last_keep (pairs_by st (Made d)) _ all) e m is

  pub meet_since : (st : State) (a b : List Entry) → mine st 0 (a ++ b) ≡ mine st 0 a → AllKeep keeps (pairs_in st (a ++ b))
      → (e : ℕ) (m : Moment) → length (moments st a) ≤ e → slice_get (moments st (a ++ b)) e ≡ Some m → IsMetBy m
  meet_since st [] b none all e m since is = others_meet st b none all e m is
  meet_since st (Used u ∷ a) b none all e m since is = meet_since st a b (same_after (u.pass == 0) (Used u, Done) _ _ none) all e m since is
  meet_since st (Made d ∷ a) b none all zero m since is = absurd (omega (arith, since))
  meet_since st (Made d ∷ a) b none all (suc e) m since is =
      let done = done_by next st (timed_deed d) in
      meet_since done.0 a b (same_after (d.pass == 0) (Made d, done.1) _ _ none) (last_keep (pairs_by st (Made d)) _ all) e m (omega (arith, since)) is

-- an event that changes no link makes none, and needs no permit
pub no_pair : (event : Event) → ((l : ℕ) → changes_link l event ≡ false) → MakesNoPair event
no_pair (Event.ExchangeLink s l exchange) none st p = absurd (let x : (l == l) ≡ false = none l in grind arith)
no_pair _ none st p = refl

pub needs_none : (st : State) (d : Deed) → ((l : ℕ) → changes_link l d.event ≡ false) → AreCovered [] (pairs_by st (Made d))
needs_none st d none = subst (AreCovered []) (sym (no_pair d.event none st d.pass)) tt

-- one of the codes that a permit is for covers the pairs that it covers also where there are more
more_covered : (k : ℕ) (ks : List ℕ) (t : Pair) → IsCovered ks t → IsCovered (k ∷ ks) t
more_covered k ks t is = (is.0, is.1, go (k == pair_number t.link is.0 t.next) is.2)
  where
    go : (b : Bool) → has (pair_number t.link is.0 t.next) ks ≡ true → (b || has (pair_number t.link is.0 t.next) ks) ≡ true
    go true h = refl
    go false h = h

all_more : (k : ℕ) (ks : List ℕ) (ts : List Pair) → AreCovered ks ts → AreCovered (k ∷ ks) ts
all_more k ks [] are = tt
all_more k ks (t ∷ ts) are = (more_covered k ks t are.0, all_more k ks ts are.1)

module _ {M : Type 1} {𝓤 : Ura M} (𝓛 : Logic 𝓤) where
  abbrev Pr : Type 2
  Pr = SProp 𝓤

  abbrev ◌⊢◌ : Pr → Pr → Type 1
  P ⊢ Q = ent 𝓤 P Q

  abbrev ◌∗◌ : Pr → Pr → Pr
  P ∗ Q = sep 𝓤 P Q

  abbrev ⟦◌⟧ : Fml → Pr
  ⟦ P ⟧ = sem 𝓛 P

  infix 26 ◌⊢◌
  infixr 35 ◌∗◌
  pub permits_twice : (γ : ℕ) (ks : List ℕ) → ⟦ all_permitted γ ks ⟧ ⊢ ⟦ all_permitted γ ks ⟧ ∗ ⟦ all_permitted γ ks ⟧
  permits_twice γ [] = qed 𝓛 (‵ ftrue ∷ []) ∵ nothing ! $ done !
  permits_twice γ (k ∷ ks) = qed 𝓛 (‵ (all_permitted γ (k ∷ ks)) ∷ []) ∵ fsplit ! $ use1 𝓛 (‵ (permit_if γ k) ⊛ ‵ (permit_if γ k)) (permit_if_twice 𝓛 γ k) $ split ! $ move ! (2 ∷ []) $
      use1 𝓛 (‵ (all_permitted γ ks) ⊛ ‵ (all_permitted γ ks)) (permits_twice γ ks) $ split ! $ move ! (2 ∷ 0 ∷ []) $ fjoin ! $ move ! (2 ∷ 1 ∷ []) $ fjoin ! $ done !

  -- one of the codes that are permitted
  one_permitted : (γ k : ℕ) (ks : List ℕ) → has k ks ≡ true → ⟦ all_permitted γ ks ⟧ ⊢ ⟦ permit_if γ k ⟧
  one_permitted γ k [] h = absurd (cc)
  one_permitted γ k (x ∷ ks) h = go (x == k) refl h (one_permitted γ k ks)
    where
      go : (b : Bool) → (x == k) ≡ b → (b || has k ks) ≡ true → (has k ks ≡ true → ⟦ all_permitted γ ks ⟧ ⊢ ⟦ permit_if γ k ⟧) → ⟦ all_permitted γ (x ∷ ks) ⟧ ⊢ ⟦ permit_if γ k ⟧
      go true e is rest = qed 𝓛 (‵ (all_permitted γ (x ∷ ks)) ∷ []) ∵ fsplit ! $ keep ! (0 ∷ []) $ rewrite ! 0 (λ (l : ℕ). ‵ (permit_if γ l)) (eq_true x k e) refl $ done !
      go false e is rest = qed 𝓛 (‵ (all_permitted γ (x ∷ ks)) ∷ []) ∵ fsplit ! $ keep ! (1 ∷ []) $ by ! (rest is)

  -- whoever has permits that cover pairs shows it
  pub covers_all : (γ : ℕ) (ks : List ℕ) (ts : List Pair) → AreCovered ks ts → ⟦ all_permitted γ ks ⟧ ⊢ ⟦ all_covered γ ts ⟧
  covers_all γ ks [] are = qed 𝓛 (‵ (all_permitted γ ks) ∷ []) ∵ nothing ! $ keep ! (0 ∷ []) $ done !
  covers_all γ ks (t ∷ ts) are = let w : ℕ = are.0.0 in let k : ℕ = pair_number t.link w t.next in qed 𝓛 (‵ (all_permitted γ ks) ∷ []) ∵
      use1 𝓛 (‵ (all_permitted γ ks) ⊛ ‵ (all_permitted γ ks)) (permits_twice γ ks) $ split ! $ use1 𝓛 (‵ (permit γ k)) (one_permitted γ k ks are.0.2) $
      nothing ! $ fpack ! (Admits w t.was) (λ _. ftrue) are.0.1 $ move ! (0 ∷ 1 ∷ []) $ fjoin ! $ fpack ! ℕ (covered_by γ t) w $
      move ! (1 ∷ []) $ use1 𝓛 (‵ (all_covered γ ts)) (covers_all γ ks ts are.1) $ move ! (1 ∷ 0 ∷ []) $ fjoin ! $ done !

  covered_twice : (γ : ℕ) (t : Pair) → ⟦ covered γ t ⟧ ⊢ ⟦ covered γ t ⟧ ∗ ⟦ covered γ t ⟧
  covered_twice γ t = qed 𝓛 (‵ (covered γ t) ∷ []) ∵ fpick ! (λ w. fsplit ! $ fpick ! (λ so. drop ! $ let k : ℕ = pair_number t.link w t.next in
      use1 𝓛 (‵ (permit γ k) ⊛ ‵ (permit γ k)) (permit_if_twice 𝓛 γ k) $ split ! $
      nothing ! $ fpack ! (Admits w t.was) (λ _. ftrue) so $ move ! (0 ∷ 1 ∷ []) $ fjoin ! $ fpack ! ℕ (covered_by γ t) w $ move ! (1 ∷ []) $
      nothing ! $ fpack ! (Admits w t.was) (λ _. ftrue) so $ move ! (0 ∷ 1 ∷ []) $ fjoin ! $ fpack ! ℕ (covered_by γ t) w $ done !))

  pub all_covered_twice : (γ : ℕ) (ts : List Pair) → ⟦ all_covered γ ts ⟧ ⊢ ⟦ all_covered γ ts ⟧ ∗ ⟦ all_covered γ ts ⟧
  all_covered_twice γ [] = qed 𝓛 (‵ ftrue ∷ []) ∵ nothing ! $ done !
  all_covered_twice γ (t ∷ ts) = qed 𝓛 (‵ (all_covered γ (t ∷ ts)) ∷ []) ∵ fsplit ! $ use1 𝓛 (‵ (covered γ t) ⊛ ‵ (covered γ t)) (covered_twice γ t) $ split ! $ move ! (2 ∷ []) $
      use1 𝓛 (‵ (all_covered γ ts) ⊛ ‵ (all_covered γ ts)) (all_covered_twice γ ts) $ split ! $ move ! (2 ∷ 0 ∷ []) $ fjoin ! $ move ! (2 ∷ 1 ∷ []) $ fjoin ! $ done !

  -- more pairs, after others
  pub more_pairs : (γ : ℕ) (ts us : List Pair) → ⟦ all_covered γ ts ⟧ ∗ ⟦ all_covered γ us ⟧ ⊢ ⟦ all_covered γ (ts ++ us) ⟧
  more_pairs γ [] us = qed 𝓛 (‵ ftrue ∷ ‵ (all_covered γ us) ∷ []) ∵ keep ! (1 ∷ []) $ done !
  more_pairs γ (t ∷ ts) us = qed 𝓛 (‵ (all_covered γ (t ∷ ts)) ∷ ‵ (all_covered γ us) ∷ []) ∵ fsplit ! $ move ! (1 ∷ 2 ∷ []) $ use2 𝓛 (‵ (all_covered γ (ts ++ us))) (more_pairs γ ts us) $ move ! (1 ∷ 0 ∷ []) $ fjoin ! $ done !

  -- the list has an entry more, whose pairs are covered
  pub covered_push : (γ : ℕ) (st : State) (log : List Entry) (e : Entry)
      → ⟦ all_covered γ (pairs_in st log) ⟧ ∗ ⟦ all_covered γ (pairs_by (after st log) e) ⟧ ⊢ ⟦ all_covered γ (pairs_in st (log ++ e ∷ [])) ⟧
  covered_push γ st log e = qed 𝓛 (‵ (all_covered γ (pairs_in st log)) ∷ ‵ (all_covered γ (pairs_by (after st log) e)) ∷ []) ∵
      use2 𝓛 (‵ (all_covered γ (pairs_in st log ++ pairs_by (after st log) e))) (more_pairs γ (pairs_in st log) (pairs_by (after st log) e)) $
      rewrite ! 0 (λ (ts : List Pair). ‵ (all_covered γ ts)) (sym (pairs_push st log e)) refl $ done !

  -- the permits for pairs, by their numbers
  abbrev pub PermitsFor : ℕ → List Pair → List ℕ → Pr
  PermitsFor γ ts ks = guard 𝓤 (AreCovered ks ts) ⟦ all_permitted γ ks ⟧

  pub permits_of : (γ : ℕ) (ts : List Pair) → ⟦ all_covered γ ts ⟧ ⊢ ex 𝓤 (PermitsFor γ ts)
  permits_of γ [] = qed 𝓛 (‵ ftrue ∷ []) ∵ show ! (PermitsFor γ []) [] $ check ! tt $ done !
  permits_of γ (t ∷ ts) = qed 𝓛 (‵ (all_covered γ (t ∷ ts)) ∷ []) ∵ fsplit ! $ fpick ! (λ w. fsplit ! $ fpick ! (λ so. drop ! $ let k : ℕ = pair_number t.link w t.next in
      move ! (1 ∷ []) $ use1 𝓛 (some (λ (ks : List ℕ). given (AreCovered ks ts) (‵ (all_permitted γ ks)))) (permits_of γ ts) $ pick ! (λ ks. learn ! (λ are.
      -- [the permits; this one]
      move ! (1 ∷ 0 ∷ []) $ fjoin ! $ show ! (PermitsFor γ (t ∷ ts)) (k ∷ ks) $ check ! ((w, so, here k ks), all_more k ks ts are) $ done !))))
    where
      here : (k : ℕ) (ks : List ℕ) → has k (k ∷ ks) ≡ true
      here k ks = ap (λ (b : Bool). b || has k ks) (equal k k refl)
