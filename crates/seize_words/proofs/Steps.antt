-- **The step of a word**: one atomic step on the word, and with it one event in the list. Whatever the word holds and whatever the list is by
-- then, the holder of a pass and of some keys adds the event with the word's own keys beside theirs. Assumes `Logic`.
use Rattle.std.proofs.Common.{◌≡◌, ℕ, zero, suc, ◌<◌, Bool, true, false, List, [], ◌∷◌, ◌++◌, take, refl, sym, ◌∙◌, ap, subst, arith, Option, Some, None}
use Rattle.std.specs.Prelude.{drop as past}
use seplogic.Ra.Ura.{Ura}
use base.Logic.{SProp, ent, sep, ex, guard, upd, upd_i}
use base.Fml.{Lft, Share, Fml, ftrue, fsep, fex, flft, fbor, fnamed}
use types.Logic.{Logic, sem}
use types.Kit.{‵, raw, ◌⊛◌, some, given, ◌$◌, ◌∵◌, !, qed, by, move, keep, drop, split, split3, group, join, fsplit, fjoin, fpick, fpack, pick, learn, show, check, frame, each, assume, suffices, settle, done, rewrite, use1, use2, use3}
use denote.RawPtr.{block_ptr}
use denote.Steps.{nothing}
use Rattle.core.specs.Sync.RawAtomic.{word, asks, always}
use Rattle.core.proofs.raw_atomic.Asked.{borrowed_with, LiesWith, AgainWith}
use Rattle.seize_machine.specs.Machine.State.{State, link_at}
use Rattle.seize_machine.proofs.Facts.{eq_true}
use Rattle.seize_book.specs.Ledger.{fact, HeldKey, WithKinds, with_list, keys_made}
use Rattle.seize_book.specs.Entry.{Entry}
use Rattle.seize_book.specs.Book.{Kind, ThePass, TheNumbers, TheSlot, TheHead, TheLink, TheCount, TheBlock, TheField, TheTotal, Nothing, after, kinds, kind_of, blocks}
use Rattle.seize_book.specs.Laws.{ended_lives}
use Rattle.seize_book.specs.Fair.{Before}
use Rattle.seize_book.specs.Private.{is_one}
use Rattle.seize_book.specs.Pairs.{Pair, all_covered, pairs_by}
use Rattle.seize_book.specs.Permits.{all_permitted}
use Rattle.seize_book.proofs.Pairs.{covers_all, permits_twice}
use Rattle.seize_words.specs.Stepping.{IsStepFor, MayStepFor, in_step, FoundAs, NoneEnded, beside_then, held_then, staying, with_births, LooksAt, MayStepWith, HasSteppedWith}
use Rattle.seize_book.specs.Bounds.{OneWithin}
use Rattle.seize_book.specs.Tokens.{Name, adder_owns, start, inside, knows, keys_own, over, pass_adds, pass_holds, pass_owns}
use Rattle.seize_words.specs.Words.{Site, ShowsWord, ShowsOfKind, AreOtherKeys, AreOtherKeysOf, IsKeyOf, word_knows, word_lies, word_reading}
use Rattle.seize_book.proofs.Facts.{blocks_within}
use Rattle.seize_book.proofs.Lives.{ends_those, living, none_over}
use Rattle.seize_book.proofs.Looks.{peeks}
use Rattle.seize_book.proofs.Notes.{knows_twice}
use Rattle.seize_book.proofs.Ways.{keys_joined, keys_parted, first_parted}
use Rattle.seize_book.proofs.Passes.{IsDistinct, by_pass, keys_after, Made}

-- what a word stands for is one of the kinds
kind_within : (st : State) (r k v : ℕ) (log : List Entry) → ShowsOfKind st (kind_of r) k v log → r < kinds
kind_within st zero k v log so = absurd so
kind_within st (suc zero) k v log so = absurd so
kind_within st (suc (suc zero)) k v log so = absurd so
kind_within st (suc (suc (suc zero))) k v log so = omega arith
kind_within st (suc (suc (suc (suc zero)))) k v log so = omega arith
kind_within st (suc (suc (suc (suc (suc zero))))) k v log so = omega arith
kind_within st (suc (suc (suc (suc (suc (suc zero)))))) k v log so = absurd so
kind_within st (suc (suc (suc (suc (suc (suc (suc zero))))))) k v log so = omega arith
kind_within st (suc (suc (suc (suc (suc (suc (suc (suc zero)))))))) k v log so = omega arith
kind_within st (suc (suc (suc (suc (suc (suc (suc (suc (suc r))))))))) k v log so = absurd so

one_within : (held : List (HeldKey Entry)) → is_one blocks held ≡ true → WithKinds kinds held
one_within [] one = absurd (cc)
one_within (h ∷ g ∷ held) one = absurd (cc)
one_within (h ∷ []) one = (let is : h.kind ≡ blocks = eq_true h.kind blocks one in omega arith, tt)

linked_within : (o : Option ℕ) (vs : List (HeldKey Entry)) → IsKeyOf o vs → WithKinds kinds vs
linked_within None vs is = subst (WithKinds kinds) (sym is) tt
linked_within (Some v) vs is = one_within vs is.0

-- and so are the kinds of the keys beside it
beside_within : (n : Name) (kind : Kind) (k : ℕ) (log : List Entry) (vs : List (HeldKey Entry)) → AreOtherKeysOf n kind k log vs → WithKinds kinds vs
beside_within n TheLink l log vs so = linked_within (link_at (after (start n) log) l) vs so
beside_within n ThePass k log vs so = subst (WithKinds kinds) (sym so) tt
beside_within n TheNumbers k log vs so = subst (WithKinds kinds) (sym so) tt
beside_within n TheSlot k log vs so = subst (WithKinds kinds) (sym so) tt
beside_within n TheHead k log vs so = subst (WithKinds kinds) (sym so) tt
beside_within n TheCount k log vs so = blocks_within vs so.0.1
beside_within n TheBlock k log vs so = subst (WithKinds kinds) (sym so) tt
beside_within n TheField f log vs so = subst (WithKinds kinds) (sym so) tt
beside_within n TheTotal k log vs so = subst (WithKinds kinds) (sym so) tt
beside_within n Nothing k log vs so = subst (WithKinds kinds) (sym so) tt

both_within : (a b : List (HeldKey Entry)) → WithKinds kinds a → WithKinds kinds b → WithKinds kinds (a ++ b)
both_within [] b h k = k
both_within (x ∷ a) b h k = (h.0, both_within a b h.1 k)

renewed_append : (a b : List (HeldKey Entry)) (log : List Entry) → with_list (a ++ b) log ≡ with_list a log ++ with_list b log
renewed_append [] b log = refl
renewed_append (x ∷ a) b log = ap (λ (hs : List (HeldKey Entry)). record { kind = x.kind; key = x.key; own = log; label = x.label; note = x.note } ∷ hs) (renewed_append a b log)

module _ {M : Type 1} {𝓤 : Ura M} (𝓛 : Logic 𝓤) (site : Site) where
  open 𝓛 use {H, A}

  abbrev Pr : Type 2
  Pr = SProp 𝓤

  abbrev ◌⊢◌ : Pr → Pr → Type 1
  P ⊢ Q = ent 𝓤 P Q

  abbrev ◌∗◌ : Pr → Pr → Pr
  P ∗ Q = sep 𝓤 P Q

  abbrev ⟦◌⟧ : Fml → Pr
  ⟦ P ⟧ = sem 𝓛 P

  infix 26 ◌⊢◌
  infixr 35 ◌∗◌
  abbrev n : Name
  n = site.name

  abbrev st : State
  st = start n

  abbrev J : Fml
  J = inside n

  abbrev keys : List (HeldKey Entry) → Fml
  keys held = keys_own n held

  abbrev At : Type 0
  At = List Entry × List (HeldKey Entry)

  -- the right is to the kind and number, so the list that a key knows is no part of where it goes
  renewed_take : (m : ℕ) (held : List (HeldKey Entry)) (log : List Entry) → take m (with_list held log) ≡ with_list (take m held) log
  renewed_take zero held log = refl
  renewed_take (suc m) [] log = refl
  renewed_take (suc m) (x ∷ held) log = ap (λ (hs : List (HeldKey Entry)). record { kind = x.kind; key = x.key; own = log; label = x.label; note = x.note } ∷ hs) (renewed_take m held log)

  renewed_past : (m : ℕ) (held : List (HeldKey Entry)) (log : List Entry) → past m (with_list held log) ≡ with_list (past m held) log
  renewed_past zero held log = refl
  renewed_past (suc m) [] log = refl
  renewed_past (suc m) (x ∷ held) log = renewed_past m held log

  -- what stands beside the word afterwards, and what the holder has
  trade : (kind : Kind) (trades : Bool) (vs held : List (HeldKey Entry)) (log : List Entry)
      → ⟦ keys (with_list (vs ++ held) log) ⟧ ⊢ ⟦ keys (with_list (beside_then kind trades vs held) log) ⟧ ∗ ⟦ keys (with_list (held_then kind trades vs held) log) ⟧
  trade kind false vs held log = qed 𝓛 (‵ (keys (with_list (vs ++ held) log)) ∷ []) ∵ rewrite ! 0 (λ (hs : List (HeldKey Entry)). ‵ (keys hs)) (renewed_append vs held log) refl $ by ! (keys_parted 𝓛 n (with_list vs log) (with_list held log))
  trade kind true vs held log = let m : ℕ = staying kind in qed 𝓛 (‵ (keys (with_list (vs ++ held) log)) ∷ []) ∵ rewrite ! 0 (λ (hs : List (HeldKey Entry)). ‵ (keys hs)) (renewed_append vs held log) refl $
      use1 𝓛 (‵ (keys (with_list vs log)) ⊛ ‵ (keys (with_list held log))) (keys_parted 𝓛 n (with_list vs log) (with_list held log)) $ split ! $ move ! (1 ∷ []) $
      use1 𝓛 (‵ (keys (take m (with_list held log))) ⊛ ‵ (keys (past m (with_list held log)))) (first_parted 𝓛 n m (with_list held log)) $ split ! $
      -- [those that stay with the holder; the others; those that stood beside the word]
      move ! (0 ∷ 2 ∷ []) $ use2 𝓛 (‵ (keys (take m (with_list held log) ++ with_list vs log))) (keys_joined 𝓛 n (take m (with_list held log)) (with_list vs log)) $
      rewrite ! 0 (λ (hs : List (HeldKey Entry)). ‵ (keys hs)) (ap (λ (hs : List (HeldKey Entry)). hs ++ with_list vs log) (renewed_take m held log) ∙ sym (renewed_append (take m held) vs log)) refl $ move ! (1 ∷ []) $
      rewrite ! 0 (λ (hs : List (HeldKey Entry)). ‵ (keys hs)) (renewed_past m held log) refl $ done !

  bears : (held : List (HeldKey Entry)) (births : List (ℕ × ℕ)) (log : List Entry) → ⟦ keys held ⟧ ∗ ⟦ keys (keys_made births log) ⟧ ⊢ ⟦ keys (with_births held births log) ⟧
  bears held [] log = qed 𝓛 (‵ (keys held) ∷ ‵ ftrue ∷ []) ∵ keep ! (0 ∷ []) $ done !
  bears held (b ∷ births) log = keys_joined 𝓛 n held (keys_made (b ∷ births) log)

  module _ (births : List (ℕ × ℕ)) (p : ℕ) (seen : List Entry) (held : List (HeldKey Entry)) (alive lives : List ℕ) (r : Share) (f : ℕ → ℕ) (entry : ℕ → List Entry → Entry) (trades : ℕ → Bool) where
    abbrev pub log_then : ℕ → List Entry → List Entry
    log_then v log = log ++ entry v log ∷ []

    -- the list and the holder's keys after a step that found v
    abbrev pub had_then : ℕ → At → List Entry → At
    had_then v t log = (log_then v log, with_births (with_list (held_then (kind_of site.kind) (trades v) t.1 held) (log_then v log)) births (log_then v log))

    -- and the keys that stand beside the word's own
    abbrev pub left_then : ℕ → At → List Entry → List (HeldKey Entry)
    left_then v t log = with_list (beside_then (kind_of site.kind) (trades v) t.1 held) (log_then v log)

    -- what is had after a step that found v: the list is `t.0`, and the holder's keys are `t.1`
    abbrev pub heard_with : (ℕ → At → Fml) → ℕ → At → Fml
    heard_with out v t = fsep (fact (HasSteppedWith births site p seen t.0 held t.1 alive v (f v) entry trades)) (fsep (pass_holds n p t.0) (fsep (keys t.1) (out v t)))

    abbrev pub after_with : (ℕ → At → Fml) → ℕ → Fml
    after_with out v = fex At (heard_with out v)

    -- what else is brought is traded in the step, for what may be had of the keys beside the word
    abbrev pub Takes : Pr → (ℕ → At → Fml) → Type 1
    Takes X out =
        (v : ℕ) (t : At) (log : List Entry) → FoundAs site v p seen held alive t log → HasSteppedWith births site p seen (log_then v log) held (had_then v t log).1 alive v (f v) entry trades → AreOtherKeys site (log_then v log) (left_then v t log)
        → ⟦ pass_holds n p (log_then v log) ⟧ ∗ ⟦ keys (left_then v t log) ⟧ ∗ ⟦ living 𝓛 alive r ⟧ ∗ X ⊢ upd 𝓤 (⟦ pass_holds n p (log_then v log) ⟧ ∗ ⟦ keys (left_then v t log) ⟧ ∗ ⟦ out v (had_then v t log) ⟧)

    abbrev tokens : ℕ → At → Fml
    tokens v t = living 𝓛 alive r

    abbrev pub after_step : ℕ → Fml
    after_step = after_with tokens

    -- nothing else is brought
    takes_none : Takes ⟦ ftrue ⟧ tokens
    takes_none v t log found stepped stands = let Z : Pr = ⟦ pass_holds n p (log_then v log) ⟧ ∗ ⟦ keys (left_then v t log) ⟧ ∗ ⟦ living 𝓛 alive r ⟧ in
        qed 𝓛 (‵ (pass_holds n p (log_then v log)) ∷ ‵ (keys (left_then v t log)) ∷ ‵ (living 𝓛 alive r) ∷ ‵ ftrue ∷ []) ∵ suffices ! _ (upd_i 𝓤 Z) $ keep ! (0 ∷ 1 ∷ 2 ∷ []) $ done !

    -- each entry has at most this size
    abbrev pub Sized : ℕ → Type 0
    Sized size = (v : ℕ) (log : List Entry) → OneWithin size (entry v log)

    module _ (size : ℕ) (sized : Sized size) (allowed : List ℕ) (X : Pr) (out : ℕ → At → Fml) (takes : Takes X out) (distinct : IsDistinct 𝓛 n) (may : MayStepFor allowed births site p seen held alive lives f entry trades) (v : ℕ) (t : At) (so : ShowsWord site v t.0 × AreOtherKeys site t.0 t.1) where
      abbrev all : List (HeldKey Entry)
      all = in_step site held t

      abbrev ev : List Entry → Entry
      ev log = entry v log

      abbrev told : List Entry → Type 0
      told log = NoneEnded alive log

      found : (log : List Entry) → Before n p seen all log → told log → FoundAs site v p seen held alive t log
      found log before none = record { shows = so.0; stands = so.1; before = before; none_ended = none; distinct = distinct }

      step : (own log : List Entry) → Before n p seen all log → told log → IsStepFor allowed births site p held lives (f v) (ev log) (trades v) t own log
      step own log before none = may.1 v t own log (found log before none)

      within : WithKinds kinds all
      within = (kind_within st site.kind site.number v t.0 so.0, both_within t.1 held (beside_within site.name (kind_of site.kind) site.number t.0 t.1 so.1) may.0)

      -- the permits for what the step may exchange
      abbrev permits : Fml
      permits = all_permitted n.pairs allowed

      abbrev mine : Pr
      mine = ⟦ over lives ⟧ ∗ ⟦ living 𝓛 alive r ⟧ ∗ ⟦ permits ⟧

      permitted : (log : List Entry) → Before n p seen all log → told log → mine ⊢ ⟦ all_covered n.pairs (pairs_by (after st log) (ev log)) ⟧ ∗ mine
      permitted log before none = let ts : List Pair = pairs_by (after st log) (ev log) in qed 𝓛 (‵ (over lives) ∷ ‵ (living 𝓛 alive r) ∷ ‵ permits ∷ []) ∵ move ! (2 ∷ []) $ use1 𝓛 (‵ permits ⊛ ‵ permits) (permits_twice 𝓛 n.pairs allowed) $ split ! $
          use1 𝓛 (‵ (all_covered n.pairs ts)) (covers_all 𝓛 n.pairs allowed ts (step log log before none).covered) $ move ! (0 ∷ 2 ∷ 3 ∷ 1 ∷ []) $ done !

      tells : (log : List Entry) → Before n p seen all log → ⟦ over (ended_lives log) ⟧ ∗ mine ⊢ guard 𝓤 (told log) (⟦ over (ended_lives log) ⟧ ∗ mine)
      tells log before = qed 𝓛 (‵ (over (ended_lives log)) ∷ (‵ (over lives) ⊛ ‵ (living 𝓛 alive r) ⊛ ‵ permits) ∷ []) ∵ move ! (1 ∷ []) $ split3 ! $ move ! (3 ∷ 1 ∷ []) $
          use2 𝓛 (given (told log) (‵ (over (ended_lives log)) ⊛ ‵ (living 𝓛 alive r))) (none_over 𝓛 alive (ended_lives log) r) $ learn ! (λ none. check ! none $ split ! $ move ! (0 ∷ 2 ∷ 1 ∷ 3 ∷ []) $ done !)

      ends : (log : List Entry) → Before n p seen all log → told log → ⟦ over (ended_lives log) ⟧ ∗ mine ⊢ upd 𝓤 (⟦ over (ended_lives (log ++ ev log ∷ [])) ⟧ ∗ ⟦ living 𝓛 alive r ⟧)
      ends log before none = let Z : Pr = ⟦ over (ended_lives (log ++ ev log ∷ [])) ⟧ ∗ ⟦ living 𝓛 alive r ⟧ in qed 𝓛 (‵ (over (ended_lives log)) ∷ (‵ (over lives) ⊛ ‵ (living 𝓛 alive r) ⊛ ‵ permits) ∷ []) ∵ move ! (1 ∷ []) $ split3 ! $ move ! (3 ∷ 0 ∷ []) $
          use2 𝓛 (‵ (over (ended_lives (log ++ ev log ∷ [])))) (ends_those 𝓛 log (ev log) lives (step log log before none).ends) $ suffices ! _ (upd_i 𝓤 Z) $ keep ! (0 ∷ 1 ∷ []) $ done !

      abbrev now : List Entry → List Entry
      now log = log_then v log

      abbrev had : List Entry → At
      had log = had_then v t log

      stepped : (log : List Entry) → Made 𝓛 n p seen all ev told log → HasSteppedWith births site p seen (now log) held (had log).1 alive v (f v) entry trades
      stepped log made = record { log = log; noted = made.0; is_log = made.1; since = t; found = found log made.2 made.3; left = (step log log made.2 made.3).shows; keys = refl }

      -- with the word's memory at hand: the event is added, and the word stands for what the list says then
      adds : (b o : ℕ) → ⟦ word b o (f v) ⟧ ∗ ⟦ J ⟧ ∗ ⟦ pass_adds n p size seen ⟧ ∗ ⟦ keys all ⟧ ∗ mine ∗ X ⊢ upd 𝓤 (⟦ word_reading site b o ⟧ ∗ ⟦ J ⟧ ∗ ⟦ after_with out v ⟧)
      adds b o = let Z : Pr = ⟦ word_reading site b o ⟧ ∗ ⟦ J ⟧ ∗ ⟦ after_with out v ⟧ in
          qed 𝓛 (‵ (word b o (f v)) ∷ ‵ J ∷ ‵ (pass_adds n p size seen) ∷ ‵ (keys all) ∷ (‵ (over lives) ⊛ ‵ (living 𝓛 alive r) ⊛ ‵ permits) ∷ raw X ∷ []) ∵ move ! (3 ∷ 4 ∷ []) $ join ! $ move ! (2 ∷ 3 ∷ 0 ∷ []) $
          use3 𝓛 (raw (upd 𝓤 (ex 𝓤 (λ log. guard 𝓤 (Made 𝓛 n p seen all ev told log) (⟦ J ⟧ ∗ ⟦ pass_holds n p (now log) ⟧ ∗ ⟦ keys_after 𝓛 n all ev log ⟧ ∗ ⟦ living 𝓛 alive r ⟧)))))
          (by_pass 𝓛 n p size seen all ev told mine (λ _. ⟦ living 𝓛 alive r ⟧) distinct within (λ own log before none. ((step own log before none).fair, (step own log before none).its, sized v log)) permitted tells ends) $
          settle 𝓛 Z (some (λ (log : List Entry). given (Made 𝓛 n p seen all ev told log) (‵ J ⊛ ‵ (pass_holds n p (now log)) ⊛ ‵ (keys_after 𝓛 n all ev log) ⊛ ‵ (living 𝓛 alive r)))) $
          pick ! (λ log. learn ! (λ made. let is = step log log made.2 made.3 in let log' : List Entry = now log in let left : List (HeldKey Entry) = left_then v t log in
          split ! $ move ! (1 ∷ []) $ split3 ! $
          -- [the pass; the keys; the tokens; J; the word; what else is brought]
          move ! (1 ∷ []) $ rewrite ! 0 (λ (bs : List (ℕ × ℕ)). ‵ (keys (with_list all log' ++ keys_made bs log'))) is.bears refl $ use1 𝓛 (‵ (keys (with_list all log')) ⊛ ‵ (keys (keys_made births log'))) (keys_parted 𝓛 n (with_list all log') (keys_made births log')) $ split ! $
          fsplit ! $ move ! (1 ∷ []) $ let then_ : List (HeldKey Entry) = with_list (held_then (kind_of site.kind) (trades v) t.1 held) log' in
          use1 𝓛 (‵ (keys left) ⊛ ‵ (keys then_)) (trade (kind_of site.kind) (trades v) t.1 held log') $ split ! $
          -- [the keys beside the word; the holder's; the word's own; those that were made; the pass; the tokens; J; the word; what else is brought]
          move ! (4 ∷ 0 ∷ 5 ∷ 8 ∷ []) $ group ! 4 $ use1 𝓛 (raw (upd 𝓤 (⟦ pass_holds n p log' ⟧ ∗ ⟦ keys left ⟧ ∗ ⟦ out v (had log) ⟧))) (takes v t log (found log made.2 made.3) (stepped log made) is.stands) $
          settle 𝓛 Z (‵ (pass_holds n p log') ⊛ ‵ (keys left) ⊛ ‵ (out v (had log))) $ suffices ! _ (upd_i 𝓤 Z) $ split3 ! $ move ! (1 ∷ 3 ∷ 4 ∷ 5 ∷ 0 ∷ 2 ∷ []) $
          -- [the keys beside the word; the holder's; the word's own; those that were made; the pass; what was taken; J; the word]
          move ! (1 ∷ 3 ∷ []) $ use2 𝓛 (‵ (keys (had log).1)) (bears then_ births log') $ move ! (1 ∷ 0 ∷ []) $
          -- [the keys beside the word; the holder's; the word's own; the pass; what was taken; J; the word]
          move ! (2 ∷ 0 ∷ []) $ fjoin ! $ nothing ! $ fpack ! (ShowsWord site (f v) log' × AreOtherKeys site log' left) (λ _. ftrue) (is.shows, is.stands) $ move ! (0 ∷ 1 ∷ []) $ fjoin ! $
          fpack ! At (word_knows site (f v)) (log', left) $ move ! (5 ∷ 0 ∷ []) $ fjoin ! $ fpack ! ℕ (word_lies site b o) (f v) $ frame ! $
          -- [the holder's keys; the pass; what was taken; J]
          move ! (3 ∷ []) $ frame ! $ move ! (0 ∷ 2 ∷ []) $ fjoin ! $ move ! (1 ∷ 0 ∷ []) $ fjoin ! $ nothing ! $ fpack ! (HasSteppedWith births site p seen log' held (had log).1 alive v (f v) entry trades) (λ _. ftrue) (stepped log made) $ move ! (0 ∷ 1 ∷ []) $ fjoin ! $
          fpack ! At (heard_with out v) (had log) $ keep ! (0 ∷ []) $ done !))

    -- what a holder brings
    abbrev pub brings : ℕ → Pr
    brings size = ⟦ pass_adds n p size seen ⟧ ∗ ⟦ keys held ⟧ ∗ (⟦ over lives ⟧ ∗ ⟦ living 𝓛 alive r ⟧)

    module _ (b o i : ℕ) (κ : Lft) (q : Share) (apart : ¬ (n.number ≡ i)) (distinct : IsDistinct 𝓛 n) where
      pub steps_for : (size : ℕ) → Sized size → (allowed : List ℕ) → MayStepFor allowed births site p seen held alive lives f entry trades → (X : Pr) (out : ℕ → At → Fml) → Takes X out
          → A.named i (fbor κ (word_reading site b o)) ∗ A.named n.number J ∗ A.lft κ q ∗ (⟦ pass_adds n p size seen ⟧ ∗ ⟦ keys held ⟧ ∗ (⟦ over lives ⟧ ∗ ⟦ living 𝓛 alive r ⟧ ∗ ⟦ all_permitted n.pairs allowed ⟧) ∗ X) ⊢ asks 𝓛 (block_ptr b o) f always (λ v. fsep (flft κ q) (after_with out v))
      steps_for size sized allowed may X out takes = let I : Fml = word_reading site b o in let after : ℕ → Fml = after_with out in let G : Pr = ex 𝓤 (LiesWith 𝓛 κ q I b o f always after J) in let permits : Fml = all_permitted n.pairs allowed in
          borrowed_with 𝓛 κ q I b o f always after i n.number J apart (⟦ pass_adds n p size seen ⟧ ∗ ⟦ keys held ⟧ ∗ (⟦ over lives ⟧ ∗ ⟦ living 𝓛 alive r ⟧ ∗ ⟦ permits ⟧) ∗ X)
          (qed 𝓛 (‵ I ∷ ‵ J ∷ ‵ (pass_adds n p size seen) ∷ ‵ (keys held) ∷ (‵ (over lives) ⊛ ‵ (living 𝓛 alive r) ⊛ ‵ permits) ∷ raw X ∷ []) ∵ suffices ! _ (upd_i 𝓤 G) $
          fpick ! (λ v. fsplit ! $ move ! (1 ∷ []) $ fpick ! (λ t. fsplit ! $ fpick ! (λ so. drop ! $
          -- [the word's keys; the word; J; the pass; the holder's keys; what is over; what else is brought]
          fsplit ! $ move ! (1 ∷ 5 ∷ []) $ use2 𝓛 (‵ (keys (t.1 ++ held))) (keys_joined 𝓛 n t.1 held) $ move ! (1 ∷ 0 ∷ []) $ fjoin ! $
          -- [all keys; the word; J; the pass; what is over; what else is brought]
          move ! (1 ∷ []) $ show ! (LiesWith 𝓛 κ q I b o f always after J) v $ frame ! $ each ! (λ (_ : Unit {0}). AgainWith 𝓛 κ q I b o f always after J v) (λ _. assume ! (‵ (word b o (f v))) $
          -- [the word; all keys; J; the pass; what is over; what else is brought]
          move ! (0 ∷ 2 ∷ 3 ∷ 1 ∷ 4 ∷ 5 ∷ []) $ by ! (adds size sized allowed X out takes distinct may v t so b o))))))

      -- where nothing else is brought
      pub steps_permitted : (size : ℕ) → Sized size → (allowed : List ℕ) → MayStepFor allowed births site p seen held alive lives f entry trades
          → A.named i (fbor κ (word_reading site b o)) ∗ A.named n.number J ∗ A.lft κ q ∗ (⟦ pass_adds n p size seen ⟧ ∗ ⟦ keys held ⟧ ∗ (⟦ over lives ⟧ ∗ ⟦ living 𝓛 alive r ⟧ ∗ ⟦ all_permitted n.pairs allowed ⟧)) ⊢ asks 𝓛 (block_ptr b o) f always (λ v. fsep (flft κ q) (after_step v))
      steps_permitted size sized allowed may = qed 𝓛 (‵ (fnamed i (fbor κ (word_reading site b o))) ∷ ‵ (fnamed n.number J) ∷ ‵ (flft κ q) ∷ (‵ (pass_adds n p size seen) ⊛ ‵ (keys held) ⊛ (‵ (over lives) ⊛ ‵ (living 𝓛 alive r) ⊛ ‵ (all_permitted n.pairs allowed))) ∷ []) ∵ move ! (3 ∷ []) $ split3 ! $
          -- [the pass; the keys; what is over, and the permits; the word; the book; the token]
          nothing ! $ move ! (4 ∷ 5 ∷ 6 ∷ 1 ∷ 2 ∷ 3 ∷ 0 ∷ []) $ by ! (steps_for size sized allowed may ⟦ ftrue ⟧ tokens takes_none)

      -- where no link is exchanged
      module _ (size : ℕ) (sized : Sized size) (may : MayStepWith births site p seen held alive lives f entry trades) where
        pub steps_with : (X : Pr) (out : ℕ → At → Fml) → Takes X out
            → A.named i (fbor κ (word_reading site b o)) ∗ A.named n.number J ∗ A.lft κ q ∗ (⟦ pass_adds n p size seen ⟧ ∗ ⟦ keys held ⟧ ∗ (⟦ over lives ⟧ ∗ ⟦ living 𝓛 alive r ⟧) ∗ X) ⊢ asks 𝓛 (block_ptr b o) f always (λ v. fsep (flft κ q) (after_with out v))
        steps_with X out takes = qed 𝓛 (‵ (fnamed i (fbor κ (word_reading site b o))) ∷ ‵ (fnamed n.number J) ∷ ‵ (flft κ q) ∷ (‵ (pass_adds n p size seen) ⊛ ‵ (keys held) ⊛ (‵ (over lives) ⊛ ‵ (living 𝓛 alive r)) ⊛ raw X) ∷ []) ∵ move ! (3 ∷ []) $ split3 ! $ move ! (2 ∷ []) $ split ! $ split ! $
            -- [what is over; the tokens; X; the pass; the keys; the word; the book; the token]
            nothing ! $ move ! (2 ∷ 0 ∷ []) $ join ! $ move ! (1 ∷ 0 ∷ []) $ join ! $ move ! (4 ∷ 5 ∷ 6 ∷ 2 ∷ 3 ∷ 0 ∷ 1 ∷ []) $ by ! (steps_for size sized [] may X out takes)

        pub steps : A.named i (fbor κ (word_reading site b o)) ∗ A.named n.number J ∗ A.lft κ q ∗ brings size ⊢ asks 𝓛 (block_ptr b o) f always (λ v. fsep (flft κ q) (after_step v))
        steps = qed 𝓛 (‵ (fnamed i (fbor κ (word_reading site b o))) ∷ ‵ (fnamed n.number J) ∷ ‵ (flft κ q) ∷ (‵ (pass_adds n p size seen) ⊛ ‵ (keys held) ⊛ (‵ (over lives) ⊛ ‵ (living 𝓛 alive r))) ∷ []) ∵ move ! (3 ∷ []) $ split3 ! $
            -- [the pass; the keys; what is over; the word; the book; the token]
            nothing ! $ move ! (4 ∷ 5 ∷ 6 ∷ 1 ∷ 2 ∷ 3 ∷ 0 ∷ []) $ by ! (steps_with ⟦ ftrue ⟧ tokens takes_none)

  -- a look at the word and the list, which leaves both as they are
  module _ (p : ℕ) (seen : List Entry) (held : List (HeldKey Entry)) where
    abbrev pub glimpsed : ℕ → List Entry → Fml
    glimpsed v log = fsep (fact (LooksAt site p seen log held v)) (fsep (pass_holds n p log) (keys held))

    abbrev pub after_look : ℕ → Fml
    after_look v = fex (List Entry) (glimpsed v)

    module _ (distinct : IsDistinct 𝓛 n) (v : ℕ) (t : At) (so : ShowsWord site v t.0 × AreOtherKeys site t.0 t.1) where
      abbrev its : List (HeldKey Entry)
      its = in_step site held t

      its_within : WithKinds kinds held → WithKinds kinds its
      its_within w = (kind_within st site.kind site.number v t.0 so.0, both_within t.1 held (beside_within site.name (kind_of site.kind) site.number t.0 t.1 so.1) w)

      looks : (log : List Entry) → Before n p seen its log → LooksAt site p seen log held v
      looks log before = record { since = t; found = record { shows = so.0; stands = so.1; before = before; none_ended = λ a x. absurd x; distinct = distinct } }

      glances : (b o : ℕ) → WithKinds kinds held → ⟦ word b o v ⟧ ∗ ⟦ J ⟧ ∗ ⟦ pass_holds n p seen ⟧ ∗ ⟦ keys its ⟧ ⊢ upd 𝓤 (⟦ word_reading site b o ⟧ ∗ ⟦ J ⟧ ∗ ⟦ after_look v ⟧)
      glances b o w = let Z : Pr = ⟦ word_reading site b o ⟧ ∗ ⟦ J ⟧ ∗ ⟦ after_look v ⟧ in
          qed 𝓛 (‵ (word b o v) ∷ ‵ J ∷ ‵ (pass_holds n p seen) ∷ ‵ (keys its) ∷ []) ∵ suffices ! _ (upd_i 𝓤 Z) $ move ! (1 ∷ 2 ∷ 3 ∷ []) $
          use3 𝓛 (some (λ (log : List Entry). given (Before n p seen its log) (‵ J ⊛ ‵ (pass_holds n p log) ⊛ ‵ (keys its)))) (peeks 𝓛 n p seen its (its_within w)) $ pick ! (λ log. learn ! (λ before. split3 ! $
          -- [J; the pass; the keys; the word]
          move ! (2 ∷ []) $ fsplit ! $ move ! (1 ∷ []) $ use1 𝓛 (‵ (keys t.1) ⊛ ‵ (keys held)) (keys_parted 𝓛 n t.1 held) $ split ! $
          -- [the keys beside the word; the holder's; the word's own; J; the pass; the word]
          move ! (2 ∷ 0 ∷ []) $ fjoin ! $ nothing ! $ fpack ! (ShowsWord site v t.0 × AreOtherKeys site t.0 t.1) (λ _. ftrue) so $ move ! (0 ∷ 1 ∷ []) $ fjoin ! $
          fpack ! At (word_knows site v) t $ move ! (4 ∷ 0 ∷ []) $ fjoin ! $ fpack ! ℕ (word_lies site b o) v $ frame ! $
          -- [the holder's keys; J; the pass]
          move ! (1 ∷ []) $ frame ! $ move ! (1 ∷ 0 ∷ []) $ fjoin ! $ nothing ! $ fpack ! (LooksAt site p seen log held v) (λ _. ftrue) (looks log before) $ move ! (0 ∷ 1 ∷ []) $ fjoin ! $
          fpack ! (List Entry) (glimpsed v) log $ keep ! (0 ∷ []) $ done !))

    pub looking : (b o i : ℕ) (κ : Lft) (q : Share) → ¬ (n.number ≡ i) → IsDistinct 𝓛 n → WithKinds kinds held
        → A.named i (fbor κ (word_reading site b o)) ∗ A.named n.number J ∗ A.lft κ q ∗ (⟦ pass_holds n p seen ⟧ ∗ ⟦ keys held ⟧) ⊢ asks 𝓛 (block_ptr b o) (λ v. v) always (λ v. fsep (flft κ q) (after_look v))
    looking b o i κ q apart distinct w = let I : Fml = word_reading site b o in let same : ℕ → ℕ = λ v. v in let G : Pr = ex 𝓤 (LiesWith 𝓛 κ q I b o same always after_look J) in
        borrowed_with 𝓛 κ q I b o same always after_look i n.number J apart (⟦ pass_holds n p seen ⟧ ∗ ⟦ keys held ⟧) (qed 𝓛 (‵ I ∷ ‵ J ∷ ‵ (pass_holds n p seen) ∷ ‵ (keys held) ∷ []) ∵ suffices ! _ (upd_i 𝓤 G) $
        fpick ! (λ v. fsplit ! $ move ! (1 ∷ []) $ fpick ! (λ t. fsplit ! $ fpick ! (λ so. drop ! $
        -- [the word's keys; the word; J; the pass; the holder's keys]
        fsplit ! $ move ! (1 ∷ 5 ∷ []) $ use2 𝓛 (‵ (keys (t.1 ++ held))) (keys_joined 𝓛 n t.1 held) $ move ! (1 ∷ 0 ∷ []) $ fjoin ! $
        -- [all keys; the word; J; the pass]
        move ! (1 ∷ []) $ show ! (LiesWith 𝓛 κ q I b o same always after_look J) v $ frame ! $ each ! (λ (_ : Unit {0}). AgainWith 𝓛 κ q I b o same always after_look J v) (λ _. assume ! (‵ (word b o v)) $
        -- [the word; all keys; J; the pass]
        move ! (0 ∷ 2 ∷ 3 ∷ 1 ∷ []) $ by ! (glances distinct v t so b o w))))))

  -- a pass, opened for a look, and for a step
  opened_with : (P : Fml) → ⟦ fsep (knows n) P ⟧ ⊢ guard 𝓤 (IsDistinct 𝓛 n) (⟦ knows n ⟧ ∗ A.named n.number J ∗ ⟦ P ⟧)
  opened_with P = qed 𝓛 ((‵ (knows n) ⊛ ‵ P) ∷ []) ∵ split ! $ use1 𝓛 (‵ (knows n) ⊛ ‵ (knows n)) (knows_twice 𝓛 n) $ split ! $ fsplit ! $ move ! (1 ∷ []) $ fsplit ! $ drop ! $ fpick ! (λ distinct. drop ! $ check ! distinct $
      -- [the invariant; the book; the pass]
      move ! (1 ∷ 0 ∷ 2 ∷ []) $ done !)

  pub opened : (p : ℕ) (seen : List Entry) → ⟦ pass_owns n p seen ⟧ ⊢ guard 𝓤 (IsDistinct 𝓛 n) (⟦ knows n ⟧ ∗ A.named n.number J ∗ ⟦ pass_holds n p seen ⟧)
  opened p seen = opened_with (pass_holds n p seen)

  pub opened_adder : (p size : ℕ) (seen : List Entry) → ⟦ adder_owns n p size seen ⟧ ⊢ guard 𝓤 (IsDistinct 𝓛 n) (⟦ knows n ⟧ ∗ A.named n.number J ∗ ⟦ pass_adds n p size seen ⟧)
  opened_adder p size seen = opened_with (pass_adds n p size seen)
