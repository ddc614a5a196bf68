-- All events of the list are within the greatest size that the book had. Assumes `Logic`.
--     within_more, within_push, within_before     of a greater size;  of one event more, and of a beginning;  size_itself   each is within itself
--     had_twice            that the book had a size can be had twice
--     bound_push           an event within such a size is added
--     bound_tells          the list, and each beginning of it, is within one;  bound_raised     the greatest is raised
--     fills_within         so what the law of quiet lists asks is had
use Rattle.std.proofs.Common.{◌≡◌, ℕ, ◌≤◌, Bool, true, false, not, ◌&&◌, ◌||◌, nat_le, max, List, [], ◌∷◌, ◌++◌, refl, sym, subst, arith}
use mathlib.Core.List.{IsPrefix}
use seplogic.Ra.Ura.{Ura}
use base.Fml.{Fml, Share, ftrue}
use base.Fraction.{full_share}
use base.Growing.{numbers}
use base.Logic.{SProp, ent, sep, guard, upd, upd_i}
use base.Share.{quarter, quarters, three_quarters}
use types.Growing.{at_least_dup, latest_agrees, latest_bounds, latest_cut, latest_glue, latest_grows, latest_shows}
use types.Logic.{Logic, sem}
use types.Kit.{‵, raw, ◌⊛◌, given, ◌$◌, ◌∵◌, !, qed, move, keep, drop, split, fsplit, fjoin, fpick, fpack, learn, check, suffices, settle, done, rewrite, use1, use2}
use denote.Steps.{nothing}
use Rattle.seize_machine.specs.Machine.State.{State}
use Rattle.seize_machine.specs.Machine.History.{done_by}
use Rattle.seize_machine.specs.Machine.Laws.{FillsWithin, fills}
use Rattle.seize_machine.specs.Machine.Next.{next}
use Rattle.seize_book.specs.Book.{moments}
use Rattle.seize_book.specs.Bounds.{AllWithin, OneWithin, bound_at, bounded, had_size, is_within, sets_size, size_part, within_at}
use Rattle.seize_book.specs.Entry.{Entry, Made, Used, timed_deed}

-- ---- lists

one_more : (m n : ℕ) → m ≤ n → (e : Entry) → OneWithin m e → OneWithin n e
one_more m n le (Made d) is = omega (arith, le, is)
one_more m n le (Used u) is = tt

pub within_more : (m n : ℕ) → m ≤ n → (log : List Entry) → AllWithin m log → AllWithin n log
within_more m n le [] all = tt
within_more m n le (e ∷ log) all = (one_more m n le e all.0, within_more m n le log all.1)

pub within_push : (m n : ℕ) → m ≤ n → (log : List Entry) (e : Entry) → AllWithin n log → OneWithin m e → AllWithin n (log ++ e ∷ [])
within_push m n le [] e all one = (one_more m n le e one, tt)
within_push m n le (x ∷ log) e all one = (all.0, within_push m n le log e all.1 one)

within_first : (m : ℕ) (seen more : List Entry) → AllWithin m (seen ++ more) → AllWithin m seen
within_first m [] more all = tt
within_first m (e ∷ seen) more all = (all.0, within_first m seen more all.1)

pub within_before : (m : ℕ) (seen log : List Entry) → IsPrefix seen log → AllWithin m log → AllWithin m seen
within_before m seen log grows all = within_first m seen grows.0 (subst (AllWithin m) (sym grows.1) all)

pub size_itself : (m : ℕ) → m ≤ m
size_itself m = omega arith

le_true : (a b : ℕ) → a ≤ b → nat_le a b ≡ true
le_true a b le = grind (arith, le)

or_right : (a b : Bool) → b ≡ true → (a || b) ≡ true
or_right true b is = refl
or_right false b is = is

and_both : (a b : Bool) → a ≡ true → b ≡ true → (a && b) ≡ true
and_both true b is is' = is'
and_both false b is is' = absurd (cc)

pub fills_within : (m : ℕ) (st : State) (log : List Entry) → AllWithin m log → FillsWithin m (moments st log)
fills_within m st [] all = refl
fills_within m st (Used u ∷ log) all = fills_within m st log all.1
fills_within m st (Made d ∷ log) all = and_both _ _ (or_right (not (fills st d.event)) (nat_le d.size m) (le_true d.size m all.0)) (fills_within m (done_by next st (timed_deed d)).0 log all.1)

-- ---- tokens

module _ {M : Type 1} {𝓤 : Ura M} (𝓛 : Logic 𝓤) (γ : ℕ) where
  abbrev Pr : Type 2
  Pr = SProp 𝓤

  abbrev ◌⊢◌ : Pr → Pr → Type 1
  P ⊢ Q = ent 𝓤 P Q

  abbrev ◌∗◌ : Pr → Pr → Pr
  P ∗ Q = sep 𝓤 P Q

  abbrev ⟦◌⟧ : Fml → Pr
  ⟦ P ⟧ = sem 𝓛 P

  infix 26 ◌⊢◌
  infixr 35 ◌∗◌
  pub had_twice : (m : ℕ) → ⟦ had_size γ m ⟧ ⊢ ⟦ had_size γ m ⟧ ∗ ⟦ had_size γ m ⟧
  had_twice m = at_least_dup numbers 𝓛 γ m

  -- whoever has a part of it knows that it is the greatest
  pub size_bounds : (m n : ℕ) (q : Share) → ⟦ size_part γ n q ⟧ ∗ ⟦ had_size γ m ⟧ ⊢ guard 𝓤 (m ≤ n) (⟦ size_part γ n q ⟧ ∗ ⟦ had_size γ m ⟧)
  size_bounds m n q = latest_bounds numbers 𝓛 q γ n m

  pub bound_push : (m : ℕ) (log : List Entry) (e : Entry) → OneWithin m e → ⟦ bounded γ log ⟧ ∗ ⟦ had_size γ m ⟧ ⊢ ⟦ bounded γ (log ++ e ∷ []) ⟧
  bound_push m log e one = let log' : List Entry = log ++ e ∷ [] in qed 𝓛 (‵ (bounded γ log) ∷ ‵ (had_size γ m) ∷ []) ∵ fpick ! (λ n. fsplit ! $ move ! (1 ∷ []) $ fpick ! (λ all. drop ! $
      -- [the greatest; the size]
      use2 𝓛 (given (m ≤ n) (‵ (size_part γ n quarter) ⊛ ‵ (had_size γ m))) (size_bounds m n quarter) $ learn ! (λ le. split ! $ keep ! (0 ∷ []) $
      nothing ! $ fpack ! (AllWithin n log') (λ _. ftrue) (within_push m n le log e all one) $ move ! (1 ∷ 0 ∷ []) $ fjoin ! $ fpack ! ℕ (bound_at γ log') n $ done !)))

  pub bound_tells : (log seen : List Entry) → IsPrefix seen log → ⟦ bounded γ log ⟧ ⊢ ⟦ bounded γ log ⟧ ∗ ⟦ is_within γ seen ⟧
  bound_tells log seen grows = qed 𝓛 (‵ (bounded γ log) ∷ []) ∵ fpick ! (λ n. fsplit ! $ move ! (1 ∷ []) $ fpick ! (λ all. drop ! $
      use1 𝓛 (‵ (size_part γ n quarter) ⊛ ‵ (had_size γ n)) (latest_shows numbers 𝓛 quarter γ n n (numbers.same n)) $ split ! $
      -- [the greatest; that the book had it]
      nothing ! $ fpack ! (AllWithin n log) (λ _. ftrue) all $ move ! (1 ∷ 0 ∷ []) $ fjoin ! $ fpack ! ℕ (bound_at γ log) n $
      move ! (1 ∷ []) $ nothing ! $ fpack ! (AllWithin n seen) (λ _. ftrue) (within_before n seen log grows all) $ move ! (1 ∷ 0 ∷ []) $ fjoin ! $ fpack ! ℕ (within_at γ seen) n $ move ! (1 ∷ 0 ∷ []) $ done !))

  -- with a part of the greatest
  pub within_most : (log : List Entry) (n : ℕ) (q : Share) → ⟦ size_part γ n q ⟧ ∗ ⟦ is_within γ log ⟧ ⊢ guard 𝓤 (AllWithin n log) ⟦ size_part γ n q ⟧
  within_most log n q = qed 𝓛 (‵ (size_part γ n q) ∷ ‵ (is_within γ log) ∷ []) ∵ move ! (1 ∷ []) $ fpick ! (λ m. fsplit ! $ move ! (1 ∷ []) $ fpick ! (λ all. drop ! $
      move ! (1 ∷ 0 ∷ []) $ use2 𝓛 (given (m ≤ n) (‵ (size_part γ n q) ⊛ ‵ (had_size γ m))) (size_bounds m n q) $ learn ! (λ le. split ! $ check ! (within_more m n le log all) $ keep ! (0 ∷ []) $ done !)))

  -- the greatest is raised, and the book had the new size
  abbrev pub Raised : ℕ → ℕ → List Entry → Pr
  Raised n m log = ⟦ bounded γ log ⟧ ∗ ⟦ sets_size γ (max n m) ⟧ ∗ ⟦ had_size γ m ⟧

  pub bound_raised : (n m : ℕ) (log : List Entry) → ⟦ bounded γ log ⟧ ∗ ⟦ sets_size γ n ⟧ ⊢ upd 𝓤 (Raised n m log)
  bound_raised n m log = let k : ℕ = max n m in let Z : Pr = Raised n m log in qed 𝓛 (‵ (bounded γ log) ∷ ‵ (sets_size γ n) ∷ []) ∵ fpick ! (λ j. fsplit ! $ move ! (1 ∷ []) $ fpick ! (λ all. drop ! $
      -- [the book's part; the other]
      use2 𝓛 (given (j ≡ n) (‵ (size_part γ j quarter) ⊛ ‵ (sets_size γ n))) (latest_agrees numbers 𝓛 quarter three_quarters γ j n) $ learn ! (λ same. split ! $
      rewrite ! 0 (λ (i : ℕ). ‵ (size_part γ i quarter)) same refl $ use2 𝓛 (‵ (size_part γ n full_share)) (latest_glue numbers 𝓛 full_share quarter three_quarters γ n quarters) $
      use1 𝓛 (raw (upd 𝓤 ⟦ size_part γ k full_share ⟧)) (latest_grows numbers 𝓛 γ n k (let le : n ≤ max n m = grind arith in le)) $ settle 𝓛 Z (‵ (size_part γ k full_share)) $ suffices ! _ (upd_i 𝓤 Z) $
      use1 𝓛 (‵ (size_part γ k full_share) ⊛ ‵ (had_size γ m)) (latest_shows numbers 𝓛 full_share γ k m (let le : m ≤ max n m = grind arith in le)) $ split ! $
      use1 𝓛 (‵ (size_part γ k quarter) ⊛ ‵ (sets_size γ k)) (latest_cut numbers 𝓛 full_share quarter three_quarters γ k quarters) $ split ! $
      -- [the book's part; the other; that the book had it]
      nothing ! $ fpack ! (AllWithin k log) (λ _. ftrue) (within_more j k (let le : j ≤ max n m = grind (arith, same) in le) log all) $ move ! (1 ∷ 0 ∷ []) $ fjoin ! $ fpack ! ℕ (bound_at γ log) k $ done !)))
