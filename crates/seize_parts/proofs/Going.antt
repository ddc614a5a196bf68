-- Parts of a reclaim of all, one after another: what the reclaimer had, what the watch was told, what waits, and what the hands hold.
use Rattle.std.proofs.Common.{◌≡◌, ℕ, zero, suc, ◌+◌, ◌-◌, ◌≤◌, ◌⊎◌, inl, inr, ⊎_elim, List, [], ◌∷◌, ◌++◌, append_assoc, refl, sym, ap, subst, ◌∙◌, arith}
use Rattle.std.specs.List.{fold, range_with_len}
use Rattle.std.proofs.lemmas.List.{append-nil}
use base.Stored.{Gv}
use Rattle.seize_machine.specs.Machine.State.{are_distinct, linked_values}
use Rattle.seize_model.specs.Waiting.Attempt.{StateAndGone, with_gone}
use Rattle.seize_model.specs.Waiting.State.{ModelState}
use Rattle.seize_book.specs.Kept.{kepts_of}
use Rattle.seize_book.specs.Passes.{IsSamePass}
use Rattle.seize_book.specs.Tokens.{Name}
use Rattle.seize_book.specs.Values.{values_of}
use Rattle.seize_book.specs.declared.book.pass.Pass.{Pass}
use Rattle.seize_book.proofs.Facts.{same_twice}
use Rattle.seize_calls.specs.Furthers.{further_in}
use Rattle.seize_calls.specs.Handing.{Had, IsServed}
use Rattle.seize_calls.specs.declared.further.Further.{Further}
use Rattle.seize_alone.proofs.Nothing.{had_append}
use Rattle.seize_alone.specs.Holding.{Holds, HoldsThen}
use Rattle.seize_alone.specs.Reclaiming.{batch_in_turn, batches_in_turn, part_in_turn, parts_in_turn}
use Rattle.seize_parts.specs.Aparts.{Fits, Goes, WaitsBehind, values_put_in, words_put_in}
use Rattle.seize_parts.specs.Told.{AreCodes, HasTold}
use Rattle.seize_parts.proofs.Behind.{values_append, words_append}
use Rattle.seize_parts.proofs.Given.{put_more}

-- What was had, twice.

codes_then : {T : Type 0} (code : T → Gv) (xs ys : List T) (a b : Had) → AreCodes code xs a → AreCodes code ys b → AreCodes code (xs ++ ys) (a ++ b)
codes_then code [] ys [] b one two = two
codes_then code (x ∷ xs) ys (h ∷ a) b one two = (one.0, codes_then code xs ys a b one.1 two)
codes_then code [] ys (h ∷ a) b one two = absurd one
codes_then code (x ∷ xs) ys [] b one two = absurd one

fold_then : {T Seen : Type 0} (told : Seen → T → Seen) (seen : Seen) (xs ys : List T) → fold told seen (xs ++ ys) ≡ fold told (fold told seen xs) ys
fold_then told seen [] ys = refl
fold_then told seen (x ∷ xs) ys = fold_then told (told seen x) xs ys

pub told_then : {T Seen : Type 0} (code : T → Gv) (told : Seen → T → Seen) (s t u : Seen) (a b : Had) → HasTold code told s t a → HasTold code told t u b → HasTold code told s u (a ++ b)
told_then code told s t u a b one two =
    (one.0 ++ two.0, codes_then code one.0 two.0 a b one.1 two.1, two.2 ∙ ap (λ (x : _). fold told x two.0) one.2 ∙ sym (fold_then told s one.0 two.0))

pub waits_then : (n : Name) (a b : Had) (p q r : Further) → WaitsBehind n a p q → WaitsBehind n b q r → WaitsBehind n (a ++ b) p r
waits_then n a b p q r one two = record {
  served = two.served;
  values = two.values ∙ ap (λ (vs : List ℕ). vs ++ values_put_in b) one.values ∙ append_assoc (values_of (further_in p)) (values_put_in a) (values_put_in b) ∙ ap (λ (vs : List ℕ). values_of (further_in p) ++ vs) (sym (values_append a b));
  words = two.words ∙ ap (λ (vs : List ℕ). vs ++ words_put_in b) one.words ∙ append_assoc (kepts_of (further_in p)) (words_put_in a) (words_put_in b) ∙ ap (λ (vs : List ℕ). kepts_of (further_in p) ++ vs) (sym (words_append a b));
}

pub waits_none : (n : Name) (queue : Further) → IsServed (further_in queue) n → WaitsBehind n [] queue queue
waits_none n queue served = record { served = served; values = sym (append-nil (values_of (further_in queue))); words = sym (append-nil (kepts_of (further_in queue))) }

-- of another name that is the same
pub waits_as : (n m : Name) (had : Had) (p q : Further) → m ≡ n → WaitsBehind n had p q → WaitsBehind m had p q
waits_as n m had p q same is = subst (λ (x : Name). WaitsBehind x had p q) (sym same) is

-- Parts.

module _ {T Seen : Type 0} (code : T → Gv) (puts : ℕ → T → List T) (told : Seen → T → Seen) where
  -- nothing is done
  pub goes_none : (May : ModelState T ℕ → Type 0) (pass : Pass) (seen : Seen) (queue : Further) → IsServed (further_in queue) pass.name → Goes code puts told May (λ st. (st, [])) pass pass seen seen queue queue
  goes_none May pass seen queue served = record {
    same = (refl, refl, refl);
    had = [];
    put = tt;
    tells = ([], tt, refl);
    waits = waits_none pass.name queue served;
    holds = λ st names kinds may holds. ((names, kinds, holds), tt);
  }

  -- it is said of another state, and the outcome is the same
  pub goes_as : {May May' : ModelState T ℕ → Type 0} {does does' : ModelState T ℕ → StateAndGone T ℕ} {p q : Pass} {seen seen' : Seen} {queue queue' : Further} → ((st : ModelState T ℕ) → May' st → May st) → ((st : ModelState T ℕ) → May' st → does st ≡ does' st)
      → Goes code puts told May does p q seen seen' queue queue' → Goes code puts told May' does' p q seen seen' queue queue'
  goes_as {q = q} less same one = record {
    same = one.same;
    had = one.had;
    put = one.put;
    tells = one.tells;
    waits = one.waits;
    holds = λ st names kinds may holds. subst (λ (o : StateAndGone T ℕ). HoldsThen code o one.had q) (same st may) (one.holds st names kinds (less st may) holds);
  }

  -- so it is said of the states that hands hold
  pub goes_held : {May May' : ModelState T ℕ → Type 0} {does does' : ModelState T ℕ → StateAndGone T ℕ} {p q : Pass} {seen seen' : Seen} {queue queue' : Further}
      → ((st : ModelState T ℕ) (names : List (ℕ × T)) (kinds : List (ℕ × ℕ)) → May' st → Holds code st names kinds p.name p.seen → May st × (does st ≡ does' st)) → Goes code puts told May does p q seen seen' queue queue' → Goes code puts told May' does' p q seen seen' queue queue'
  goes_held {q = q} leads one = record {
    same = one.same;
    had = one.had;
    put = one.put;
    tells = one.tells;
    waits = one.waits;
    holds = λ st names kinds may holds. let so = leads st names kinds may holds in subst (λ (o : StateAndGone T ℕ). HoldsThen code o one.had q) so.1 (one.holds st names kinds so.0 holds);
  }

  -- the list is the same
  pub goes_since : {May : ModelState T ℕ → Type 0} {does : ModelState T ℕ → StateAndGone T ℕ} {p q r : Pass} {seen seen' : Seen} {queue queue' : Further} → q ≡ p → Goes code puts told May does q r seen seen' queue queue' → Goes code puts told May does p r seen seen' queue queue'
  goes_since {May} {does} {p} {q} {r} {seen} {seen'} {queue} {queue'} same one = subst (λ (x : Pass). Goes code puts told May does x r seen seen' queue queue') same one

  -- one part, and then another
  pub goes_then : {May May' : ModelState T ℕ → Type 0} {does does' : ModelState T ℕ → StateAndGone T ℕ} {p q r : Pass} {seen seen' seen'' : Seen} {queue queue' queue'' : Further}
      → (one : Goes code puts told May does p q seen seen' queue queue') → Goes code puts told May' does' q r seen' seen'' queue' queue''
      → ((st : ModelState T ℕ) (names : List (ℕ × T)) (kinds : List (ℕ × ℕ)) → May st → Holds code st names kinds p.name p.seen → HoldsThen code (does st) one.had q → May' (does st).0)
      → Goes code puts told May (λ st. let o = does st in with_gone o.1 (does' o.0)) p r seen seen'' queue queue''
  goes_then {does = does} {does'} {p} {q} {r} {seen} {seen'} {seen''} {queue} {queue'} {queue''} one two may_then = record {
    same = same_twice p q r one.same two.same;
    had = one.had ++ two.had;
    put = put_more code puts one.had two.had one.put two.put;
    tells = told_then code told seen seen' seen'' one.had two.had one.tells two.tells;
    waits = waits_then p.name one.had two.had queue queue' queue'' one.waits (waits_as q.name p.name two.had queue' queue'' (sym one.same.0) two.waits);
    holds = λ st names kinds may holds.
        let mid = one.holds st names kinds may holds in let end = two.holds (does st).0 mid.0.0 mid.0.1 (may_then st names kinds may holds mid) mid.0.2 in
        (end.0, had_append code one.had two.had (does st).1 (does' (does st).0).1 mid.1 end.1);
  }

-- the same pass fits a state of the same size
pub fits_then : {T : Type 0} (p q : Pass) (st now : ModelState T ℕ) → IsSamePass p q → now.size ≡ st.size → Fits p st → Fits q now
fits_then p q st now same size fits = (size ∙ fits.0 ∙ sym same.2, ap (λ (n : Name). are_distinct (linked_values n.links)) same.0 ∙ fits.1)

-- Ranges of numbers.

pub range_append : (m k n : ℕ) → range_with_len k (m + n) ≡ range_with_len k m ++ range_with_len (k + m) n
range_append zero k n = ap (λ (j : ℕ). range_with_len k j) (none n) ∙ ap (λ (j : ℕ). range_with_len j n) (same k)
  where
    none : (n : ℕ) → 0 + n ≡ n
    none n = omega arith

    same : (k : ℕ) → k ≡ k + 0
    same k = omega arith
range_append (suc m) k n =
    ap (λ (j : ℕ). range_with_len k j) (more m n) ∙ ap (λ (l : List ℕ). k ∷ l) (range_append m (k + 1) n ∙ ap (λ (j : ℕ). range_with_len (k + 1) m ++ range_with_len j n) (next k m))
  where
    more : (m n : ℕ) → suc m + n ≡ suc (m + n)
    more m n = omega arith

    next : (k m : ℕ) → k + 1 + m ≡ k + suc m
    next k m = omega arith

module _ {T R : Type 0} where
  with_gone_twice : (a b : List (T × R)) (o : StateAndGone T R) → with_gone a (with_gone b o) ≡ with_gone (a ++ b) o
  with_gone_twice a b o = λ j. (o.0, sym (append_assoc a b o.1) j)

  pub parts_append : (st : ModelState T R) (ss ts : List ℕ) → parts_in_turn st (ss ++ ts) ≡ with_gone (parts_in_turn st ss).1 (parts_in_turn (parts_in_turn st ss).0 ts)
  parts_append st [] ts = refl
  parts_append st (s ∷ ss) ts =
      let o = part_in_turn st s in
      ap (λ (x : StateAndGone T R). with_gone o.1 x) (parts_append o.0 ss ts)
      ∙ with_gone_twice o.1 (parts_in_turn o.0 ss).1 (parts_in_turn (parts_in_turn o.0 ss).0 ts)

  pub batches_append : (st : ModelState T R) (ss ts : List ℕ) → batches_in_turn st (ss ++ ts) ≡ with_gone (batches_in_turn st ss).1 (batches_in_turn (batches_in_turn st ss).0 ts)
  batches_append st [] ts = refl
  batches_append st (s ∷ ss) ts =
      let o = batch_in_turn st s in
      ap (λ (x : StateAndGone T R). with_gone o.1 x) (batches_append o.0 ss ts)
      ∙ with_gone_twice o.1 (batches_in_turn o.0 ss).1 (batches_in_turn (batches_in_turn o.0 ss).0 ts)

  with_none : (o : StateAndGone T R) → with_gone o.1 (o.0, []) ≡ o
  with_none o = λ j. (o.0, append-nil o.1 j)

  -- one more, the last one
  pub part_more : (st : ModelState T R) (n : ℕ) → parts_in_turn st (range_with_len 0 (n + 1)) ≡ with_gone (parts_in_turn st (range_with_len 0 n)).1 (part_in_turn (parts_in_turn st (range_with_len 0 n)).0 n)
  part_more st n =
      let first = parts_in_turn st (range_with_len 0 n) in let last = part_in_turn first.0 n in
      ap (parts_in_turn st) (range_append n 0 1 ∙ ap (λ (k : ℕ). range_with_len 0 n ++ range_with_len k 1) (zero_more n)) ∙ parts_append st (range_with_len 0 n) (n ∷ [])
      ∙ ap (λ (o : StateAndGone T R). with_gone first.1 o) (with_none last)
    where
      zero_more : (n : ℕ) → 0 + n ≡ n
      zero_more n = omega arith

  pub batch_more : (st : ModelState T R) (n : ℕ) → batches_in_turn st (range_with_len 0 (n + 1)) ≡ with_gone (batches_in_turn st (range_with_len 0 n)).1 (batch_in_turn (batches_in_turn st (range_with_len 0 n)).0 n)
  batch_more st n =
      let first = batches_in_turn st (range_with_len 0 n) in let last = batch_in_turn first.0 n in
      ap (batches_in_turn st) (range_append n 0 1 ∙ ap (λ (k : ℕ). range_with_len 0 n ++ range_with_len k 1) (zero_more n)) ∙ batches_append st (range_with_len 0 n) (n ∷ [])
      ∙ ap (λ (o : StateAndGone T R). with_gone first.1 o) (with_none last)
    where
      zero_more : (n : ℕ) → 0 + n ≡ n
      zero_more n = omega arith

-- Two ranges from the first number on do the same where beyond each nothing is done.
pub range_both : {T R : Type 0} (turns : ModelState T R → List ℕ → StateAndGone T R) → ((st : ModelState T R) (ss ts : List ℕ) → turns st (ss ++ ts) ≡ with_gone (turns st ss).1 (turns (turns st ss).0 ts)) → (st : ModelState T R) (a b : ℕ)
    → ((k : ℕ) → turns (turns st (range_with_len 0 a)).0 (range_with_len a k) ≡ ((turns st (range_with_len 0 a)).0, [])) → ((k : ℕ) → turns (turns st (range_with_len 0 b)).0 (range_with_len b k) ≡ ((turns st (range_with_len 0 b)).0, []))
    → turns st (range_with_len 0 a) ≡ turns st (range_with_len 0 b)
range_both {T} {R} turns append st a b beyond_a beyond_b = ⊎_elim (λ less. sym (longer a b less beyond_a)) (λ more. longer b a more beyond_b) (past_or a b)
  where
    past_or : (a b : ℕ) → (a ≤ b) ⊎ (b ≤ a)
    past_or zero b = inl (omega arith)
    past_or (suc a) zero = inr (omega arith)
    past_or (suc a) (suc b) = ⊎_elim (λ less. inl (omega (arith, less))) (λ more. inr (omega (arith, more))) (past_or a b)

    longer : (a b : ℕ) → a ≤ b → ((k : ℕ) → turns (turns st (range_with_len 0 a)).0 (range_with_len a k) ≡ ((turns st (range_with_len 0 a)).0, [])) → turns st (range_with_len 0 b) ≡ turns st (range_with_len 0 a)
    longer a b less beyond =
        let first = turns st (range_with_len 0 a) in let whole : a + (b - a) ≡ b = omega (arith, less) in let from : 0 + a ≡ a = omega arith in
        ap (λ (k : ℕ). turns st (range_with_len 0 k)) (sym whole) ∙ ap (turns st) (range_append a 0 (b - a)) ∙ append st (range_with_len 0 a) (range_with_len (0 + a) (b - a))
        ∙ ap (λ (k : ℕ). with_gone first.1 (turns first.0 (range_with_len k (b - a)))) from
        ∙ ap (λ (o : StateAndGone T R). with_gone first.1 o) (beyond (b - a)) ∙ (λ j. (first.0, append-nil first.1 j))
