-- What the words of counts show: the count of the one batch that has values and whose first value lies in the block.
use Rattle.std.proofs.Common.{◌≡◌, ◌≢◌, ℕ, zero, suc, ◌+◌, ◌-◌, ◌%◌, ◌^◌, ◌<◌, ◌≤◌, ℤ, pos, negsuc, ◌+ℤ◌, ◌-ℤ◌, Bool, true, false, ◌==◌, if◌then◌else◌, List, [], ◌∷◌, ◌++◌, length, get_or, set, Some, refl, sym, ◌∙◌, ap, subst, ◌⊎◌, inl, inr, arith}
use Rattle.std.specs.List.{Contains}
use Rattle.std.proofs.lemmas.Int.{ints}
use Rattle.std.proofs.lemmas.List.{get_or-set_same, get_or-set_other, get_or_past}
use Rattle.std.proofs.lemmas.Bool.{cases_lt}
use Rattle.seize_machine.specs.Machine.State.{State, Batch, Rest, Add, no_batch, batch_at}
use Rattle.seize_machine.specs.Machine.Event.{Event, AddCount, SubCount}
use Rattle.seize_machine.specs.Machine.Next.{next, scheme, of_call, adding_at, add_count, walking_at, sub_count, is_zero}
use Rattle.seize_machine.specs.Machine.History.{IsReached, first_or_none}
use Rattle.seize_machine.specs.Machine.Laws.{added_batch}
use Rattle.seize_machine.specs.declared.machine.event.Answer.{Answer}
use Rattle.seize_machine.specs.declared.machine.event.Answer.TheVariants.{Count}
use Rattle.seize_machine.proofs.Facts.{Step, Stands, some_is, eq_true, is_true, batched_named, batched_once, counts_near}
use Rattle.seize_book.specs.Blocks.{IsNear, count_word}
use Rattle.seize_book.specs.Homes.{HasOne, IsSound, changes_count, count_in, counts_in, home_of, is_home, is_batch_in, is_in}
use Rattle.seize_book.proofs.Lists.{unequal}

-- what a batch adds to the count of a block
abbrev share : ℕ → Batch → ℤ
share k batch = if is_in k batch then batch.count else pos 0

counts_push : (k : ℕ) (xs : List Batch) (x : Batch) → x.count ≡ pos 0 → counts_in k (xs ++ x ∷ []) ≡ counts_in k xs
counts_push k [] x e = go (is_in k x)
  where
    go : (b : Bool) → (if b then x.count else pos 0) +ℤ pos 0 ≡ pos 0
    go true = omega (arith, ints, e)
    go false = omega (arith, ints)
counts_push k (y ∷ xs) x e = ap (λ (z : ℤ). share k y +ℤ z) (counts_push k xs x e)

share_none : (k : ℕ) (x : Batch) → is_in k x ≡ false → share k x ≡ pos 0
share_none k x h = ap (λ (b : Bool). if b then x.count else pos 0) h

-- a batch of another block becomes another one of another block
counts_set : (k b : ℕ) (xs : List Batch) (x : Batch) → is_in k (get_or xs b no_batch) ≡ false → is_in k x ≡ false → counts_in k (set xs b x) ≡ counts_in k xs
counts_set k b [] x h g = refl
counts_set k zero (y ∷ xs) x h g = ap (λ (z : ℤ). z +ℤ counts_in k xs) (share_none k x g ∙ sym (share_none k y h))
counts_set k (suc b) (y ∷ xs) x h g = ap (λ (z : ℤ). share k y +ℤ z) (counts_set k b xs x h g)

-- the batch comes to a count, and may give its values up
abbrev pub come : Batch → Bool → ℤ → Batch
come batch up count = record { values = if up then [] else batch.values; count = count }

pub still_out : (k : ℕ) (batch : Batch) (up : Bool) (count : ℤ) → is_in k batch ≡ false → is_in k (come batch up count) ≡ false
still_out k batch true count h = refl
still_out k batch false count h = h

-- an event that does not count it leaves it as it was
pub count_frame : (k size : ℕ) (st : State) (event : Event) (d : State × Answer) → Step size st event d → changes_count st k event ≡ false → count_in d.0 k ≡ count_in st k
count_frame k size st event _ (Step.detached s n note marks queue e le) h = counts_push k st.batches _ refl
count_frame k size st event _ (Step.added s b won queue d e is) h =
    let out : is_in k (batch_at st b) ≡ false = ap (λ o. is_batch_in st k (added_batch o)) (sym e) ∙ h in
    let count : ℤ = (batch_at st b).count +ℤ pos won in
    subst (λ (x : State × Answer). count_in x.0 k ≡ count_in st k) (some_is _ _ is) (counts_set k b st.batches (come (batch_at st b) (is_zero count) count) out (still_out k (batch_at st b) (is_zero count) count out))
count_frame k size st event _ (Step.subtracted s b walk queue d e is) h =
    let out : is_in k (batch_at st b) ≡ false = ap (λ o. is_batch_in st k (of_call walking_at o)) (sym e) ∙ h in
    let count : ℤ = (batch_at st b).count -ℤ pos 1 in
    subst (λ (x : State × Answer). count_in x.0 k ≡ count_in st k) (some_is _ _ is) (counts_set k b st.batches (come (batch_at st b) (is_zero count) count) out (still_out k (batch_at st b) (is_zero count) count out))
count_frame k size st event _ _ h = refl

-- Of the batches in a block at most one has values, and the others add nothing.

-- a batch in the block has a value there
in_value : (k : ℕ) (values : List ℕ) → is_home k (first_or_none values) ≡ true → (v : ℕ) × Contains values v × (home_of v ≡ k)
in_value k [] h = absurd (cc)
in_value k (v ∷ values) h = (v, (0, omega arith, refl), eq_true (home_of v) k h)

alone : (st : State) → IsReached st → HasOne st → (k b c : ℕ) → is_in k (batch_at st b) ≡ true → is_in k (batch_at st c) ≡ true → b ≡ c
alone st r one k b c in_b in_c =
    let x = in_value k (batch_at st b).values in_b in
    let y = in_value k (batch_at st c).values in_c in
    let here = batched_named st r b x.0 x.1 in
    let there = batched_named st r c y.0 y.1 in
    let same : y.0 ≡ x.0 = one y.0 x.0 (y.2 ∙ sym x.2) there.0 here.0 there.1 here.1 in
    batched_once st r b c x.0 x.1 (subst (Contains (batch_at st c).values) same y.1)

pub others_out : (st : State) → IsReached st → HasOne st → (k b : ℕ) → is_in k (batch_at st b) ≡ true → (c : ℕ) → c ≢ b → is_in k (batch_at st c) ≡ false
others_out st r one k b h c other = go (is_true (is_in k (batch_at st c)))
  where
    go : (is_in k (batch_at st c) ≡ true) ⊎ (is_in k (batch_at st c) ≡ false) → is_in k (batch_at st c) ≡ false
    go (inl t) = absurd (other (sym (alone st r one k b c h t)))
    go (inr n) = n

counts_none : (k : ℕ) (xs : List Batch) → ((c : ℕ) → is_in k (get_or xs c no_batch) ≡ false) → counts_in k xs ≡ pos 0
counts_none k [] out = refl
counts_none k (x ∷ xs) out = omega (arith, ints, share_none k x (out zero), counts_none k xs (λ c. out (suc c)))

counts_one : (k b : ℕ) (xs : List Batch) → ((c : ℕ) → c ≢ b → is_in k (get_or xs c no_batch) ≡ false) → counts_in k xs ≡ share k (get_or xs b no_batch)
counts_one k b [] out = refl
counts_one k zero (x ∷ xs) out = omega (arith, ints, counts_none k xs (λ c. out (suc c) (omega arith)))
counts_one k (suc b) (x ∷ xs) out = omega (arith, ints, share_none k x (out zero (omega arith)), counts_one k b xs (λ c other. out (suc c) (omega (arith, other))))

share_all : (k : ℕ) (x : Batch) → is_in k x ≡ true → share k x ≡ x.count
share_all k x h = ap (λ (b : Bool). if b then x.count else pos 0) h

pub count_alone : (st : State) → IsReached st → HasOne st → (k b : ℕ) → is_in k (batch_at st b) ≡ true → count_in st k ≡ (batch_at st b).count
count_alone st r one k b h = counts_one k b st.batches (others_out st r one k b h) ∙ share_all k (batch_at st b) h

-- An event that counts the batch in a block.

pub zero_is : (c : ℤ) → is_zero c ≡ true → pos 0 ≡ c
zero_is (pos n) e = ap pos (sym (eq_true n 0 e))
zero_is (negsuc n) e = absurd (cc)

-- where its count is 0, it gives its values up and adds nothing: that is its count too
come_share : (k : ℕ) (batch : Batch) (count : ℤ) → is_in k batch ≡ true → share k (come batch (is_zero count) count) ≡ count
come_share k batch count h = go (is_zero count) refl
  where
    go : (up : Bool) → is_zero count ≡ up → share k (come batch up count) ≡ count
    go true e = zero_is count e
    go false e = share_all k (come batch false count) h

pub in_range : (st : State) (k b : ℕ) → is_in k (batch_at st b) ≡ true → b < length st.batches
in_range st k b h = go (cases_lt b (length st.batches))
  where
    go : (b < length st.batches) ⊎ (length st.batches ≤ b) → b < length st.batches
    go (inl lt) = lt
    go (inr le) = absurd (let none : true ≡ false = sym h ∙ ap (is_in k) (get_or_past st.batches b no_batch le) in cc)

counted_in : (st : State) (b : ℕ) (count : ℤ) (k : ℕ) → IsReached st → HasOne st → is_in k (batch_at st b) ≡ true → counts_in k (set st.batches b (come (batch_at st b) (is_zero count) count)) ≡ count
counted_in st b count k r one h =
    let new : Batch = come (batch_at st b) (is_zero count) count in
    counts_one k b (set st.batches b new) (λ c other. ap (is_in k) (get_or-set_other st.batches b c new no_batch other) ∙ others_out st r one k b h c other)
    ∙ ap (share k) (get_or-set_same st.batches b new no_batch (in_range st k b h)) ∙ come_share k (batch_at st b) count h

pub count_added : (size : ℕ) (st : State) (s b won : ℕ) (queue : List ℕ) (d : State × Answer) (k : ℕ) → IsReached st → HasOne st → Stands st s (Add b won) queue → next size st (AddCount s) ≡ Some d → is_in k (batch_at st b) ≡ true
    → (count_in st k ≡ (batch_at st b).count) × (count_in d.0 k ≡ count_in st k +ℤ pos won) × (d.1 ≡ Count (count_in d.0 k))
count_added size st s b won queue d k r one stands does h =
    let was = count_alone st r one k b h in
    let is = some_is _ _ (ap (λ o. add_count scheme st s (of_call adding_at o)) (sym stands) ∙ does) in
    let now : count_in d.0 k ≡ (batch_at st b).count +ℤ pos won = ap (λ (x : State × Answer). count_in x.0 k) (sym is) ∙ counted_in st b ((batch_at st b).count +ℤ pos won) k r one h in
    (was, now ∙ ap (λ (c : ℤ). c +ℤ pos won) (sym was), ap (λ (x : State × Answer). x.1) (sym is) ∙ ap (λ (c : ℤ). Count c) (sym now))

pub count_subtracted : (size : ℕ) (st : State) (s b : ℕ) (walk queue : List ℕ) (d : State × Answer) (k : ℕ) → IsReached st → HasOne st → Stands st s (Rest [] (b ∷ walk)) queue → next size st (SubCount s) ≡ Some d → is_in k (batch_at st b) ≡ true
    → (count_in st k ≡ (batch_at st b).count) × (count_in d.0 k ≡ count_in st k -ℤ pos 1) × (d.1 ≡ Count (count_in d.0 k))
count_subtracted size st s b walk queue d k r one stands does h =
    let was = count_alone st r one k b h in
    let is = some_is _ _ (ap (λ o. sub_count scheme st s (of_call walking_at o)) (sym stands) ∙ does) in
    let now : count_in d.0 k ≡ (batch_at st b).count -ℤ pos 1 = ap (λ (x : State × Answer). count_in x.0 k) (sym is) ∙ counted_in st b ((batch_at st b).count -ℤ pos 1) k r one h in
    (was, now ∙ ap (λ (c : ℤ). c -ℤ pos 1) (sym was), ap (λ (x : State × Answer). x.1) (sym is) ∙ ap (λ (c : ℤ). Count c) (sym now))

-- A count within the numbers of slots is 0 only where its word is, and its word steps as the count does.

pub word_zero : (c : ℤ) → IsNear c → (count_word c == 0) ≡ is_zero c
word_zero (pos n) near = let same : n % 2 ^ 64 ≡ n = omega (arith, ints, near.1) in ap (λ (k : ℕ). k == 0) same
word_zero (negsuc n) near = let some : 2 ^ 64 - suc (n % 2 ^ 64) ≢ 0 = omega (arith, ints, near.0) in unequal (2 ^ 64 - suc (n % 2 ^ 64)) 0 some

pub word_added : (c : ℤ) (w : ℕ) → IsNear c → IsNear (c +ℤ pos w) → (count_word c + w) % 2 ^ 64 ≡ count_word (c +ℤ pos w)
word_added c w near after = go c near (c +ℤ pos w) refl after
  where
    go : (c : ℤ) → IsNear c → (e : ℤ) → c +ℤ pos w ≡ e → IsNear e → (count_word c + w) % 2 ^ 64 ≡ count_word e
    go (pos n) near (pos m) is after = let word : (n % 2 ^ 64 + w) % 2 ^ 64 ≡ m % 2 ^ 64 = omega (arith, ints, is) in word
    go (pos n) near (negsuc m) is after = absurd (omega (arith, ints, is))
    go (negsuc n) near (pos m) is after = let word : (2 ^ 64 - suc (n % 2 ^ 64) + w) % 2 ^ 64 ≡ m % 2 ^ 64 = omega (arith, ints, is, near.0, after.1) in word
    go (negsuc n) near (negsuc m) is after = let word : (2 ^ 64 - suc (n % 2 ^ 64) + w) % 2 ^ 64 ≡ 2 ^ 64 - suc (m % 2 ^ 64) = omega (arith, ints, is, near.0, after.0) in word

pub word_subtracted : (c : ℤ) → IsNear c → IsNear (c -ℤ pos 1) → (count_word c + (2 ^ 64 - 1)) % 2 ^ 64 ≡ count_word (c -ℤ pos 1)
word_subtracted c near after = go c near (c -ℤ pos 1) refl after
  where
    go : (c : ℤ) → IsNear c → (e : ℤ) → c -ℤ pos 1 ≡ e → IsNear e → (count_word c + (2 ^ 64 - 1)) % 2 ^ 64 ≡ count_word e
    go (pos n) near (pos m) is after = let word : (n % 2 ^ 64 + (2 ^ 64 - 1)) % 2 ^ 64 ≡ m % 2 ^ 64 = omega (arith, ints, is, near.1) in word
    go (pos n) near (negsuc m) is after = let word : (n % 2 ^ 64 + (2 ^ 64 - 1)) % 2 ^ 64 ≡ 2 ^ 64 - suc (m % 2 ^ 64) = omega (arith, ints, is, near.1) in word
    go (negsuc n) near (pos m) is after = absurd (omega (arith, ints, is))
    go (negsuc n) near (negsuc m) is after = let word : (2 ^ 64 - suc (n % 2 ^ 64) + (2 ^ 64 - 1)) % 2 ^ 64 ≡ 2 ^ 64 - suc (m % 2 ^ 64) = omega (arith, ints, is, near.0, after.0) in word

-- the counts of a sound state are near

pub batch_near : (st : State) → IsReached st → IsSound st → (b : ℕ) → IsNear (batch_at st b).count
batch_near st r sound b = let within = counts_near st r b in (omega (arith, ints, within.0, sound.few), omega (arith, ints, within.1, sound.few))

pub count_near : (st : State) → IsReached st → IsSound st → (k b : ℕ) → is_in k (batch_at st b) ≡ true → IsNear (count_in st k)
count_near st r sound k b h = subst IsNear (sym (count_alone st r sound.one k b h)) (batch_near st r sound b)

-- wherever the count stands: where no batch has its first value there, it is 0

abbrev Somewhere : ℕ → List Batch → Type 0
Somewhere k xs = (b : ℕ) × (is_in k (get_or xs b no_batch) ≡ true)

abbrev Nowhere : ℕ → List Batch → Type 0
Nowhere k xs = (c : ℕ) → is_in k (get_or xs c no_batch) ≡ false

nowhere : (k : ℕ) (x : Batch) (xs : List Batch) → is_in k x ≡ false → Nowhere k xs → Nowhere k (x ∷ xs)
nowhere k x xs none out zero = none
nowhere k x xs none out (suc c) = out c

one_more : (k : ℕ) (x : Batch) (xs : List Batch) → (is_in k x ≡ true) ⊎ (is_in k x ≡ false) → Somewhere k xs ⊎ Nowhere k xs → Somewhere k (x ∷ xs) ⊎ Nowhere k (x ∷ xs)
one_more k x xs (inl here) rest = inl (zero, here)
one_more k x xs (inr none) (inl there) = inl (suc there.0, there.1)
one_more k x xs (inr none) (inr out) = inr (nowhere k x xs none out)

some_in : (k : ℕ) (xs : List Batch) → Somewhere k xs ⊎ Nowhere k xs
some_in k [] = inr (λ c. refl)
some_in k (x ∷ xs) = one_more k x xs (is_true (is_in k x)) (some_in k xs)

pub any_near : (st : State) → IsReached st → IsSound st → (k : ℕ) → IsNear (count_in st k)
any_near st r sound k = go (some_in k st.batches)
  where
    go : Somewhere k st.batches ⊎ Nowhere k st.batches → IsNear (count_in st k)
    go (inl there) = count_near st r sound k there.0 there.1
    go (inr out) = subst IsNear (sym (counts_none k st.batches out)) (omega (arith, ints), omega (arith, ints))
