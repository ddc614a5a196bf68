-- Keys of the values of a batch, to which one more comes.
use Rattle.std.proofs.Common.{◌≡◌, ◌≢◌, ℕ, suc, ◌+◌, ◌-◌, ◌≤◌, ◌^◌, ◌==◌, min, true, false, List, [], ◌∷◌, ◌++◌, length, map, refl, sym, ap, subst, ◌∙◌, append-nil, arith}
use Rattle.std.proofs.lemmas.List.{length-append, length_push}
use base.Stored.{Gv, gcons, gnil, gnum}
use Rattle.seize_machine.proofs.Facts.{eq_true}
use Rattle.seize_book.specs.Blocks.{block_number}
use Rattle.seize_book.specs.Book.{blocks}
use Rattle.seize_book.specs.Entry.{Entry}
use Rattle.seize_book.specs.Ledger.{HeldKey, with_list}
use Rattle.seize_book.specs.Linked.{are_joined, are_linked, next_in}
use Rattle.seize_book.specs.Private.{is_one, label_of, labels_of, note_of}
use Rattle.seize_book.proofs.Facts.{equal}
use Rattle.seize_words.proofs.Facts.{parted_joined}
use Rattle.seize_book.specs.Kept.{kept_in, kepts_of}
use Rattle.seize_book.specs.Values.{FollowsValues}
use Rattle.seize_book.specs.declared.book.pass.Pass.{Pass}
use Rattle.seize_book.specs.declared.book.value_keys.ValueKeys.{ValueKeys}
use Rattle.seize_calls.specs.Batches.{without_slot, without_slots}
use Rattle.seize_calls.specs.Numbered.{are_none, ends_at, is_count_of, starts_at}
use Rattle.seize_calls.proofs.Rounds.{joined_past, leads_to}

abbrev Keys : Type 0
Keys = List (HeldKey Entry)

-- Numbers.

pub ends_last : (n : ℕ) (vs : List ℕ) (v : ℕ) → ends_at n (vs ++ v ∷ []) ≡ true → block_number v ≡ n
ends_last n [] v e = sym (eq_true n (block_number v) e)
ends_last n (w ∷ []) v e = sym (eq_true n (block_number v) e)
ends_last n (w ∷ x ∷ vs) v e = ends_last n (x ∷ vs) v e

pub last_ends : (n : ℕ) (vs : List ℕ) (v : ℕ) → block_number v ≡ n → ends_at n (vs ++ v ∷ []) ≡ true
last_ends n [] v e = equal n (block_number v) (sym e)
last_ends n (w ∷ []) v e = last_ends n [] v e
last_ends n (w ∷ x ∷ vs) v e = last_ends n (x ∷ vs) v e

pub starts_append : (n : ℕ) (vs ws : List ℕ) → starts_at n vs ≡ true → 1 ≤ length vs → starts_at n (vs ++ ws) ≡ true
starts_append n [] ws e some = absurd (omega (arith, some))
starts_append n (v ∷ vs) ws e some = e

pub starts_number : (n v : ℕ) (vs : List ℕ) → starts_at n (v ∷ vs) ≡ true → block_number v ≡ n
starts_number n v vs e = sym (eq_true n (block_number v) e)

pub counted_is : (n : ℕ) (vs : List ℕ) → is_count_of n vs ≡ true → n ≡ min (length vs) (2 ^ 64 - 1)
counted_is n vs e = eq_true n (min (length vs) (2 ^ 64 - 1)) e

pub is_counted : (n : ℕ) (vs : List ℕ) → n ≡ min (length vs) (2 ^ 64 - 1) → is_count_of n vs ≡ true
is_counted n vs e = equal n (min (length vs) (2 ^ 64 - 1)) e

pub counted_push : (n k : ℕ) (vs : List ℕ) (v : ℕ) → is_count_of n vs ≡ true → k ≡ min (n + 1) (2 ^ 64 - 1) → is_count_of k (vs ++ v ∷ []) ≡ true
counted_push n k vs v e is = let was = counted_is n vs e in let long = length_push vs v in is_counted k (vs ++ v ∷ []) (omega (arith, is, was, long))

pub counted_append : (n m k : ℕ) (vs ws : List ℕ) → is_count_of n vs ≡ true → is_count_of m ws ≡ true → k ≡ min (n + m) (2 ^ 64 - 1) → is_count_of k (vs ++ ws) ≡ true
counted_append n m k vs ws e f is = let was = counted_is n vs e in let more = counted_is m ws f in let long = length-append vs ws in is_counted k (vs ++ ws) (omega (arith, is, was, more, long))

pub none_counted : (n : ℕ) (vs : List ℕ) → is_count_of n vs ≡ true → n ≡ 0 → vs ≡ []
none_counted n [] e none = refl
none_counted n (v ∷ vs) e none = absurd (let is = counted_is n (v ∷ vs) e in omega (arith, is, none))

pub some_counted : (n : ℕ) (vs : List ℕ) → is_count_of n vs ≡ true → n ≢ 0 → 1 ≤ length vs
some_counted n vs e some = go vs (counted_is n vs e)
  where
    go : (vs : List ℕ) → n ≡ min (length vs) (2 ^ 64 - 1) → 1 ≤ length vs
    go [] is = absurd (some (let none : n ≡ 0 = omega (arith, is) in none))
    go (v ∷ vs) is = omega arith

pub some_is : (n : ℕ) (vs : List ℕ) → is_count_of n vs ≡ true → n ≢ 0 → are_none vs ≡ false
some_is n [] e some = absurd (let long = some_counted n [] e some in omega (arith, long))
some_is n (v ∷ vs) e some = refl

-- The last key.

before_one : (init one : Keys) → is_one blocks one ≡ true → are_linked (init ++ one) ≡ true → are_joined init one ≡ true
before_one init [] is linked = absurd (cc)
before_one init (h ∷ x ∷ one) is linked = absurd (cc)
before_one init (h ∷ []) is linked = parted_joined init h [] linked

pub joined_last : (all init one one' : Keys) → is_one blocks one ≡ true → is_one blocks one' ≡ true → label_of one' ≡ label_of one → all ≡ init ++ one → are_linked all ≡ true
    → are_joined init one' ≡ true
joined_last all init one one' is is' same parts linked =
    leads_to init (one ++ []) one one' [] is is' same refl
    (subst (λ (r : Keys). are_joined init r ≡ true) (sym (append-nil one)) (before_one init one is (subst (λ (r : Keys). are_linked r ≡ true) parts linked)))

pub last_joined : (init one : Keys) (h : HeldKey Entry) (n : ℕ) → is_one blocks one ≡ true → next_in (note_of one) ≡ n + 1 → block_number h.label ≡ n → are_joined (init ++ one) (h ∷ []) ≡ true
last_joined init [] h n is next number = absurd (cc)
last_joined init (k ∷ x ∷ one) h n is next number = absurd (cc)
last_joined init (k ∷ []) h n is next number = joined_past init k (h ∷ []) (same (next_in k.note) (block_number h.label) n next number)
  where
    same : (a b n : ℕ) → a ≡ n + 1 → b ≡ n → (a == suc b) ≡ true
    same a b n next number = grind (arith, next, number)

-- What is kept, of keys of which the last is noted anew.

abbrev pub kepts : Keys → List ℕ
kepts held = map (λ h. kept_in h.note) held

pub kepts_append : (a b : Keys) → kepts (a ++ b) ≡ kepts a ++ kepts b
kepts_append [] b = refl
kepts_append (h ∷ a) b = ap (λ (vs : List ℕ). kept_in h.note ∷ vs) (kepts_append a b)

pub kept_one : (one : Keys) (k : ℕ) → is_one blocks one ≡ true → kept_in (note_of one) ≡ k → kepts one ≡ k ∷ []
kept_one [] k is e = absurd (cc)
kept_one (h ∷ x ∷ one) k is e = absurd (cc)
kept_one (h ∷ []) k is e = ap (λ (n : ℕ). n ∷ []) e

-- Keys that were marked anew are of the same values.
pub remarked_labels : (a b : Keys) → without_slots a ≡ without_slots b → labels_of a ≡ labels_of b
remarked_labels a b same = sym (plain a) ∙ ap labels_of same ∙ plain b
  where
    plain : (held : Keys) → labels_of (without_slots held) ≡ labels_of held
    plain [] = refl
    plain (h ∷ held) = ap (λ (vs : List ℕ). h.label ∷ vs) (plain held)

pub renewed_labels : (held : Keys) (seen : List Entry) → labels_of (with_list held seen) ≡ labels_of held
renewed_labels [] seen = refl
renewed_labels (h ∷ held) seen = ap (λ (vs : List ℕ). h.label ∷ vs) (renewed_labels held seen)

-- What is kept of a value stays, where it is marked anew. This is for callers.

pub renewed_kepts : (held : Keys) (seen : List Entry) → kepts (with_list held seen) ≡ kepts held
renewed_kepts [] seen = refl
renewed_kepts (h ∷ held) seen = ap (λ (ks : List ℕ). kept_in h.note ∷ ks) (renewed_kepts held seen)

-- keys that know more say the same
pub kepts_kept : (keys keys' : ValueKeys) (pass' : Pass) → FollowsValues keys pass' keys' → kepts_of keys' ≡ kepts_of keys
kepts_kept keys keys' pass' keep = ap kepts keep.2 ∙ renewed_kepts keys.keys.held pass'.seen

abbrev plain_kept : Gv → ℕ
plain_kept (gcons a (gcons (gnum k) g)) = k
plain_kept g = 0

without_kept : (g : Gv) → plain_kept (without_slot g) ≡ kept_in g
without_kept gnil = refl
without_kept (gnum n) = refl
without_kept (gcons a gnil) = refl
without_kept (gcons a (gnum n)) = refl
without_kept (gcons a (gcons b gnil)) = refl
without_kept (gcons a (gcons b (gnum n))) = refl
without_kept (gcons a (gcons b (gcons gnil g))) = refl
without_kept (gcons a (gcons b (gcons (gnum k) g))) = refl
without_kept (gcons a (gcons b (gcons (gcons x y) g))) = refl

pub remarked_kepts : (a b : Keys) → without_slots a ≡ without_slots b → kepts a ≡ kepts b
remarked_kepts a b same = sym (plain a) ∙ ap (λ (held : Keys). map (λ h. plain_kept h.note) held) same ∙ plain b
  where
    plain : (held : Keys) → map (λ h. plain_kept h.note) (without_slots held) ≡ kepts held
    plain [] = refl
    plain (h ∷ held) = λ i. without_kept h.note i ∷ plain held i
