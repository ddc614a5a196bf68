-- Keys of several values.
use Rattle.std.proofs.Common.{◌≡◌, ℕ, Bool, true, ◌&&◌, ◌==◌, List, [], ◌∷◌, ◌++◌, refl, ◌∙◌, ap, arith}
use mathlib.Core.List.{cons≢nil}
use Rattle.seize_machine.proofs.Facts.{and_true, eq_true}
use Rattle.seize_book.specs.Book.{blocks, kinds}
use Rattle.seize_book.specs.Entry.{Entry}
use Rattle.seize_book.specs.Homes.{home_of}
use Rattle.seize_book.specs.Ledger.{HeldKey, WithKinds, with_list}
use Rattle.seize_book.specs.Private.{AreKeysOf, are_of_blocks, is_one, key_of, label_of, labels_of}
use Rattle.seize_book.specs.declared.book.value_key.ValueKey.{ValueKey}
use Rattle.seize_book.proofs.Linked.{are_later, still_closed}
use Rattle.seize_book.proofs.Lists.{equal}

-- keys of blocks are of a kind
pub blocks_within : (vs : List (HeldKey Entry)) → are_of_blocks vs ≡ true → WithKinds kinds vs
blocks_within [] are = tt
blocks_within (x ∷ vs) are =
    let both = and_true _ _ are in
    (let is : x.kind ≡ blocks = eq_true x.kind blocks (and_true _ _ both.0).0 in omega arith, blocks_within vs both.1)

-- the values whose keys they are stay as the keys learn more
pub labels_later : (vs : List (HeldKey Entry)) (log : List Entry) → labels_of (with_list vs log) ≡ labels_of vs
labels_later [] log = refl
labels_later (x ∷ vs) log = ap (λ (ls : List ℕ). x.label ∷ ls) (labels_later vs log)

pub blocks_later : (vs : List (HeldKey Entry)) (log : List Entry) → are_of_blocks (with_list vs log) ≡ are_of_blocks vs
blocks_later [] log = refl
blocks_later (x ∷ vs) log = ap (λ (b : Bool). ((x.kind == blocks) && (x.key == home_of x.label)) && b) (blocks_later vs log)

pub keys_later : (values : List ℕ) (vs : List (HeldKey Entry)) (log : List Entry) → AreKeysOf values vs → AreKeysOf values (with_list vs log)
keys_later values vs log are = (labels_later vs log ∙ are.0, blocks_later vs log ∙ are.1, are_later vs log ∙ are.2, still_closed vs log ∙ are.3)

pub none_of : (vs : List (HeldKey Entry)) → labels_of vs ≡ [] → vs ≡ []
none_of [] e = refl
none_of (x ∷ vs) e = absurd (cons≢nil e)

-- two lists of keys, one after the other
pub labels_append : (a b : List (HeldKey Entry)) → labels_of (a ++ b) ≡ labels_of a ++ labels_of b
labels_append [] b = refl
labels_append (x ∷ a) b = ap (λ (ls : List ℕ). x.label ∷ ls) (labels_append a b)

pub blocks_append : (a b : List (HeldKey Entry)) → are_of_blocks a ≡ true → are_of_blocks b ≡ true → are_of_blocks (a ++ b) ≡ true
blocks_append [] b h k = k
blocks_append (x ∷ a) b h k = let both = and_true _ _ h in ap (λ (c : Bool). c && are_of_blocks (a ++ b)) both.0 ∙ blocks_append a b both.1 k

pub blocks_apart : (a b : List (HeldKey Entry)) → are_of_blocks (a ++ b) ≡ true → (are_of_blocks a ≡ true) × (are_of_blocks b ≡ true)
blocks_apart [] b h = (refl, h)
blocks_apart (x ∷ a) b h = let both = and_true _ _ h in let rest = blocks_apart a b both.1 in (ap (λ (c : Bool). c && are_of_blocks a) both.0 ∙ rest.0, rest.1)

-- the key of one value is that of a block
pub value_blocks : (value : ValueKey) → are_of_blocks value.keys.held ≡ true
value_blocks value = go value.keys.held value.one value.home
  where
    go : (held : List (HeldKey Entry)) → is_one blocks held ≡ true → key_of held ≡ home_of (label_of held) → are_of_blocks held ≡ true
    go [] one home = refl
    go (h ∷ []) one home = λ j. (one j && equal h.key (home_of h.label) home j) && true
    go (h ∷ k ∷ held) one home = absurd (cc)
