-- Keys of values that lead on, where one of them comes out, something is noted of its block, and it goes on to others.
use Rattle.std.proofs.Common.{◌≡◌, ℕ, suc, ◌-◌, true, ◌==◌, List, [], ◌∷◌, ◌++◌, append-nil, get_or, refl, sym, ap, subst, ◌∙◌, arith}
use base.Stored.{Gv}
use Rattle.seize_machine.proofs.Facts.{and_true, eq_true}
use Rattle.seize_book.specs.Blocks.{block_number}
use Rattle.seize_book.specs.Book.{blocks}
use Rattle.seize_book.specs.Entry.{Entry}
use Rattle.seize_book.specs.Ledger.{HeldKey}
use Rattle.seize_book.specs.Linked.{are_joined, are_linked, leads_first, next_in}
use Rattle.seize_book.specs.Private.{is_one, label_of, labels_of, note_of}
use Rattle.seize_words.proofs.Facts.{closed_after}
use Rattle.seize_calls.specs.Numbered.{starts_at}

abbrev Keys : Type 0
Keys = List (HeldKey Entry)

-- a key that leads on to a value leads on to another of the same block
pub joined_like : (a : Keys) (h k : HeldKey Entry) (b c : Keys) → k.label ≡ h.label → are_joined a (h ∷ b) ≡ true → are_joined a (k ∷ c) ≡ true
joined_like [] h k b c same j = refl
joined_like (x ∷ []) h k b c same j = ap (λ (v : ℕ). next_in x.note == suc (block_number v)) same ∙ j
joined_like (x ∷ y ∷ a) h k b c same j = joined_like (y ∷ a) h k b c same j

-- so the first of some may be noted anew, and put to those that led on to it
pub leads_to : (a all one one' rest : Keys) → is_one blocks one ≡ true → is_one blocks one' ≡ true → label_of one' ≡ label_of one → all ≡ one ++ rest → are_joined a all ≡ true
    → are_joined a one' ≡ true
leads_to a all [] one' rest is is' same parts j = absurd (cc)
leads_to a all (h ∷ x ∷ one) one' rest is is' same parts j = absurd (cc)
leads_to a all (h ∷ []) [] rest is is' same parts j = absurd (cc)
leads_to a all (h ∷ []) (k ∷ y ∷ one') rest is is' same parts j = absurd (cc)
leads_to a all (h ∷ []) (k ∷ []) rest is is' same parts j = joined_like a h k rest [] same (subst (λ (r : Keys). are_joined a r ≡ true) parts j)

-- and leads on as before, where the same is noted as next
pub joined_past : (a : Keys) (k : HeldKey Entry) (b : Keys) → leads_first k.note b ≡ true → are_joined (a ++ k ∷ []) b ≡ true
joined_past [] k b l = l
joined_past (x ∷ []) k b l = l
joined_past (x ∷ y ∷ a) k b l = joined_past (y ∷ a) k b l

first_like : (g e : Gv) (b : Keys) → next_in e ≡ next_in g → leads_first g b ≡ true → leads_first e b ≡ true
first_like g e [] same l = ap (λ (n : ℕ). n == 0) same ∙ l
first_like g e (h ∷ b) same l = ap (λ (n : ℕ). n == suc (block_number h.label)) same ∙ l

first_rest : (h : HeldKey Entry) (rest : Keys) → are_linked (h ∷ rest) ≡ true → are_joined (h ∷ rest) [] ≡ true → leads_first h.note rest ≡ true
first_rest h [] l c = c
first_rest h (k ∷ rest) l c = (and_true (leads_first h.note (k ∷ rest)) (are_linked (k ∷ rest)) l).0

pub leads_past : (a all one one' rest : Keys) → is_one blocks one ≡ true → is_one blocks one' ≡ true → next_in (note_of one') ≡ next_in (note_of one) → all ≡ one ++ rest → are_linked all ≡ true
    → are_joined all [] ≡ true → are_joined (a ++ one') rest ≡ true
leads_past a all [] one' rest is is' same parts l c = absurd (cc)
leads_past a all (h ∷ x ∷ one) one' rest is is' same parts l c = absurd (cc)
leads_past a all (h ∷ []) [] rest is is' same parts l c = absurd (cc)
leads_past a all (h ∷ []) (k ∷ y ∷ one') rest is is' same parts l c = absurd (cc)
leads_past a all (h ∷ []) (k ∷ []) rest is is' same parts l c =
    joined_past a k rest (first_like h.note k.note rest same (first_rest h rest (subst (λ (r : Keys). are_linked r ≡ true) parts l) (subst (λ (r : Keys). are_joined r [] ≡ true) parts c)))

-- all are closed where those to come are, and where there are none, those before
pub all_closed : (a b : Keys) → are_joined a b ≡ true → are_joined b [] ≡ true → are_joined (a ++ b) [] ≡ true
all_closed a [] j c = subst (λ (r : Keys). are_joined r [] ≡ true) (sym (append-nil a)) j
all_closed a (k ∷ b) j c = closed_after a k b ∙ c

-- what is noted says where the next one lies
starts_like : (g : Gv) (h : HeldKey Entry) → (next_in g == suc (block_number h.label)) ≡ true → (next_in g - 1 == block_number h.label) ≡ true
starts_like g h l = one_less (next_in g) (block_number h.label) (eq_true (next_in g) (suc (block_number h.label)) l)
  where
    one_less : (a b : ℕ) → a ≡ suc b → (a - 1 == b) ≡ true
    one_less a b e = grind (arith, e)

starts_after : (g : Gv) (rest : Keys) → leads_first g rest ≡ true → starts_at (next_in g - 1) (labels_of rest) ≡ true
starts_after g [] l = refl
starts_after g (k ∷ rest) l = starts_like g k l

pub next_starts : (all one rest : Keys) → is_one blocks one ≡ true → all ≡ one ++ rest → are_linked all ≡ true → are_joined all [] ≡ true
    → starts_at (next_in (note_of one) - 1) (labels_of rest) ≡ true
next_starts all [] rest is parts l c = absurd (cc)
next_starts all (h ∷ x ∷ one) rest is parts l c = absurd (cc)
next_starts all (h ∷ []) rest is parts l c =
    starts_after h.note rest (first_rest h rest (subst (λ (r : Keys). are_linked r ≡ true) parts l) (subst (λ (r : Keys). are_joined r [] ≡ true) parts c))

-- the number of the first one's block
pub number_of_first : (n : ℕ) (held : Keys) (v : ℕ) (vs : List ℕ) → labels_of held ≡ v ∷ vs → starts_at n (labels_of held) ≡ true → n ≡ block_number v
number_of_first n held v vs is starts = eq_true n (block_number v) (subst (λ (values : List ℕ). starts_at n values ≡ true) is starts)

-- and its label
pub first_label : (held one rest : Keys) (v : ℕ) (vs : List ℕ) → is_one blocks one ≡ true → labels_of held ≡ v ∷ vs → held ≡ one ++ rest → label_of one ≡ v
first_label held [] rest v vs is labels parts = absurd (cc)
first_label held (h ∷ x ∷ one) rest v vs is labels parts = absurd (cc)
first_label held (h ∷ []) rest v vs is labels parts = ap (λ (values : List ℕ). get_or values 0 0) (sym (ap labels_of parts) ∙ labels)
