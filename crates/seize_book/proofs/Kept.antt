-- What the list says is kept of values: what was said stays said, and what an event of the list says is so.
use Rattle.std.proofs.Common.{◌≡◌, ℕ, List, [], ◌∷◌, ◌++◌, refl, sym, ap, subst, inl, inr}
use mathlib.Core.List.{IsPrefix}
use Rattle.seize_machine.specs.Machine.Event.{Begin, Hand}
use Rattle.seize_machine.specs.declared.machine.event.Job.TheVariants.{Retire}
use Rattle.seize_book.specs.Adding.{deed_with_words}
use Rattle.seize_book.specs.Entry.{Entry, Made, Used, Deed}
use Rattle.seize_book.specs.Kept.{AllTold, AreTold, AreToldIn, IsTold, SaysKept, kept_in, kepts_in, kepts_of, retires_by}
use Rattle.seize_book.specs.Ledger.{HeldKey, with_list}
use Rattle.seize_book.specs.Private.{labels_of}
use Rattle.seize_book.specs.Slots.{AddsDeed, slot_number}
use Rattle.seize_book.specs.Values.{FollowsValues, values_of}
use Rattle.seize_book.specs.declared.book.pass.Pass.{Pass}
use Rattle.seize_book.specs.declared.book.slot_key.SlotKey.{SlotKey}
use Rattle.seize_book.specs.declared.book.value_keys.ValueKeys.{ValueKeys}

-- Longer lists say what shorter ones said.

told_before : (a b : List Entry) (v k : ℕ) → IsTold a v k → IsTold (a ++ b) v k
told_before [] b v k told = absurd told
told_before (Made d ∷ a) b v k (inl says) = inl says
told_before (Made d ∷ a) b v k (inr told) = inr (told_before a b v k told)
told_before (Used u ∷ a) b v k told = told_before a b v k told

told_last : (a : List Entry) (d : Deed) (v k : ℕ) → SaysKept (retires_by d.event) d.kepts v k → IsTold (a ++ Made d ∷ []) v k
told_last [] d v k says = inl says
told_last (Made e ∷ a) d v k says = inr (told_last a d v k says)
told_last (Used u ∷ a) d v k says = told_last a d v k says

pub told_later : (a b : List Entry) (v k : ℕ) → IsPrefix a b → IsTold a v k → IsTold b v k
told_later a b v k grows told = subst (λ (l : List Entry). IsTold l v k) grows.1 (told_before a grows.0 v k told)

pub all_told_later : (a b : List Entry) (held : List (HeldKey Entry)) → IsPrefix a b → AreToldIn a held → AreToldIn b held
all_told_later a b [] grows told = tt
all_told_later a b (h ∷ held) grows told = (told_later a b h.label (kept_in h.note) grows told.0, all_told_later a b held grows told.1)

-- What keys know is no part of it.

pub all_told_renewed : (log : List Entry) (held : List (HeldKey Entry)) (own : List Entry) → AreToldIn log held → AreToldIn log (with_list held own)
all_told_renewed log [] own told = tt
all_told_renewed log (h ∷ held) own told = (told.0, all_told_renewed log held own told.1)

-- Keys put together, and taken apart.

pub both_told : (log : List Entry) (a b : List (HeldKey Entry)) → AreToldIn log a → AreToldIn log b → AreToldIn log (a ++ b)
both_told log [] b told more = more
both_told log (h ∷ a) b told more = (told.0, both_told log a b told.1 more)

pub told_apart : (log : List Entry) (a b : List (HeldKey Entry)) → AreToldIn log (a ++ b) → AreToldIn log a × AreToldIn log b
told_apart log [] b told = (tt, told)
told_apart log (h ∷ a) b told = let rest = told_apart log a b told.1 in ((told.0, rest.0), rest.1)

-- It is the values and the words that count.

pub alike_told : (log : List Entry) (a b : List (HeldKey Entry)) → labels_of a ≡ labels_of b → kepts_in a ≡ kepts_in b → AreToldIn log a → AreToldIn log b
alike_told log [] [] labels kepts told = tt
alike_told log [] (h ∷ b) labels kepts told = absurd (cc)
alike_told log (g ∷ a) [] labels kepts told = absurd (cc)
alike_told log (g ∷ a) (h ∷ b) labels kepts told =
    (subst (λ (t : ℕ × ℕ). IsTold log t.0 t.1) (λ j. (first_of 0 labels j, first_of 0 kepts j)) told.0, alike_told log a b (others labels) (others kepts) told.1)
  where
    head_or : ℕ → List ℕ → ℕ
    head_or n [] = n
    head_or n (x ∷ xs) = x

    tail : List ℕ → List ℕ
    tail [] = []
    tail (x ∷ xs) = xs

    first_of : (n : ℕ) {x y : ℕ} {xs ys : List ℕ} → x ∷ xs ≡ y ∷ ys → x ≡ y
    first_of n e = ap (head_or n) e

    others : {x y : ℕ} {xs ys : List ℕ} → x ∷ xs ≡ y ∷ ys → xs ≡ ys
    others e = ap tail e

-- Of values and words without their keys.

pub all_of_told : (log : List Entry) (held : List (HeldKey Entry)) → AreToldIn log held → AllTold log (labels_of held) (kepts_in held)
all_of_told log [] told = tt
all_of_told log (h ∷ held) told = (told.0, all_of_told log held told.1)

each_of_all : (log : List Entry) (held : List (HeldKey Entry)) → AllTold log (labels_of held) (kepts_in held) → AreToldIn log held
each_of_all log [] told = tt
each_of_all log (h ∷ held) told = (told.0, each_of_all log held told.1)

told_of_all : (log : List Entry) (vs ks : List ℕ) (held : List (HeldKey Entry)) → labels_of held ≡ vs → kepts_in held ≡ ks → AllTold log vs ks → AreToldIn log held
told_of_all log vs ks held labels kepts told = each_of_all log held (subst (λ (t : List ℕ × List ℕ). AllTold log t.0 t.1) (λ j. (sym labels j, sym kepts j)) told)

pub all_told_append : (log : List Entry) (vs ks ws ls : List ℕ) → AllTold log vs ks → AllTold log ws ls → AllTold log (vs ++ ws) (ks ++ ls)
all_told_append log [] [] ws ls one two = two
all_told_append log [] (k ∷ ks) ws ls one two = absurd one
all_told_append log (v ∷ vs) [] ws ls one two = absurd one
all_told_append log (v ∷ vs) (k ∷ ks) ws ls one two = (one.0, all_told_append log vs ks ws ls one.1 two)

pub all_told_grow : (a b : List Entry) (vs ks : List ℕ) → IsPrefix a b → AllTold a vs ks → AllTold b vs ks
all_told_grow a b [] [] grows told = tt
all_told_grow a b [] (k ∷ ks) grows told = absurd told
all_told_grow a b (v ∷ vs) [] grows told = absurd told
all_told_grow a b (v ∷ vs) (k ∷ ks) grows told = (told_later a b v k grows told.0, all_told_grow a b vs ks grows told.1)

-- keys to which one more came, last
pub pushed_told : (log : List Entry) (a b : List (HeldKey Entry)) (v k : ℕ) → labels_of b ≡ labels_of a ++ v ∷ [] → kepts_in b ≡ kepts_in a ++ k ∷ [] → AreToldIn log a → IsTold log v k → AreToldIn log b
pushed_told log a b v k labels kepts told its =
    told_of_all log (labels_of a ++ v ∷ []) (kepts_in a ++ k ∷ []) b labels kepts (all_told_append log (labels_of a) (kepts_in a) (v ∷ []) (k ∷ []) (all_of_told log a told) (its, tt))

-- to which others came, after their own
pub joined_told : (log : List Entry) (a b c : List (HeldKey Entry)) → labels_of c ≡ labels_of a ++ labels_of b → kepts_in c ≡ kepts_in a ++ kepts_in b → AreToldIn log a → AreToldIn log b → AreToldIn log c
joined_told log a b c labels kepts told more =
    told_of_all log (labels_of a ++ labels_of b) (kepts_in a ++ kepts_in b) c labels kepts (all_told_append log (labels_of a) (kepts_in a) (labels_of b) (kepts_in b) (all_of_told log a told) (all_of_told log b more))

-- from which the first was taken
pub first_told : (log : List Entry) (a b : List (HeldKey Entry)) (v k : ℕ) → labels_of a ≡ v ∷ labels_of b → kepts_in a ≡ k ∷ kepts_in b → AreToldIn log a → IsTold log v k × AreToldIn log b
first_told log a b v k labels kepts told =
    let all = subst (λ (t : List ℕ × List ℕ). AllTold log t.0 t.1) (λ j. (labels j, kepts j)) (all_of_told log a told) in (all.0, each_of_all log b all.1)

-- What the slot's events say.

pub retired_told : (key key' : SlotKey) (pass pass' : Pass) (v kept : ℕ) → AddsDeed key pass key' pass' (deed_with_words pass (Begin (slot_number key) (Retire v)) (kept ∷ [])) → IsTold pass'.seen v kept
retired_told key key' pass pass' v kept notes =
    subst (λ (l : List Entry). IsTold l v kept) (sym notes.2.0.appended) (told_last notes.2.0.before (deed_with_words pass (Begin (slot_number key) (Retire v)) (kept ∷ [])) v kept (inl (refl, refl)))

each_said : (log : List Entry) (d : Deed) (held : List (HeldKey Entry)) → ((v k : ℕ) → SaysKept (labels_of held) (kepts_in held) v k → SaysKept (retires_by d.event) d.kepts v k) → AreToldIn (log ++ Made d ∷ []) held
each_said log d [] says = tt
each_said log d (h ∷ held) says = (told_last log d h.label (kept_in h.note) (says h.label (kept_in h.note) (inl (refl, refl))), each_said log d held (λ v k more. says v k (inr more)))

all_said : (log : List Entry) (s : ℕ) (pass : Pass) (held : List (HeldKey Entry)) → AreToldIn (log ++ Made (deed_with_words pass (Hand s (labels_of held)) (kepts_in held)) ∷ []) held
all_said log s pass held = each_said log (deed_with_words pass (Hand s (labels_of held)) (kepts_in held)) held (λ v k says. says)

-- further values, once they were put
pub put_told : (key key' : SlotKey) (pass pass' : Pass) (further further' : ValueKeys) → AddsDeed key pass key' pass' (deed_with_words pass (Hand (slot_number key) (values_of further)) (kepts_of further)) → FollowsValues further pass' further' → AreTold further' pass'
put_told key key' pass pass' further further' notes keep =
    subst (AreToldIn pass'.seen) (sym keep.2)
    (all_told_renewed pass'.seen further.keys.held pass'.seen
    (subst (λ (l : List Entry). AreToldIn l further.keys.held) (sym notes.2.0.appended) (all_said notes.2.0.before (slot_number key) pass further.keys.held)))
