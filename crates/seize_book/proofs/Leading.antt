-- What a holder of keys shows so that they lead on.
use Rattle.std.proofs.Common.{◌≡◌, ℕ, suc, ◌+◌, true, ◌==◌, List, [], ◌∷◌, ◌++◌, refl, ◌∙◌, ap, arith}
use base.Stored.{Gv}
use Rattle.seize_book.specs.Blocks.{block_number}
use Rattle.seize_book.specs.Book.{blocks}
use Rattle.seize_book.specs.Entry.{Entry}
use Rattle.seize_book.specs.Ledger.{HeldKey}
use Rattle.seize_book.specs.Linked.{are_joined, leads_first, next_in}
use Rattle.seize_book.specs.Notes.{HasNoted, note_in}
use Rattle.seize_book.specs.Others.{value_of}
use Rattle.seize_book.specs.Private.{is_one, label_of, note_of}
use Rattle.seize_book.specs.Values.{AreClosed, IsKeyOfOne, LeadsTo, Pushes}
use Rattle.seize_book.specs.declared.book.value_key.ValueKey.{ValueKey}
use Rattle.seize_book.specs.declared.book.value_keys.ValueKeys.{ValueKeys}
use Rattle.seize_book.proofs.Firsts.{noted_one}
use Rattle.seize_book.proofs.Lists.{equal}

abbrev Keys : Type 0
Keys = List (HeldKey Entry)

pub none_closed : (keys : ValueKeys) → keys.keys.held ≡ [] → AreClosed keys
none_closed keys none = ap (λ (a : Keys). are_joined a []) none

-- the last of some keys leads on where its note says the word of the next one's block

one_more : (k : ℕ) → k + 1 ≡ suc k
one_more k = grind arith

first_is : (g : Gv) (b : Keys) → is_one blocks b ≡ true → next_in g ≡ suc (block_number (label_of b)) → leads_first g b ≡ true
first_is g [] one next = absurd (cc)
first_is g (h ∷ []) one next = ap (λ (k : ℕ). k == suc (block_number h.label)) next ∙ equal (suc (block_number h.label)) (suc (block_number h.label)) refl
first_is g (h ∷ k ∷ b) one next = absurd (cc)

last_joined : (a b c : Keys) → is_one blocks b ≡ true → leads_first (note_of b) c ≡ true → are_joined (a ++ b) c ≡ true
last_joined a [] c one leads = absurd (cc)
last_joined a (h ∷ k ∷ b) c one leads = absurd (cc)
last_joined [] (h ∷ []) c one leads = leads
last_joined (x ∷ []) (h ∷ []) c one leads = leads
last_joined (x ∷ y ∷ a) (h ∷ []) c one leads = last_joined (y ∷ a) (h ∷ []) c one leads

are_led : (a b c : Keys) → is_one blocks b ≡ true → is_one blocks c ≡ true → next_in (note_of b) ≡ block_number (label_of c) + 1 → are_joined (a ++ b) c ≡ true
are_led a b c one other next = last_joined a b c one (first_is (note_of b) c other (next ∙ one_more (block_number (label_of c))))

pub one_leads : (value : ValueKey) (keys : ValueKeys) (other : ValueKey) → IsKeyOfOne value keys → next_in (note_in value) ≡ block_number (value_of other) + 1 → LeadsTo keys other
one_leads value keys other is next =
    ap (λ k. are_joined k.held other.keys.held) is.0 ∙ are_led [] value.keys.held other.keys.held value.one other.one next

-- and the keys are closed where the last one's note says none

ends_with : (a b : Keys) → is_one blocks b ≡ true → next_in (note_of b) ≡ 0 → are_joined (a ++ b) [] ≡ true
ends_with a b one none = last_joined a b [] one (ap (λ (k : ℕ). k == 0) none)

pub last_closes : (keys : ValueKeys) (value : ValueKey) (keys' : ValueKeys) → Pushes keys value keys' → next_in (note_in value) ≡ 0 → AreClosed keys'
last_closes keys value keys' pushes none =
    ap (λ (a : Keys). are_joined a []) pushes.2 ∙ ends_with keys.keys.held value.keys.held value.one none

-- a key of which this was noted says it, and is for the value that it was for

pub has_noted : (g : Gv) (value value' : ValueKey) → HasNoted g value value' → (note_in value' ≡ g) × (value_of value' ≡ value_of value)
has_noted g value value' noted = let is = noted_one value.keys.held g value.one in (ap note_of noted.1 ∙ is.2, ap label_of noted.1 ∙ is.1)
