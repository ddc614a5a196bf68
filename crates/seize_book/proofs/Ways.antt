-- Where the numbers of values lead, and where heads lie: what goes with keys beside the rights, and what the book has of all that were named and
-- of all slots. Assumes `Logic`.
use Rattle.std.proofs.Common.{◌≡◌, ℕ, zero, suc, Bool, true, false, ◌||◌, ◌&&◌, ◌==◌, List, [], ◌∷◌, ◌++◌, length, take, ◌⊎◌, inl, inr, ⊎_elim, refl, sym, ◌∙◌, ap, subst, nat_lt, ◌+◌, ◌^◌, ◌<◌, arith}
use base.Stored.{Gv, gnil}
use Rattle.std.specs.Prelude.{drop as past, map}
use seplogic.Ra.Ura.{Ura}
use base.Logic.{SProp, ent, sep, guard}
use base.Fml.{Fml, ftrue, fsep}
use types.Logic.{Logic, sem}
use types.Kit.{‵, raw, given, learn, check, ◌⊛◌, ◌$◌, ◌∵◌, !, qed, by, move, keep, drop, split, fsplit, fjoin, fpick, fpack, rewrite, use1, use2, done}
use denote.Steps.{heard, nothing}
use Rattle.seize_machine.specs.Machine.State.{State, has}
use Rattle.seize_machine.proofs.Facts.{eq_true, is_true}
use denote.RawPtr.{Ptr}
use Rattle.seize_table.specs.Filled.{filled_at}
use Rattle.seize_table.specs.Pairs.{left_of, pair, right_of}
use Rattle.seize_table.proofs.Pairs.{left_pair, right_pair}
use Rattle.seize_store.specs.RowTokens.{IsInRow, IsRowIn, content_in, entry_of, known_row, label_in, row_of, tells}
use Rattle.seize_store.proofs.Leads.{known_tells, tells_agree, tells_twice}
use Rattle.seize_store.proofs.Tokens.{row_twice}
use native.Mathlib.Decide.{ℕ_discrete}
use contract.Monad.{fact}
use Rattle.seize_book.specs.Blocks.{block_number}
use Rattle.seize_content.specs.Cells.{cell_token}
use Rattle.seize_book.specs.Bare.{of_values}
use Rattle.seize_book.specs.Book.{blocks, slots}
use Rattle.seize_book.specs.Entry.{Entry}
use Rattle.seize_book.specs.Fair.{HasPlace, HaveOneHome, IsLabel}
use Rattle.seize_book.specs.Homes.{home_of}
use Rattle.seize_book.specs.Ledger.{HeldKey, keys_made, with_list}
use Rattle.seize_book.specs.Others.{with_label}
use Rattle.seize_book.specs.Notes.{with_note}
use Rattle.seize_book.specs.Private.{is_one, key_of, label_of, note_of}
use Rattle.seize_book.specs.Loans.{CarriesNone, cell_of, loan, loan_if, loan_of, place_of, AllCarryOne, CarriesOne}
use Rattle.seize_book.specs.Permits.{all_permitted, permit_if}
use Rattle.seize_book.specs.Tokens.{Name, start, leads, lies_in, label_at, chunk_label, chunk_tag, all_lead, lies, lies_if, all_lie, places_known, is_placed, rights_own, keys_own, one_key, key, way, way_if, key_without_note_owns, key_note, note_if, note_at, notes_own}
use Rattle.seize_book.proofs.Goes.{AllFree}
use Rattle.seize_book.proofs.Lists.{equal}
use Rattle.seize_book.proofs.Permits.{permit_if_twice}
use Rattle.seize_book.proofs.Tables.{lies_twice, one_more}

or_true : (b : Bool) → (b || true) ≡ true
or_true true = refl
or_true false = refl

and_false : (b : Bool) → (b && false) ≡ false
and_false true = refl
and_false false = refl

here : (u : ℕ) (us : List ℕ) → has u (u ∷ us) ≡ true
here u us = ap (λ (b : Bool). b || has u us) (equal u u refl)

there : (u v : ℕ) (us : List ℕ) → has v us ≡ true → has v (u ∷ us) ≡ true
there u v us h = ap (λ (b : Bool). (u == v) || b) h ∙ or_true (u == v)

-- whether a number is one of a row
is_in_row : (b row : ℕ) → Dec (IsInRow b row)
is_in_row b row = go (entry_of b) refl (ℕ_discrete (row_of b) row)
  where
    below : (e : ℕ) → e ≡ entry_of b → row_of b ≡ row → (nat_lt e (2 ^ (row + 5)) ≡ true) ⊎ (nat_lt e (2 ^ (row + 5)) ≡ false) → Dec (IsInRow b row)
    below e at is (inl less) = let low : e < 2 ^ (row + 5) = grind arith in yes (record { lies = is; within = subst (λ (k : ℕ). k < 2 ^ (row + 5)) at low })
    below e at is (inr past) = no (λ p. let low : e < 2 ^ (row + 5) = subst (λ (k : ℕ). k < 2 ^ (row + 5)) (sym at) p.within in absurd (grind arith))

    go : (e : ℕ) → e ≡ entry_of b → Dec (row_of b ≡ row) → Dec (IsInRow b row)
    go e at (no out) = no (λ p. out p.lies)
    go e at (yes is) = below e at is (is_true (nat_lt e (2 ^ (row + 5))))

-- its block has the label there
abbrev pub IsIn : Name → ℕ → List (Ptr × ℕ) → ℕ → Type 0
IsIn n row chunks v =
    IsInRow (block_number v) row → (label_in chunks (entry_of (block_number v)) ≡ chunk_label n (home_of v) (cell_of v)) × (content_in chunks (entry_of (block_number v)) ≡ place_of v)

abbrev pub AreIn : Name → ℕ → List (Ptr × ℕ) → List ℕ → Type 0
AreIn n row chunks vs = (v : ℕ) → has v vs ≡ true → IsIn n row chunks v

both_in : (n : Name) (row : ℕ) (chunks : List (Ptr × ℕ)) (u : ℕ) (vs : List ℕ) → IsIn n row chunks u → AreIn n row chunks vs → AreIn n row chunks (u ∷ vs)
both_in n row chunks u vs one rest v h = go (u == v) refl h
  where
    go : (b : Bool) → (u == v) ≡ b → (b || has v vs) ≡ true → IsIn n row chunks v
    go true e t = subst (IsIn n row chunks) (eq_true u v e) one
    go false e t = rest v t

module _ {M : Type 1} {𝓤 : Ura M} (𝓛 : Logic 𝓤) (n : Name) where
  abbrev Pr : Type 2
  Pr = SProp 𝓤

  abbrev ◌⊢◌ : Pr → Pr → Type 1
  P ⊢ Q = ent 𝓤 P Q

  abbrev ◌∗◌ : Pr → Pr → Pr
  P ∗ Q = sep 𝓤 P Q

  abbrev ⟦◌⟧ : Fml → Pr
  ⟦ P ⟧ = sem 𝓛 P

  infix 26 ◌⊢◌
  infixr 35 ◌∗◌
  abbrev Keys : Type 0
  Keys = List (HeldKey Entry)

  -- what goes with some keys beside the rights
  abbrev pub ways : Keys → Fml
  ways [] = ftrue
  ways (h ∷ held) = fsep (way n h) (ways held)

  pub keys_apart : (held : Keys) → ⟦ keys_own n held ⟧ ⊢ ⟦ rights_own n held ⟧ ∗ ⟦ ways held ⟧
  keys_apart [] = qed 𝓛 (‵ ftrue ∷ []) ∵ nothing ! $ done !
  keys_apart (h ∷ held) = qed 𝓛 (‵ (keys_own n (h ∷ held)) ∷ []) ∵ fsplit ! $ fsplit ! $ move ! (2 ∷ []) $ use1 𝓛 (‵ (rights_own n held) ⊛ ‵ (ways held)) (keys_apart held) $ split ! $
      -- [the other rights; the other ways; the right; the way]
      move ! (2 ∷ 0 ∷ []) $ fjoin ! $ move ! (2 ∷ 1 ∷ []) $ fjoin ! $ move ! (1 ∷ 0 ∷ []) $ done !

  -- the rights, with what their holder notes
  pub keys_bared : (held : Keys) → ⟦ keys_own n held ⟧ ⊢ ⟦ rights_own n held ⟧ ∗ ⟦ notes_own held ⟧
  keys_bared [] = qed 𝓛 (‵ ftrue ∷ []) ∵ nothing ! $ done !
  keys_bared (h ∷ held) = qed 𝓛 (‵ (keys_own n (h ∷ held)) ∷ []) ∵ fsplit ! $ fsplit ! $ move ! (1 ∷ []) $ fsplit ! $ drop ! $ fsplit ! $ drop ! $
      -- [the note; the right; the other keys]
      move ! (2 ∷ []) $ use1 𝓛 (‵ (rights_own n held) ⊛ ‵ (notes_own held)) (keys_bared held) $ split ! $ move ! (3 ∷ 0 ∷ []) $ fjoin ! $ move ! (2 ∷ 1 ∷ []) $ fjoin ! $ move ! (1 ∷ 0 ∷ []) $ done !

  pub keys_whole : (held : Keys) → ⟦ rights_own n held ⟧ ∗ ⟦ ways held ⟧ ⊢ ⟦ keys_own n held ⟧
  keys_whole [] = qed 𝓛 (‵ ftrue ∷ ‵ ftrue ∷ []) ∵ keep ! (0 ∷ []) $ done !
  keys_whole (h ∷ held) = qed 𝓛 (‵ (rights_own n (h ∷ held)) ∷ ‵ (ways (h ∷ held)) ∷ []) ∵ fsplit ! $ move ! (2 ∷ []) $ fsplit ! $
      -- [the way; the other ways; the right; the other rights]
      move ! (3 ∷ 1 ∷ []) $ use2 𝓛 (‵ (keys_own n held)) (keys_whole held) $ move ! (2 ∷ 1 ∷ []) $ fjoin ! $ fjoin ! $ done !

  -- keys one after the other
  pub keys_parted : (a b : Keys) → ⟦ keys_own n (a ++ b) ⟧ ⊢ ⟦ keys_own n a ⟧ ∗ ⟦ keys_own n b ⟧
  keys_parted [] b = qed 𝓛 (‵ (keys_own n b) ∷ []) ∵ nothing ! $ done !
  keys_parted (x ∷ a) b = qed 𝓛 ((‵ (one_key n x) ⊛ ‵ (keys_own n (a ++ b))) ∷ []) ∵ split ! $ move ! (1 ∷ []) $ use1 𝓛 (‵ (keys_own n a) ⊛ ‵ (keys_own n b)) (keys_parted a b) $ split ! $ move ! (2 ∷ 0 ∷ []) $ fjoin ! $ done !

  pub keys_joined : (a b : Keys) → ⟦ keys_own n a ⟧ ∗ ⟦ keys_own n b ⟧ ⊢ ⟦ keys_own n (a ++ b) ⟧
  keys_joined [] b = qed 𝓛 (‵ ftrue ∷ ‵ (keys_own n b) ∷ []) ∵ keep ! (1 ∷ []) $ done !
  keys_joined (x ∷ a) b = qed 𝓛 ((‵ (one_key n x) ⊛ ‵ (keys_own n a)) ∷ ‵ (keys_own n b) ∷ []) ∵ split ! $ move ! (1 ∷ 2 ∷ []) $ use2 𝓛 (‵ (keys_own n (a ++ b))) (keys_joined a b) $ move ! (1 ∷ 0 ∷ []) $ fjoin ! $ done !

  pub first_parted : (m : ℕ) (held : Keys) → ⟦ keys_own n held ⟧ ⊢ ⟦ keys_own n (take m held) ⟧ ∗ ⟦ keys_own n (past m held) ⟧
  first_parted zero held = qed 𝓛 (‵ (keys_own n held) ∷ []) ∵ nothing ! $ done !
  first_parted (suc m) [] = qed 𝓛 (‵ ftrue ∷ []) ∵ nothing ! $ done !
  first_parted (suc m) (x ∷ held) = qed 𝓛 ((‵ (one_key n x) ⊛ ‵ (keys_own n held)) ∷ []) ∵ split ! $ move ! (1 ∷ []) $ use1 𝓛 (‵ (keys_own n (take m held)) ⊛ ‵ (keys_own n (past m held))) (first_parted m held) $ split ! $ move ! (2 ∷ 0 ∷ []) $ fjoin ! $ done !

  pub lead_twice : (v : ℕ) → ⟦ leads n v ⟧ ⊢ ⟦ leads n v ⟧ ∗ ⟦ leads n v ⟧
  lead_twice v = let A : Fml = lies_in n v in let B : Fml = permit_if n.permits (loan_of v) in qed 𝓛 (‵ (leads n v) ∷ []) ∵ fsplit ! $
      use1 𝓛 (‵ A ⊛ ‵ A) (tells_twice 𝓛 n.store (block_number v) (chunk_tag n v)) $ split ! $ move ! (2 ∷ []) $ use1 𝓛 (‵ B ⊛ ‵ B) (permit_if_twice 𝓛 n.permits (loan_of v)) $ split ! $
      -- [the permit, twice; where it lies, twice]
      move ! (2 ∷ 0 ∷ []) $ fjoin ! $ move ! (2 ∷ 1 ∷ []) $ fjoin ! $ done !

  -- of a value with which nothing is lent it says no more than where that lies
  pub leads_free : (v : ℕ) → CarriesNone v → ⟦ lies_in n v ⟧ ⊢ ⟦ leads n v ⟧
  leads_free v none = qed 𝓛 (‵ (lies_in n v) ∷ []) ∵ nothing ! $ rewrite ! 0 (λ (l : ℕ). ‵ (permit_if n.permits l)) (sym none) refl $ move ! (1 ∷ 0 ∷ []) $ fjoin ! $ done !

  -- of what goes with a key, what lasts for good: where the number leads of the value that it is labelled with, and that a slot's head lies in
  -- the table
  abbrev pub path_if : Bool → ℕ → Fml
  path_if true v = leads n v
  path_if false v = ftrue

  abbrev pub path : HeldKey Entry → Fml
  path h = fsep (path_if (h.kind == blocks) h.label) (lies_if (is_placed h) n h.key)

  abbrev pub paths : Keys → Fml
  paths [] = ftrue
  paths (h ∷ held) = fsep (path h) (paths held)

  path_if_twice : (b : Bool) (v : ℕ) → ⟦ path_if b v ⟧ ⊢ ⟦ path_if b v ⟧ ∗ ⟦ path_if b v ⟧
  path_if_twice true v = lead_twice v
  path_if_twice false v = qed 𝓛 (‵ ftrue ∷ []) ∵ nothing ! $ done !

  lies_if_twice : (b : Bool) (s : ℕ) → ⟦ lies_if b n s ⟧ ⊢ ⟦ lies_if b n s ⟧ ∗ ⟦ lies_if b n s ⟧
  lies_if_twice true s = lies_twice 𝓛 n s
  lies_if_twice false s = qed 𝓛 (‵ ftrue ∷ []) ∵ nothing ! $ done !

  path_twice : (h : HeldKey Entry) → ⟦ path h ⟧ ⊢ ⟦ path h ⟧ ∗ ⟦ path h ⟧
  path_twice h = let A : Fml = path_if (h.kind == blocks) h.label in let B : Fml = lies_if (is_placed h) n h.key in
      qed 𝓛 (‵ (path h) ∷ []) ∵ fsplit ! $ use1 𝓛 (‵ A ⊛ ‵ A) (path_if_twice (h.kind == blocks) h.label) $ split ! $ move ! (2 ∷ []) $
      use1 𝓛 (‵ B ⊛ ‵ B) (lies_if_twice (is_placed h) h.key) $ split ! $ move ! (2 ∷ 0 ∷ []) $ fjoin ! $ move ! (2 ∷ 1 ∷ []) $ fjoin ! $ done !

  pub paths_twice : (held : Keys) → ⟦ paths held ⟧ ⊢ ⟦ paths held ⟧ ∗ ⟦ paths held ⟧
  paths_twice [] = qed 𝓛 (‵ ftrue ∷ []) ∵ nothing ! $ done !
  paths_twice (h ∷ held) = let W : Fml = path h in qed 𝓛 (‵ (paths (h ∷ held)) ∷ []) ∵ fsplit ! $ use1 𝓛 (‵ W ⊛ ‵ W) (path_twice h) $ split ! $
      move ! (2 ∷ []) $ use1 𝓛 (‵ (paths held) ⊛ ‵ (paths held)) (paths_twice held) $ split ! $
      -- [the other paths, twice; the path, twice]
      move ! (2 ∷ 0 ∷ []) $ fjoin ! $ move ! (2 ∷ 1 ∷ []) $ fjoin ! $ done !

  lead_tells : (b : Bool) (v : ℕ) → ⟦ way_if b n v ⟧ ⊢ ⟦ path_if b v ⟧ ∗ ⟦ way_if b n v ⟧
  lead_tells true v = qed 𝓛 (‵ (way_if true n v) ∷ []) ∵ fsplit ! $ use1 𝓛 (‵ (leads n v) ⊛ ‵ (leads n v)) (lead_twice v) $ split ! $ move ! (1 ∷ 2 ∷ []) $ fjoin ! $ move ! (1 ∷ 0 ∷ []) $ done !
  lead_tells false v = qed 𝓛 (‵ ftrue ∷ []) ∵ nothing ! $ done !

  way_tells : (h : HeldKey Entry) → ⟦ way n h ⟧ ⊢ ⟦ path h ⟧ ∗ ⟦ way n h ⟧
  way_tells h = let A : Fml = way_if (h.kind == blocks) n h.label in let B : Fml = lies_if (is_placed h) n h.key in
      qed 𝓛 (‵ (way n h) ∷ []) ∵ fsplit ! $ use1 𝓛 (‵ (path_if (h.kind == blocks) h.label) ⊛ ‵ A) (lead_tells (h.kind == blocks) h.label) $ split ! $ move ! (2 ∷ []) $ fsplit ! $
      use1 𝓛 (‵ B ⊛ ‵ B) (lies_if_twice (is_placed h) h.key) $ split ! $
      -- [where it lies, twice; the note; where it leads; that, and what is lent]
      move ! (3 ∷ 0 ∷ []) $ fjoin ! $ move ! (1 ∷ 2 ∷ []) $ fjoin ! $ move ! (2 ∷ 0 ∷ []) $ fjoin ! $ move ! (1 ∷ 0 ∷ []) $ done !

  pub ways_tell : (held : Keys) → ⟦ ways held ⟧ ⊢ ⟦ paths held ⟧ ∗ ⟦ ways held ⟧
  ways_tell [] = qed 𝓛 (‵ ftrue ∷ []) ∵ nothing ! $ done !
  ways_tell (h ∷ held) = qed 𝓛 (‵ (ways (h ∷ held)) ∷ []) ∵ fsplit ! $ use1 𝓛 (‵ (path h) ⊛ ‵ (way n h)) (way_tells h) $ split ! $
      move ! (2 ∷ []) $ use1 𝓛 (‵ (paths held) ⊛ ‵ (ways held)) (ways_tell held) $ split ! $
      -- [the other paths; the other ways; the path; the way]
      move ! (2 ∷ 0 ∷ []) $ fjoin ! $ move ! (2 ∷ 1 ∷ []) $ fjoin ! $ move ! (1 ∷ 0 ∷ []) $ done !

  -- a way does not depend on what its key knows
  pub ways_renewed : (held : Keys) (log : List Entry) → ways (with_list held log) ≡ ways held
  ways_renewed [] log = refl
  ways_renewed (h ∷ held) log = ap (λ (F : Fml). fsep (way n h) F) (ways_renewed held log)

  -- new keys of other kinds need none, nor does the key of a slot whose head lies nowhere yet
  abbrev pub needs : HeldKey Entry → Bool
  needs h = (h.kind == blocks) || is_placed h

  lead_free : (b c : Bool) → (b || c) ≡ false → (v : ℕ) (P : Fml) → ⟦ P ⟧ ⊢ ⟦ way_if b n v ⟧ ∗ ⟦ P ⟧
  lead_free true c e v P = absurd (cc)
  lead_free false c e v P = qed 𝓛 (‵ P ∷ []) ∵ nothing ! $ done !

  lies_free : (b c : Bool) → (b || c) ≡ false → (s : ℕ) (P : Fml) → ⟦ P ⟧ ⊢ ⟦ lies_if c n s ⟧ ∗ ⟦ P ⟧
  lies_free b true e s P = absurd (let t : true ≡ false = sym (or_true b) ∙ e in cc)
  lies_free b false e s P = qed 𝓛 (‵ P ∷ []) ∵ nothing ! $ done !

  note_free : (b c : Bool) → (b || c) ≡ false → (v : ℕ) (g : Gv) (P : Fml) → ⟦ P ⟧ ⊢ ⟦ note_if b v g ⟧ ∗ ⟦ P ⟧
  note_free true c e v g P = absurd (cc)
  note_free false c e v g P = qed 𝓛 (‵ P ∷ []) ∵ nothing ! $ done !

  way_free : (h : HeldKey Entry) → needs h ≡ false → (P : Fml) → ⟦ P ⟧ ⊢ ⟦ way n h ⟧ ∗ ⟦ P ⟧
  way_free h e P = let A : Fml = way_if (h.kind == blocks) n h.label in let B : Fml = lies_if (is_placed h) n h.key in
      qed 𝓛 (‵ P ∷ []) ∵ use1 𝓛 (‵ (key_note h) ⊛ ‵ P) (note_free (h.kind == blocks) (is_placed h) e h.label h.note P) $ split ! $
      move ! (1 ∷ []) $ use1 𝓛 (‵ B ⊛ ‵ P) (lies_free (h.kind == blocks) (is_placed h) e h.key P) $ split ! $
      -- [where it lies; P; the note]
      move ! (0 ∷ 2 ∷ []) $ fjoin ! $ move ! (1 ∷ []) $ use1 𝓛 (‵ A ⊛ ‵ P) (lead_free (h.kind == blocks) (is_placed h) e h.label P) $ split ! $
      -- [where it leads; P; the others]
      move ! (0 ∷ 2 ∷ []) $ fjoin ! $ done !

  new_free : (kind key : ℕ) (log : List Entry) → (kind == blocks) ≡ false → needs (record { kind = kind; key = key; own = log; label = 0; note = gnil }) ≡ false
  new_free kind key log e = ap (λ (b : Bool). b || ((kind == slots) && (0 == 1))) e ∙ and_false (kind == slots)

  pub ways_born : (held : Keys) (births : List (ℕ × ℕ)) (log : List Entry) → AllFree births → ⟦ ways held ⟧ ⊢ ⟦ ways (held ++ keys_made births log) ⟧
  ways_born (h ∷ held) births log free = qed 𝓛 (‵ (ways (h ∷ held)) ∷ []) ∵ fsplit ! $ move ! (1 ∷ []) $ use1 𝓛 (‵ (ways (held ++ keys_made births log))) (ways_born held births log free) $ move ! (1 ∷ 0 ∷ []) $ fjoin ! $ done !
  ways_born [] [] log free = qed 𝓛 (‵ ftrue ∷ []) ∵ done !
  ways_born [] (b ∷ births) log free = let h : HeldKey Entry = record { kind = b.0; key = b.1; own = log; label = 0; note = gnil } in qed 𝓛 (‵ ftrue ∷ []) ∵
      use1 𝓛 (‵ (ways (keys_made births log))) (ways_born [] births log free.1) $
      use1 𝓛 (‵ (way n h) ⊛ ‵ (ways (keys_made births log))) (way_free h (new_free b.0 b.1 log free.0) (ways (keys_made births log))) $ split ! $ fjoin ! $ done !

  -- nor do the keys that a book begins with
  abbrev pub NeedNone : Keys → Type 0
  NeedNone [] = Unit {0}
  NeedNone (h ∷ held) = (needs h ≡ false) × NeedNone held

  pub free_own : (held : Keys) → NeedNone held → ⟦ rights_own n held ⟧ ⊢ ⟦ keys_own n held ⟧
  free_own [] free = qed 𝓛 (‵ ftrue ∷ []) ∵ done !
  free_own (h ∷ held) free = let K : Fml = key n h.kind h.key h.own in qed 𝓛 (‵ (rights_own n (h ∷ held)) ∷ []) ∵ fsplit ! $
      use1 𝓛 (‵ (way n h) ⊛ ‵ K) (way_free h free.0 K) $ split ! $ move ! (1 ∷ 0 ∷ []) $ fjoin ! $
      move ! (1 ∷ []) $ use1 𝓛 (‵ (keys_own n held)) (free_own held free.1) $ move ! (1 ∷ 0 ∷ []) $ fjoin ! $ done !

  -- the way of a key of a block: where its label's number leads, what is lent with that, and what is noted
  abbrev pub block_ways : ℕ → Gv → Fml
  block_ways v g = fsep (fsep (leads n v) (loan (start n) n.log v)) (note_at v g)

  block_way : (h : HeldKey Entry) → (h.kind == blocks) ≡ true → way n h ≡ fsep (fsep (leads n h.label) (loan (start n) n.log h.label)) (fsep ftrue (note_at h.label h.note))
  block_way h is =
      let kind : h.kind ≡ blocks = eq_true h.kind blocks is in
      ap (λ (t : Bool × Bool). fsep (way_if t.0 n h.label) (fsep (lies_if t.1 n h.key) (note_if t.0 h.label h.note))) (λ j. (is j, ap (λ (k : ℕ). (k == slots) && (h.label == 1)) kind j))

  pub way_opens : (h : HeldKey Entry) → (h.kind == blocks) ≡ true → ⟦ way n h ⟧ ⊢ ⟦ block_ways h.label h.note ⟧
  way_opens h is = qed 𝓛 (‵ (way n h) ∷ []) ∵ rewrite ! 0 (λ (F : Fml). ‵ F) (block_way h is) refl $ fsplit ! $ move ! (1 ∷ []) $ fsplit ! $ move ! (2 ∷ 1 ∷ []) $ fjoin ! $ keep ! (0 ∷ []) $ done !

  pub way_closes : (h : HeldKey Entry) → (h.kind == blocks) ≡ true → ⟦ block_ways h.label h.note ⟧ ⊢ ⟦ way n h ⟧
  way_closes h is = qed 𝓛 (‵ (block_ways h.label h.note) ∷ []) ∵ fsplit ! $ nothing ! $ move ! (0 ∷ 2 ∷ []) $ fjoin ! $ move ! (1 ∷ 0 ∷ []) $ fjoin ! $ rewrite ! 0 (λ (F : Fml). ‵ F) (sym (block_way h is)) refl $ done !

  none_lent : (k v : ℕ) → k ≡ 0 → (P : Fml) → ⟦ P ⟧ ⊢ ⟦ loan_if k (start n) n.log v ⟧ ∗ ⟦ P ⟧
  none_lent zero v none P = qed 𝓛 (‵ P ∷ []) ∵ nothing ! $ done !
  none_lent (suc k) v none P = absurd (let e : suc k ≡ 0 = none in omega (arith, e))

  -- of a value with which nothing is lent
  pub bare_way : (h : HeldKey Entry) → CarriesNone h.label → (h.kind == blocks) ≡ true → ⟦ leads n h.label ⟧ ∗ ⟦ note_at h.label h.note ⟧ ⊢ ⟦ way n h ⟧
  bare_way h none is = let L : Fml = leads n h.label in qed 𝓛 (‵ L ∷ ‵ (note_at h.label h.note) ∷ []) ∵ use1 𝓛 (‵ (loan (start n) n.log h.label) ⊛ ‵ L) (none_lent (loan_of h.label) h.label none L) $ split ! $ move ! (1 ∷ 0 ∷ []) $ fjoin ! $ fjoin ! $
      use1 𝓛 (‵ (way n h)) (way_closes h is) $ done !

  -- and what lasts of these
  lead_path : (h : HeldKey Entry) (v : ℕ) → (h.kind ≡ blocks) × (h.label ≡ v) → path h ≡ fsep (leads n v) ftrue
  lead_path h v is =
      ap (λ (t : Bool × Bool × ℕ). fsep (path_if t.0 t.2) (lies_if t.1 n h.key)) (λ j. (ap (λ (k : ℕ). k == blocks) is.0 j, ap (λ (k : ℕ). (k == slots) && (h.label == 1)) is.0 j, is.1 j))

  slot_path : (h : HeldKey Entry) (s : ℕ) → (h.kind ≡ slots) × (h.key ≡ s) × (h.label ≡ 1) → path h ≡ fsep ftrue (lies n s)
  slot_path h s is =
      ap (λ (t : Bool × Bool × ℕ). fsep (path_if t.0 h.label) (lies_if t.1 n t.2)) (λ j. (ap (λ (k : ℕ). k == blocks) is.0 j, ap (λ (t : ℕ × ℕ). (t.0 == slots) && (t.1 == 1)) (λ i. (is.0 i, is.2 i)) j, is.1 j))

  slot_way : (h : HeldKey Entry) (s : ℕ) → (h.kind ≡ slots) × (h.key ≡ s) × (h.label ≡ 1) → way n h ≡ fsep ftrue (fsep (lies n s) ftrue)
  slot_way h s is =
      ap (λ (t : Bool × Bool × ℕ). fsep (way_if t.0 n h.label) (fsep (lies_if t.1 n t.2) (note_if t.0 h.label h.note))) (λ j. (ap (λ (k : ℕ). k == blocks) is.0 j, ap (λ (t : ℕ × ℕ). (t.0 == slots) && (t.1 == 1)) (λ i. (is.0 i, is.2 i)) j, is.1 j))

  -- a key whose value's number leads to its home
  way_placed : (h : HeldKey Entry) → (h.kind == blocks) ≡ true → CarriesNone h.label → ⟦ key n h.kind h.key h.own ⟧ ∗ ⟦ leads n h.label ⟧ ∗ ⟦ note_at h.label h.note ⟧ ⊢ ⟦ keys_own n (h ∷ []) ⟧
  way_placed h is none = qed 𝓛 (‵ (key n h.kind h.key h.own) ∷ ‵ (leads n h.label) ∷ ‵ (note_at h.label h.note) ∷ []) ∵ move ! (1 ∷ 2 ∷ []) $ use2 𝓛 (‵ (way n h)) (bare_way h none is) $
      move ! (1 ∷ 0 ∷ []) $ fjoin ! $ nothing ! $ move ! (1 ∷ 0 ∷ []) $ fjoin ! $ done !

  -- the key of a slot, with where its head lies
  relabelled : (h : HeldKey Entry) → is_one slots (h ∷ []) ≡ true → ⟦ keys_own n (h ∷ []) ⟧ ∗ ⟦ lies n h.key ⟧ ⊢ ⟦ keys_own n (with_label 1 (h ∷ [])) ⟧
  relabelled h one = let h' : HeldKey Entry = record { kind = h.kind; key = h.key; own = h.own; label = 1; note = h.note } in let W : Fml = way n h' in
      qed 𝓛 (‵ (keys_own n (h ∷ [])) ∷ ‵ (lies n h.key) ∷ []) ∵ nothing ! $ move ! (2 ∷ 0 ∷ []) $ fjoin ! $ nothing ! $ fjoin ! $ rewrite ! 0 (λ (F : Fml). ‵ F) (sym (slot_way h' h.key (eq_true h.kind slots one, refl, refl))) refl $
      -- [the new way; the key, with its own]
      move ! (1 ∷ []) $ fsplit ! $ fsplit ! $ move ! (0 ∷ 3 ∷ []) $ fjoin ! $ move ! (0 ∷ 2 ∷ []) $ fjoin ! $ keep ! (0 ∷ []) $ done !

  pub note_new : (k c v : ℕ) (g : Gv) (own : List Entry) → c ≡ cell_of v → ⟦ cell_token c g ⟧ ⊢ ⟦ notes_own (of_values v k g own) ⟧
  note_new k c v g own cell = qed 𝓛 (‵ (cell_token c g) ∷ []) ∵ rewrite ! 0 (λ (d : ℕ). ‵ (cell_token d g)) cell refl $
      nothing ! $ move ! (1 ∷ 0 ∷ []) $ fjoin ! $ done !

  -- the note of a key of a block, which may be for another value of the block then
  one_note : (h : HeldKey Entry) (v : ℕ) → (h.kind == blocks) ≡ true → cell_of h.label ≡ cell_of v → ⟦ notes_own (h ∷ []) ⟧ ⊢ ⟦ note_at v h.note ⟧
  one_note h v one cell = qed 𝓛 (‵ (notes_own (h ∷ [])) ∷ []) ∵ fsplit ! $ keep ! (0 ∷ []) $ rewrite ! 0 (λ (b : Bool). ‵ (note_if b h.label h.note)) one refl $
      rewrite ! 0 (λ (c : ℕ). ‵ (cell_token c h.note)) cell refl $ done !

  -- the key of a block, whose token is out
  pub opens_key : (held : Keys) → is_one blocks held ≡ true → ⟦ keys_own n held ⟧ ⊢ ⟦ key_without_note_owns n held ⟧ ∗ ⟦ cell_token (cell_of (label_of held)) (note_of held) ⟧
  opens_key [] one = absurd (cc)
  opens_key (h ∷ g ∷ held) one = absurd (cc)
  opens_key (h ∷ []) one = qed 𝓛 (‵ (keys_own n (h ∷ [])) ∷ []) ∵ fsplit ! $ fsplit ! $ move ! (1 ∷ []) $ use1 𝓛 (‵ (block_ways h.label h.note)) (way_opens h one) $ fsplit ! $
      -- [where it leads, and what is lent; the note; the right; nothing]
      move ! (2 ∷ 0 ∷ []) $ fjoin ! $ move ! (1 ∷ []) $ keep ! (1 ∷ 0 ∷ []) $ done !

  pub closes_key : (held : Keys) (g : Gv) → is_one blocks held ≡ true → ⟦ key_without_note_owns n held ⟧ ∗ ⟦ cell_token (cell_of (label_of held)) g ⟧ ⊢ ⟦ keys_own n (with_note g held) ⟧
  closes_key [] g one = absurd (cc)
  closes_key (h ∷ k ∷ held) g one = absurd (cc)
  closes_key (h ∷ []) g one = let h' : HeldKey Entry = record { kind = h.kind; key = h.key; own = h.own; label = h.label; note = g } in
      qed 𝓛 (‵ (key_without_note_owns n (h ∷ [])) ∷ ‵ (cell_token (cell_of h.label) g) ∷ []) ∵ fsplit ! $ move ! (2 ∷ []) $
      -- [the note; the right; where it leads, and what is lent]
      move ! (2 ∷ 0 ∷ []) $ fjoin ! $ use1 𝓛 (‵ (way n h')) (way_closes h' one) $ move ! (1 ∷ 0 ∷ []) $ fjoin ! $ nothing ! $ move ! (1 ∷ 0 ∷ []) $ fjoin ! $ done !

  pub label_leads : (held : Keys) (v : ℕ) → IsLabel held v → ⟦ paths held ⟧ ⊢ ⟦ leads n v ⟧
  label_leads [] v is = absurd is
  label_leads (h ∷ held) v (inl is) = qed 𝓛 (‵ (paths (h ∷ held)) ∷ []) ∵ fsplit ! $ keep ! (0 ∷ []) $ rewrite ! 0 (λ (F : Fml). ‵ F) (lead_path h v is) refl $ fsplit ! $ keep ! (0 ∷ []) $ done !
  label_leads (h ∷ held) v (inr is) = qed 𝓛 (‵ (paths (h ∷ held)) ∷ []) ∵ fsplit ! $ drop ! $ by ! (label_leads held v is)

  -- where the head of a slot lies whose key is labelled so
  label_lies : (held : Keys) (s : ℕ) → HasPlace held s → ⟦ paths held ⟧ ⊢ ⟦ lies n s ⟧
  label_lies [] s is = absurd is
  label_lies (h ∷ held) s (inl is) = qed 𝓛 (‵ (paths (h ∷ held)) ∷ []) ∵ fsplit ! $ keep ! (0 ∷ []) $ rewrite ! 0 (λ (F : Fml). ‵ F) (slot_path h s is) refl $ fsplit ! $ keep ! (1 ∷ []) $ done !
  label_lies (h ∷ held) s (inr is) = qed 𝓛 (‵ (paths (h ∷ held)) ∷ []) ∵ fsplit ! $ drop ! $ by ! (label_lies held s is)

  -- the key of a slot whose head lies in the table, as a token of its entry shows
  pub laid : (table : List ℕ) (s label : ℕ) (held : Keys) → is_one slots held ≡ true → n.table ≡ table → s ≡ key_of held → label ≡ label_at n (key_of held)
      → ⟦ keys_own n held ⟧ ∗ ⟦ filled_at table s label ⟧ ⊢ ⟦ keys_own n (with_label 1 held) ⟧
  laid table s label [] one is entry head = absurd (cc)
  laid table s label (h ∷ g ∷ held) one is entry head = absurd (cc)
  laid table s label (h ∷ []) one is entry head =
      qed 𝓛 (‵ (keys_own n (h ∷ [])) ∷ ‵ (filled_at table s label) ∷ []) ∵ move ! (1 ∷ []) $ rewrite ! 0 (λ (t : ℕ × ℕ). ‵ (filled_at table t.0 t.1)) (λ j. (entry j, head j)) refl $
      rewrite ! 0 (λ (t : List ℕ). ‵ (filled_at t h.key (label_at n h.key))) (sym is) refl $
      -- [where the head lies; the key]
      move ! (1 ∷ 0 ∷ []) $ by ! (relabelled h one)

  -- a key whose value's number leads to its home, as a token of the number's row shows
  pub placed : (store : List ℕ) (row : ℕ) (chunks : List (Ptr × ℕ)) (held : Keys) (v : ℕ) → is_one blocks held ≡ true → n.store ≡ store → IsRowIn store row chunks
      → IsInRow (block_number v) row → (label_in chunks (entry_of (block_number v)) ≡ chunk_label n (home_of v) (cell_of v)) × (content_in chunks (entry_of (block_number v)) ≡ place_of v) → CarriesNone v
      → cell_of (label_of held) ≡ cell_of v → ⟦ rights_own n held ⟧ ∗ ⟦ notes_own held ⟧ ∗ ⟦ known_row store row chunks ⟧ ⊢ ⟦ keys_own n (with_label v held) ⟧
  placed store row chunks [] v one is made place there free cell = absurd (cc)
  placed store row chunks (h ∷ g ∷ held) v one is made place there free cell = absurd (cc)
  placed store row chunks (h ∷ []) v one is made place there free cell = let b : ℕ = block_number v in let h' : HeldKey Entry = record { kind = h.kind; key = h.key; own = h.own; label = v; note = h.note } in
      let t : ℕ × ℕ = (label_in chunks (entry_of b), content_in chunks (entry_of b)) in let same : t ≡ chunk_tag n v = λ j. (there.0 j, there.1 j) in
      qed 𝓛 (‵ (rights_own n (h ∷ [])) ∷ ‵ (notes_own (h ∷ [])) ∷ ‵ (known_row store row chunks) ∷ []) ∵ move ! (2 ∷ []) $ use1 𝓛 (‵ (tells store b t)) (known_tells 𝓛 store b row chunks made place) $
      rewrite ! 0 (λ (u : ℕ × ℕ). ‵ (tells store b u)) same refl $ rewrite ! 0 (λ (s : List ℕ). ‵ (tells s b (chunk_tag n v))) (sym is) refl $ use1 𝓛 (‵ (leads n v)) (leads_free v free) $
      -- [where it leads; the right; the note]
      move ! (2 ∷ []) $ use1 𝓛 (‵ (note_at v h.note)) (one_note h v one cell) $ move ! (2 ∷ []) $ fsplit ! $ keep ! (0 ∷ 3 ∷ 2 ∷ []) $ by ! (way_placed h' one free)

  -- that of a value among others
  pub one_leads : (vs : List ℕ) (v : ℕ) → has v vs ≡ true → ⟦ all_lead n vs ⟧ ⊢ ⟦ leads n v ⟧
  one_leads [] v h = absurd (cc)
  one_leads (u ∷ vs) v h = go (u == v) refl (one_leads vs v) h
    where
      go : (b : Bool) → (u == v) ≡ b → (has v vs ≡ true → ⟦ all_lead n vs ⟧ ⊢ ⟦ leads n v ⟧) → (b || has v vs) ≡ true → ⟦ all_lead n (u ∷ vs) ⟧ ⊢ ⟦ leads n v ⟧
      go true e rest t = qed 𝓛 (‵ (all_lead n (u ∷ vs)) ∷ []) ∵ fsplit ! $ keep ! (0 ∷ []) $ rewrite ! 0 (λ (w : ℕ). ‵ (leads n w)) (eq_true u v e) refl $ done !
      go false e rest t = qed 𝓛 (‵ (all_lead n (u ∷ vs)) ∷ []) ∵ fsplit ! $ drop ! $ by ! (rest t)

  -- A value whose number is one of a row that a token shows lies in the block with the label that the row has there.

  in_one : (store : List ℕ) (row : ℕ) (chunks : List (Ptr × ℕ)) → IsRowIn store row chunks → n.store ≡ store → (v : ℕ)
      → ⟦ leads n v ⟧ ∗ ⟦ known_row store row chunks ⟧ ⊢ guard 𝓤 (IsIn n row chunks v) (⟦ leads n v ⟧ ∗ ⟦ known_row store row chunks ⟧)
  in_one store row chunks made is v = go (is_in_row (block_number v) row)
    where
      go : Dec (IsInRow (block_number v) row) → ⟦ leads n v ⟧ ∗ ⟦ known_row store row chunks ⟧ ⊢ guard 𝓤 (IsIn n row chunks v) (⟦ leads n v ⟧ ∗ ⟦ known_row store row chunks ⟧)
      go (no out) = qed 𝓛 (‵ (leads n v) ∷ ‵ (known_row store row chunks) ∷ []) ∵ check ! (λ place. absurd (out place)) $ done !
      go (yes place) = let b : ℕ = block_number v in let K : Fml = known_row store row chunks in let t : ℕ × ℕ = (label_in chunks (entry_of b), content_in chunks (entry_of b)) in let Same : Type 0 = t ≡ chunk_tag n v in
          qed 𝓛 (‵ (leads n v) ∷ ‵ K ∷ []) ∵ use1 𝓛 (‵ (leads n v) ⊛ ‵ (leads n v)) (lead_twice v) $ split ! $ fsplit ! $ move ! (1 ∷ []) $ drop ! $ rewrite ! 0 (λ (s : List ℕ). ‵ (tells s b (chunk_tag n v))) is refl $
          move ! (2 ∷ []) $ use1 𝓛 (‵ K ⊛ ‵ K) (row_twice 𝓛 store row chunks) $ split ! $ use1 𝓛 (‵ (tells store b t)) (known_tells 𝓛 store b row chunks made place) $
          -- [where the number leads by the row; the row; where it leads by the book; that once more]
          move ! (0 ∷ 2 ∷ []) $ use2 𝓛 (raw (fact 𝓤 Same)) (tells_agree 𝓛 store b t (chunk_tag n v)) $ heard ! Same (λ same. check ! (λ _. (ap (λ (u : ℕ × ℕ). u.0) same, ap (λ (u : ℕ × ℕ). u.1) same)) $ move ! (1 ∷ 0 ∷ []) $ done !)

  pub all_in : (store : List ℕ) (row : ℕ) (chunks : List (Ptr × ℕ)) → IsRowIn store row chunks → n.store ≡ store → (vs : List ℕ) → ⟦ all_lead n vs ⟧ ∗ ⟦ known_row store row chunks ⟧ ⊢ guard 𝓤 (AreIn n row chunks vs) ⟦ all_lead n vs ⟧
  all_in store row chunks made is [] = qed 𝓛 (‵ ftrue ∷ ‵ (known_row store row chunks) ∷ []) ∵ check ! (λ v named. absurd (cc)) $ keep ! (0 ∷ []) $ done !
  all_in store row chunks made is (u ∷ vs) = let K : Fml = known_row store row chunks in qed 𝓛 (‵ (all_lead n (u ∷ vs)) ∷ ‵ K ∷ []) ∵ fsplit ! $ move ! (0 ∷ 2 ∷ []) $
      use2 𝓛 (given (IsIn n row chunks u) (‵ (leads n u) ⊛ ‵ K)) (in_one store row chunks made is u) $ learn ! (λ one. split ! $
      -- [where the first leads; the row; where the others lead]
      move ! (2 ∷ 1 ∷ []) $ use2 𝓛 (given (AreIn n row chunks vs) (‵ (all_lead n vs))) (all_in store row chunks made is vs) $ learn ! (λ rest.
      check ! (both_in n row chunks u vs one rest) $ move ! (1 ∷ 0 ∷ []) $ fjoin ! $ done !))

  pub all_twice : (vs : List ℕ) → ⟦ all_lead n vs ⟧ ⊢ ⟦ all_lead n vs ⟧ ∗ ⟦ all_lead n vs ⟧
  all_twice [] = qed 𝓛 (‵ ftrue ∷ []) ∵ nothing ! $ done !
  all_twice (v ∷ vs) = qed 𝓛 (‵ (all_lead n (v ∷ vs)) ∷ []) ∵ fsplit ! $ use1 𝓛 (‵ (leads n v) ⊛ ‵ (leads n v)) (lead_twice v) $ split ! $
      move ! (2 ∷ []) $ use1 𝓛 (‵ (all_lead n vs) ⊛ ‵ (all_lead n vs)) (all_twice vs) $ split ! $
      move ! (2 ∷ 0 ∷ []) $ fjoin ! $ move ! (2 ∷ 1 ∷ []) $ fjoin ! $ done !

  -- values that were named, or that keys are labelled with, something being lent with them where it has to be
  abbrev pub Among : List ℕ → Keys → List ℕ → Type 0
  Among vs held us = (v : ℕ) → has v us ≡ true → (has v vs ≡ true) ⊎ (IsLabel held v × CarriesOne v)

  lent_more : (vs : List ℕ) (held : Keys) (us : List ℕ) → Among vs held us → AllCarryOne vs → AllCarryOne us
  lent_more vs held us among lent v named = ⊎_elim (λ was. lent v was) (λ is. is.1) (among v named)

  -- what is lent with them may be lent
  pub all_permit : (vs : List ℕ) → ⟦ all_lead n vs ⟧ ⊢ ⟦ all_permitted n.permits (map loan_of vs) ⟧
  all_permit [] = qed 𝓛 (‵ ftrue ∷ []) ∵ done !
  all_permit (v ∷ vs) = qed 𝓛 (‵ (all_lead n (v ∷ vs)) ∷ []) ∵ fsplit ! $ move ! (1 ∷ []) $ use1 𝓛 (‵ (all_permitted n.permits (map loan_of vs))) (all_permit vs) $ move ! (1 ∷ []) $ fsplit ! $ drop ! $ fjoin ! $ done !

  from_either : (vs : List ℕ) (held : Keys) (v : ℕ) → (has v vs ≡ true) ⊎ (IsLabel held v × CarriesOne v) → ⟦ all_lead n vs ⟧ ∗ ⟦ paths held ⟧ ⊢ ⟦ leads n v ⟧
  from_either vs held v (inl named) = qed 𝓛 (‵ (all_lead n vs) ∷ ‵ (paths held) ∷ []) ∵ keep ! (0 ∷ []) $ by ! (one_leads vs v named)
  from_either vs held v (inr is) = qed 𝓛 (‵ (all_lead n vs) ∷ ‵ (paths held) ∷ []) ∵ keep ! (1 ∷ []) $ by ! (label_leads held v is.0)

  pub all_more : (vs : List ℕ) (held : Keys) (us : List ℕ) → Among vs held us → ⟦ all_lead n vs ⟧ ∗ ⟦ paths held ⟧ ⊢ ⟦ all_lead n us ⟧
  all_more vs held [] among = qed 𝓛 (‵ (all_lead n vs) ∷ ‵ (paths held) ∷ []) ∵ drop ! $ drop ! $ nothing ! $ done !
  all_more vs held (u ∷ us) among = qed 𝓛 (‵ (all_lead n vs) ∷ ‵ (paths held) ∷ []) ∵ use1 𝓛 (‵ (all_lead n vs) ⊛ ‵ (all_lead n vs)) (all_twice vs) $ split ! $
      move ! (2 ∷ []) $ use1 𝓛 (‵ (paths held) ⊛ ‵ (paths held)) (paths_twice held) $ split ! $
      -- [the paths, twice; all that were named, twice]
      move ! (2 ∷ 0 ∷ []) $ use2 𝓛 (‵ (leads n u)) (from_either vs held u (among u (here u us))) $
      move ! (2 ∷ 1 ∷ []) $ use2 𝓛 (‵ (all_lead n us)) (all_more vs held us (λ v h. among v (there u v us h))) $ move ! (1 ∷ 0 ∷ []) $ fjoin ! $ done !

  -- with each that was named something is lent where it has to be
  pub found_lent : (st : State) → ⟦ places_known n st ⟧ ⊢ guard 𝓤 (AllCarryOne st.named) ⟦ places_known n st ⟧
  found_lent st = qed 𝓛 (‵ (places_known n st) ∷ []) ∵ fsplit ! $ move ! (1 ∷ []) $ fsplit ! $ move ! (1 ∷ []) $ fpick ! (λ lent. drop ! $ check ! lent $
      -- [where all lie; where all lead]
      nothing ! $ fpack ! (AllCarryOne st.named) (λ _. ftrue) lent $ move ! (1 ∷ 0 ∷ []) $ fjoin ! $ move ! (1 ∷ 0 ∷ []) $ fjoin ! $ done !)

  abbrev SameHome : ℕ → ℕ → Type 0
  SameHome u w = block_number u ≡ block_number w → home_of u ≡ home_of w

  two_agree : (u w : ℕ) → ⟦ leads n u ⟧ ∗ ⟦ leads n w ⟧ ⊢ guard 𝓤 (SameHome u w) (⟦ leads n u ⟧ ∗ ⟦ leads n w ⟧)
  two_agree u w = go (ℕ_discrete (block_number u) (block_number w))
    where
      tag_home : (t u : ℕ × ℕ) → t ≡ u → right_of t.0 ≡ right_of u.0
      tag_home t u e = ap (λ (z : ℕ × ℕ). right_of z.0) e

      home : (v : ℕ) → left_of (right_of (chunk_tag n v).0) ≡ home_of v
      home v = ap left_of (right_pair n.family (pair (home_of v) (cell_of v))) ∙ left_pair (home_of v) (cell_of v)

      go : Dec (block_number u ≡ block_number w) → ⟦ leads n u ⟧ ∗ ⟦ leads n w ⟧ ⊢ guard 𝓤 (SameHome u w) (⟦ leads n u ⟧ ∗ ⟦ leads n w ⟧)
      go (no out) = qed 𝓛 (‵ (leads n u) ∷ ‵ (leads n w) ∷ []) ∵ check ! (λ e. absurd (out e)) $ done !
      go (yes e) = let Same : Type 0 = chunk_tag n u ≡ chunk_tag n w in qed 𝓛 (‵ (leads n u) ∷ ‵ (leads n w) ∷ []) ∵ use1 𝓛 (‵ (leads n u) ⊛ ‵ (leads n u)) (lead_twice u) $ split ! $ fsplit ! $ move ! (1 ∷ []) $ drop ! $
          rewrite ! 0 (λ (b : ℕ). ‵ (tells n.store b (chunk_tag n u))) e refl $ move ! (2 ∷ []) $ use1 𝓛 (‵ (leads n w) ⊛ ‵ (leads n w)) (lead_twice w) $ split ! $ fsplit ! $ move ! (1 ∷ []) $ drop ! $
          -- [where w lies; where w leads; where u lies; where u leads]
          move ! (2 ∷ 0 ∷ []) $ use2 𝓛 (raw (fact 𝓤 Same)) (tells_agree 𝓛 n.store (block_number w) (chunk_tag n u) (chunk_tag n w)) $
          heard ! Same (λ same. check ! (λ _. sym (home u) ∙ (ap (λ (z : ℕ × ℕ). left_of (right_of z.0)) same ∙ home w)) $ move ! (1 ∷ 0 ∷ []) $ done !)

  abbrev AgreeWith : ℕ → List ℕ → Type 0
  AgreeWith u vs = (w : ℕ) → has w vs ≡ true → SameHome u w

  agree_more : (u x : ℕ) (vs : List ℕ) → SameHome u x → AgreeWith u vs → AgreeWith u (x ∷ vs)
  agree_more u x vs one rest w h = go (x == w) refl h
    where
      go : (b : Bool) → (x == w) ≡ b → (b || has w vs) ≡ true → SameHome u w
      go true e t = subst (SameHome u) (eq_true x w e) one
      go false e t = rest w t

  one_agrees : (u : ℕ) (vs : List ℕ) → ⟦ leads n u ⟧ ∗ ⟦ all_lead n vs ⟧ ⊢ guard 𝓤 (AgreeWith u vs) (⟦ leads n u ⟧ ∗ ⟦ all_lead n vs ⟧)
  one_agrees u [] = qed 𝓛 (‵ (leads n u) ∷ ‵ ftrue ∷ []) ∵ check ! (λ w named. absurd (cc)) $ done !
  one_agrees u (x ∷ vs) = qed 𝓛 (‵ (leads n u) ∷ ‵ (all_lead n (x ∷ vs)) ∷ []) ∵ move ! (1 ∷ []) $ fsplit ! $ move ! (2 ∷ 0 ∷ []) $ use2 𝓛 (given (SameHome u x) (‵ (leads n u) ⊛ ‵ (leads n x))) (two_agree u x) $ learn ! (λ one. split ! $
      -- [where u leads; where x leads; where the others lead]
      move ! (0 ∷ 2 ∷ []) $ use2 𝓛 (given (AgreeWith u vs) (‵ (leads n u) ⊛ ‵ (all_lead n vs))) (one_agrees u vs) $ learn ! (λ rest. split ! $
      check ! (agree_more u x vs one rest) $ move ! (2 ∷ 1 ∷ []) $ fjoin ! $ move ! (1 ∷ 0 ∷ []) $ done !))

  all_agree_more : (u : ℕ) (vs : List ℕ) → AgreeWith u vs → HaveOneHome vs → HaveOneHome (u ∷ vs)
  all_agree_more u vs one rest v w a b e = go (u == v) refl a (u == w) refl b
    where
      go : (x : Bool) → (u == v) ≡ x → (x || has v vs) ≡ true → (y : Bool) → (u == w) ≡ y → (y || has w vs) ≡ true → home_of v ≡ home_of w
      go true i _ true j _ = ap home_of (sym (eq_true u v i) ∙ eq_true u w j)
      go true i _ false j h = let is : u ≡ v = eq_true u v i in ap home_of (sym is) ∙ one w h (ap block_number is ∙ e)
      go false i h true j _ = let is : u ≡ w = eq_true u w j in sym (one v h (ap block_number is ∙ sym e)) ∙ ap home_of is
      go false i h false j k = rest v w h k e

  all_agree : (vs : List ℕ) → ⟦ all_lead n vs ⟧ ⊢ guard 𝓤 (HaveOneHome vs) ⟦ all_lead n vs ⟧
  all_agree [] = qed 𝓛 (‵ ftrue ∷ []) ∵ check ! (λ v w a. absurd (cc)) $ done !
  all_agree (u ∷ vs) = qed 𝓛 (‵ (all_lead n (u ∷ vs)) ∷ []) ∵ fsplit ! $ use2 𝓛 (given (AgreeWith u vs) (‵ (leads n u) ⊛ ‵ (all_lead n vs))) (one_agrees u vs) $ learn ! (λ one. split ! $ move ! (1 ∷ []) $
      use1 𝓛 (given (HaveOneHome vs) (‵ (all_lead n vs))) (all_agree vs) $ learn ! (λ rest. check ! (all_agree_more u vs one rest) $ move ! (1 ∷ 0 ∷ []) $ fjoin ! $ done !))

  -- what is known of all values that were named
  abbrev pub KnownOf : List ℕ → Type 0
  KnownOf vs = AllCarryOne vs × HaveOneHome vs

  pub found_known : (st : State) → ⟦ places_known n st ⟧ ⊢ guard 𝓤 (KnownOf st.named) ⟦ places_known n st ⟧
  found_known st = qed 𝓛 (‵ (places_known n st) ∷ []) ∵ use1 𝓛 (given (AllCarryOne st.named) (‵ (places_known n st))) (found_lent st) $ learn ! (λ lent. fsplit ! $
      use1 𝓛 (given (HaveOneHome st.named) (‵ (all_lead n st.named))) (all_agree st.named) $ learn ! (λ homes. check ! (lent, homes) $ fjoin ! $ done !))

  -- there are as many slots as before; or one more, whose key says where its head lies
  abbrev pub MorePlaced : ℕ → Keys → ℕ → Type 0
  MorePlaced m held more = (more ≡ m) ⊎ ((more ≡ suc m) × HasPlace held m)

  lie_more : (m : ℕ) (held : Keys) (more : ℕ) → MorePlaced m held more → ⟦ all_lie n m ⟧ ∗ ⟦ paths held ⟧ ⊢ ⟦ all_lie n more ⟧
  lie_more m held more (inl same) = qed 𝓛 (‵ (all_lie n m) ∷ ‵ (paths held) ∷ []) ∵ keep ! (0 ∷ []) $ rewrite ! 0 (λ (k : ℕ). ‵ (all_lie n k)) (sym same) refl $ done !
  lie_more m held more (inr (is, has)) = qed 𝓛 (‵ (all_lie n m) ∷ ‵ (paths held) ∷ []) ∵ move ! (1 ∷ []) $ use1 𝓛 (‵ (lies n m)) (label_lies held m has) $ move ! (1 ∷ 0 ∷ []) $
      use2 𝓛 (‵ (all_lie n (suc m))) (one_more 𝓛 n m) $ rewrite ! 0 (λ (k : ℕ). ‵ (all_lie n k)) (sym is) refl $ done !

  pub found_more : (a b : State) (held : Keys) → Among a.named held b.named → MorePlaced (length a.slots) held (length b.slots) → ⟦ places_known n a ⟧ ∗ ⟦ paths held ⟧ ⊢ ⟦ places_known n b ⟧
  found_more a b held among placed = qed 𝓛 (‵ (places_known n a) ∷ ‵ (paths held) ∷ []) ∵ fsplit ! $ move ! (1 ∷ []) $ fsplit ! $ move ! (1 ∷ []) $ fpick ! (λ lent. drop ! $
      -- [where all lie; where all lead; the paths]
      move ! (2 ∷ []) $ use1 𝓛 (‵ (paths held) ⊛ ‵ (paths held)) (paths_twice held) $ split ! $
      -- [the paths, twice; where all lie; where all lead]
      move ! (3 ∷ 0 ∷ []) $ use2 𝓛 (‵ (all_lead n b.named)) (all_more a.named held b.named among) $
      move ! (2 ∷ 1 ∷ []) $ use2 𝓛 (‵ (all_lie n (length b.slots))) (lie_more (length a.slots) held (length b.slots) placed) $
      nothing ! $ fpack ! (AllCarryOne b.named) (λ _. ftrue) (lent_more a.named held b.named among lent) $ move ! (1 ∷ 0 ∷ []) $ fjoin ! $ move ! (1 ∷ 0 ∷ []) $ fjoin ! $ done !)
