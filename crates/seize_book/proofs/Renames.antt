-- The key of a block is for another of its values then. Assumes `Logic`.
use Rattle.std.proofs.Common.{◌≡◌, ℕ, suc, ◌+◌, ◌^◌, ◌<◌, ◌≤◌, Bool, true, false, ◌==◌, List, [], ◌∷◌, ◌++◌, take, Some, refl, sym, ◌∙◌, ap, subst, arith}
use Rattle.std.specs.Prelude.{drop as past_first}
use Rattle.std.proofs.lemmas.Bool.{or_from}
use seplogic.Ra.Ura.{Ura}
use base.Logic.{ent, sep}
use base.Fml.{Fml}
use types.Logic.{Logic, sem}
use types.Kit.{‵, ◌$◌, ◌∵◌, !, qed, by, keep, fsplit, fjoin, rewrite, done}
use native.Mathlib.Decide.{ℕ_discrete}
use base.Stored.{Gv}
use Rattle.seize_content.specs.declared.loan.Pool.{Pool}
use Rattle.seize_store.specs.RowTokens.{content_in, entry_of, tells}
use Rattle.seize_store.specs.declared.row_token.RowToken.{RowToken}
use Rattle.seize_machine.specs.Machine.State.{State, has, slot_at}
use Rattle.seize_content.specs.declared.ticket.Ticket.{Ticket}
use Rattle.seize_book.specs.Adding.{JoinsKeys, Parts}
use Rattle.seize_book.specs.Bare.{Places}
use Rattle.seize_book.specs.Blocks.{block_number}
use Rattle.seize_book.specs.Book.{HolderKnows, TheBlock, after, blocks, rules, slots}
use Rattle.seize_book.specs.Entry.{Entry}
use Rattle.seize_book.specs.Fair.{Before}
use Rattle.seize_book.specs.Homes.{IsVacant, home_of}
use Rattle.seize_book.specs.Ledger.{HeldKey, HoldersKnow, with_list}
use Rattle.seize_book.specs.Lending.{IsHandedBy, IsLentKey, Lends, MayRedeem, Redeems}
use Rattle.seize_book.specs.Loans.{Carries, CarriesNone, cell_of, loan_number, loan_of, place_of}
use Rattle.seize_book.specs.Books.{IsNextIn, MaySettle}
use Rattle.seize_book.specs.Others.{FollowsValue, IsLast, IsLastIn, Renames, state_of, value_of, with_label}
use Rattle.seize_book.specs.Private.{is_one, key_of, label_of, own_of}
use Rattle.seize_book.specs.Slots.{hands_next, own_list, slot_number, slot_of}
use Rattle.seize_book.specs.Permits.{permit, permit_if}
use Rattle.seize_book.specs.Tokens.{Name, chunk_label, leads, lies_in, start}
use Rattle.seize_book.specs.declared.book.keys.Keys.{Keys}
use Rattle.seize_book.specs.declared.book.pass.Pass.{Pass}
use Rattle.seize_book.specs.declared.book.slot_key.SlotKey.{SlotKey}
use Rattle.seize_book.specs.declared.book.value_key.ValueKey.{ValueKey}
use Rattle.seize_book.proofs.Homes.{another_with}
use Rattle.seize_book.proofs.Lists.{unequal}
use Rattle.seize_book.proofs.Private.{after_one, only_is, renewed_label}
use Rattle.seize_book.proofs.Sound.{gone_later}
use Rattle.seize_book.proofs.Ways.{leads_free}

-- past all that are in a list
past : (xs : List ℕ) → (bound : ℕ) × ((v : ℕ) → bound ≤ v → has v xs ≡ false)
past [] = (0, λ v le. refl)
past (x ∷ xs) = let rest = past xs in
    (suc x + rest.0, λ v le. or_from (x == v) (has v xs) (unequal x v (λ e. omega (arith, le, e))) (rest.1 v (omega (arith, le))))

small : (v : ℕ) → block_number v < 2 ^ 64
small v = omega arith

-- a value of the same block that was never named
another : (n : Name) (held : List (HeldKey Entry))
    → (v : ℕ) × (home_of v ≡ home_of (label_of held)) × (block_number v ≡ block_number (label_of held)) × ((past (after (start n) (own_of held)).named).0 ≤ v)
    × (place_of v ≡ place_of (label_of held)) × (loan_of v ≡ 0) × (cell_of v ≡ cell_of (label_of held))
another n held =
    another_with (home_of (label_of held)) (place_of (label_of held)) 0 (cell_of (label_of held)) (block_number (label_of held)) (past (after (start n) (own_of held)).named).0 (small (label_of held))

pub fresh : Name → List (HeldKey Entry) → ℕ
fresh n held = (another n held).0

pub fresh_home : (n : Name) (held : List (HeldKey Entry)) → (home_of (label_of held) ≡ home_of (fresh n held)) × (block_number (label_of held) ≡ block_number (fresh n held)) × (place_of (label_of held) ≡ place_of (fresh n held)) × CarriesNone (fresh n held) × (cell_of (label_of held) ≡ cell_of (fresh n held))
unfolding fresh
fresh_home n held = let v = another n held in (sym v.1, sym v.2, sym v.4, v.5, sym v.6)

pub renames : (marker : _) (n : Name) (held : List (HeldKey Entry))
    → Renames (record { marker = marker; name = n; held = held }) (record { marker = marker; name = n; held = with_label (fresh n held) held })
unfolding fresh
renames marker n held = let v = another n held in
    record { value = v.0; book = refl; held = refl; home = v.1; numbered = v.2; unnamed = (past (after (start n) (own_of held)).named).1 v.0 v.3; place = v.4; cell = v.6; free = v.5 }

-- the same, where the book is named by another
pub renames_in : (marker : _) (n m : Name) → n ≡ m → (held : List (HeldKey Entry))
    → Renames (record { marker = marker; name = n; held = held }) (record { marker = marker; name = m; held = with_label (fresh n held) held })
unfolding fresh
renames_in marker n m same held = let r = renames marker n held in
    record { value = r.value; book = sym same; held = r.held; home = r.home; numbered = r.numbered; unnamed = r.unnamed; place = r.place; cell = r.cell; free = r.free }

-- of a block whose number is still to be said, one with this number and this place
pub fresh_at : (n : Name) (held : List (HeldKey Entry)) (place number : ℕ) → number < 2 ^ 64 → ℕ
fresh_at n held place number fits = (another_with (key_of held) place 0 (cell_of (label_of held)) number (past (after (start n) (own_of held)).named).0 fits).0

-- of a block in a store, one with this number and with the place of the content there
pub places : (r m : _) (n : Name) (held : List (HeldKey Entry)) (number : ℕ) (fits : number < 2 ^ 64) (known : RowToken)
    → let place : ℕ = content_in known.chunks (entry_of number) in
    Places (record { marker = r; name = n; held = held }) number known (record { marker = m; name = n; held = with_label (fresh_at n held place number fits) held })
unfolding fresh_at
places r m n held number fits known =
    let bound = past (after (start n) (own_of held)).named in let v = another_with (key_of held) (content_in known.chunks (entry_of number)) 0 (cell_of (label_of held)) number bound.0 fits in
    record { value = v.0; book = refl; held = refl; home = v.1; numbered = v.2; unnamed = bound.1 v.0 v.3; place = v.4; cell = v.6; free = v.5 }

pub placed_at : (n : Name) (held : List (HeldKey Entry)) (place number : ℕ) (fits : number < 2 ^ 64)
    → let v : ℕ = fresh_at n held place number fits in (home_of v ≡ key_of held) × (block_number v ≡ number) × (place_of v ≡ place) × CarriesNone v × (cell_of (label_of held) ≡ cell_of v)
unfolding fresh_at
placed_at n held place number fits = let v = another_with (key_of held) place 0 (cell_of (label_of held)) number (past (after (start n) (own_of held)).named).0 fits in (v.1, v.2, v.4, v.5, sym v.6)

-- one with which a content is lent
pub fresh_lent : Name → List (HeldKey Entry) → ℕ → Gv → ℕ
fresh_lent n held c g =
    (another_with (home_of (label_of held)) c (loan_number g) (cell_of (label_of held)) (block_number (label_of held)) (past (after (start n) (own_of held)).named).0 (small (label_of held))).0

pub fresh_lent_is : (n : Name) (held : List (HeldKey Entry)) (c : ℕ) (g : Gv)
    → (home_of (label_of held) ≡ home_of (fresh_lent n held c g)) × (block_number (label_of held) ≡ block_number (fresh_lent n held c g)) × Carries (fresh_lent n held c g) c g × (cell_of (label_of held) ≡ cell_of (fresh_lent n held c g))
unfolding fresh_lent
fresh_lent_is n held c g =
    let v = another_with (home_of (label_of held)) c (loan_number g) (cell_of (label_of held)) (block_number (label_of held)) (past (after (start n) (own_of held)).named).0 (small (label_of held)) in
    (sym v.1, sym v.2, (v.4, v.5), sym v.6)

pub lends : (marker : _) (n : Name) (held : List (HeldKey Entry)) (pool : Pool)
    → Lends (record { marker = marker; name = n; held = held }) pool (record { marker = marker; name = n; held = with_label (fresh_lent n held pool.name pool.value) held })
unfolding fresh_lent
lends marker n held pool =
    let named = past (after (start n) (own_of held)).named in let v = another_with (home_of (label_of held)) pool.name (loan_number pool.value) (cell_of (label_of held)) (block_number (label_of held)) named.0 (small (label_of held)) in
    record { value = v.0; book = refl; held = refl; home = v.1; numbered = v.2; unnamed = named.1 v.0 v.3; cell = v.6; carries = (v.4, v.5) }

own_labelled : (v : ℕ) (held : List (HeldKey Entry)) → own_of (with_label v held) ≡ own_of held
own_labelled v [] = refl
own_labelled v (h ∷ held) = refl

label_one : (held : List (HeldKey Entry)) (v : ℕ) → is_one blocks held ≡ true → label_of (with_label v held) ≡ v
label_one [] v one = absurd (cc)
label_one (h ∷ held) v one = refl

module _ {M : Type 1} {𝓤 : Ura M} (𝓛 : Logic 𝓤) (n : Name) where
  pub same_place : (v w : ℕ) → home_of v ≡ home_of w → block_number v ≡ block_number w → place_of v ≡ place_of w → cell_of v ≡ cell_of w → lies_in n v ≡ lies_in n w
  same_place v w home block place cell = ap (λ (t : (ℕ × ℕ) × (ℕ × ℕ)). tells n.store t.0.0 (chunk_label n t.1.0 t.0.1, t.1.1)) (λ j. ((block j, cell j), (home j, place j)))

  -- a value of the same block, with which nothing is lent
  pub leads_freed : (v w : ℕ) → home_of v ≡ home_of w → block_number v ≡ block_number w → place_of v ≡ place_of w → CarriesNone w → cell_of v ≡ cell_of w → ent 𝓤 (sem 𝓛 (leads n v)) (sem 𝓛 (leads n w))
  leads_freed v w home block place none cell = qed 𝓛 (‵ (leads n v) ∷ []) ∵ fsplit ! $ keep ! (0 ∷ []) $ rewrite ! 0 (λ (F : Fml). ‵ F) (same_place v w home block place cell) refl $ by ! (leads_free 𝓛 n w none)

  -- and one with which something is lent whose code may be
  pub leads_lent : (v w l : ℕ) → home_of v ≡ home_of w → block_number v ≡ block_number w → place_of v ≡ place_of w → loan_of w ≡ suc l → cell_of v ≡ cell_of w
      → ent 𝓤 (sep 𝓤 (sem 𝓛 (leads n v)) (sem 𝓛 (permit n.permits (suc l)))) (sem 𝓛 (leads n w))
  leads_lent v w l home block place lent cell = qed 𝓛 (‵ (leads n v) ∷ ‵ (permit_if n.permits (suc l)) ∷ []) ∵ fsplit ! $ keep ! (0 ∷ 2 ∷ []) $ rewrite ! 0 (λ (F : Fml). ‵ F) (same_place v w home block place cell) refl $
      rewrite ! 1 (λ (k : ℕ). ‵ (permit_if n.permits k)) (sym lent) refl $ fjoin ! $ done !

-- the first of several keys, which is a block's: it is renamed by itself
pub first_labelled : (held more : List (HeldKey Entry)) (v : ℕ) → is_one blocks held ≡ true
    → (label_of (held ++ more) ≡ label_of held) × (own_of (held ++ more) ≡ own_of held)
    × (take 1 (with_label v (held ++ more)) ≡ with_label v held) × (past_first 1 (with_label v (held ++ more)) ≡ more)
first_labelled [] more v one = absurd (cc)
first_labelled (x ∷ y ∷ held) more v one = absurd (cc)
first_labelled (x ∷ []) more v one = (refl, refl, refl, refl)

module _ (keys other all none redeemed parted other' : Keys) (ticket : Ticket) (pool : Pool) (one : is_one blocks keys.held ≡ true)
    (joins : JoinsKeys keys other all none) (redeems : Redeems all redeemed ticket pool) (parts : Parts redeemed parted other') where
  abbrev r : Renames all redeemed
  r = redeems.0

  first : (label_of (keys.held ++ other.held) ≡ label_of keys.held) × (own_of (keys.held ++ other.held) ≡ own_of keys.held)
      × (take 1 (with_label r.value (keys.held ++ other.held)) ≡ with_label r.value keys.held) × (past_first 1 (with_label r.value (keys.held ++ other.held)) ≡ other.held)
  first = first_labelled keys.held other.held r.value one

  label : label_of all.held ≡ label_of keys.held
  label = ap label_of joins.2 ∙ first.0

  pub renames_first : Renames keys parted
  renames_first = record {
    value = r.value;
    book = parts.0 ∙ r.book ∙ joins.0;
    held = parts.2 ∙ ap (take 1) (r.held ∙ ap (with_label r.value) joins.2) ∙ first.2;
    home = r.home ∙ ap home_of label;
    numbered = r.numbered ∙ ap block_number label;
    unnamed = subst (λ (st : State). has r.value st.named ≡ false) (ap (λ (t : Name × List Entry). after (start t.0) t.1) (λ j. (joins.0 j, (ap own_of joins.2 ∙ first.1) j))) r.unnamed;
    place = r.place ∙ ap place_of label;
    cell = r.cell ∙ ap cell_of label;
    free = r.free;
  }

  -- the others are as they were
  pub others_still : other.name ≡ keys.name → other' ≡ other
  others_still same = λ j. record { marker = other.marker; name = (parts.1 ∙ r.book ∙ joins.0 ∙ sym same) j; held = (parts.3 ∙ ap (past_first 1) (r.held ∙ ap (with_label r.value) joins.2) ∙ first.3) j }

  -- what comes back is what was lent with the first
  pub was_lent : Carries (label_of keys.held) pool.name pool.value
  was_lent = subst (λ (v : ℕ). Carries v pool.name pool.value) label redeems.2

-- what the key of a block knows that was labelled anew, where all its values but the last were reclaimed
module _ (value : ValueKey) (renamed : Keys) (is : Renames value.keys renamed) where
  abbrev u : ℕ
  u = label_of value.keys.held

  its_value : label_of renamed.held ≡ is.value
  its_value = ap label_of is.held ∙ label_one value.keys.held is.value value.one

  state_same : state_of renamed ≡ state_of value.keys
  state_same = ap (λ (t : Name × List Entry). after (start t.0) t.1) (λ j. (is.book j, (ap own_of is.held ∙ own_labelled is.value value.keys.held) j))

  pub renamed_home : home_of (label_of renamed.held) ≡ home_of u
  renamed_home = ap home_of its_value ∙ is.home

  pub renamed_place : place_of (label_of renamed.held) ≡ place_of u
  renamed_place = ap place_of its_value ∙ is.place

  pub renamed_cell : cell_of (label_of renamed.held) ≡ cell_of u
  renamed_cell = ap cell_of its_value ∙ is.cell

  pub renamed_free : CarriesNone (label_of renamed.held)
  renamed_free = ap loan_of its_value ∙ is.free

  pub renamed_number : block_number (label_of renamed.held) ≡ block_number u
  renamed_number = ap block_number its_value ∙ is.numbered

  pub next_after : IsLast value
      → (has (label_of renamed.held) (state_of renamed).named ≡ false) × IsLastIn u (state_of renamed) × (home_of (label_of renamed.held) ≡ home_of u)
      × (block_number (label_of renamed.held) ≡ block_number u)
  next_after last = (
    subst (λ (t : ℕ × State). has t.0 t.1.named ≡ false) (λ j. (sym its_value j, sym state_same j)) is.unnamed,
    subst (IsLastIn u) (sym state_same) last,
    renamed_home,
    renamed_number,
  )

-- and where it looked, after the last was reclaimed too
module _ (value : ValueKey) (pass : Pass) (seen' : List Entry) (looked : Keys) (book : value.keys.name ≡ pass.name) (before : Before pass.name pass.id pass.seen value.keys.held seen')
    (name : looked.name ≡ value.keys.name) (held : looked.held ≡ with_list value.keys.held seen') where
  abbrev st : State
  st = start pass.name

  abbrev w : ℕ
  w = label_of value.keys.held

  kept : HolderKnows st TheBlock (key_of value.keys.held) (own_of value.keys.held) seen'
  kept = (subst (λ (hs : List (HeldKey Entry)). HoldersKnow (rules st) hs seen') (only_is blocks value.keys.held value.one) before.kept).0

  in_book : state_of value.keys ≡ after st (own_of value.keys.held)
  in_book = ap (λ (n : Name). after (start n) (own_of value.keys.held)) book

  state_looked : state_of looked ≡ after st seen'
  state_looked = ap (λ (t : Name × List Entry). after (start t.0) t.1) (λ j. ((name ∙ book) j, (ap own_of held ∙ (after_one blocks value.keys.held seen' value.one).1) j))

  same_label : label_of looked.held ≡ w
  same_label = ap label_of held ∙ renewed_label value.keys.held seen'

  -- what was named by now was named when the key knew it
  knew : (x : ℕ) → home_of x ≡ home_of w → has x (after st seen').named ≡ true → has x (state_of value.keys).named ≡ true
  knew x home named = subst (λ (z : State). has x z.named ≡ true) (sym in_book) ((kept.1 x (home ∙ sym value.home)).0 ∙ named)

  all_gone : MaySettle value pass → IsVacant (after st seen') (home_of w)
  all_gone may x home named = go (ℕ_discrete x may.0)
    where
      go : Dec (x ≡ may.0) → has x (after st seen').gone ≡ true
      go (yes e) = gone_later st pass.seen seen' x before.grows before.legal (subst (λ (y : ℕ). has y (after st pass.seen).gone ≡ true) (sym e) may.2)
      go (no other) =
          gone_later st (own_of value.keys.held) seen' x kept.0 before.legal
          (subst (λ (z : State). has x z.gone ≡ true) in_book (may.1.1 x (home ∙ may.1.2) other (knew x home named)))

  unnamed : (b : Bool) → has w (after st seen').named ≡ b → has w (state_of value.keys).named ≡ false → has w (after st seen').named ≡ false
  unnamed true named new = absurd (let e : true ≡ false = sym (knew w refl named) ∙ new in cc)
  unnamed false named new = named

  pub settled : MaySettle value pass
      → (has (label_of looked.held) (state_of looked).named ≡ false) × IsVacant (state_of looked) (home_of (label_of looked.held)) × (block_number (label_of looked.held) ≡ block_number w)
  settled may = (
    subst (λ (t : ℕ × State). has t.0 t.1.named ≡ false) (λ j. (sym same_label j, sym state_looked j)) (unnamed (has w (after st seen').named) refl may.1.0),
    subst (λ (t : ℕ × State). IsVacant t.1 (home_of t.0)) (λ j. (sym same_label j, sym state_looked j)) (all_gone may),
    ap block_number same_label,
  )

-- what follows is for the same value
pub follows_value : (value value' : ValueKey) (pass' : Pass) → FollowsValue value pass' value' → value_of value' ≡ value_of value
follows_value value value' pass' follows = ap label_of follows.1 ∙ renewed_label value.keys.held pass'.seen

-- what a key knows that was labelled with another value of its block, which was never named
module _ (value : ValueKey) (renamed : Keys) (v : ℕ) (book : renamed.name ≡ value.keys.name) (held : renamed.held ≡ with_label v value.keys.held) (home : home_of v ≡ home_of (value_of value))
    (numbered : block_number v ≡ block_number (value_of value)) (unnamed : has v (state_of value.keys).named ≡ false) (next : IsNextIn value (block_number (value_of value))) where
  new_value : label_of renamed.held ≡ v
  new_value = ap label_of held ∙ label_one value.keys.held v value.one

  new_state : state_of renamed ≡ state_of value.keys
  new_state = ap (λ (t : Name × List Entry). after (start t.0) t.1) (λ j. (book j, (ap own_of held ∙ own_labelled v value.keys.held) j))

  new_home : home_of (label_of renamed.held) ≡ home_of (value_of value)
  new_home = ap home_of new_value ∙ home

  new_next : (has (label_of renamed.held) (state_of renamed).named ≡ false) × IsVacant (state_of renamed) (home_of (label_of renamed.held)) × (block_number (label_of renamed.held) ≡ block_number (value_of value))
  new_next = (
    subst (λ (t : ℕ × State). has t.0 t.1.named ≡ false) (λ j. (sym new_value j, sym new_state j)) unnamed,
    subst (λ (t : ℕ × State). IsVacant t.1 t.0) (λ j. (sym new_home j, sym new_state j)) next.1,
    ap block_number new_value ∙ numbered,
  )

-- one with which a content is lent
module _ (value : ValueKey) (pool : Pool) (lent : Keys) (is : Lends value.keys pool lent) (next : IsNextIn value (block_number (value_of value))) where
  pub lent_home : home_of (label_of lent.held) ≡ home_of (value_of value)
  lent_home = new_home value lent is.value is.book is.held is.home is.numbered is.unnamed next

  pub lent_next : (has (label_of lent.held) (state_of lent).named ≡ false) × IsVacant (state_of lent) (home_of (label_of lent.held)) × (block_number (label_of lent.held) ≡ block_number (value_of value))
  lent_next = new_next value lent is.value is.book is.held is.home is.numbered is.unnamed next

  pub lent_cell : cell_of (label_of lent.held) ≡ cell_of (value_of value)
  lent_cell = ap cell_of (new_value value lent is.value is.book is.held is.home is.numbered is.unnamed next) ∙ is.cell

  pub lent_goes : Carries (label_of lent.held) pool.name pool.value
  lent_goes = subst (λ (v : ℕ). Carries v pool.name pool.value) (sym (new_value value lent is.value is.book is.held is.home is.numbered is.unnamed next)) is.carries

-- and one from which what was lent came back, with no look at the list
module _ (value : ValueKey) (back : Keys) (is : Renames value.keys back) (next : IsNextIn value (block_number (value_of value))) where
  back_value : label_of back.held ≡ is.value
  back_value = new_value value back is.value is.book is.held is.home is.numbered is.unnamed next

  pub back_home : home_of (label_of back.held) ≡ home_of (value_of value)
  back_home = new_home value back is.value is.book is.held is.home is.numbered is.unnamed next

  pub back_next : (has (label_of back.held) (state_of back).named ≡ false) × IsVacant (state_of back) (home_of (label_of back.held)) × (block_number (label_of back.held) ≡ block_number (value_of value))
  back_next = new_next value back is.value is.book is.held is.home is.numbered is.unnamed next

  pub back_place : place_of (label_of back.held) ≡ place_of (value_of value)
  back_place = ap place_of back_value ∙ is.place

  pub back_cell : cell_of (label_of back.held) ≡ cell_of (value_of value)
  back_cell = ap cell_of back_value ∙ is.cell

  pub back_free : CarriesNone (label_of back.held)
  back_free = ap loan_of back_value ∙ is.free

-- where a slot's call is about to hand the value of a key, what is lent with it comes back
pub may_redeem : (value : ValueKey) (slot : SlotKey) (pass : Pass) (both : Keys) → value.keys.name ≡ pass.name → slot.keys.name ≡ pass.name → both.name ≡ value.keys.name → both.held ≡ value.keys.held ++ slot.keys.held
    → hands_next (slot_of slot) ≡ Some (value_of value) → IsLentKey value → MayRedeem both pass
may_redeem value slot pass both book of name held soon lent = (
  name ∙ book,
  subst (IsHandedBy pass.name) (sym (held ∙ ap (λ (t : List (HeldKey Entry) × List (HeldKey Entry)). t.0 ++ t.1) (λ j. (only_is blocks value.keys.held value.one j, only_is slots slot.keys.held slot.one j)))) (
    refl,
    refl,
    lent,
    subst (λ (n : Name). hands_next (slot_at (after (start n) (own_list slot)) (slot_number slot)) ≡ Some (value_of value)) of soon,
  ),
)
