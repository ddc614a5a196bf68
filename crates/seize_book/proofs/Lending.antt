-- A content goes with the key of a block, and comes back when its value is about to be handed, or where that was never named. Assumes `Logic`.
use Rattle.std.proofs.Common.{◌≡◌, ℕ, zero, suc, ◌<◌, true, false, List, [], ◌∷◌, Some, refl, sym, ap, subst, ◌∙◌, arith}
use seplogic.Ra.Ura.{Ura}
use base.Fml.{Lft, Fml, ftrue, fdead, finv}
use base.Logic.{SProp, ent, ex, guard, sep, upd_i}
use base.Stored.{Gv}
use types.Logic.{Logic, sem}
use types.Kit.{‵, ◌⊛◌, some, given, later, updating, await, now, ◌$◌, ◌∵◌, !, qed, by, move, keep, drop, split, split3, join, fsplit, fjoin, fpick, fpack, pick, learn, frame, assume, show, check, suffices, done, rewrite, use1, use2, use3}
use denote.Steps.{nothing}
use Rattle.seize_content.specs.Cells.{cell_token}
use Rattle.seize_content.specs.Contents.{pool_owns, ticket_owns}
use Rattle.seize_content.specs.Readers.{all_dead, lent_pool}
use Rattle.seize_content.specs.Stages.{lent}
use Rattle.seize_content.proofs.Readers.{whole}
use Rattle.seize_machine.specs.Machine.State.{Slot, State, has, slot_at}
use Rattle.seize_machine.proofs.Facts.{eq_true, opening_reached}
use Rattle.seize_book.specs.Blocks.{block_number}
use Rattle.seize_book.specs.Book.{HolderKnows, TheBlock, after, blocks, rules, slots}
use Rattle.seize_book.specs.Entry.{Entry, entry_coded}
use Rattle.seize_book.specs.Homes.{home_of}
use Rattle.seize_book.specs.Laws.{IsAmong, ended_lives}
use Rattle.seize_book.specs.Ledger.{HeldKey, HoldersKnow, Known, reached}
use Rattle.seize_book.specs.Lending.{IsHandedBy}
use Rattle.seize_book.specs.Loans.{Carries, CarriesNone, cell_of, code_number, IsReader, Loan, lent_as, loan, loan_if, loan_number, loan_of, place_of, reader, readers}
use Rattle.seize_book.specs.Others.{with_label}
use Rattle.seize_book.specs.Private.{is_one, key_of, label_of, own_of}
use Rattle.seize_book.specs.Slots.{hands_next}
use Rattle.seize_book.specs.Permits.{permit}
use Rattle.seize_book.specs.Tokens.{Name, beside, inside, keys_own, knows, leads, over, pass_holds, pass_owns, rights_own, rows, start, way}
use Rattle.seize_book.proofs.Append.{looks, looks_beside}
use Rattle.seize_book.proofs.Hands.{hands_soon}
use Rattle.seize_book.proofs.Lives.{over_one}
use Rattle.seize_book.proofs.Loans.{reader_later, unnamed_unread}
use Rattle.seize_book.proofs.Notes.{distinct_links, knows_twice, opens}
use Rattle.seize_book.proofs.Passes.{IsDistinct}
use Rattle.seize_book.proofs.Private.{one_kept, one_within, only_is}
use Rattle.seize_book.proofs.Renames.{leads_freed, leads_lent}
use Rattle.seize_book.proofs.Ways.{bare_way, block_ways, keys_apart, keys_whole, way_closes, way_opens, ways}

module _ {M : Type 1} {𝓤 : Ura M} (𝓛 : Logic 𝓤) (n : Name) where
  open 𝓛 use {H, A}

  abbrev Pr : Type 2
  Pr = SProp 𝓤

  abbrev ◌⊢◌ : Pr → Pr → Type 1
  P ⊢ Q = ent 𝓤 P Q

  abbrev ◌∗◌ : Pr → Pr → Pr
  P ∗ Q = sep 𝓤 P Q

  abbrev ⟦◌⟧ : Fml → Pr
  ⟦ P ⟧ = sem 𝓛 P

  infix 26 ◌⊢◌
  infixr 35 ◌∗◌
  abbrev st : State
  st = start n

  abbrev J : Fml
  J = inside n

  abbrev had : List Entry → Fml
  had log = reached entry_coded n.log log

  -- ---- a loan goes with a key

  lent_new : (k v a : ℕ) (c : ℕ) (g : Gv) → k ≡ loan_number g → Carries v c g → ⟦ ticket_owns c (lent a g) ⟧ ∗ ⟦ pool_owns c a g ⟧ ⊢ ⟦ loan_if k st n.log v ⟧
  lent_new zero v a c g is carries = absurd (let e : zero ≡ loan_number g = is in omega (arith, e))
  lent_new (suc k) v a c g is carries = let l : Loan = record { content = c; life = a; code = g; readers = [] } in qed 𝓛 (‵ (ticket_owns c (lent a g)) ∷ ‵ (lent_pool c a g []) ∷ []) ∵
      nothing ! $ move ! (2 ∷ 0 ∷ []) $ fjoin ! $ move ! (1 ∷ 0 ∷ []) $ fjoin ! $ nothing ! $ fpack ! (Carries v c g) (λ _. ftrue) carries $ move ! (0 ∷ 1 ∷ []) $ fjoin ! $ fpack ! Loan (lent_as st n.log v) l $ done !

  pub lends_key : (held : List (HeldKey Entry)) (v a : ℕ) (c : ℕ) (g : Gv) → is_one blocks held ≡ true → home_of (label_of held) ≡ home_of v → block_number (label_of held) ≡ block_number v → place_of (label_of held) ≡ place_of v → Carries v c g → cell_of (label_of held) ≡ cell_of v
      → ⟦ keys_own n held ⟧ ∗ ⟦ ticket_owns c (lent a g) ⟧ ∗ ⟦ pool_owns c a g ⟧ ∗ ⟦ permit n.permits (loan_number g) ⟧ ⊢ ⟦ keys_own n (with_label v held) ⟧
  lends_key [] v a c g one home block place carries cell = absurd (cc)
  lends_key (x ∷ y ∷ held) v a c g one home block place carries cell = absurd (cc)
  lends_key (h ∷ []) v a c g one home block place carries cell = let h' : HeldKey Entry = record { kind = h.kind; key = h.key; own = h.own; label = v; note = h.note } in
      qed 𝓛 (‵ (keys_own n (h ∷ [])) ∷ ‵ (ticket_owns c (lent a g)) ∷ ‵ (pool_owns c a g) ∷ ‵ (permit n.permits (loan_number g)) ∷ []) ∵ move ! (1 ∷ 2 ∷ []) $ use2 𝓛 (‵ (loan st n.log v)) (lent_new (loan_of v) v a c g carries.1 carries) $
      -- [the loan; the key; the permit]
      move ! (1 ∷ []) $ fsplit ! $ fsplit ! $ move ! (1 ∷ []) $ use1 𝓛 (‵ (block_ways 𝓛 n h.label h.note)) (way_opens 𝓛 n h one) $ fsplit ! $ fsplit ! $ rewrite ! 2 (λ (c : ℕ). ‵ (cell_token c h.note)) cell refl $
      -- [where it leads; what was lent; the note; the right; nothing; the loan; the permit]
      move ! (0 ∷ 6 ∷ []) $ use2 𝓛 (‵ (leads n v)) (leads_lent 𝓛 n h.label v (code_number g) home block place carries.1 cell) $ move ! (0 ∷ 5 ∷ []) $ fjoin ! $ move ! (0 ∷ 2 ∷ []) $ fjoin ! $ use1 𝓛 (‵ (way n h')) (way_closes 𝓛 n h' one) $ move ! (2 ∷ 0 ∷ []) $ fjoin ! $ move ! (0 ∷ 2 ∷ []) $ fjoin ! $ keep ! (0 ∷ []) $ done !

  -- ---- and comes back, when the call of a slot, whose key is at hand, is about to hand its value

  module _ (k : HeldKey Entry) (v : ℕ) (one : is_one slots (k ∷ []) ≡ true) (soon : hands_next (slot_at (after st k.own) k.key) ≡ Some v) where
    abbrev K : Fml
    K = rights_own n (k ∷ [])

    -- an activation in which the value was found is over, since the slot is still about to hand it
    reader_dead : (β : Lft) → ⟦ knows n ⟧ ∗ ⟦ K ⟧ ∗ ⟦ reader st n.log v β ⟧ ⊢ H.⇛ (⟦ knows n ⟧ ∗ ⟦ K ⟧ ∗ ⟦ fdead β ⟧)
    reader_dead β = let Z : Pr = ⟦ knows n ⟧ ∗ ⟦ K ⟧ ∗ ⟦ fdead β ⟧ in qed 𝓛 (‵ (knows n) ∷ ‵ K ∷ ‵ (reader st n.log v β) ∷ []) ∵
        use1 𝓛 (given (IsDistinct 𝓛 n) (‵ (knows n))) (distinct_links 𝓛 n) $ learn ! (λ distinct. use1 𝓛 (‵ (knows n) ⊛ ‵ (knows n)) (knows_twice 𝓛 n) $ split ! $
        -- [the book, twice; the slot's key; the reader]
        move ! (3 ∷ []) $ fpick ! (λ t. fsplit ! $ fpick ! (λ is. drop ! $
        -- [the reader's list; the book, twice; the slot's key]
        move ! (1 ∷ []) $ use1 𝓛 (‵ (finv J)) (opens 𝓛 n) $ suffices ! _ (𝓛.invs.inv_acc J Z) $ frame ! $ assume ! (‵ J) $
        -- [J; the list; the book; the slot's key]
        nothing ! $ move ! (2 ∷ 0 ∷ []) $ join ! $ move ! (1 ∷ 3 ∷ 0 ∷ []) $
        use3 𝓛 (some (λ (log : List Entry). given (Known (rules st) (k ∷ []) t.0 log × Unit {0}) (‵ J ⊛ ‵ K ⊛ ‵ (had log) ⊛ ‵ (fdead β))))
        (looks_beside entry_coded (rules st) (beside n) n.log (rows n) 𝓛 (k ∷ []) t.0 (λ _. Unit {0}) ⟦ ftrue ⟧ (λ _. ⟦ fdead β ⟧) (one_within (k ∷ []) one) (dead t is distinct)) $
        suffices ! _ (upd_i 𝓤 (⟦ J ⟧ ∗ Z)) $ pick ! (λ log. learn ! (λ known. split ! $ frame ! $ split3 ! $ keep ! (3 ∷ 0 ∷ 2 ∷ []) $ done !)))))
      where
        in_ended : (t : List Entry × ℕ) (log : List Entry) → IsReader st v β t → IsDistinct 𝓛 n → Known (rules st) (k ∷ []) t.0 log → IsAmong (ended_lives log) t.1
        in_ended t log is distinct known =
            let kept = one_kept st (k ∷ []) log one known.2 in
            let soon_now : hands_next (slot_at (after st log) k.key) ≡ Some v = ap (λ (slot : Slot). hands_next slot) (sym kept.1.1) ∙ soon in
            (hands_soon n log k.key v distinct known.0.0 soon_now).all_over t.1 (reader_later st t.0 log v t.1 known.1 is.1)

        dead : (t : List Entry × ℕ) → IsReader st v β t → IsDistinct 𝓛 n → (log : List Entry) → Known (rules st) (k ∷ []) t.0 log
            → ⟦ beside n log ⟧ ∗ ⟦ ftrue ⟧ ⊢ guard 𝓤 (Unit {0}) (⟦ beside n log ⟧ ∗ ⟦ fdead β ⟧)
        dead t is distinct log known = qed 𝓛 (‵ (beside n log) ∷ ‵ ftrue ∷ []) ∵ fsplit ! $ fsplit ! $ use1 𝓛 (‵ (over (ended_lives log)) ⊛ ‵ (fdead (t.1 ∷ []))) (over_one 𝓛 (ended_lives log) t.1 (in_ended t log is distinct known)) $ split ! $
            rewrite ! 1 (λ (ν : Lft). ‵ (fdead ν)) (sym is.0) refl $ move ! (0 ∷ 2 ∷ []) $ fjoin ! $ check ! tt $ move ! (0 ∷ 2 ∷ []) $ fjoin ! $ keep ! (0 ∷ 1 ∷ []) $ done !

    readers_dead : (ds : List (Lft × ℕ)) → ⟦ knows n ⟧ ∗ ⟦ K ⟧ ∗ ⟦ readers st n.log v ds ⟧ ⊢ H.⇛ (⟦ knows n ⟧ ∗ ⟦ K ⟧ ∗ ⟦ all_dead ds ⟧)
    readers_dead [] = qed 𝓛 (‵ (knows n) ∷ ‵ K ∷ ‵ ftrue ∷ []) ∵ updating ! $ now ! $ done !
    readers_dead (d ∷ ds) = qed 𝓛 (‵ (knows n) ∷ ‵ K ∷ ‵ (readers st n.log v (d ∷ ds)) ∷ []) ∵ updating ! $ move ! (2 ∷ []) $ fsplit ! $ move ! (2 ∷ 3 ∷ 0 ∷ []) $
        use3 𝓛 (later (‵ (knows n) ⊛ ‵ K ⊛ ‵ (fdead d.0))) (reader_dead d.0) $ await ! tt $ split3 ! $ move ! (0 ∷ 1 ∷ 3 ∷ []) $ use3 𝓛 (later (‵ (knows n) ⊛ ‵ K ⊛ ‵ (all_dead ds))) (readers_dead ds) $ await ! tt $ split3 ! $
        -- [the book; the slot's key; the others; this one]
        now ! $ move ! (3 ∷ 2 ∷ []) $ fjoin ! $ move ! (1 ∷ 2 ∷ 0 ∷ []) $ done !

  -- of all readers of the value the activations are over, as whoever owns this shows
  abbrev ShowsOver : Fml → ℕ → Type 1
  ShowsOver W v = (ds : List (Lft × ℕ)) → ⟦ knows n ⟧ ∗ ⟦ W ⟧ ∗ ⟦ readers st n.log v ds ⟧ ⊢ H.⇛ (⟦ knows n ⟧ ∗ ⟦ W ⟧ ∗ ⟦ all_dead ds ⟧)

  module _ (W : Fml) (v : ℕ) (over_ : ShowsOver W v) where
    -- of which content, under which lifetime, and of which code
    abbrev pub Back : ℕ × (ℕ × Gv) → Pr
    Back t = guard 𝓤 (Carries v t.0 t.1.1) (⟦ knows n ⟧ ∗ ⟦ W ⟧ ∗ ⟦ ticket_owns t.0 (lent t.1.0 t.1.1) ⟧ ∗ ⟦ pool_owns t.0 t.1.0 t.1.1 ⟧)

    loan_back : (m : ℕ) → ¬ (m ≡ 0) → ⟦ knows n ⟧ ∗ ⟦ W ⟧ ∗ ⟦ loan_if m st n.log v ⟧ ⊢ H.⇛ (ex 𝓤 Back)
    loan_back zero lent_ = absurd (lent_ refl)
    loan_back (suc m) lent_ = qed 𝓛 (‵ (knows n) ∷ ‵ W ∷ ‵ (loan_if (suc m) st n.log v) ∷ []) ∵ updating ! $ move ! (2 ∷ []) $ fpick ! (λ l. fsplit ! $ fpick ! (λ carries. drop ! $ fsplit ! $ move ! (1 ∷ []) $ fsplit ! $
        -- [the pool; its readers; the ticket; the book; the slot's key]
        move ! (3 ∷ 4 ∷ 1 ∷ []) $ use3 𝓛 (later (‵ (knows n) ⊛ ‵ W ⊛ ‵ (all_dead l.readers))) (over_ l.readers) $ await ! tt $ split3 ! $ move ! (3 ∷ 2 ∷ []) $
        use2 𝓛 (later (‵ (pool_owns l.content l.life l.code))) (whole 𝓛 l.content l.life l.code l.readers) $ await ! tt $
        -- [the pool; the book; the slot's key; the ticket]
        now ! $ show ! Back (l.content, (l.life, l.code)) $ check ! carries $ move ! (1 ∷ 2 ∷ 3 ∷ 0 ∷ []) $ done !))

  abbrev pub Redeemed : ℕ → List Entry → ℕ → List (HeldKey Entry) → ℕ × (ℕ × Gv) → Pr
  Redeemed p seen v held t = guard 𝓤 (Carries v t.0 t.1.1) (⟦ pass_owns n p seen ⟧ ∗ ⟦ keys_own n held ⟧ ∗ ⟦ ticket_owns t.0 (lent t.1.0 t.1.1) ⟧ ∗ ⟦ pool_owns t.0 t.1.0 t.1.1 ⟧)

  pub redeems : (p : ℕ) (seen : List Entry) (held : List (HeldKey Entry)) (w : ℕ) → IsHandedBy n held → home_of (label_of held) ≡ home_of w → block_number (label_of held) ≡ block_number w → place_of (label_of held) ≡ place_of w → CarriesNone w → cell_of (label_of held) ≡ cell_of w
      → ⟦ pass_owns n p seen ⟧ ∗ ⟦ keys_own n held ⟧ ⊢ H.⇛ (ex 𝓤 (Redeemed p seen (label_of held) (with_label w held)))
  redeems p seen [] w by_ home block place none cell = absurd by_
  redeems p seen (h ∷ []) w by_ home block place none cell = absurd by_
  redeems p seen (h ∷ k ∷ x ∷ held) w by_ home block place none cell = absurd by_
  redeems p seen (h ∷ k ∷ []) w by_ home block place none cell = let h' : HeldKey Entry = record { kind = h.kind; key = h.key; own = h.own; label = w; note = h.note } in let v : ℕ = h.label in
      qed 𝓛 ((‵ (knows n) ⊛ ‵ (pass_holds n p seen)) ∷ ‵ (keys_own n (h ∷ k ∷ [])) ∷ []) ∵ updating ! $ split ! $ move ! (2 ∷ []) $ fsplit ! $ fsplit ! $
      -- [the right; its way; the slot's key; the book; the pass]
      move ! (1 ∷ []) $ use1 𝓛 (‵ (block_ways 𝓛 n h.label h.note)) (way_opens 𝓛 n h by_.0) $ fsplit ! $ move ! (1 ∷ []) $ rewrite ! 0 (λ (c : ℕ). ‵ (cell_token c h.note)) cell refl $ move ! (1 ∷ []) $ fsplit ! $
      -- [where it leads; the loan; the note; the right; the slot's key; the book; the pass]
      move ! (0 ∷ 1 ∷ 3 ∷ 4 ∷ 5 ∷ 6 ∷ 2 ∷ []) $
      -- [where it leads; the loan; the right; the slot's key; the book; the pass; the note]
      move ! (3 ∷ []) $ use1 𝓛 (‵ (rights_own n (k ∷ [])) ⊛ ‵ (ways 𝓛 n (k ∷ []))) (keys_apart 𝓛 n (k ∷ [])) $ split ! $ move ! (5 ∷ 0 ∷ 3 ∷ []) $
      use3 𝓛 (later (some (λ (t : ℕ × (ℕ × Gv)). given (Carries v t.0 t.1.1) (‵ (knows n) ⊛ ‵ (rights_own n (k ∷ [])) ⊛ ‵ (ticket_owns t.0 (lent t.1.0 t.1.1)) ⊛ ‵ (pool_owns t.0 t.1.0 t.1.1))))) (loan_back (rights_own n (k ∷ [])) v (readers_dead k v by_.1 by_.3) (loan_of v) by_.2) $ await ! tt $ pick ! (λ t. learn ! (λ carries. split ! $ move ! (1 ∷ []) $ split3 ! $
      -- [the slot's right; the ticket; the pool; the book; its way; where it leads; the right; the pass; the note]
      move ! (0 ∷ 4 ∷ []) $ use2 𝓛 (‵ (keys_own n (k ∷ []))) (keys_whole 𝓛 n (k ∷ [])) $
      move ! (4 ∷ 7 ∷ []) $ use1 𝓛 (‵ (leads n w)) (leads_freed 𝓛 n h.label w home block place none cell) $ use2 𝓛 (‵ (way n h')) (bare_way 𝓛 n h' none by_.0) $
      -- [its way; the slot's key; the ticket; the pool; the book; the right; the pass]
      move ! (5 ∷ 0 ∷ []) $ fjoin ! $ move ! (0 ∷ 1 ∷ []) $ fjoin ! $ move ! (3 ∷ 4 ∷ []) $ fjoin ! $ now ! $ show ! (Redeemed p seen v (with_label w (h ∷ k ∷ []))) t $ check ! carries $ move ! (0 ∷ 1 ∷ 2 ∷ 3 ∷ []) $ done !))

  -- ---- or where the value was never named: nobody found it

  module _ (h : HeldKey Entry) (v : ℕ) (one : is_one blocks (h ∷ []) ≡ true) (its : h.key ≡ home_of v) (unnamed : has v (after st h.own).named ≡ false) where
    abbrev Key : Fml
    Key = rights_own n (h ∷ [])

    still_unnamed : (log : List Entry) → HoldersKnow (rules st) (h ∷ []) log → has v (after st log).named ≡ false
    still_unnamed log kept =
        let is : HolderKnows st TheBlock h.key h.own log = (subst (λ (hs : List (HeldKey Entry)). HoldersKnow (rules st) hs log) (only_is blocks (h ∷ []) one) kept).0 in
        sym (is.1 v (sym its)).0 ∙ unnamed

    unread : (t : List Entry × ℕ) (β : Lft) → IsReader st v β t → IsDistinct 𝓛 n → (log : List Entry) → Known (rules st) (h ∷ []) t.0 log → ⊥
    unread t β is distinct log known =
        unnamed_unread st t.0 log v t.1 (opening_reached n.slots n.links distinct) known.0.0 known.1 (still_unnamed log known.2) is.1

    nowhere : (X Y : Pr) → ⊥ → X ⊢ Y
    nowhere X Y wrong = absurd wrong

    none_read : (Z : Pr) (β : Lft) → ⟦ knows n ⟧ ∗ ⟦ Key ⟧ ∗ ⟦ reader st n.log v β ⟧ ⊢ H.⇛ Z
    none_read Z β = qed 𝓛 (‵ (knows n) ∷ ‵ Key ∷ ‵ (reader st n.log v β) ∷ []) ∵
        use1 𝓛 (given (IsDistinct 𝓛 n) (‵ (knows n))) (distinct_links 𝓛 n) $ learn ! (λ distinct. use1 𝓛 (‵ (finv J)) (opens 𝓛 n) $
        -- [the book; the right; the reader]
        suffices ! _ (𝓛.invs.inv_acc J Z) $ frame ! $ assume ! (‵ J) $ move ! (2 ∷ []) $ fpick ! (λ t. fsplit ! $ fpick ! (λ is. drop ! $
        -- [the reader's list; J; the right]
        move ! (1 ∷ 2 ∷ 0 ∷ []) $ use3 𝓛 (some (λ (log : List Entry). given (Known (rules st) (h ∷ []) t.0 log) (‵ J ⊛ ‵ Key ⊛ ‵ (had log))))
        (looks entry_coded (rules st) (beside n) n.log (rows n) 𝓛 (h ∷ []) t.0 (of_kind, tt)) $ suffices ! _ (upd_i 𝓤 (⟦ J ⟧ ∗ Z)) $ pick ! (λ log. learn ! (λ known. by ! (nowhere _ _ (unread t β is distinct log known)))))))
      where
        of_kind : h.kind < 9
        of_kind = let same : h.kind ≡ blocks = eq_true h.kind blocks one in omega (arith, same)

    of_unnamed : ShowsOver Key v
    of_unnamed [] = qed 𝓛 (‵ (knows n) ∷ ‵ Key ∷ ‵ ftrue ∷ []) ∵ updating ! $ now ! $ done !
    of_unnamed (d ∷ ds) = let Z : Pr = ⟦ knows n ⟧ ∗ ⟦ Key ⟧ ∗ ⟦ all_dead (d ∷ ds) ⟧ in
        qed 𝓛 (‵ (knows n) ∷ ‵ Key ∷ ‵ (readers st n.log v (d ∷ ds)) ∷ []) ∵ move ! (2 ∷ []) $ fsplit ! $
        -- [the reader; the others; the book; the right]
        move ! (2 ∷ 3 ∷ 0 ∷ []) $ keep ! (0 ∷ 1 ∷ 2 ∷ []) $ by ! (none_read Z d.0)

  pub withdraws : (p : ℕ) (seen : List Entry) (held : List (HeldKey Entry)) (w : ℕ) → is_one blocks held ≡ true → key_of held ≡ home_of (label_of held) → has (label_of held) (after st (own_of held)).named ≡ false → ¬ (CarriesNone (label_of held))
      → home_of (label_of held) ≡ home_of w → block_number (label_of held) ≡ block_number w → place_of (label_of held) ≡ place_of w → CarriesNone w → cell_of (label_of held) ≡ cell_of w
      → ⟦ pass_owns n p seen ⟧ ∗ ⟦ keys_own n held ⟧ ⊢ H.⇛ (ex 𝓤 (Redeemed p seen (label_of held) (with_label w held)))
  withdraws p seen [] w one its unnamed lent_ home block place none cell = absurd (cc)
  withdraws p seen (x ∷ y ∷ held) w one its unnamed lent_ home block place none cell = absurd (cc)
  withdraws p seen (h ∷ []) w one its unnamed lent_ home block place none cell = let h' : HeldKey Entry = record { kind = h.kind; key = h.key; own = h.own; label = w; note = h.note } in let v : ℕ = h.label in
      qed 𝓛 ((‵ (knows n) ⊛ ‵ (pass_holds n p seen)) ∷ ‵ (keys_own n (h ∷ [])) ∷ []) ∵ updating ! $ split ! $ move ! (2 ∷ []) $ use1 𝓛 (‵ (rights_own n (h ∷ [])) ⊛ ‵ (ways 𝓛 n (h ∷ []))) (keys_apart 𝓛 n (h ∷ [])) $ split ! $ move ! (1 ∷ []) $ fsplit ! $
      -- [its way; nothing; the right; the book; the pass]
      use1 𝓛 (‵ (block_ways 𝓛 n h.label h.note)) (way_opens 𝓛 n h one) $ fsplit ! $ move ! (1 ∷ []) $ rewrite ! 0 (λ (c : ℕ). ‵ (cell_token c h.note)) cell refl $ move ! (1 ∷ []) $ fsplit ! $ move ! (5 ∷ 4 ∷ 1 ∷ []) $
      -- [the book; the right; the loan; where it leads; the note; nothing; the pass]
      use3 𝓛 (later (some (λ (t : ℕ × (ℕ × Gv)). given (Carries v t.0 t.1.1) (‵ (knows n) ⊛ ‵ (rights_own n (h ∷ [])) ⊛ ‵ (ticket_owns t.0 (lent t.1.0 t.1.1)) ⊛ ‵ (pool_owns t.0 t.1.0 t.1.1))))) (loan_back (rights_own n (h ∷ [])) v (of_unnamed h v one its unnamed) (loan_of v) lent_) $ await ! tt $ pick ! (λ t. learn ! (λ carries. split ! $ move ! (1 ∷ []) $ split3 ! $
      -- [the right; the ticket; the pool; the book; where it leads; the note; nothing; the pass]
      move ! (4 ∷ 5 ∷ []) $ use1 𝓛 (‵ (leads n w)) (leads_freed 𝓛 n h.label w home block place none cell) $ use2 𝓛 (‵ (way n h')) (bare_way 𝓛 n h' none one) $
      -- [its way; the right; the ticket; the pool; the book; nothing; the pass]
      move ! (0 ∷ 5 ∷ []) $ fjoin ! $ move ! (1 ∷ 0 ∷ []) $ use2 𝓛 (‵ (keys_own n (with_label w (h ∷ [])))) (keys_whole 𝓛 n (h' ∷ [])) $
      -- [the key; the ticket; the pool; the book; the pass]
      move ! (3 ∷ 4 ∷ []) $ fjoin ! $ now ! $ show ! (Redeemed p seen v (with_label w (h ∷ []))) t $ check ! carries $ move ! (0 ∷ 1 ∷ 2 ∷ 3 ∷ []) $ done !))
