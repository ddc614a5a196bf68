-- What a reader has of a value that it found: in its step it takes a share of what is lent with the value, and afterwards it has a sight of
-- that, which may go to another thread. Assumes `Logic`.
use Rattle.std.proofs.Common.{◌≡◌, ℕ, zero, suc, true, false, ◌==◌, List, [], ◌∷◌, ◌++◌, Option, Some, None, refl, sym, ◌∙◌}
use seplogic.Ra.Ura.{Ura}
use base.Fml.{Lft, Share, Fml, ftrue, flent}
use base.Logic.{SProp, ent, ex, guard, sep, upd, upd_i}
use base.Stored.{Gv}
use types.Kit.{‵, raw, ◌⊛◌, ◌$◌, ◌∵◌, !, qed, move, keep, drop, split, group, fsplit, fjoin, fpick, fpack, frame, suffices, settle, done, rewrite, use1, use2, use3}
use types.Logic.{Logic, sem}
use denote.Steps.{nothing}
use Rattle.seize_content.specs.Contents.{sight_owns}
use Rattle.seize_content.specs.Readers.{escrow, lent_pool, reader_share, ready}
use Rattle.seize_content.proofs.Readers.{reads, share_of}
use Rattle.seize_machine.specs.Machine.State.{State}
use Rattle.seize_book.specs.Entry.{Entry, entry_coded}
use Rattle.seize_book.specs.Book.{blocks}
use Rattle.seize_words.specs.Glimpses.{IsLentWith, Piece, SightFor, glimpse, taken_if, taken_of, taken_share}
use Rattle.seize_book.specs.Laws.{Reader}
use Rattle.seize_book.specs.Ledger.{HeldKey, reached}
use Rattle.seize_book.specs.Loans.{Carries, IsReader, Loan, lent_as, loan, loan_if, loan_of, reader, reader_by, readers}
use Rattle.seize_book.specs.Tokens.{Name, keys_own, start, way}
use Rattle.seize_words.specs.Words.{IsKeyOf}
use Rattle.seize_book.proofs.Peeks.{sights}
use Rattle.seize_book.proofs.Sent.{sight_keyless}
use Rattle.seize_book.proofs.Ways.{block_ways, way_closes, way_opens}
use base.Shift.{Keyless}
use denote.Laws.{Is, Tells}
use denote.Ref.{NamedLft}
use mir.Val.{of_list}
use Rattle.seize_words.specs.contracts.glimpse.Glimpse as glimpse
use Rattle.seize_book.proofs.Fields.{no_bytes}
use Rattle.seize_book.proofs.Kit.{vstruct}

module _ {M : Type 1} {𝓤 : Ura M} (𝓛 : Logic 𝓤) (n : Name) where
  open 𝓛 use {H, A}

  abbrev Pr : Type 2
  Pr = SProp 𝓤

  abbrev ◌⊢◌ : Pr → Pr → Type 1
  P ⊢ Q = ent 𝓤 P Q

  abbrev ◌∗◌ : Pr → Pr → Pr
  P ∗ Q = sep 𝓤 P Q

  abbrev ⟦◌⟧ : Fml → Pr
  ⟦ P ⟧ = sem 𝓛 P

  infix 26 ◌⊢◌
  infixr 35 ◌∗◌
  abbrev st : State
  st = start n

  abbrev had : List Entry → Fml
  had log = reached entry_coded n.log log

  abbrev reads_by : ℕ → List (Lft × ℕ) → Fml
  reads_by v ds = readers st n.log v ds

  abbrev lends : ℕ → ℕ → Fml
  lends k v = loan_if k st n.log v

  readers_push : (v : ℕ) (ds : List (Lft × ℕ)) (d : Lft × ℕ) → ⟦ reads_by v ds ⟧ ∗ ⟦ reader st n.log v d.0 ⟧ ⊢ ⟦ reads_by v (ds ++ d ∷ []) ⟧
  readers_push v [] d = qed 𝓛 (‵ ftrue ∷ ‵ (reader st n.log v d.0) ∷ []) ∵ move ! (1 ∷ 0 ∷ []) $ fjoin ! $ done !
  readers_push v (x ∷ ds) d = qed 𝓛 (‵ (reads_by v (x ∷ ds)) ∷ ‵ (reader st n.log v d.0) ∷ []) ∵ fsplit ! $ move ! (1 ∷ 2 ∷ []) $ use2 𝓛 (‵ (reads_by v (ds ++ d ∷ []))) (readers_push v ds d) $ move ! (1 ∷ 0 ∷ []) $ fjoin ! $ done !

  -- In a step that finds the value, in the activation with lifetime a, a share of what is lent goes out for an escrow.
  module _ (a γ : ℕ) (log : List Entry) where
    abbrev β : Lft
    β = a ∷ []

    abbrev pub right_to : Fml
    right_to = flent β (escrow γ)

    loan_reads : (k v : ℕ) → Reader st log v a → ⟦ had log ⟧ ∗ ⟦ lends k v ⟧ ∗ ⟦ ready γ ⟧ ∗ ⟦ right_to ⟧ ⊢ upd 𝓤 (⟦ lends k v ⟧ ∗ ⟦ taken_if k γ v ⟧)
    loan_reads zero v r = let Z : Pr = ⟦ ftrue ⟧ ∗ ⟦ ready γ ⟧ in qed 𝓛 (‵ (had log) ∷ ‵ ftrue ∷ ‵ (ready γ) ∷ ‵ right_to ∷ []) ∵ suffices ! _ (upd_i 𝓤 Z) $ keep ! (1 ∷ 2 ∷ []) $ done !
    loan_reads (suc k) v r = let Z : Pr = ⟦ lends (suc k) v ⟧ ∗ ⟦ taken_if (suc k) γ v ⟧ in qed 𝓛 (‵ (had log) ∷ ‵ (lends (suc k) v) ∷ ‵ (ready γ) ∷ ‵ right_to ∷ []) ∵ move ! (1 ∷ []) $ fpick ! (λ l. fsplit ! $ fpick ! (λ carries. drop ! $
        let c : ℕ = l.content in let g : Gv = l.code in let ds : List (Lft × ℕ) = l.readers in let d : Lft × ℕ = (β, γ) in let e : Share = share_of 𝓛 c l.life g ds β γ in let l' : Loan = record { content = c; life = l.life; code = g; readers = ds ++ d ∷ [] } in
        fsplit ! $ move ! (1 ∷ []) $ fsplit ! $
        -- [the pool; its readers; the ticket; the list; the escrow; the right to it]
        move ! (0 ∷ 4 ∷ 5 ∷ []) $ use3 𝓛 (raw (upd 𝓤 (⟦ lent_pool c l.life g (ds ++ d ∷ []) ⟧ ∗ ⟦ reader_share c l.life g γ e ⟧))) (reads 𝓛 c l.life g ds β γ) $
        settle 𝓛 Z (‵ (lent_pool c l.life g (ds ++ d ∷ [])) ⊛ ‵ (reader_share c l.life g γ e)) $ suffices ! _ (upd_i 𝓤 Z) $ split ! $
        -- [the pool; what is found; its readers; the ticket; the list]
        move ! (4 ∷ []) $ nothing ! $ fpack ! (IsReader st v β (log, a)) (λ _. ftrue) (refl, r) $ move ! (0 ∷ 1 ∷ []) $ fjoin ! $ fpack ! (List Entry × ℕ) (reader_by st n.log v β) (log, a) $
        move ! (3 ∷ 0 ∷ []) $ use2 𝓛 (‵ (reads_by v (ds ++ d ∷ []))) (readers_push v ds d) $
        -- [its readers; the pool; what is found; the ticket]
        move ! (1 ∷ 0 ∷ []) $ fjoin ! $ move ! (2 ∷ 0 ∷ []) $ fjoin ! $ nothing ! $ fpack ! (Carries v c g) (λ _. ftrue) carries $ move ! (0 ∷ 1 ∷ []) $ fjoin ! $ fpack ! Loan (lent_as st n.log v) l' $ frame ! $
        nothing ! $ fpack ! (Carries v c g) (λ _. ftrue) carries $ move ! (0 ∷ 1 ∷ []) $ fjoin ! $ fpack ! Piece (taken_of γ v) (record { content = c; life = l.life; code = g; share = e }) $ keep ! (0 ∷ []) $ done !))

    key_reads : (h : HeldKey Entry) (v : ℕ) → (h.kind == blocks) ≡ true → h.label ≡ v → Reader st log v a → ⟦ had log ⟧ ∗ ⟦ way n h ⟧ ∗ ⟦ ready γ ⟧ ∗ ⟦ right_to ⟧ ⊢ upd 𝓤 (⟦ way n h ⟧ ∗ ⟦ taken_share γ (Some v) ⟧)
    key_reads h v one label r = let Z : Pr = ⟦ way n h ⟧ ∗ ⟦ taken_share γ (Some v) ⟧ in qed 𝓛 (‵ (had log) ∷ ‵ (way n h) ∷ ‵ (ready γ) ∷ ‵ right_to ∷ []) ∵ move ! (1 ∷ []) $
        use1 𝓛 (‵ (block_ways 𝓛 n h.label h.note)) (way_opens 𝓛 n h one) $ fsplit ! $ fsplit ! $ rewrite ! 1 (λ (w : ℕ). ‵ (loan st n.log w)) label refl $
        -- [where it leads; the loan; the note; the list; the escrow; the right to it]
        move ! (3 ∷ 1 ∷ 4 ∷ 5 ∷ []) $ group ! 4 $ use1 𝓛 (raw (upd 𝓤 (⟦ lends (loan_of v) v ⟧ ∗ ⟦ taken_if (loan_of v) γ v ⟧))) (loan_reads (loan_of v) v r) $
        settle 𝓛 Z (‵ (lends (loan_of v) v) ⊛ ‵ (taken_if (loan_of v) γ v)) $ suffices ! _ (upd_i 𝓤 Z) $ split ! $
        -- [the loan; what was taken; where it leads; the note]
        rewrite ! 0 (λ (w : ℕ). ‵ (loan st n.log w)) (sym label) refl $ move ! (2 ∷ 0 ∷ []) $ fjoin ! $ move ! (0 ∷ 2 ∷ []) $ fjoin ! $ use1 𝓛 (‵ (way n h)) (way_closes 𝓛 n h one) $ keep ! (0 ∷ 1 ∷ []) $ done !

    abbrev ReadBy : Option ℕ → Type 0
    ReadBy o = (w : ℕ) → o ≡ Some w → Reader st log w a

    -- with the keys that stand beside the word of the link
    pub keys_read : (o : Option ℕ) (vs : List (HeldKey Entry)) → IsKeyOf o vs → ReadBy o → ⟦ had log ⟧ ∗ ⟦ keys_own n vs ⟧ ∗ ⟦ ready γ ⟧ ∗ ⟦ right_to ⟧ ⊢ upd 𝓤 (⟦ keys_own n vs ⟧ ∗ ⟦ taken_share γ o ⟧)
    keys_read None vs is r = let Z : Pr = ⟦ keys_own n vs ⟧ ∗ ⟦ ready γ ⟧ in qed 𝓛 (‵ (had log) ∷ ‵ (keys_own n vs) ∷ ‵ (ready γ) ∷ ‵ right_to ∷ []) ∵ suffices ! _ (upd_i 𝓤 Z) $ keep ! (1 ∷ 2 ∷ []) $ done !
    keys_read (Some v) [] is r = absurd (let x : false ≡ true = is.0 in cc)
    keys_read (Some v) (h ∷ g ∷ vs) is r = absurd (let x : false ≡ true = is.0 in cc)
    keys_read (Some v) (h ∷ []) is r = let Z : Pr = ⟦ keys_own n (h ∷ []) ⟧ ∗ ⟦ taken_share γ (Some v) ⟧ in qed 𝓛 (‵ (had log) ∷ ‵ (keys_own n (h ∷ [])) ∷ ‵ (ready γ) ∷ ‵ right_to ∷ []) ∵ move ! (1 ∷ []) $ fsplit ! $ fsplit ! $
        -- [the right; the way; nothing; the list; the escrow; the right to it]
        move ! (3 ∷ 1 ∷ 4 ∷ 5 ∷ []) $ group ! 4 $ use1 𝓛 (raw (upd 𝓤 (⟦ way n h ⟧ ∗ ⟦ taken_share γ (Some v) ⟧))) (key_reads h v is.0 is.2 (r v refl)) $
        settle 𝓛 Z (‵ (way n h) ⊛ ‵ (taken_share γ (Some v))) $ suffices ! _ (upd_i 𝓤 Z) $ split ! $
        -- [the way; what was taken; the right; nothing]
        move ! (2 ∷ 0 ∷ []) $ fjoin ! $ move ! (0 ∷ 2 ∷ []) $ fjoin ! $ keep ! (0 ∷ 1 ∷ []) $ done !

-- A glimpse is a sight of what is lent with the value that was found.

abbrev pub IsOf : Option ℕ → ℕ × (ℕ × Gv) → Type 0
IsOf o t = SightFor o (record { marker = record {}; name = t.0; life = t.1.0; value = t.1.1 })

module _ {M : Type 1} {𝓤 : Ura M} (𝓛 : Logic 𝓤) (κ : Lft) where
  abbrev Seen : Option ℕ → ℕ × (ℕ × Gv) → SProp 𝓤
  Seen o t = guard 𝓤 (IsOf o t) (sem 𝓛 (sight_owns κ t.0 t.1.0 t.1.1))

  pub glimpsed : (o : Option ℕ) → IsLentWith o → ent 𝓤 (sem 𝓛 (glimpse κ o)) (ex 𝓤 (Seen o))
  glimpsed None lent = absurd lent
  glimpsed (Some v) lent = sights 𝓛 κ v lent

-- It may go to another thread.

pub glimpse_keyless : (κ : Lft) (o : Option ℕ) → Keyless (glimpse κ o)
glimpse_keyless κ None = tt
glimpse_keyless κ (Some v) = sight_keyless (loan_of v) κ v

-- It has no bytes.

pub glimpse_tells : (κ : NamedLft) → Tells (glimpse.the_row κ) (Is (glimpse.the_row κ)) no_bytes
glimpse_tells κ d vs is = is.0.1.0 ∙ (λ i. vstruct (of_list (is.0.1.1.0.1.0 i ++ [])) ∷ [])
