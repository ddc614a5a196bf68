-- The porter's side of passes that are lent: one lifetime μ for a time of sharing, under which each ticket is lent, and an invariant that
-- names no lifetime of a `&`. Who lends one leaves a share of μ's token there while the loan is made. When μ has ended every loan is made, so
-- all tickets are there again, and the porter, which has the mark of row 0, takes all of it out. Assumes `Logic`.
--     begins     a ticket is taken out for the key of a new pass, and a share left;  settles   its loan is laid there, and the share comes back
--     shows      the book is open too: what lies there tells a pass that nothing was made with the first one
--     gathers    μ is over: what the porter had comes out, with all loans;  had_back   and so it has all tickets
use Rattle.std.proofs.Common.{◌≡◌, ℕ, zero, suc, ◌-◌, ◌≤◌, false, List, [], ◌∷◌, ◌++◌, length, set, refl, sym, ◌∙◌, ap, Option, Some, slice_get, arith}
use seplogic.Ra.Ura.{Ura}
use base.Fml.{Share, Lft, Fml, ffalse, ftrue, fsep, fbor, fdead, flft, flent}
use base.Fraction.{full_share}
use base.Growing.{prefix_refl}
use base.Logic.{SProp, ent, sep, ex, guard, upd, upd_i, never, never_e}
use base.SetCodes.{coded_share}
use base.Share.{three_quarters}
use types.Kit.{‵, raw, ◌⊛◌, some, given, later, ◌$◌, ◌∵◌, !, qed, by, move, keep, use1, use2, use3, split, split3, fsplit, fjoin, fpick, fpack, frame, show, check, pick, learn, rewrite, suffices, settle, await, updating, now, done}
use types.Logic.{Logic, sem}
use Rattle.seize_machine.specs.Machine.State.{State}
use Rattle.seize_book.specs.Book.{mine}
use Rattle.seize_book.specs.Entry.{Entry, entry_coded}
use Rattle.seize_book.specs.Fair.{Before, pass_key}
use Rattle.seize_book.specs.Ledger.{HeldKey, piece, reached, roster}
use Rattle.seize_book.specs.Tokens.{Gate, Name, gate_gives, gate_leaves, gate_lends, inside, pass_holds, porter_at, porter_owns, start}
use Rattle.seize_book.proofs.Gates.{takes_one}
use Rattle.seize_book.proofs.Looks.{Idle, before_that, gives_permits, peeks_with, permits}
use Rattle.seize_book.proofs.Passes.{rights}
use Rattle.seize_book.proofs.Roster.{has, mints, sets}
use Rattle.seize_book.proofs.Porters.{holds, out_one, takes, whole}
use Rattle.seize_book.specs.Shared.{the_ticket, rows_have, period, row_has, side}

-- the ticket of a pass that isn't the first is the same, whichever pass it is
same_ticket : (g : Gate) (p : ℕ) → ¬ (p ≡ 0) → gate_gives g p [] ≡ gate_gives g 1 []
same_ticket g zero other = absurd (other refl)
same_ticket g (suc p) other = refl

pub same_loan : (g : Gate) (κ : Lft) (p : ℕ) (seen : List Entry) → ¬ (p ≡ 0) → gate_lends g κ p seen ≡ fbor κ (gate_gives g 1 [])
same_loan g κ zero seen other = absurd (other refl)
same_loan g κ (suc p) seen other = refl

abbrev Rows : Type 0
Rows = List (List Share)

longer : (rows : Rows) (x : List Share) → length (rows ++ x ∷ []) ≡ suc (length rows)
longer [] x = refl
longer (y ∷ rows) x = ap suc (longer rows x)

as_long : (rows : Rows) (i : ℕ) (x : List Share) → length (set rows i x) ≡ length rows
as_long [] i x = refl
as_long (y ∷ rows) zero x = refl
as_long (y ∷ rows) (suc i) x = ap suc (as_long rows i x)

module _ {M : Type 1} {𝓤 : Ura M} (𝓛 : Logic 𝓤) (n : Name) (seen : List Entry) (μ : Lft) (δ : ℕ) where
  open 𝓛 use {H, A}

  abbrev Pr : Type 2
  Pr = SProp 𝓤

  abbrev ◌⊢◌ : Pr → Pr → Type 1
  P ⊢ Q = ent 𝓤 P Q

  abbrev ◌∗◌ : Pr → Pr → Pr
  P ∗ Q = sep 𝓤 P Q

  abbrev ⟦◌⟧ : Fml → Pr
  ⟦ P ⟧ = sem 𝓛 P

  infix 26 ◌⊢◌
  infixr 35 ◌∗◌
  abbrev J : Fml
  J = period n seen μ δ

  abbrev Tk : Fml
  Tk = the_ticket n

  abbrev haves : Rows → Fml
  haves rows = rows_have n seen μ rows

  abbrev pub its_key : ℕ → List Entry → Fml
  its_key p own = rights 𝓛 n (pass_key p own ∷ [])

  abbrev keys : Rows → Fml
  keys all = roster coded_share δ 0 all

  abbrev pub mark : ℕ → List Share → Fml
  mark j rs = piece coded_share δ j three_quarters rs

  abbrev left : ℕ → Fml
  left m = porter_owns n false m seen

  abbrev pub lents : ℕ → Fml
  lents zero = ftrue
  lents (suc m) = fsep (flent μ Tk) (lents m)

  abbrev Open : Rows → Rows → Pr
  Open all rows = guard 𝓤 (all ≡ [] ∷ rows) (⟦ haves rows ⟧ ∗ ⟦ left (length rows) ⟧)

  -- while μ lasts the period runs
  running : (all : Rows) (s : Share) → ⟦ side n seen μ all ⟧ ∗ ⟦ flft μ s ⟧ ⊢ ⟦ flft μ s ⟧ ∗ ex 𝓤 (Open all)
  running [] s = qed 𝓛 (‵ ffalse ∷ ‵ (flft μ s) ∷ []) ∵ keep ! (0 ∷ []) $ suffices ! (never 𝓤) (never_e 𝓤 _) $ done !
  running ([] ∷ rows) s = qed 𝓛 (‵ (side n seen μ ([] ∷ rows)) ∷ ‵ (flft μ s) ∷ []) ∵ fsplit ! $ move ! (2 ∷ []) $ frame ! $ show ! (Open ([] ∷ rows)) rows $ check ! refl $ done !
  running ((r ∷ rs) ∷ rows) s = qed 𝓛 (‵ (fdead μ) ∷ ‵ (flft μ s) ∷ []) ∵ move ! (1 ∷ 0 ∷ []) $ suffices ! (never 𝓤) (never_e 𝓤 _) $ by ! (𝓛.lfts.lft-dead μ s)

  have_more : (rows : Rows) (r : Share) → ⟦ haves rows ⟧ ∗ ⟦ flft μ r ⟧ ⊢ ⟦ haves (rows ++ (r ∷ []) ∷ []) ⟧
  have_more [] r = qed 𝓛 (‵ (haves []) ∷ ‵ (flft μ r) ∷ []) ∵ move ! (1 ∷ 0 ∷ []) $ fjoin ! $ done !
  have_more (rs ∷ rows) r = qed 𝓛 (‵ (haves (rs ∷ rows)) ∷ ‵ (flft μ r) ∷ []) ∵ fsplit ! $ move ! (1 ∷ 2 ∷ []) $ use2 𝓛 (‵ (haves (rows ++ (r ∷ []) ∷ []))) (have_more rows r) $ move ! (1 ∷ 0 ∷ []) $ fjoin ! $ done !

  is_one : (rs : List Share) (r : Share) → Option.Some rs ≡ Option.Some (r ∷ []) → rs ≡ r ∷ []
  is_one rs r e = cc

  have_set : (rows : Rows) (i : ℕ) (r : Share) → slice_get rows i ≡ Some (r ∷ []) → ⟦ haves rows ⟧ ∗ ⟦ flent μ Tk ⟧ ⊢ ⟦ haves (set rows i []) ⟧ ∗ ⟦ flft μ r ⟧
  have_set [] i r e = absurd (cc)
  have_set (rs ∷ rows) zero r e = qed 𝓛 (‵ (haves (rs ∷ rows)) ∷ ‵ (flent μ Tk) ∷ []) ∵ fsplit ! $ rewrite ! 0 (λ (xs : List Share). ‵ (row_has n seen μ xs)) (is_one rs r e) refl $ move ! (2 ∷ 1 ∷ []) $ fjoin ! $ done !
  have_set (rs ∷ rows) (suc i) r e = qed 𝓛 (‵ (haves (rs ∷ rows)) ∷ ‵ (flent μ Tk) ∷ []) ∵ fsplit ! $ move ! (1 ∷ 2 ∷ []) $ use2 𝓛 (‵ (haves (set rows i [])) ⊛ ‵ (flft μ r)) (have_set rows i r e) $ split ! $ move ! (2 ∷ 0 ∷ []) $ fjoin ! $ done !

  all_lent : (rows : Rows) → ⟦ haves rows ⟧ ∗ ⟦ fdead μ ⟧ ⊢ ⟦ lents (length rows) ⟧ ∗ ⟦ fdead μ ⟧
  all_lent [] = qed 𝓛 (‵ (haves []) ∷ ‵ (fdead μ) ∷ []) ∵ done !
  all_lent ([] ∷ rows) = qed 𝓛 (‵ (haves ([] ∷ rows)) ∷ ‵ (fdead μ) ∷ []) ∵ fsplit ! $ move ! (1 ∷ 2 ∷ []) $ use2 𝓛 (‵ (lents (length rows)) ⊛ ‵ (fdead μ)) (all_lent rows) $ split ! $ move ! (2 ∷ 0 ∷ []) $ fjoin ! $ done !
  all_lent ((r ∷ rs) ∷ rows) = qed 𝓛 (‵ (haves ((r ∷ rs) ∷ rows)) ∷ ‵ (fdead μ) ∷ []) ∵ fsplit ! $ keep ! (0 ∷ 2 ∷ []) $ suffices ! (never 𝓤) (never_e 𝓤 _) $ by ! (𝓛.lfts.lft-dead μ r)

  abbrev pub Begun : ℕ → List Entry → Share → Share → ℕ → Pr
  Begun p own r s i = guard 𝓤 (¬ (p ≡ 0)) (⟦ its_key p own ⟧ ∗ ⟦ Tk ⟧ ∗ ⟦ mark (suc i) (r ∷ []) ⟧ ∗ ⟦ flft μ s ⟧)

  pub begins : (p : ℕ) (own : List Entry) (r s : Share) → ⟦ J ⟧ ∗ ⟦ its_key p own ⟧ ∗ ⟦ flft μ r ⟧ ∗ ⟦ flft μ s ⟧ ⊢ upd 𝓤 (⟦ J ⟧ ∗ ex 𝓤 (Begun p own r s))
  begins p own r s = let Z : Pr = ⟦ J ⟧ ∗ ex 𝓤 (Begun p own r s) in qed 𝓛 (‵ J ∷ ‵ (its_key p own) ∷ ‵ (flft μ r) ∷ ‵ (flft μ s) ∷ []) ∵ fpick ! (λ all. fsplit ! $
      -- [the keys; the side; the pass's key; the share; another]
      move ! (1 ∷ 4 ∷ []) $ use2 𝓛 (‵ (flft μ s) ⊛ some (λ (rows : Rows). given (all ≡ [] ∷ rows) (‵ (haves rows) ⊛ ‵ (left (length rows))))) (running all s) $ split ! $ move ! (1 ∷ []) $ pick ! (λ rows. learn ! (λ is. split ! $
      -- [the loans; the porter; the share that is kept; the keys; the pass's key; the share]
      let rows' : Rows = rows ++ (r ∷ []) ∷ [] in let new : Rows = [] ∷ rows' in
      move ! (3 ∷ []) $ rewrite ! 0 (λ (xs : Rows). ‵ (keys xs)) is refl $
      use1 𝓛 (raw (upd 𝓤 (⟦ keys new ⟧ ∗ ⟦ mark (suc (length rows)) (r ∷ []) ⟧))) (mints coded_share 𝓛 δ ([] ∷ rows) 0 (suc (length rows)) (r ∷ []) (omega arith)) $ settle 𝓛 Z (‵ (keys new) ⊛ ‵ (mark (suc (length rows)) (r ∷ []))) $ suffices ! _ (upd_i 𝓤 Z) $ split ! $
      -- [the keys; the mark; the loans; the porter; the share that is kept; the pass's key; the share]
      move ! (2 ∷ 6 ∷ []) $ use2 𝓛 (‵ (haves rows')) (have_more rows r) $ move ! (3 ∷ 5 ∷ []) $
      use2 𝓛 (given (¬ (p ≡ 0)) (‵ (porter_owns n false (suc (length rows)) seen) ⊛ ‵ (its_key p own) ⊛ ‵ (gate_gives n.gate p []))) (out_one 𝓛 n (length rows) p seen own []) $ learn ! (λ so. split3 ! $
      -- [the porter; the pass's key; its ticket; the loans; the keys; the mark; the share that is kept]
      rewrite ! 0 (λ (k : ℕ). ‵ (porter_owns n false k seen)) (let e : suc (length rows) ≡ length rows' = sym (longer rows (r ∷ [])) in e) refl $ move ! (3 ∷ 0 ∷ []) $ fjoin ! $ move ! (3 ∷ 0 ∷ []) $ fjoin ! $
      fpack ! Rows (λ xs. fsep (keys xs) (side n seen μ xs)) new $ frame ! $ show ! (Begun p own r s) (length rows) $ check ! so $
      move ! (1 ∷ []) $ rewrite ! 0 (λ (P : Fml). ‵ P) (same_ticket n.gate p so) refl $ move ! (1 ∷ 0 ∷ []) $ done !))))

  pub settles : (r s : Share) (i : ℕ) → ⟦ J ⟧ ∗ ⟦ mark (suc i) (r ∷ []) ⟧ ∗ ⟦ flent μ Tk ⟧ ∗ ⟦ flft μ s ⟧ ⊢ upd 𝓤 (⟦ J ⟧ ∗ ⟦ flft μ r ⟧ ∗ ⟦ flft μ s ⟧)
  settles r s i = let Z : Pr = ⟦ J ⟧ ∗ ⟦ flft μ r ⟧ ∗ ⟦ flft μ s ⟧ in qed 𝓛 (‵ J ∷ ‵ (mark (suc i) (r ∷ [])) ∷ ‵ (flent μ Tk) ∷ ‵ (flft μ s) ∷ []) ∵ fpick ! (λ all. fsplit ! $
      -- [the keys; the side; the mark; the loan; a share]
      move ! (1 ∷ 4 ∷ []) $ use2 𝓛 (‵ (flft μ s) ⊛ some (λ (rows : Rows). given (all ≡ [] ∷ rows) (‵ (haves rows) ⊛ ‵ (left (length rows))))) (running all s) $ split ! $ move ! (1 ∷ []) $ pick ! (λ rows. learn ! (λ is. split ! $
      -- [the loans; the gate; the share that is kept; the keys; the mark; the loan]
      let new : Rows = [] ∷ set rows i [] in move ! (3 ∷ []) $ rewrite ! 0 (λ (xs : Rows). ‵ (keys xs)) is refl $ move ! (0 ∷ 4 ∷ []) $
      use2 𝓛 (given (slice_get ([] ∷ rows) (suc i) ≡ Some (r ∷ [])) (‵ (keys ([] ∷ rows)) ⊛ ‵ (mark (suc i) (r ∷ [])))) (has coded_share 𝓛 δ ([] ∷ rows) 0 (suc i) (suc i) (r ∷ []) (omega arith)) $ learn ! (λ there. split ! $
      use2 𝓛 (raw (upd 𝓤 (⟦ keys new ⟧ ∗ ⟦ mark (suc i) [] ⟧))) (sets coded_share 𝓛 δ ([] ∷ rows) 0 (suc i) (suc i) (r ∷ []) [] (omega arith)) $ settle 𝓛 Z (‵ (keys new) ⊛ ‵ (mark (suc i) [])) $ suffices ! _ (upd_i 𝓤 Z) $ split ! $
      -- [the keys; the mark; the loans; the gate; the share that is kept; the loan]
      move ! (2 ∷ 5 ∷ []) $ use2 𝓛 (‵ (haves (set rows i [])) ⊛ ‵ (flft μ r)) (have_set rows i r there) $ split ! $
      -- [the loans; the share; the keys; the mark; the gate; the share that is kept]
      move ! (4 ∷ []) $ rewrite ! 0 (λ (k : ℕ). ‵ (left k)) (sym (as_long rows i [])) refl $ move ! (1 ∷ 0 ∷ []) $ fjoin ! $ move ! (2 ∷ 0 ∷ []) $ fjoin ! $
      fpack ! Rows (λ xs. fsep (keys xs) (side n seen μ xs)) new $ keep ! (0 ∷ 1 ∷ 3 ∷ []) $ done !))))

  abbrev st : State
  st = start n

  -- The book is open too. The key of the first pass lies here, so that a pass that looks at the list knows what was made with it.
  abbrev pub Shown : ℕ → List Entry → Share → List Entry → Pr
  Shown p x s log = guard 𝓤 (Before n p x [] log × (mine st 0 log ≡ mine st 0 seen)) (⟦ pass_holds n p log ⟧ ∗ ⟦ permits n log ⟧ ∗ ⟦ flft μ s ⟧)

  pub shows : (p : ℕ) (x : List Entry) (s : Share) → ⟦ J ⟧ ∗ ⟦ inside n ⟧ ∗ ⟦ pass_holds n p x ⟧ ∗ ⟦ flft μ s ⟧ ⊢ ⟦ J ⟧ ∗ ⟦ inside n ⟧ ∗ ex 𝓤 (Shown p x s)
  shows p x s = qed 𝓛 (‵ J ∷ ‵ (inside n) ∷ ‵ (pass_holds n p x) ∷ ‵ (flft μ s) ∷ []) ∵ fpick ! (λ all. fsplit ! $
      -- [the keys; the side; the book's invariant; the pass; the share]
      move ! (1 ∷ 4 ∷ []) $ use2 𝓛 (‵ (flft μ s) ⊛ some (λ (rows : Rows). given (all ≡ [] ∷ rows) (‵ (haves rows) ⊛ ‵ (left (length rows))))) (running all s) $ split ! $ move ! (1 ∷ []) $ pick ! (λ rows. learn ! (λ is. let m : ℕ = length rows in split ! $
      -- [the loans; the porter; the share; the keys; the book's invariant; the pass]
      move ! (1 ∷ []) $ fsplit ! $ move ! (1 ∷ []) $
      use1 𝓛 (some (λ (own : List Entry). given (Idle 𝓛 n 0 own seen) (‵ (its_key 0 own) ⊛ ‵ (reached entry_coded n.log seen) ⊛ ‵ (gate_leaves n.gate false m seen)))) (takes 𝓛 n false m seen) $ pick ! (λ own. learn ! (λ past. split3 ! $
      -- [its key; what it has seen; the gate; the book; the loans; the share; the keys; the book's invariant; the pass]
      let held : List (HeldKey Entry) = pass_key 0 own ∷ [] in move ! (7 ∷ 8 ∷ 0 ∷ []) $
      use3 𝓛 (some (λ (log : List Entry). given (Before n p x held log) (‵ (inside n) ⊛ ‵ (pass_holds n p log) ⊛ ‵ (its_key 0 own) ⊛ ‵ (permits n log)))) (peeks_with 𝓛 n p x held (permits n) (gives_permits 𝓛 n p) (omega arith, tt)) $ pick ! (λ log. learn ! (λ before. split ! $ move ! (1 ∷ []) $ split3 ! $
      -- [the pass; its key; the permits; the book's invariant; what it has seen; the gate; the book; the loans; the share; the keys]
      move ! (1 ∷ 4 ∷ 5 ∷ []) $ use3 𝓛 (‵ (holds 𝓛 n false m seen)) (whole 𝓛 n false m seen own past) $ move ! (4 ∷ 0 ∷ []) $ fjoin ! $ move ! (4 ∷ 0 ∷ []) $ fjoin ! $
      -- [the side; the pass; the permits; the book's invariant; the share; the keys]
      move ! (5 ∷ []) $ rewrite ! 0 (λ (xs : Rows). ‵ (keys xs)) is refl $ fjoin ! $ fpack ! Rows (λ xs. fsep (keys xs) (side n seen μ xs)) ([] ∷ rows) $ frame ! $ move ! (2 ∷ []) $ frame ! $
      show ! (Shown p x s) log $ check ! (before_that n p x x held log (prefix_refl x) refl (λ _. refl) before, sym before.kept.0.1 ∙ past.1) $ done !)))))))

  -- and whoever has the mark of row 0 knows that it does
  known : (all : Rows) → slice_get all 0 ≡ Some [] → ⟦ side n seen μ all ⟧ ⊢ ex 𝓤 (Open all)
  known [] e = absurd (cc)
  known ([] ∷ rows) e = qed 𝓛 (‵ (side n seen μ ([] ∷ rows)) ∷ []) ∵ fsplit ! $ show ! (Open ([] ∷ rows)) rows $ check ! refl $ done !
  known ((r ∷ rs) ∷ rows) e = absurd (cc)

  abbrev pub Gathered : ℕ → Pr
  Gathered m = ⟦ left m ⟧ ∗ ⟦ lents m ⟧

  pub gathers : ⟦ J ⟧ ∗ ⟦ mark 0 [] ⟧ ∗ ⟦ fdead μ ⟧ ⊢ upd 𝓤 (⟦ J ⟧ ∗ ex 𝓤 Gathered)
  gathers = let Z : Pr = ⟦ J ⟧ ∗ ex 𝓤 Gathered in qed 𝓛 (‵ J ∷ ‵ (mark 0 []) ∷ ‵ (fdead μ) ∷ []) ∵ fpick ! (λ all. fsplit ! $
      -- [the keys; the side; the mark; the end]
      move ! (0 ∷ 2 ∷ []) $ use2 𝓛 (given (slice_get all 0 ≡ Some []) (‵ (keys all) ⊛ ‵ (mark 0 []))) (has coded_share 𝓛 δ all 0 0 0 [] (omega arith)) $ learn ! (λ there. split ! $
      move ! (2 ∷ []) $ use1 𝓛 (some (λ (rows : Rows). given (all ≡ [] ∷ rows) (‵ (haves rows) ⊛ ‵ (left (length rows))))) (known all there) $ pick ! (λ rows. learn ! (λ is. split ! $
      -- [the loans; the gate; the keys; the mark; the end]
      let new : Rows = (full_share ∷ []) ∷ rows in move ! (2 ∷ []) $ rewrite ! 0 (λ (xs : Rows). ‵ (keys xs)) is refl $ move ! (0 ∷ 3 ∷ []) $
      use2 𝓛 (raw (upd 𝓤 (⟦ keys new ⟧ ∗ ⟦ mark 0 (full_share ∷ []) ⟧))) (sets coded_share 𝓛 δ ([] ∷ rows) 0 0 0 [] (full_share ∷ []) (omega arith)) $ settle 𝓛 Z (‵ (keys new) ⊛ ‵ (mark 0 (full_share ∷ []))) $ suffices ! _ (upd_i 𝓤 Z) $ split ! $
      -- [the keys; the mark; the loans; the gate; the end]
      move ! (4 ∷ []) $ use1 𝓛 (‵ (fdead μ) ⊛ ‵ (fdead μ)) (𝓛.lfts.dead_dup μ) $ split ! $ move ! (4 ∷ 0 ∷ []) $ use2 𝓛 (‵ (lents (length rows)) ⊛ ‵ (fdead μ)) (all_lent rows) $ split ! $
      -- [the loans; the end, twice; the keys; the mark; the gate]
      move ! (3 ∷ 1 ∷ []) $ fjoin ! $ fpack ! Rows (λ xs. fsep (keys xs) (side n seen μ xs)) new $ frame ! $ show ! Gathered (length rows) $ keep ! (3 ∷ 0 ∷ []) $ done !))))

  ticket_back : (k : ℕ) → ⟦ porter_owns n false (suc k) seen ⟧ ∗ ⟦ Tk ⟧ ⊢ ⟦ porter_owns n false k seen ⟧
  ticket_back k = qed 𝓛 (‵ (porter_owns n false (suc k) seen) ∷ ‵ Tk ∷ []) ∵ fsplit ! $ move ! (1 ∷ []) $ fpick ! (λ own. fsplit ! $ move ! (1 ∷ []) $ fsplit ! $ move ! (1 ∷ []) $ fsplit ! $
      -- [the gate; what was made; what it has seen; its key; the book; the ticket]
      move ! (0 ∷ 5 ∷ []) $ use2 𝓛 (given (1 ≤ suc k) (‵ (gate_leaves n.gate false (suc k - 1) seen))) (takes_one 𝓛 n.gate (suc k) 1 [] seen seen (λ e. absurd (cc))) $ learn ! (λ some_out.
      rewrite ! 0 (λ (j : ℕ). ‵ (gate_leaves n.gate false j seen)) (let e : suc k - 1 ≡ k = omega arith in e) refl $
      fjoin ! $ move ! (1 ∷ 0 ∷ []) $ fjoin ! $ move ! (1 ∷ 0 ∷ []) $ fjoin ! $ fpack ! (List Entry) (porter_at n false k seen) own $ move ! (1 ∷ 0 ∷ []) $ fjoin ! $ done !))

  pub had_back : (m : ℕ) → ⟦ left m ⟧ ∗ ⟦ lents m ⟧ ∗ ⟦ fdead μ ⟧ ⊢ H.⇛ ⟦ left 0 ⟧
  had_back zero = qed 𝓛 (‵ (left 0) ∷ ‵ ftrue ∷ ‵ (fdead μ) ∷ []) ∵ updating ! $ now ! $ keep ! (0 ∷ []) $ done !
  had_back (suc m) = qed 𝓛 (‵ (left (suc m)) ∷ ‵ (lents (suc m)) ∷ ‵ (fdead μ) ∷ []) ∵ updating ! $ move ! (1 ∷ []) $ fsplit ! $ move ! (3 ∷ []) $
      use1 𝓛 (‵ (fdead μ) ⊛ ‵ (fdead μ)) (𝓛.lfts.dead_dup μ) $ split ! $
      -- [the end, twice; a loan; the others; the porter]
      move ! (0 ∷ 2 ∷ []) $ use2 𝓛 (later (‵ Tk)) (𝓛.bors.lent_back μ Tk) $ await ! tt $ move ! (3 ∷ []) $
      use2 𝓛 (‵ (left m)) (ticket_back m) $ move ! (0 ∷ 2 ∷ 1 ∷ []) $ use3 𝓛 (later (‵ (left 0))) (had_back m) $ await ! tt $ now ! $ done !
