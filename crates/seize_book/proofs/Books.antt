-- What the token of a book gives: itself once more, and the keys of a new block; and how it learns. Assumes `Logic`.
use Rattle.std.proofs.Common.{◌≡◌, ℕ, ◌+◌, arith, pos, false, List, [], ◌∷◌, refl, sym, ap}
use seplogic.Ra.Ura.{Ura}
use base.Logic.{SProp, ent, sep, ex, guard, via, fst∗, snd∗}
use base.Stored.{Gv, gnil, gnum, gcons}
use base.Fml.{Fml, ftrue, fres}
use contract.Monad.{fact, conj_i}
use types.Logic.{Logic, sem}
use types.Growing.{at_least_dup}
use types.Kit.{‵, raw, rewrite, drop, ◌⊛◌, some, given, ◌$◌, ◌∵◌, !, qed, move, keep, split, split3, fsplit, fjoin, pick, learn, show, check, done, use1, use2, use3, updating, await, now}
use denote.Steps.{nothing, heard}
use Rattle.seize_machine.specs.Machine.State.{State, has}
use Rattle.seize_book.specs.Ledger.{HeldKey, logs, reached}
use Rattle.seize_book.specs.Entry.{Entry, entry_coded}
use Rattle.seize_book.specs.Book.{after, rules, counts, blocks, fields}
use Rattle.seize_book.specs.Chains.{field_value, first_field, next_field}
use Rattle.seize_book.specs.Deposits.{deposit}
use Rattle.seize_book.specs.Homes.{count_in, home_of}
use Rattle.seize_book.specs.Fair.{pass_key}
use Rattle.seize_book.specs.Tokens.{Name, name_coded, start, knows, gate_gives, rights_own, keys_own, pass_holds, pass_owns}
use Rattle.seize_book.specs.Bare.{of_header, of_values}
use Rattle.seize_book.specs.Begin.{book_owns}
use Rattle.seize_book.proofs.Append.{OneMore}
use Rattle.seize_book.proofs.Looks.{Idle, apart, together}
use Rattle.seize_book.proofs.Ways.{free_own}
use Rattle.seize_book.proofs.Notes.{knows_twice, Picks, minted, new_keys}

abbrev code_in : Gv → Gv
code_in gnil = gnil
code_in (gnum k) = gnil
code_in (gcons u v) = v

module _ {M : Type 1} {𝓤 : Ura M} (𝓛 : Logic 𝓤) (n : Name) where
  open 𝓛 use {H}

  abbrev Pr : Type 2
  Pr = SProp 𝓤

  abbrev ◌⊢◌ : Pr → Pr → Type 1
  P ⊢ Q = ent 𝓤 P Q

  abbrev ◌∗◌ : Pr → Pr → Pr
  P ∗ Q = sep 𝓤 P Q

  abbrev ⟦◌⟧ : Fml → Pr
  ⟦ P ⟧ = sem 𝓛 P

  infix 26 ◌⊢◌
  infixr 35 ◌∗◌
  abbrev st : State
  st = start n

  abbrev had : List Entry → Fml
  had log = reached entry_coded n.log log

  called_once : (f : ℕ) (u v : Gv) → ⟦ fres f u ⟧ ∗ ⟦ fres f v ⟧ ⊢ fact 𝓤 (u ≡ v)
  called_once f u v = let P : Pr = ⟦ fres f u ⟧ in let Q : Pr = ⟦ fres f v ⟧ in via 𝓤 _ (conj_i 𝓤 P Q (fst∗ 𝓤 P Q) (snd∗ 𝓤 P Q)) (𝓛.names.res_one f u v)

  -- a family is that of one book
  pub one_book : (m : Name) → n.family ≡ m.family → ⟦ knows n ⟧ ∗ ⟦ knows m ⟧ ⊢ guard 𝓤 (n ≡ m) (⟦ knows n ⟧ ∗ ⟦ knows m ⟧)
  one_book m same = let u : Gv = gcons gnil (name_coded.code n) in let v : Gv = gcons gnil (name_coded.code m) in let Same : Type 0 = u ≡ v in
      qed 𝓛 (‵ (knows n) ∷ ‵ (knows m) ∷ []) ∵ use1 𝓛 (‵ (knows n) ⊛ ‵ (knows n)) (knows_twice 𝓛 n) $ split ! $ move ! (2 ∷ []) $ use1 𝓛 (‵ (knows m) ⊛ ‵ (knows m)) (knows_twice 𝓛 m) $ split ! $
      -- [the other, twice; the one, twice]
      fsplit ! $ drop ! $ fsplit ! $ move ! (1 ∷ []) $ drop ! $ move ! (2 ∷ []) $ fsplit ! $ drop ! $ fsplit ! $ move ! (1 ∷ []) $ drop ! $
      -- [what the one's family says; what the other's says; the other; the one]
      rewrite ! 0 (λ (f : ℕ). ‵ (fres f u)) same refl $ use2 𝓛 (raw (fact 𝓤 Same)) (called_once m.family u v) $ heard ! Same (λ e. check ! (name_coded.inj n m (ap code_in e)) $ move ! (1 ∷ 0 ∷ []) $ done !)

  pub books_agree : (seen : List Entry) (m : Name) (past : List Entry) → n.family ≡ m.family → ⟦ book_owns n seen ⟧ ∗ ⟦ book_owns m past ⟧ ⊢ guard 𝓤 (n ≡ m) ⟦ ftrue ⟧
  books_agree seen m past same = qed 𝓛 (‵ (book_owns n seen) ∷ ‵ (book_owns m past) ∷ []) ∵ fsplit ! $ move ! (2 ∷ []) $ fsplit ! $ move ! (2 ∷ 0 ∷ []) $
      use2 𝓛 (given (n ≡ m) (‵ (knows n) ⊛ ‵ (knows m))) (one_book m same) $ learn ! (λ e. drop ! $ drop ! $ drop ! $ nothing ! $ check ! e $ done !)

  pub pass_agrees : (p : ℕ) (seen : List Entry) (m : Name) (past : List Entry) → m.family ≡ n.family → ⟦ pass_owns n p seen ⟧ ∗ ⟦ book_owns m past ⟧ ⊢ guard 𝓤 (m ≡ n) ⟦ pass_owns n p seen ⟧
  pass_agrees p seen m past same = qed 𝓛 ((‵ (knows n) ⊛ ‵ (pass_holds n p seen)) ∷ ‵ (book_owns m past) ∷ []) ∵ split ! $ move ! (2 ∷ []) $ fsplit ! $ move ! (2 ∷ 0 ∷ []) $
      use2 𝓛 (given (n ≡ m) (‵ (knows n) ⊛ ‵ (knows m))) (one_book m (sym same)) $ learn ! (λ e. split ! $ check ! (sym e) $
      -- [the book; the other; what the other has seen; the pass]
      move ! (0 ∷ 3 ∷ []) $ fjoin ! $ keep ! (0 ∷ []) $ done !)

  pub book_twice : (seen : List Entry) → ⟦ book_owns n seen ⟧ ⊢ ⟦ book_owns n seen ⟧ ∗ ⟦ book_owns n seen ⟧
  book_twice seen = qed 𝓛 (‵ (book_owns n seen) ∷ []) ∵ fsplit ! $ use1 𝓛 (‵ (knows n) ⊛ ‵ (knows n)) (knows_twice 𝓛 n) $ split ! $
      move ! (2 ∷ []) $ use1 𝓛 (‵ (had seen) ⊛ ‵ (had seen)) (at_least_dup (logs entry_coded) 𝓛 n.log seen) $ split ! $
      -- [what was reached, twice; the book, twice]
      move ! (2 ∷ 0 ∷ []) $ fjoin ! $ move ! (2 ∷ 1 ∷ []) $ fjoin ! $ done !

  -- it has seen what the pass has
  pub learns : (p : ℕ) (old seen : List Entry) → ⟦ book_owns n old ⟧ ∗ ⟦ pass_owns n p seen ⟧ ⊢ ⟦ book_owns n seen ⟧ ∗ ⟦ pass_owns n p seen ⟧
  learns p old seen = qed 𝓛 (‵ (book_owns n old) ∷ (‵ (knows n) ⊛ ‵ (pass_holds n p seen)) ∷ []) ∵ fsplit ! $ move ! (2 ∷ []) $ split ! $ move ! (1 ∷ []) $
      -- [the pass; its book; the book; what it had seen]
      use1 𝓛 (some (λ (own : List Entry). given (Idle 𝓛 n p own seen) (‵ (rights_own n (pass_key p own ∷ [])) ⊛ ‵ (had seen) ⊛ ‵ (gate_gives n.gate p seen)))) (apart 𝓛 n p seen) $ pick ! (λ own. learn ! (λ past. split3 ! $ move ! (1 ∷ []) $
      use1 𝓛 (‵ (had seen) ⊛ ‵ (had seen)) (at_least_dup (logs entry_coded) 𝓛 n.log seen) $ split ! $
      -- [what the pass has seen, twice; its key; its copy; its book; the book; what it had seen]
      move ! (2 ∷ 0 ∷ 3 ∷ []) $ use3 𝓛 (‵ (pass_holds n p seen)) (together 𝓛 n p seen own past) $ move ! (2 ∷ 0 ∷ []) $ fjoin ! $
      -- [the pass; what it has seen; the book; what that had seen]
      move ! (2 ∷ 1 ∷ []) $ fjoin ! $ keep ! (0 ∷ 1 ∷ []) $ done !))

  -- nothing is known of the block
  abbrev pub IsUnused : ℕ × List Entry → Type 0
  IsUnused t = ((v : ℕ) → home_of v ≡ t.0 → has v (after st t.1).named ≡ false) × ((count_in (after st t.1) t.0 ≡ pos 0) × (deposit (after st t.1) t.0 ≡ [])) × (field_value t.1 (next_field t.0) ≡ 0) × (field_value t.1 (first_field t.0) ≡ 0)

  -- the key of its values, labelled with one of them, with this note; and those of its count and of its two fields
  abbrev pub HasChunk : (ℕ → ℕ) → Gv → ℕ × List Entry → Pr
  HasChunk value g t = guard 𝓤 (IsUnused t) (⟦ rights_own n (of_values (value t.0) t.0 g t.1) ⟧ ∗ ⟦ keys_own n (of_header t.0 t.1) ⟧)

  pub chunk : (seen : List Entry) (value : ℕ → ℕ) (g : Gv) → ⟦ book_owns n seen ⟧ ⊢ H.⇛ (ex 𝓤 (HasChunk value g))
  chunk seen value g = let number : (ℕ → ℕ) → ℕ = λ sizes. sizes blocks + sizes counts + sizes fields in let births : Picks 𝓛 n = λ sizes. let k : ℕ = number sizes in (blocks, k) ∷ (counts, k) ∷ (fields, next_field k) ∷ (fields, first_field k) ∷ [] in
      let more : OneMore (rules st) fields = λ log j h f le. h f (omega (arith, le)) in qed 𝓛 (‵ (book_owns n seen) ∷ []) ∵ updating ! $ fsplit ! $
      use2 𝓛 (minted 𝓛 n seen births) (new_keys 𝓛 n seen births (λ sizes. (omega arith, (λ log j h v le. h v (omega (arith, le))), omega arith, (omega arith, (λ log j h k le. h k (omega (arith, le))), omega arith, (omega arith, more, omega arith, (omega arith, more, omega arith, tt)))))) $
      await ! tt $ pick ! (λ t. learn ! (λ so. let k : ℕ = number t.0 in let header : List (HeldKey Entry) = of_header k t.1 in split ! $ fsplit ! $
      -- [the right; the header's rights; what was reached]
      move ! (1 ∷ []) $ use1 𝓛 (‵ (keys_own n header)) (free_own 𝓛 n header (refl, (refl, (refl, tt)))) $ nothing ! $ move ! (2 ∷ 0 ∷ []) $ fjoin ! $
      now ! $ show ! (HasChunk value g) (k, t.1) $ check ! ((λ v home. so.1 blocks v (omega (arith, home))), so.1 counts k (omega arith), so.1 fields (next_field k) (omega arith), so.1 fields (first_field k) (omega arith)) $ keep ! (0 ∷ 1 ∷ []) $ done !))
