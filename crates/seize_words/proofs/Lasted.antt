-- What shows that an activation lasts can be had twice. Assumes `Logic`.
use Rattle.std.proofs.Common.{ℕ, List, [], ◌∷◌, ◌++◌}
use seplogic.Ra.Ura.{Ura}
use base.Before.{before}
use base.Fml.{Lft, Share, Fml, fsep, flft}
use base.Logic.{SProp, ent, sep, ex, wand, apply∗}
use base.FractionLaws.{common}
use base.Shift.{Keyless}
use Rattle.core.proofs.atomic.Sent.{chain-Keyless}
use Rattle.seize_book.proofs.Sent.{book_keyless}
use types.Kit.{‵, raw, ◌⊛◌, some, later, ◌$◌, ◌∵◌, !, qed, move, keep, split, fsplit, fjoin, pick, show, frame, assume, updating, await, now, done, use1, use2}
use types.Logic.{Logic, sem}
use types.Na.{before_dup}
use types.Tokens.{lft-common}
use contract.Running.{Running}
use contract.Shared.{Lends-one}
use denote.Steps.{nothing}
use prog.Model.{Model}
use Rattle.seize_book.proofs.Lives.{living}
use Rattle.seize_book.specs.Begin.{book_owns}
use Rattle.seize_book.specs.Entry.{Entry, entry_coded}
use Rattle.seize_book.specs.Ledger.{reached}
use Rattle.seize_book.specs.Tokens.{Name, knows, pass_holds, pass_owns}
use Rattle.seize_book.proofs.Loans.{pass_shows}
use Rattle.seize_book.proofs.Notes.{knows_twice}
use Rattle.seize_book.proofs.Books.{book_twice}
use Rattle.seize_words.specs.Lasts.{lasting}

module _ {M : Type 1} {𝓤 : Ura M} (𝓛 : Logic 𝓤) (κ : Lft) (n : Name) (a : ℕ) (seen : List Entry) where
  abbrev P : Fml
  P = lasting κ n a seen

  pub lasting_twice : ent 𝓤 (sem 𝓛 P) (sep 𝓤 (sem 𝓛 P) (sem 𝓛 P))
  lasting_twice = qed 𝓛 (‵ P ∷ []) ∵ fsplit ! $ use1 𝓛 (‵ (before κ (a ∷ [])) ⊛ ‵ (before κ (a ∷ []))) (before_dup 𝓛 κ (a ∷ [])) $ split ! $
      move ! (2 ∷ []) $ use1 𝓛 (‵ (book_owns n seen) ⊛ ‵ (book_owns n seen)) (book_twice 𝓛 n seen) $ split ! $
      -- [what was seen, twice; the lifetimes, twice]
      move ! (2 ∷ 0 ∷ []) $ fjoin ! $ move ! (2 ∷ 1 ∷ []) $ fjoin ! $ done !

  -- what a pass has seen is known for good
  pub pass_known : (p : ℕ) → ent 𝓤 (sem 𝓛 (pass_owns n p seen)) (sep 𝓤 (sem 𝓛 (pass_owns n p seen)) (sem 𝓛 (book_owns n seen)))
  pass_known p = qed 𝓛 ((‵ (knows n) ⊛ ‵ (pass_holds n p seen)) ∷ []) ∵ split ! $ use1 𝓛 (‵ (knows n) ⊛ ‵ (knows n)) (knows_twice 𝓛 n) $ split ! $
      -- [the book, twice; the pass]
      move ! (2 ∷ []) $ use1 𝓛 (‵ (pass_holds n p seen) ⊛ ‵ (reached entry_coded n.log seen)) (pass_shows 𝓛 n p seen) $ split ! $
      -- [the pass; what it has seen; the book, twice]
      move ! (2 ∷ 0 ∷ []) $ fjoin ! $ move ! (2 ∷ 1 ∷ []) $ fjoin ! $ move ! (1 ∷ 0 ∷ []) $ done !

-- Where one activation lasts, and another for as long as a token is there: a share of a token of each, and the way back. The token is the
-- third of some.
module _ {M : Type 1} {𝓤 : Ura M} (𝓛 : Logic 𝓤) (𝓜 : Model 𝓤 𝓛.H) (𝓡 : Running 𝓤 𝓛.H 𝓜) (κ : Lft) (q : Share) (a b : ℕ) (r : Share) (X Y Z : Fml) where
  open 𝓛 use {H, A}

  abbrev tokens : Fml
  tokens = fsep X (fsep Y (fsep (flft κ q) Z))

  abbrev pub BothLast : Share → SProp 𝓤
  BothLast s = sep 𝓤 (sem 𝓛 (living 𝓛 (a ∷ b ∷ []) s)) (wand 𝓤 (sem 𝓛 (living 𝓛 (a ∷ b ∷ []) s)) (H.⇛ (sep 𝓤 (A.lft (a ∷ []) r) (sem 𝓛 tokens))))

  pub both_last : ent 𝓤 (sep 𝓤 (sem 𝓛 (before κ (b ∷ []))) (sep 𝓤 (sem 𝓛 tokens) (A.lft (a ∷ []) r))) (H.⇛ (ex 𝓤 BothLast))
  both_last = let α : Lft = a ∷ [] in let β : Lft = b ∷ [] in qed 𝓛 (‵ (before κ β) ∷ ‵ tokens ∷ ‵ (flft α r) ∷ []) ∵ updating ! $ move ! (1 ∷ []) $ fsplit ! $ move ! (1 ∷ []) $ fsplit ! $ move ! (1 ∷ []) $ fsplit ! $
      -- [the token; the last; the second; the first; that it lasts; the other's token]
      move ! (4 ∷ 0 ∷ []) $ use2 𝓛 (later (some (λ (t : Share). ‵ (flft β t) ⊛ raw (wand 𝓤 (A.lft β t) (H.⇛ (A.lft κ q)))))) (Lends-one 𝓛 𝓜 𝓡 κ β q) $ await ! tt $ pick ! (λ t. split ! $
      let s : Share = (common r t).0 in let Both : SProp 𝓤 = sep 𝓤 (A.lft α r) (A.lft β t) in
      move ! (5 ∷ 0 ∷ []) $ use2 𝓛 (‵ (flft (α ++ β) s) ⊛ raw (wand 𝓤 (A.lft (α ++ β) s) Both)) (lft-common 𝓛 α β r t) $ split ! $
      use1 𝓛 (‵ (flft α s) ⊛ ‵ (flft β s)) (𝓛.lfts.lft_unmeet α β s) $ split ! $ nothing ! $ move ! (2 ∷ 0 ∷ []) $ fjoin ! $ move ! (1 ∷ 0 ∷ []) $ fjoin ! $
      -- [shares of both; their way back; the token's; the last; the second; the first]
      now ! $ show ! BothLast s $ frame ! $ assume ! (‵ (living 𝓛 (a ∷ b ∷ []) s)) $ updating ! $ fsplit ! $ move ! (1 ∷ []) $ fsplit ! $ move ! (2 ∷ 0 ∷ []) $
      use2 𝓛 (‵ (flft (α ++ β) s)) (𝓛.lfts.lft_meet α β s) $ move ! (0 ∷ 2 ∷ []) $ use2 𝓛 (‵ (flft α r) ⊛ ‵ (flft β t)) (apply∗ 𝓤 (A.lft (α ++ β) s) Both) $ split ! $
      -- [the other's token; the share; nothing; the token's way back; the last; the second; the first]
      move ! (1 ∷ 3 ∷ []) $ use2 𝓛 (later (‵ (flft κ q))) (apply∗ 𝓤 (A.lft β t) (H.⇛ (A.lft κ q))) $ await ! tt $
      move ! (0 ∷ 3 ∷ []) $ fjoin ! $ move ! (3 ∷ 0 ∷ []) $ fjoin ! $ move ! (3 ∷ 0 ∷ []) $ fjoin ! $ now ! $ keep ! (1 ∷ 0 ∷ []) $ done !)

-- It may go to another thread.
pub lasting_keyless : (κ : Lft) (n : Name) (a : ℕ) (seen : List Entry) → Keyless (lasting κ n a seen)
lasting_keyless κ n a seen = ((λ νs. chain-Keyless νs κ (a ∷ [])), book_keyless n seen)
