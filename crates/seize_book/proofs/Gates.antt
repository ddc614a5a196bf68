-- The first pass has a copy of the list, and the book has one; and how a porter comes home, and goes off. What is appended is within the
-- greatest size. Assumes `Logic`.
use Rattle.std.proofs.Common.{◌≡◌, ℕ, zero, suc, ◌-◌, ◌≤◌, Bool, true, false, List, [], ◌∷◌, ◌++◌, refl, sym}
use mathlib.Core.List.{IsPrefix}
use mathlib.Core.Option as Maybe
use seplogic.Ra.Ura.{Ura}
use base.Fraction.{full_share}
use base.FractionLaws.{not-OpDef-full_share}
use base.Share.{quarter, three_quarters, quarters}
use base.Growing.{growing, latest}
use base.Logic.{SProp, ent, sep, guard, upd, upd_i}
use base.Fml.{Fml, Share, ftrue}
use types.Logic.{Logic, sem}
use types.Growing.{latest_agrees, latest_glue, latest_grows, latest_cut}
use types.Owned.{own_sum}
use types.Kit.{‵, raw, ◌⊛◌, given, ◌$◌, ◌∵◌, !, qed, by, move, drop, split, fsplit, fjoin, fpick, fpack, learn, check, suffices, settle, done, use1, use2, rewrite}
use denote.Steps.{nothing}
use Rattle.seize_book.specs.Ledger.{logs}
use Rattle.seize_book.specs.Entry.{Entry, entry_coded}
use Rattle.seize_book.specs.Bounds.{OneWithin, bounded, had_size}
use Rattle.seize_book.specs.Tokens.{Gate, IsSole, all_but, gate_keeps, gate_gives, gate_leaves, gate_stands, one_out, gate_share}
use Rattle.seize_book.proofs.Bounds.{bound_push}
use Rattle.seize_book.proofs.Tickets.{all_once, comes_back, goes_out, none_back}

module _ {M : Type 1} {𝓤 : Ura M} (𝓛 : Logic 𝓤) where
  abbrev Pr : Type 2
  Pr = SProp 𝓤

  abbrev ◌⊢◌ : Pr → Pr → Type 1
  P ⊢ Q = ent 𝓤 P Q

  abbrev ◌∗◌ : Pr → Pr → Pr
  P ∗ Q = sep 𝓤 P Q

  abbrev ⟦◌⟧ : Fml → Pr
  ⟦ P ⟧ = sem 𝓛 P

  infix 26 ◌⊢◌
  infixr 35 ◌∗◌
  abbrev copy : Share → ℕ → List Entry → Fml
  copy q η log = latest (logs entry_coded) q η log

  -- a share beside the whole is more than the whole
  more_than_all : (Z : Pr) (q : Share) (η : ℕ) (a b : List Entry) → ⟦ copy full_share η a ⟧ ∗ ⟦ copy q η b ⟧ ⊢ Z
  unfolding latest
  more_than_all Z q η a b = let l = logs entry_coded in own_sum 𝓛 (growing l) η (Maybe.some full_share, a) (Maybe.some q, b) Z (λ c m. absurd (not-OpDef-full_share q m.0.1.0.0))

  -- they are the same
  in_turn : (g : Gate) (log seen : List Entry) (b : Bool) → ⟦ gate_share g log b ⟧ ∗ ⟦ copy three_quarters g.copy seen ⟧ ⊢ guard 𝓤 (log ≡ seen) (⟦ gate_share g log b ⟧ ∗ ⟦ copy three_quarters g.copy seen ⟧)
  in_turn g log seen true = qed 𝓛 (‵ (gate_share g log true) ∷ ‵ (copy three_quarters g.copy seen) ∷ []) ∵ fsplit ! $ move ! (0 ∷ 2 ∷ []) $
      use2 𝓛 (given (log ≡ seen) (‵ (copy quarter g.copy log) ⊛ ‵ (copy three_quarters g.copy seen))) (latest_agrees (logs entry_coded) 𝓛 quarter three_quarters g.copy log seen) $ learn ! (λ e. check ! e $ split ! $
      -- [the book's share; the pass's; the tickets]
      move ! (0 ∷ 2 ∷ []) $ fjoin ! $ done !)
  in_turn g log seen false = more_than_all (guard 𝓤 (log ≡ seen) (⟦ gate_share g log false ⟧ ∗ ⟦ copy three_quarters g.copy seen ⟧)) three_quarters g.copy log seen

  agrees_so : (g : Gate) (p : ℕ) (log seen : List Entry) → ⟦ gate_stands g log ⟧ ∗ ⟦ gate_gives g p seen ⟧ ⊢ guard 𝓤 (IsSole p → log ≡ seen) (⟦ gate_stands g log ⟧ ∗ ⟦ gate_gives g p seen ⟧)
  agrees_so g zero log seen = qed 𝓛 (‵ (gate_stands g log) ∷ ‵ (gate_gives g zero seen) ∷ []) ∵ fpick ! (λ b.
      use2 𝓛 (given (log ≡ seen) (‵ (gate_share g log b) ⊛ ‵ (copy three_quarters g.copy seen))) (in_turn g log seen b) $ learn ! (λ e. check ! (λ _. e) $ split ! $
      fpack ! Bool (gate_share g log) b $ done !))
  agrees_so g (suc p) log seen = qed 𝓛 (‵ (gate_stands g log) ∷ ‵ (gate_gives g (suc p) seen) ∷ []) ∵ check ! (λ x. absurd (let no : suc p ≡ 0 = x in cc)) $ done !

  pub agrees : (g : Gate) (p : ℕ) (log seen : List Entry) → ⟦ gate_keeps g log ⟧ ∗ ⟦ gate_gives g p seen ⟧ ⊢ guard 𝓤 (IsSole p → log ≡ seen) (⟦ gate_keeps g log ⟧ ∗ ⟦ gate_gives g p seen ⟧)
  agrees g p log seen = qed 𝓛 (‵ (gate_keeps g log) ∷ ‵ (gate_gives g p seen) ∷ []) ∵ fsplit ! $ move ! (1 ∷ 2 ∷ []) $
      use2 𝓛 (given (IsSole p → log ≡ seen) (‵ (gate_stands g log) ⊛ ‵ (gate_gives g p seen))) (agrees_so g p log seen) $ learn ! (λ e. check ! e $ split ! $
      -- [who may append; the pass's; the bound]
      move ! (2 ∷ 0 ∷ []) $ fjoin ! $ done !)

  -- they grow with the list
  both_grow : (η : ℕ) (log seen log' : List Entry) → IsPrefix log log' → log ≡ seen → ⟦ copy quarter η log ⟧ ∗ ⟦ copy three_quarters η seen ⟧ ⊢ upd 𝓤 (⟦ copy quarter η log' ⟧ ∗ ⟦ copy three_quarters η log' ⟧)
  both_grow η log seen log' p e = let l = logs entry_coded in let Z : Pr = ⟦ copy quarter η log' ⟧ ∗ ⟦ copy three_quarters η log' ⟧ in
      qed 𝓛 (‵ (copy quarter η log) ∷ ‵ (copy three_quarters η seen) ∷ []) ∵ move ! (1 ∷ 0 ∷ []) $ rewrite ! 0 (λ (x : List Entry). ‵ (copy three_quarters η x)) (sym e) refl $ move ! (1 ∷ 0 ∷ []) $
      use2 𝓛 (‵ (latest l full_share η log)) (latest_glue l 𝓛 full_share quarter three_quarters η log quarters) $
      use1 𝓛 (raw (upd 𝓤 ⟦ latest l full_share η log' ⟧)) (latest_grows l 𝓛 η log log' p) $ settle 𝓛 Z (‵ (latest l full_share η log')) $ suffices ! _ (upd_i 𝓤 Z) $
      by ! (latest_cut l 𝓛 full_share quarter three_quarters η log' quarters)

  abbrev Follows : Gate → ℕ → List Entry → Pr
  Follows g p log' = ⟦ gate_stands g log' ⟧ ∗ ⟦ gate_gives g p log' ⟧

  first_follows : (g : Gate) (log seen log' : List Entry) (b : Bool) → IsPrefix log log' → log ≡ seen → ⟦ gate_share g log b ⟧ ∗ ⟦ copy three_quarters g.copy seen ⟧ ⊢ upd 𝓤 (Follows g 0 log')
  first_follows g log seen log' true p e = let Z : Pr = Follows g 0 log' in qed 𝓛 (‵ (gate_share g log true) ∷ ‵ (copy three_quarters g.copy seen) ∷ []) ∵ fsplit ! $ move ! (0 ∷ 2 ∷ []) $
      use2 𝓛 (raw (upd 𝓤 (⟦ copy quarter g.copy log' ⟧ ∗ ⟦ copy three_quarters g.copy log' ⟧))) (both_grow g.copy log seen log' p e) $ settle 𝓛 Z (‵ (copy quarter g.copy log') ⊛ ‵ (copy three_quarters g.copy log')) $ split ! $ suffices ! _ (upd_i 𝓤 Z) $
      -- [the book's share; the pass's; the tickets]
      move ! (0 ∷ 2 ∷ []) $ fjoin ! $ fpack ! Bool (gate_share g log') true $ done !
  first_follows g log seen log' false p e = more_than_all (upd 𝓤 (Follows g 0 log')) three_quarters g.copy log seen

  one_follows : (g : Gate) (q : ℕ) (log seen log' : List Entry) (b : Bool) → IsPrefix log log' → ⟦ gate_share g log b ⟧ ∗ ⟦ one_out g.tickets ⟧ ⊢ upd 𝓤 (Follows g (suc q) log')
  one_follows g q log seen log' true p = let Z : Pr = upd 𝓤 (Follows g (suc q) log') in qed 𝓛 (‵ (gate_share g log true) ∷ ‵ (one_out g.tickets) ∷ []) ∵ fsplit ! $ move ! (1 ∷ 2 ∷ []) $
      use2 𝓛 (given ⊥ (‵ ftrue)) (none_back 𝓛 g.tickets (guard 𝓤 ⊥ ⟦ ftrue ⟧)) $ learn ! (λ x. absurd x)
  one_follows g q log seen log' false p = let Z : Pr = Follows g (suc q) log' in qed 𝓛 (‵ (gate_share g log false) ∷ ‵ (one_out g.tickets) ∷ []) ∵
      use1 𝓛 (raw (upd 𝓤 ⟦ copy full_share g.copy log' ⟧)) (latest_grows (logs entry_coded) 𝓛 g.copy log log' p) $ settle 𝓛 Z (‵ (copy full_share g.copy log')) $ suffices ! _ (upd_i 𝓤 Z) $
      fpack ! Bool (gate_share g log') false $ done !

  follows_so : (g : Gate) (p : ℕ) (log seen log' : List Entry) → IsPrefix log log' → (IsSole p → log ≡ seen) → ⟦ gate_stands g log ⟧ ∗ ⟦ gate_gives g p seen ⟧ ⊢ upd 𝓤 (Follows g p log')
  follows_so g zero log seen log' more e = qed 𝓛 (‵ (gate_stands g log) ∷ ‵ (gate_gives g zero seen) ∷ []) ∵ fpick ! (λ b. by ! (first_follows g log seen log' b more (e refl)))
  follows_so g (suc q) log seen log' more e = qed 𝓛 (‵ (gate_stands g log) ∷ ‵ (gate_gives g (suc q) seen) ∷ []) ∵ fpick ! (λ b. by ! (one_follows g q log seen log' b more))

  -- the event is within a size that the book had
  pub follows : (g : Gate) (p size : ℕ) (log seen : List Entry) (e : Entry) → OneWithin size e → (IsSole p → log ≡ seen)
      → ⟦ gate_keeps g log ⟧ ∗ ⟦ gate_gives g p seen ⟧ ∗ ⟦ had_size g.sizes size ⟧ ⊢ upd 𝓤 (⟦ gate_keeps g (log ++ e ∷ []) ⟧ ∗ ⟦ gate_gives g p (log ++ e ∷ []) ⟧)
  follows g p size log seen e within alone = let log' : List Entry = log ++ e ∷ [] in let Z : Pr = ⟦ gate_keeps g log' ⟧ ∗ ⟦ gate_gives g p log' ⟧ in
      qed 𝓛 (‵ (gate_keeps g log) ∷ ‵ (gate_gives g p seen) ∷ ‵ (had_size g.sizes size) ∷ []) ∵ fsplit ! $ move ! (0 ∷ 3 ∷ []) $ use2 𝓛 (‵ (bounded g.sizes log')) (bound_push 𝓛 g.sizes size log e within) $
      -- [the bound; who may append; the pass's]
      move ! (1 ∷ 2 ∷ []) $ use2 𝓛 (raw (upd 𝓤 (Follows g p log'))) (follows_so g p log seen log' (e ∷ [], refl) alone) $ settle 𝓛 Z (‵ (gate_stands g log') ⊛ ‵ (gate_gives g p log')) $ split ! $ suffices ! _ (upd_i 𝓤 Z) $
      move ! (2 ∷ 0 ∷ []) $ fjoin ! $ done !

  pub gives_as : (g : Gate) (p : ℕ) (a b : List Entry) → (IsSole p → a ≡ b) → ⟦ gate_gives g p a ⟧ ⊢ ⟦ gate_gives g p b ⟧
  gives_as g zero a b e = qed 𝓛 (‵ (gate_gives g zero a) ∷ []) ∵ rewrite ! 0 (λ (x : List Entry). ‵ (gate_gives g zero x)) (e refl) refl $ done !
  gives_as g (suc p) a b e = qed 𝓛 (‵ (gate_gives g (suc p) a) ∷ []) ∵ done !

  -- The porter comes home, and goes out again; at home it has what the first pass has.

  -- it has seen the whole list, where it is at home
  abbrev Stood : Gate → Bool → List Entry → List Entry → Pr
  Stood g home log seen = guard 𝓤 (home ≡ true → log ≡ seen) (⟦ gate_stands g log ⟧ ∗ ⟦ gate_leaves g true 0 log ⟧)

  abbrev pub Stands : Gate → Bool → List Entry → List Entry → Pr
  Stands g home log seen = guard 𝓤 (home ≡ true → log ≡ seen) (⟦ gate_keeps g log ⟧ ∗ ⟦ gate_leaves g true 0 log ⟧)

  abbrev at_home : ℕ → List Entry → Fml
  at_home η log = copy three_quarters η log

  packs_home : (g : Gate) (log : List Entry) → ⟦ at_home g.copy log ⟧ ⊢ ⟦ gate_leaves g true 0 log ⟧
  packs_home g log = qed 𝓛 (‵ (at_home g.copy log) ∷ []) ∵ nothing ! $ fpack ! (zero ≡ zero) (λ _. ftrue) refl $ move ! (1 ∷ 0 ∷ []) $ fjoin ! $ done !

  opens_home : (g : Gate) (out : ℕ) (seen : List Entry) → ⟦ gate_leaves g true out seen ⟧ ⊢ guard 𝓤 (out ≡ 0) ⟦ at_home g.copy seen ⟧
  opens_home g out seen = qed 𝓛 (‵ (gate_leaves g true out seen) ∷ []) ∵ fsplit ! $ move ! (1 ∷ []) $ fpick ! (λ none. drop ! $ check ! none $ done !)

  all_in : (g : Gate) (log : List Entry) (b : Bool) → ⟦ gate_share g log b ⟧ ∗ ⟦ all_but g.tickets 0 ⟧ ⊢ ⟦ gate_stands g log ⟧ ∗ ⟦ at_home g.copy log ⟧
  all_in g log true = qed 𝓛 (‵ (gate_share g log true) ∷ ‵ (all_but g.tickets 0) ∷ []) ∵ fsplit ! $ move ! (1 ∷ 2 ∷ []) $ use2 𝓛 (given ⊥ (‵ ftrue)) (all_once 𝓛 g.tickets (guard 𝓤 ⊥ ⟦ ftrue ⟧) 0 0) $ learn ! (λ x. absurd x)
  all_in g log false = qed 𝓛 (‵ (gate_share g log false) ∷ ‵ (all_but g.tickets 0) ∷ []) ∵
      use1 𝓛 (‵ (copy quarter g.copy log) ⊛ ‵ (at_home g.copy log)) (latest_cut (logs entry_coded) 𝓛 full_share quarter three_quarters g.copy log quarters) $ split ! $
      move ! (0 ∷ 2 ∷ []) $ fjoin ! $ fpack ! Bool (gate_share g log) true $ done !

  home_so : (g : Gate) (home : Bool) (log seen : List Entry) → ⟦ gate_stands g log ⟧ ∗ ⟦ gate_leaves g home 0 seen ⟧ ⊢ Stood g home log seen
  home_so g true log seen = qed 𝓛 (‵ (gate_stands g log) ∷ ‵ (gate_leaves g true 0 seen) ∷ []) ∵ move ! (1 ∷ []) $
      use1 𝓛 (given (zero ≡ zero) (‵ (at_home g.copy seen))) (opens_home g 0 seen) $ learn ! (λ _. move ! (1 ∷ []) $ fpick ! (λ b. move ! (0 ∷ 1 ∷ []) $
      use2 𝓛 (given (log ≡ seen) (‵ (gate_share g log b) ⊛ ‵ (at_home g.copy seen))) (in_turn g log seen b) $ learn ! (λ e. split ! $ fpack ! Bool (gate_share g log) b $
      move ! (1 ∷ []) $ rewrite ! 0 (λ (x : List Entry). ‵ (at_home g.copy x)) (sym e) refl $ use1 𝓛 (‵ (gate_leaves g true 0 log)) (packs_home g log) $
      check ! (λ _. e) $ move ! (1 ∷ 0 ∷ []) $ done !)))
  home_so g false log seen = qed 𝓛 (‵ (gate_stands g log) ∷ ‵ (gate_leaves g false 0 seen) ∷ []) ∵ fpick ! (λ b.
      use2 𝓛 (‵ (gate_stands g log) ⊛ ‵ (at_home g.copy log)) (all_in g log b) $ split ! $ move ! (1 ∷ []) $
      use1 𝓛 (‵ (gate_leaves g true 0 log)) (packs_home g log) $ check ! (λ e. absurd (let no : false ≡ true = e in cc)) $ move ! (1 ∷ 0 ∷ []) $ done !)

  pub comes_home : (g : Gate) (home : Bool) (log seen : List Entry) → ⟦ gate_keeps g log ⟧ ∗ ⟦ gate_leaves g home 0 seen ⟧ ⊢ Stands g home log seen
  comes_home g home log seen = qed 𝓛 (‵ (gate_keeps g log) ∷ ‵ (gate_leaves g home 0 seen) ∷ []) ∵ fsplit ! $ move ! (1 ∷ 2 ∷ []) $
      use2 𝓛 (given (home ≡ true → log ≡ seen) (‵ (gate_stands g log) ⊛ ‵ (gate_leaves g true 0 log))) (home_so g home log seen) $ learn ! (λ e. check ! e $ split ! $ move ! (2 ∷ 0 ∷ []) $ fjoin ! $ done !)

  open_once : (g : Gate) (log seen : List Entry) (b : Bool) → ⟦ gate_share g log b ⟧ ∗ ⟦ at_home g.copy seen ⟧ ⊢ ⟦ gate_stands g log ⟧ ∗ ⟦ all_but g.tickets 0 ⟧
  open_once g log seen true = let l = logs entry_coded in qed 𝓛 (‵ (gate_share g log true) ∷ ‵ (at_home g.copy seen) ∷ []) ∵ fsplit ! $ move ! (0 ∷ 2 ∷ []) $
      use2 𝓛 (given (log ≡ seen) (‵ (copy quarter g.copy log) ⊛ ‵ (at_home g.copy seen))) (latest_agrees l 𝓛 quarter three_quarters g.copy log seen) $ learn ! (λ e. split ! $
      move ! (1 ∷ 0 ∷ []) $ rewrite ! 0 (λ (x : List Entry). ‵ (at_home g.copy x)) (sym e) refl $ move ! (1 ∷ 0 ∷ []) $
      use2 𝓛 (‵ (gate_share g log false)) (latest_glue l 𝓛 full_share quarter three_quarters g.copy log quarters) $ fpack ! Bool (gate_share g log) false $ done !)
  open_once g log seen false = more_than_all (⟦ gate_stands g log ⟧ ∗ ⟦ all_but g.tickets 0 ⟧) three_quarters g.copy log seen

  -- it is no more at home
  off_so : (g : Gate) (home : Bool) (out : ℕ) (log seen : List Entry) → ⟦ gate_stands g log ⟧ ∗ ⟦ gate_leaves g home out seen ⟧ ⊢ ⟦ gate_stands g log ⟧ ∗ ⟦ gate_leaves g false out seen ⟧
  off_so g true out log seen = qed 𝓛 (‵ (gate_stands g log) ∷ ‵ (gate_leaves g true out seen) ∷ []) ∵ move ! (1 ∷ []) $
      use1 𝓛 (given (out ≡ 0) (‵ (at_home g.copy seen))) (opens_home g out seen) $ learn ! (λ none. move ! (1 ∷ []) $ fpick ! (λ b. move ! (0 ∷ 1 ∷ []) $
      use2 𝓛 (‵ (gate_stands g log) ⊛ ‵ (all_but g.tickets 0)) (open_once g log seen b) $ split ! $ move ! (1 ∷ []) $ rewrite ! 0 (λ (k : ℕ). ‵ (all_but g.tickets k)) (sym none) refl $
      move ! (1 ∷ 0 ∷ []) $ done !))
  off_so g false out log seen = qed 𝓛 (‵ (gate_stands g log) ∷ ‵ (gate_leaves g false out seen) ∷ []) ∵ done !

  pub goes_off : (g : Gate) (home : Bool) (out : ℕ) (log seen : List Entry) → ⟦ gate_keeps g log ⟧ ∗ ⟦ gate_leaves g home out seen ⟧ ⊢ ⟦ gate_keeps g log ⟧ ∗ ⟦ gate_leaves g false out seen ⟧
  goes_off g home out log seen = qed 𝓛 (‵ (gate_keeps g log) ∷ ‵ (gate_leaves g home out seen) ∷ []) ∵ fsplit ! $ move ! (1 ∷ 2 ∷ []) $
      use2 𝓛 (‵ (gate_stands g log) ⊛ ‵ (gate_leaves g false out seen)) (off_so g home out log seen) $ split ! $ move ! (2 ∷ 0 ∷ []) $ fjoin ! $ done !

  -- the first pass has what the porter has at home
  pub first_goes : (g : Gate) (seen : List Entry) → ⟦ gate_leaves g true 0 seen ⟧ ⊢ ⟦ gate_gives g 0 seen ⟧
  first_goes g seen = qed 𝓛 (‵ (gate_leaves g true 0 seen) ∷ []) ∵ use1 𝓛 (given (zero ≡ zero) (‵ (at_home g.copy seen))) (opens_home g 0 seen) $ learn ! (λ _. done !)

  pub first_comes : (g : Gate) (seen : List Entry) → ⟦ gate_gives g 0 seen ⟧ ⊢ ⟦ gate_leaves g true 0 seen ⟧
  first_comes g seen = packs_home g seen

  -- a pass goes out that is not the first, and one comes back
  pub gives_one : (g : Gate) (out p : ℕ) (seen had : List Entry) → (p ≡ 0 → ⊥) → ⟦ gate_leaves g false out had ⟧ ⊢ ⟦ gate_leaves g false (suc out) had ⟧ ∗ ⟦ gate_gives g p seen ⟧
  gives_one g out zero seen had other = absurd (other refl)
  gives_one g out (suc p) seen had other = goes_out 𝓛 g.tickets out

  pub takes_one : (g : Gate) (out p : ℕ) (seen had had' : List Entry) → (p ≡ 0 → ⊥) → ⟦ gate_leaves g false out had ⟧ ∗ ⟦ gate_gives g p seen ⟧ ⊢ guard 𝓤 (1 ≤ out) ⟦ gate_leaves g false (out - 1) had' ⟧
  takes_one g out zero seen had had' other = absurd (other refl)
  takes_one g out (suc p) seen had had' other = comes_back 𝓛 g.tickets out
