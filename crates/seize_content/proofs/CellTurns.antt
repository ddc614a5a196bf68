-- What the holder of a cell's token does with a cell that is shared: the value comes out of the cell's invariant by a ghost step, is read
-- and written, and goes back by another. Meanwhile a share of the sharing's lifetime lies there in its place. Assumes `Logic`.
use Rattle.std.proofs.Common.{◌≡◌, ℕ, [], ◌∷◌, refl, sym}
use seplogic.Ra.Ura.{Ura}
use base.Fraction.{full_share}
use base.Share
use base.Stored.{Gv}
use base.Logic.{SProp, ent, sep, wand, ex, all, guard, upd, upd_i, apply∗}
use base.Fml.{Lft, Share, Fml, ftrue, flft, fbor, fnamed}
use types.Logic.{Logic, sem}
use types.Tokens.{name_agree}
use types.Kit.{‵, raw, ◌⊛◌, some as exists, given as when, later, ◌$◌, ◌∵◌, !, qed, move, drop, split, group, fsplit, fjoin, fpick, fpack, pick, learn, show, check, each, assume, frame, suffices, settle, use1, use2, rewrite, updating, await, now, done}
use denote.Memory.{part_at}
use denote.RattleType.{RattleType}
use denote.RawPtr.{block_ptr}
use denote.Steps.{nothing}
use contract.Shared.{Lends-one}
use contract.Running.{Running}
use prog.Model.{Model}
use Rattle.seize_content.specs.Cells.{CellState, there, away, turn_coded, token_says, cell_says, cell_token, lying, lies, turned, turning, cell_shares}
use Rattle.seize_content.proofs.Places.{opened}

module _ {M : Type 1} {𝓤 : Ura M} (𝓛 : Logic 𝓤) (R : RattleType) (fits : R.Denot → Type 0) (γ b o : ℕ) where
  open 𝓛 use {H, A}

  abbrev Pr : Type 2
  Pr = SProp 𝓤

  abbrev ◌⊢◌ : Pr → Pr → Type 1
  P ⊢ Q = ent 𝓤 P Q

  abbrev ◌∗◌ : Pr → Pr → Pr
  P ∗ Q = sep 𝓤 P Q

  abbrev ⟦◌⟧ : Fml → Pr
  ⟦ P ⟧ = sem 𝓛 P

  infix 26 ◌⊢◌
  infixr 35 ◌∗◌
  abbrev value : R.Denot → Fml
  value x = part_at R full_share x b o

  module _ (ν : Lft) (r : Share) where
    abbrev I : Fml
    I = turning R fits γ b o ν

    -- both halves of the name go to another turn
    turns : (s t u : CellState) → ⟦ token_says γ s ⟧ ∗ ⟦ cell_says γ t ⟧ ⊢ upd 𝓤 (⟦ token_says γ u ⟧ ∗ ⟦ cell_says γ u ⟧)
    turns s t u = 𝓛.names.name_set_upd γ (turn_coded.code s) (turn_coded.code t) (turn_coded.code u)

    abbrev Out : Gv → R.Denot → Pr
    Out g x = guard 𝓤 ((R.coded.code x ≡ g) × fits x) (⟦ value x ⟧ ∗ ⟦ token_says γ (away r) ⟧)

    takes : (g : Gv) → ⟦ I ⟧ ∗ ⟦ cell_token γ g ⟧ ∗ ⟦ flft ν r ⟧ ⊢ upd 𝓤 (⟦ I ⟧ ∗ ex 𝓤 (Out g))
    takes g = let Z : Pr = ⟦ I ⟧ ∗ ex 𝓤 (Out g) in let t : CellState = away r in
        qed 𝓛 (‵ I ∷ ‵ (cell_token γ g) ∷ ‵ (flft ν r) ∷ []) ∵ fpick ! (λ s. fsplit ! $ move ! (2 ∷ 0 ∷ []) $ name_agree ! turn_coded {x = there g} {y = s} (λ same.
        use2 𝓛 (raw (upd 𝓤 (⟦ token_says γ t ⟧ ∗ ⟦ cell_says γ t ⟧))) (turns (there g) s t) $ settle 𝓛 Z (‵ (token_says γ t) ⊛ ‵ (cell_says γ t)) $ suffices ! _ (upd_i 𝓤 Z) $ split ! $
        -- [the token's half; the cell's; the value; the share]
        move ! (2 ∷ []) $ rewrite ! 0 (λ (u : CellState). ‵ (lies R fits γ b o ν u)) (sym same) refl $ fpick ! (λ x. fsplit ! $ fpick ! (λ is. drop ! $
        move ! (2 ∷ 3 ∷ []) $ fjoin ! $ fpack ! CellState (turned R fits γ b o ν) t $ frame ! $ show ! (Out g) x $ check ! is $ done !))))

    lays : (x : R.Denot) → fits x → ⟦ I ⟧ ∗ ⟦ token_says γ (away r) ⟧ ∗ ⟦ value x ⟧ ⊢ upd 𝓤 (⟦ I ⟧ ∗ ⟦ cell_token γ (R.coded.code x) ⟧ ∗ ⟦ flft ν r ⟧)
    lays x fit = let g : Gv = R.coded.code x in let Z : Pr = ⟦ I ⟧ ∗ ⟦ cell_token γ g ⟧ ∗ ⟦ flft ν r ⟧ in let t : CellState = there g in
        qed 𝓛 (‵ I ∷ ‵ (token_says γ (away r)) ∷ ‵ (value x) ∷ []) ∵ fpick ! (λ s. fsplit ! $ move ! (2 ∷ 0 ∷ []) $ name_agree ! turn_coded {x = away r} {y = s} (λ same.
        use2 𝓛 (raw (upd 𝓤 (⟦ token_says γ t ⟧ ∗ ⟦ cell_says γ t ⟧))) (turns (away r) s t) $ settle 𝓛 Z (‵ (token_says γ t) ⊛ ‵ (cell_says γ t)) $ suffices ! _ (upd_i 𝓤 Z) $ split ! $
        -- [the token; the cell's half; the share; the value]
        move ! (2 ∷ []) $ rewrite ! 0 (λ (u : CellState). ‵ (lies R fits γ b o ν u)) (sym same) refl $
        nothing ! $ fpack ! ((g ≡ g) × fits x) (λ _. ftrue) (refl, fit) $ move ! (0 ∷ 4 ∷ []) $ fjoin ! $ fpack ! R.Denot (lying R fits γ b o ν g) x $
        move ! (3 ∷ 0 ∷ []) $ fjoin ! $ fpack ! CellState (turned R fits γ b o ν) t $ frame ! $ move ! (1 ∷ 0 ∷ []) $ done !))

  -- ---- through a `&`
  module _ (𝓜 : Model 𝓤 𝓛.H) (𝓡 : Running 𝓤 𝓛.H 𝓜) (κ : Lft) (q : Share) where
    -- a value that may lie there
    abbrev pub Fitting : Type 0
    Fitting = (y : R.Denot) × fits y

    abbrev pub Laid : Fitting → Pr
    Laid w = wand 𝓤 ⟦ value w.0 ⟧ (H.⇛ (⟦ cell_token γ (R.coded.code w.0) ⟧ ∗ A.lft κ q))

    abbrev pub Shut : Pr
    Shut = all 𝓤 Laid

    abbrev pub Taken : Gv → R.Denot → Pr
    Taken g x = guard 𝓤 ((R.coded.code x ≡ g) × fits x) (⟦ value x ⟧ ∗ Shut)

    pub takes_out : (g : Gv) → ⟦ cell_shares R fits γ (block_ptr b o) κ ⟧ ∗ A.lft κ q ∗ ⟦ cell_token γ g ⟧ ⊢ H.⇛ (ex 𝓤 (Taken g))
    takes_out g = qed 𝓛 (‵ (cell_shares R fits γ (block_ptr b o) κ) ∷ ‵ (flft κ q) ∷ ‵ (cell_token γ g) ∷ []) ∵ updating ! $ fpick ! (λ t. let ν : Lft = t.0 in let N : Fml = fnamed t.1 (fbor ν (turning R fits γ b o ν)) in fsplit ! $ move ! (0 ∷ 2 ∷ []) $
        use2 𝓛 (later (exists (λ (s : Share). ‵ (flft ν s) ⊛ raw (wand 𝓤 (A.lft ν s) (H.⇛ (A.lft κ q)))))) (Lends-one 𝓛 𝓜 𝓡 κ ν q) $ await ! tt $ pick ! (λ s. let l : Share = Share.left s in let r : Share = Share.right s in split ! $
        use1 𝓛 (‵ (flft ν l) ⊛ ‵ (flft ν r)) (𝓛.lfts.lft_split ν s) $ split ! $
        -- [the share to be left there; its token; the way back; the invariant; the token]
        move ! (3 ∷ []) $ use1 𝓛 (‵ N ⊛ ‵ N) (𝓛.invs.named_dup t.1 (fbor ν (turning R fits γ b o ν))) $ split ! $ move ! (0 ∷ 3 ∷ 5 ∷ 2 ∷ []) $ group ! 4 $
        use1 𝓛 (later (exists (λ (x : R.Denot). when ((R.coded.code x ≡ g) × fits x) (‵ (value x) ⊛ ‵ (token_says γ (away l)))) ⊛ ‵ (flft ν r)))
        (opened 𝓛 t.1 ν r (turning R fits γ b o ν) (⟦ cell_token γ g ⟧ ∗ ⟦ flft ν l ⟧) (ex 𝓤 (Out ν l g)) (takes ν l g)) $ await ! tt $ split ! $ pick ! (λ x. learn ! (λ is. split ! $
        -- [the value; the token's half; its token; the invariant; the way back]
        now ! $ show ! (Taken g) x $ check ! is $ frame ! $ each ! Laid (λ w. let y : R.Denot = w.0 in assume ! (‵ (value y)) $ updating ! $ move ! (3 ∷ 2 ∷ 1 ∷ 0 ∷ []) $ group ! 4 $
        use1 𝓛 (later ((‵ (cell_token γ (R.coded.code y)) ⊛ ‵ (flft ν l)) ⊛ ‵ (flft ν r))) (opened 𝓛 t.1 ν r (turning R fits γ b o ν) (⟦ token_says γ (away l) ⟧ ∗ ⟦ value y ⟧) (⟦ cell_token γ (R.coded.code y) ⟧ ∗ ⟦ flft ν l ⟧) (lays ν l y w.1)) $
        await ! tt $ split ! $ split ! $ move ! (1 ∷ 2 ∷ []) $ use2 𝓛 (‵ (flft ν s)) (𝓛.lfts.lft_join ν s) $ move ! (0 ∷ 2 ∷ []) $ use2 𝓛 (later (‵ (flft κ q))) (apply∗ 𝓤 (A.lft ν s) (H.⇛ (A.lft κ q))) $ await ! tt $
        move ! (1 ∷ 0 ∷ []) $ now ! $ done !)))))
