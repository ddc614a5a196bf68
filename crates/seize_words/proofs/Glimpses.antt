-- A step on a link's word by which a reader takes its share of what is lent with what the link holds, and what it has of that afterwards.
-- Assumes `Logic`.
use Rattle.std.proofs.Common.{◌≡◌, ℕ, zero, suc, Bool, true, false, List, [], ◌∷◌, ◌++◌, Option, Some, None, refl, subst}
use seplogic.Ra.Ura.{Ura}
use base.Fml.{Lft, Share, Fml, ftrue, fsep, flft, flent, fobor, fshr_bor}
use base.Logic.{SProp, ent, sep, upd, upd_i}
use types.Kit.{‵, raw, ◌⊛◌, later, updating, await, now, ◌$◌, ◌∵◌, !, qed, move, keep, drop, split, group, fsplit, fjoin, fpick, fpack, suffices, settle, done, use1, use2, use3}
use types.Logic.{Logic, sem}
use denote.SharingLaws.{nothing_shr_laws}
use denote.Steps.{nothing}
use Rattle.seize_content.specs.Contents.{sight_owns}
use Rattle.seize_content.specs.Readers.{escrow, ready}
use Rattle.seize_content.proofs.Readers.{left_empty, settled}
use Rattle.seize_machine.specs.Machine.State.{link_at}
use Rattle.seize_words.specs.Atomic.{FindsFor}
use Rattle.seize_book.specs.Book.{after, kind_of, links}
use Rattle.seize_book.specs.Entry.{Entry, entry_coded}
use Rattle.seize_words.specs.Glimpses.{glimpse, sight_if, sight_of, taken_if, taken_share, value_shown}
use Rattle.seize_book.specs.Ledger.{HeldKey, reached}
use Rattle.seize_book.specs.Loans.{Carries, loan_of}
use Rattle.seize_words.specs.Stepping.{At, FoundAs}
use Rattle.seize_book.specs.Tokens.{Name, keys_own, pass_holds, start}
use Rattle.seize_words.specs.Words.{AreOtherKeys, AreOtherKeysOf, IsKeyOf, Site}
use Rattle.seize_book.specs.declared.book.pass.Pass.{Pass}
use Rattle.seize_book.proofs.Lives.{living}
use Rattle.seize_book.proofs.Peeks.{sight_laws}
use Rattle.seize_words.proofs.Sights.{keys_read}
use Rattle.seize_book.proofs.Loans.{pass_shows}
use Rattle.seize_words.proofs.Links.{found_first}
use Rattle.seize_words.proofs.Steps.{Takes, had_then, left_then}

module _ {M : Type 1} {𝓤 : Ura M} (𝓛 : Logic 𝓤) where
  open 𝓛 use {H, A}

  abbrev Pr : Type 2
  Pr = SProp 𝓤

  abbrev ◌⊢◌ : Pr → Pr → Type 1
  P ⊢ Q = ent 𝓤 P Q

  abbrev ◌∗◌ : Pr → Pr → Pr
  P ∗ Q = sep 𝓤 P Q

  abbrev ⟦◌⟧ : Fml → Pr
  ⟦ P ⟧ = sem 𝓛 P

  infix 26 ◌⊢◌
  infixr 35 ◌∗◌
  -- what a reader brings to its step, and what it has then
  abbrev pub brought : ℕ → ℕ → Pr
  brought a γ = ⟦ ready γ ⟧ ∗ ⟦ flent (a ∷ []) (escrow γ) ⟧

  module _ (site : Site) (pass : Pass) (held : List (HeldKey Entry)) (a : ℕ) (others : List ℕ) (r : Share) (f : ℕ → ℕ) (entry : ℕ → List Entry → Entry) (trades : ℕ → Bool) (γ : ℕ) where
    abbrev n : Name
    n = site.name

    abbrev pub seen_there : ℕ → At → Option ℕ
    seen_there v t = value_shown (trades v) (link_at (after (start n) t.0) site.number)

    abbrev pub had_of : ℕ → At → Fml
    had_of v t = fsep (living 𝓛 (a ∷ others) r) (taken_share γ (seen_there v t))

    abbrev then_ : ℕ → At → List Entry → At
    then_ v t log = had_then 𝓛 site [] pass.id pass.seen held (a ∷ others) [] r f entry trades v t log

    abbrev left : ℕ → At → List Entry → List (HeldKey Entry)
    left v t log = left_then 𝓛 site [] pass.id pass.seen held (a ∷ others) [] r f entry trades v t log

    abbrev log_of : ℕ → List Entry → List Entry
    log_of v log = log ++ entry v log ∷ []

    abbrev old : ℕ → List Entry → Option ℕ
    old v log = link_at (after (start n) (log_of v log)) site.number

    is_key : site.kind ≡ links → (v : ℕ) (t : At) (log : List Entry) → AreOtherKeys site (log_of v log) (left v t log) → IsKeyOf (old v log) (left v t log)
    is_key link v t log stands = subst (λ (k : ℕ). AreOtherKeysOf n (kind_of k) site.number (log_of v log) (left v t log)) link stands

    Shares : ℕ → At → List Entry → Bool → Type 1
    Shares v t log b =
        ⟦ reached entry_coded n.log (log_of v log) ⟧ ∗ ⟦ keys_own n (left v t log) ⟧ ∗ ⟦ ready γ ⟧ ∗ ⟦ flent (a ∷ []) (escrow γ) ⟧ ⊢ upd 𝓤 (⟦ keys_own n (left v t log) ⟧ ∗ ⟦ taken_share γ (value_shown b (old v log)) ⟧)

    shares : (link : site.kind ≡ links) → FindsFor site pass held a entry trades → (v : ℕ) (t : At) (log : List Entry) → FoundAs site v pass.id pass.seen held (a ∷ others) t log → AreOtherKeys site (log_of v log) (left v t log)
        → (b : Bool) → trades v ≡ b → Shares v t log b
    unfolding Shares
    shares link finds v t log found stands true e = let Z : Pr = ⟦ keys_own n (left v t log) ⟧ ∗ ⟦ ready γ ⟧ in
        qed 𝓛 (‵ (reached entry_coded n.log (log_of v log)) ∷ ‵ (keys_own n (left v t log)) ∷ ‵ (ready γ) ∷ ‵ (flent (a ∷ []) (escrow γ)) ∷ []) ∵ suffices ! _ (upd_i 𝓤 Z) $ keep ! (1 ∷ 2 ∷ []) $ done !
    shares link finds v t log found stands false e = keys_read 𝓛 n a γ (log_of v log) (old v log) (left v t log) (is_key link v t log stands) (λ w is. finds v t log (found_first a others found) e w is)

    pub takes : site.kind ≡ links → FindsFor site pass held a entry trades → Takes 𝓛 site [] pass.id pass.seen held (a ∷ others) [] r f entry trades (brought a γ) had_of
    unfolding Shares
    takes link finds v t log found stepped stands = let log' : List Entry = log_of v log in let keys : Fml = keys_own n (left v t log) in let P : Fml = pass_holds n pass.id log' in let o : Option ℕ = seen_there v (then_ v t log) in
        let Z : Pr = ⟦ P ⟧ ∗ ⟦ keys ⟧ ∗ ⟦ had_of v (then_ v t log) ⟧ in
        qed 𝓛 (‵ P ∷ ‵ keys ∷ ‵ (living 𝓛 (a ∷ others) r) ∷ (‵ (ready γ) ⊛ ‵ (flent (a ∷ []) (escrow γ))) ∷ []) ∵ use1 𝓛 (‵ P ⊛ ‵ (reached entry_coded n.log log')) (pass_shows 𝓛 n pass.id log') $ split ! $
        -- [the pass; the list; the keys; the token; the escrow and the right to it]
        move ! (4 ∷ []) $ split ! $ move ! (3 ∷ 4 ∷ 0 ∷ 1 ∷ []) $ group ! 4 $ use1 𝓛 (raw (upd 𝓤 (⟦ keys ⟧ ∗ ⟦ taken_share γ o ⟧))) (shares link finds v t log found stands (trades v) refl) $
        settle 𝓛 Z (‵ keys ⊛ ‵ (taken_share γ o)) $ suffices ! _ (upd_i 𝓤 Z) $ split ! $
        -- [the keys; what was taken; the pass; the token]
        move ! (3 ∷ 1 ∷ []) $ fjoin ! $ move ! (2 ∷ 1 ∷ 0 ∷ []) $ done !

  -- after the step
  module _ (a γ : ℕ) (κ : Lft) (q : Share) where
    abbrev β : Lft
    β = a ∷ []

    closes_of : (k v : ℕ) → ⟦ taken_if k γ v ⟧ ∗ A.obor β q (escrow γ) ∗ A.shr_bor κ (λ s. flft β s) ⊢ H.⇛ (⟦ sight_if k κ v ⟧ ∗ A.lft β q)
    closes_of zero v = qed 𝓛 (‵ (ready γ) ∷ ‵ (fobor β q (escrow γ)) ∷ ‵ (fshr_bor κ (λ s. flft β s)) ∷ []) ∵ updating ! $ use2 𝓛 (later (‵ (flft β q))) (left_empty 𝓛 β q γ) $ await ! tt $ now ! $ nothing ! $ keep ! (0 ∷ 1 ∷ []) $ done !
    closes_of (suc k) v = qed 𝓛 (‵ (taken_if (suc k) γ v) ∷ ‵ (fobor β q (escrow γ)) ∷ ‵ (fshr_bor κ (λ s. flft β s)) ∷ []) ∵ updating ! $ fpick ! (λ t. fsplit ! $ fpick ! (λ carries. drop ! $
        let C : Type 0 = Carries v t.content t.code in use3 𝓛 (later (‵ (sight_owns κ t.content t.life t.code) ⊛ ‵ (flft β q))) (settled 𝓛 t.content t.life t.code β κ q γ t.share) $ await ! tt $ split ! $
        nothing ! $ fpack ! C (λ _. ftrue) carries $ move ! (0 ∷ 1 ∷ []) $ fjoin ! $ fpack ! (ℕ × (ℕ × _)) (sight_of κ v) (t.content, (t.life, t.code)) $ now ! $ keep ! (0 ∷ 1 ∷ []) $ done !))

    pub closes_glimpse : (o : Option ℕ) → ⟦ taken_share γ o ⟧ ∗ A.obor β q (escrow γ) ∗ A.shr_bor κ (λ s. flft β s) ⊢ H.⇛ (⟦ glimpse κ o ⟧ ∗ A.lft β q)
    closes_glimpse None = closes_of zero 0
    closes_glimpse (Some v) = closes_of (loan_of v) v

  -- what a glimpse shows it shows twice
  pub glimpse_twice : (κ : Lft) (o : Option ℕ) → ⟦ glimpse κ o ⟧ ⊢ ⟦ glimpse κ o ⟧ ∗ ⟦ glimpse κ o ⟧
  glimpse_twice κ None = nothing_shr_laws.contraction M 𝓤 𝓛 κ
  glimpse_twice κ (Some v) = (sight_laws (loan_of v) v).contraction M 𝓤 𝓛 κ
