-- A pass has its ticket as a borrow: a walk with it opens the ticket where it begins, and closes it where it ends. Assumes `Logic`.
--     waits              what there is while it is open: the open borrow, or the token itself where there is no lifetime to wait for
--     opened, closed     a pass is one with its ticket in hand while its borrow is open
--     beside_open        the same, with the pass's size
--     opens_pass, closes_pass      a `&mut` to a pass is opened in a walk, and closed. The tokens of both borrows are one entry
--     opens_adder        it is opened to add an event
--     two_out, two_in    that entry out of the tokens of a walk, and back
use Rattle.std.proofs.Common.{◌≡◌, ℕ, zero, suc, List, [], ◌∷◌, refl}
use seplogic.Ra.Ura.{Ura}
use base.Fraction.{full_share}
use base.Logic.{SProp, ent, sep, emp}
use base.Stored.{Gv}
use base.Fml.{Lft, GName, Share, Fml, fsep, fobs, fauth, flft, fbor, fobor}
use mir.Val.{Val, vstruct, vnil}
use types.Logic.{Logic, sem}
use types.Kit.{Goal, Soaks, Step, Seq, Item, step, ‵, ◌⊛◌, later, ◌$◌, ◌∵◌, !, qed, move, split, join, fsplit, fsplit3, fjoin, fjoin3, fpick, fpack, rewrite, use1, use2, await, updating, now, done}
use types.SemTy.{Body}
use types.Tokens.{bor_open, obor_close}
use denote.Builtin.{unit}
use denote.Memory.{cell_at, mem}
use denote.RattleType.{RattleType}
use denote.Ref.{NamedLft, ShrRef}
use denote.Shadow.{makes_shadow}
use denote.Steps.{opens, closes}
use denote.Struct.Struct.{Struct}
use Rattle.core.specs.contracts.marker.PhantomData as marker
use Rattle.seize_book.specs.Entry.{Entry}
use Rattle.seize_book.specs.Bounds.{had_size}
use Rattle.seize_book.specs.Tokens.{Gate, Name, adder_owns, gate_gives, gate_lends, lent_at, lent_pass, one_out, pass_at, pass_owns}
use Rattle.seize_book.specs.contracts.book.pass.Pass as Pass
use Rattle.seize_book.proofs.Bounds.{had_twice}
use Rattle.seize_book.proofs.Fields.{token}

abbrev pub waits : Gate → Lft → Share → ℕ → Fml
waits g κ q zero = flft κ q
waits g κ q (suc p) = fobor κ q (one_out g.tickets)

abbrev pub beside_open : Gate → Lft → Share → ℕ → ℕ → Fml
beside_open g κ q p size = fsep (had_size g.sizes size) (waits g κ q p)

module _ {M : Type 1} {𝓤 : Ura M} (𝓛 : Logic 𝓤) where
  open 𝓛 use {H, A}

  abbrev Pr : Type 2
  Pr = SProp 𝓤

  abbrev ◌⊢◌ : Pr → Pr → Type 1
  P ⊢ Q = ent 𝓤 P Q

  abbrev ◌∗◌ : Pr → Pr → Pr
  P ∗ Q = sep 𝓤 P Q

  abbrev ⟦◌⟧ : Fml → Pr
  ⟦ P ⟧ = sem 𝓛 P

  infix 26 ◌⊢◌
  infixr 35 ◌∗◌
  module _ (κ : Lft) (q : Share) (seen : List Entry) where
    ticket_open : (g : Gate) (p : ℕ) → ⟦ gate_lends g κ p seen ⟧ ∗ A.lft κ q ⊢ H.⇛ (⟦ gate_gives g p seen ⟧ ∗ ⟦ waits g κ q p ⟧)
    ticket_open g zero = qed 𝓛 (‵ (gate_lends g κ zero seen) ∷ ‵ (flft κ q) ∷ []) ∵ updating ! $ now ! $ done !
    ticket_open g (suc p) = qed 𝓛 (‵ (fbor κ (one_out g.tickets)) ∷ ‵ (flft κ q) ∷ []) ∵ updating ! $ bor_open ! tt $ now ! $ move ! (1 ∷ 0 ∷ []) $ done !

    ticket_closed : (g : Gate) (p : ℕ) → ⟦ gate_gives g p seen ⟧ ∗ ⟦ waits g κ q p ⟧ ⊢ H.⇛ (⟦ gate_lends g κ p seen ⟧ ∗ A.lft κ q)
    ticket_closed g zero = qed 𝓛 (‵ (gate_gives g zero seen) ∷ ‵ (flft κ q) ∷ []) ∵ updating ! $ now ! $ done !
    ticket_closed g (suc p) = qed 𝓛 (‵ (one_out g.tickets) ∷ ‵ (fobor κ q (one_out g.tickets)) ∷ []) ∵ updating ! $ move ! (1 ∷ 0 ∷ []) $ obor_close ! tt $ now ! $ done !

  module _ (n : Name) (p : ℕ) (seen : List Entry) where
    module _ (κ : Lft) (q : Share) where
      pub opened : ⟦ lent_pass n κ p seen ⟧ ∗ A.lft κ q ⊢ H.⇛ (⟦ pass_owns n p seen ⟧ ∗ ⟦ waits n.gate κ q p ⟧)
      opened = qed 𝓛 (‵ (lent_pass n κ p seen) ∷ ‵ (flft κ q) ∷ []) ∵ updating ! $ fsplit ! $ move ! (1 ∷ []) $ fpick ! (λ own. fsplit3 ! $ move ! (2 ∷ []) $ fsplit ! $
          -- [the ticket's loan; what is so; the key; what was reached; the book; the token]
          move ! (0 ∷ 5 ∷ []) $ use2 𝓛 (later (‵ (gate_gives n.gate p seen) ⊛ ‵ (waits n.gate κ q p))) (ticket_open κ q seen n.gate p) $ await ! tt $ split ! $
          -- [the ticket; what waits; what is so; the key; what was reached; the book]
          move ! (0 ∷ 2 ∷ []) $ fjoin ! $ move ! (2 ∷ 3 ∷ 0 ∷ []) $ fjoin3 ! $ fpack ! (List Entry) (pass_at n p seen) own $ move ! (2 ∷ 0 ∷ []) $ fjoin ! $ now ! $ done !)

      pub closed : ⟦ pass_owns n p seen ⟧ ∗ ⟦ waits n.gate κ q p ⟧ ⊢ H.⇛ (⟦ lent_pass n κ p seen ⟧ ∗ A.lft κ q)
      closed = qed 𝓛 (‵ (pass_owns n p seen) ∷ ‵ (waits n.gate κ q p) ∷ []) ∵ updating ! $ fsplit ! $ move ! (1 ∷ []) $ fpick ! (λ own. fsplit3 ! $ move ! (2 ∷ []) $ fsplit ! $
          move ! (0 ∷ 5 ∷ []) $ use2 𝓛 (later (‵ (gate_lends n.gate κ p seen) ⊛ ‵ (flft κ q))) (ticket_closed κ q seen n.gate p) $ await ! tt $ split ! $
          -- [the ticket's loan; the token; what is so; the key; what was reached; the book]
          move ! (0 ∷ 2 ∷ []) $ fjoin ! $ move ! (2 ∷ 3 ∷ 0 ∷ []) $ fjoin3 ! $ fpack ! (List Entry) (lent_at n κ p seen) own $ move ! (2 ∷ 0 ∷ []) $ fjoin ! $ now ! $ done !)

abbrev pub Mark : NamedLft → RattleType
Mark ℓ = Struct record { name = []; args = []; types = []; fields = marker.the_row (ShrRef ℓ.mir ℓ.lft unit) ∷ [] }

pub mark_made : {M : Type 1} {𝓤 : Ura M} (𝓛 : Logic 𝓤) (ℓ : NamedLft) → ent 𝓤 (emp 𝓤) (sem 𝓛 ((Mark ℓ).own_val (record {}, tt) (token ∷ [])))
mark_made 𝓛 ℓ = makes_shadow 𝓛 ((Mark ℓ).own_val (record {}, tt) (token ∷ [])) (λ vss. (tt, ((λ uss. (tt, tt)), tt))) ((vstruct vnil ∷ [], tt), (refl, ((tt, (refl, tt)), tt)))

module _ {M : Type 1} {𝓤 : Ura M} {𝓛 : Logic 𝓤} {K : Type 0} {Γ : List (Item 𝓤)} {G : Goal 𝓤 𝓛.H} where
  pub opens_pass : K → Soaks G → (ℓ : NamedLft) (h : (Pass.the_row ℓ).Denot) → {κ : Lft} {q s : Share} {γ : GName} (b o : ℕ)
      → ((vs : List Val) → Seq K 𝓛 (‵ (pass_owns h.name h.id h.seen) ∷ (‵ ((Mark ℓ).own_val (record {}, tt) vs) ⊛ ‵ (beside_open h.name.gate ℓ.lft s h.id h.size)) ∷ ‵ (cell_at full_share (Pass.the_row ℓ).mir vs b o) ∷ ‵ (fobor κ q (Body (mem (Pass.the_row ℓ)) b o γ)) ∷ ‵ (fobs γ ((Pass.the_row ℓ).coded.code h)) ∷ ‵ (fauth γ ((Pass.the_row ℓ).coded.code h)) ∷ Γ) G)
      → Seq K 𝓛 (‵ (fobs γ ((Pass.the_row ℓ).coded.code h)) ∷ ‵ (fbor κ (Body (mem (Pass.the_row ℓ)) b o γ)) ∷ (‵ (flft κ q) ⊛ ‵ (flft ℓ.lft s)) ∷ Γ) G
  opens_pass t z ℓ h {κ} {q} {s} b o k = move t (2 ∷ []) $ split t $ move t (2 ∷ 3 ∷ 0 ∷ []) $ opens t z (Pass.the_row ℓ) b o (λ vs. move t (1 ∷ []) $ fsplit t $
      -- [its marker; the pass; its cell, in four entries; the token of its ticket's loan]
      move t (1 ∷ []) $ fsplit t $ move t (1 ∷ 7 ∷ []) $ use2 𝓛 (later (‵ (pass_owns h.name h.id h.seen) ⊛ ‵ (waits h.name.gate ℓ.lft s h.id))) (opened 𝓛 h.name h.id h.seen ℓ.lft s) $ await t z $ split t $
      -- [the pass; what waits; its size; its marker; its cell, in four entries]
      move t (2 ∷ 1 ∷ []) $ fjoin t $ move t (2 ∷ 0 ∷ []) $ join t $ move t (1 ∷ []) $ k vs)

  pub opens_adder : K → Soaks G → (ℓ : NamedLft) (h : (Pass.the_row ℓ).Denot) → {κ : Lft} {q s : Share} {γ : GName} (b o : ℕ)
      → ((vs : List Val) → Seq K 𝓛 (‵ (adder_owns h.name h.id h.size h.seen) ∷ (‵ ((Mark ℓ).own_val (record {}, tt) vs) ⊛ ‵ (beside_open h.name.gate ℓ.lft s h.id h.size)) ∷ ‵ (cell_at full_share (Pass.the_row ℓ).mir vs b o) ∷ ‵ (fobor κ q (Body (mem (Pass.the_row ℓ)) b o γ)) ∷ ‵ (fobs γ ((Pass.the_row ℓ).coded.code h)) ∷ ‵ (fauth γ ((Pass.the_row ℓ).coded.code h)) ∷ Γ) G)
      → Seq K 𝓛 (‵ (fobs γ ((Pass.the_row ℓ).coded.code h)) ∷ ‵ (fbor κ (Body (mem (Pass.the_row ℓ)) b o γ)) ∷ (‵ (flft κ q) ⊛ ‵ (flft ℓ.lft s)) ∷ Γ) G
  opens_adder t z ℓ h {s = s} b o k = opens_pass t z ℓ h {s = s} b o (λ vs. fsplit t $ move t (2 ∷ []) $ split t $ move t (1 ∷ []) $ fsplit t $
      -- [its size; what waits; its marker; the book; the pass; its cell, in four entries]
      use1 𝓛 (‵ (had_size h.name.gate.sizes h.size) ⊛ ‵ (had_size h.name.gate.sizes h.size)) (had_twice 𝓛 h.name.gate.sizes h.size) $ split t $
      move t (0 ∷ 5 ∷ []) $ fjoin t $ move t (4 ∷ 0 ∷ []) $ fjoin t $
      -- [the pass; its size; what waits; its marker; its cell, in four entries]
      move t (1 ∷ 2 ∷ []) $ fjoin t $ move t (2 ∷ 0 ∷ []) $ join t $ move t (1 ∷ 0 ∷ []) $ k vs)

  pub closes_pass : K → Soaks G → (ℓ : NamedLft) → {κ : Lft} {q s : Share} {g : Gate} {u v : Gv} (h : (Pass.the_row ℓ).Denot) → g ≡ h.name.gate → (vs : List Val) {γ : GName} (b o : ℕ)
      → Step K 𝓛 (‵ (fobs γ ((Pass.the_row ℓ).coded.code h)) ∷ ‵ (fbor κ (Body (mem (Pass.the_row ℓ)) b o γ)) ∷ (‵ (flft κ q) ⊛ ‵ (flft ℓ.lft s)) ∷ Γ) G
      (‵ (cell_at full_share (Pass.the_row ℓ).mir vs b o) ∷ ((‵ ((Mark ℓ).own_val (record {}, tt) vs) ⊛ ‵ (beside_open g ℓ.lft s h.id h.size)) ⊛ ‵ (pass_owns h.name h.id h.seen)) ∷ ‵ (fobor κ q (Body (mem (Pass.the_row ℓ)) b o γ)) ∷ ‵ (fobs γ u) ∷ ‵ (fauth γ v) ∷ Γ) G
  closes_pass t z ℓ {κ} {q} {s} {g} h e vs b o = step (λ k. move t (1 ∷ []) $ split t $ split t $ move t (1 ∷ []) $ rewrite t 0 (λ (x : Gate). ‵ (beside_open x ℓ.lft s h.id h.size)) e refl $ fsplit t $
      -- [its size; what waits; its marker; the pass; its cell, in four entries]
      move t (3 ∷ 1 ∷ []) $ use2 𝓛 (later (‵ (lent_pass h.name ℓ.lft h.id h.seen) ⊛ ‵ (flft ℓ.lft s))) (closed 𝓛 h.name h.id h.seen ℓ.lft s) $ await t z $ split t $
      move t (2 ∷ 0 ∷ []) $ fjoin t $ move t (2 ∷ 0 ∷ []) $ fjoin t $ move t (2 ∷ 0 ∷ 3 ∷ 4 ∷ 5 ∷ []) $ closes t z (Pass.the_row ℓ) h vs b o $ move t (2 ∷ 3 ∷ []) $ join t $ move t (1 ∷ 2 ∷ 0 ∷ []) $ k)

  pub two_out : K → {P Q R : Fml} → Step K 𝓛 ((‵ P ⊛ ‵ Q) ∷ ‵ R ∷ Γ) G (‵ P ∷ ‵ (fsep Q R) ∷ Γ) G
  two_out t = step (λ k. move t (1 ∷ []) $ fsplit t $ move t (2 ∷ 0 ∷ []) $ join t $ k)

  pub two_in : K → {P Q R : Fml} → Step K 𝓛 (‵ (fsep P (fsep Q R)) ∷ Γ) G ((‵ P ⊛ ‵ Q) ∷ ‵ R ∷ Γ) G
  two_in t = step (λ k. split t $ move t (1 ∷ 2 ∷ []) $ fjoin t $ move t (1 ∷ 0 ∷ []) $ fjoin t $ k)
