-- A `&` to a labelled cell is made of a borrow of it: the value and the cell's half of its name are its invariant's. Assumes `Logic`.
use Rattle.std.proofs.Common.{◌≡◌, ℕ, List, [], ◌∷◌, sym, subst}
use seplogic.Ra.Ura.{Ura}
use mir.Syntax.{Ty}
use mir.Val.{Val}
use base.Fraction.{full_share}
use base.Logic.{SProp, ent, sep, ex}
use base.Fml.{Fml, fsep}
use types.Logic.{Logic, sem}
use types.Kit.{‵, ◌$◌, ◌∵◌, !, qed, move, fsplit, fjoin, fpick, fpack, show, done}
use denote.RattleType.{RattleType}
use denote.Laws.{Lawful}
use denote.Memory.{part_of, part_at, cell_at}
use denote.Param.{layout}
use denote.Param.Laws.{Laws}
use denote.Struct.Struct.{Struct}
use denote.Struct.Members.{Member, row_of}
use denote.Struct.Parts.{shape_of}
use denote.Struct.Lending.{Law}
use Rattle.core.proofs.cell.Borrows.{by_one}
use Rattle.seize_content.specs.declared.steady_cell.Steady.{Ghosts}
use Rattle.seize_content.specs.Cells.{cell_holds, cell_owns}
use Rattle.seize_content.specs.Steady.{keeps, SteadyName}
use Rattle.seize_content.specs.contracts.steady_cell.SteadyCell as C
use Rattle.seize_content.proofs.CellSharing as shr
use Rattle.seize_content.proofs.steady_cell.SteadyCell.TheLaw.Statement.{statement}

module _ {M : Type 1} {𝓤 : Ura M} (𝓛 : Logic 𝓤) (m : Member) (g : Ghosts m.row.Denot) (d : SteadyName) (L : Lawful 𝓛 (row_of m)) (b o : ℕ) where
  abbrev Pr : Type 2
  Pr = SProp 𝓤

  abbrev ◌⊢◌ : Pr → Pr → Type 1
  P ⊢ Q = ent 𝓤 P Q

  abbrev ◌∗◌ : Pr → Pr → Pr
  P ∗ Q = sep 𝓤 P Q

  abbrev ⟦◌⟧ : Fml → Pr
  ⟦ P ⟧ = sem 𝓛 P

  infix 26 ◌⊢◌
  infixr 35 ◌∗◌
  abbrev R : RattleType
  R = row_of m

  abbrev Data : RattleType
  Data = Struct (shape_of [] (m ∷ []))

  abbrev Whole : Fml
  Whole = part_at (C.the_written R g) full_share d b o

  abbrev Fields : R.Denot → Fml
  Fields x = shr.Fields 𝓛 m (keeps g.label g.sound d.label) d.name L b o x

  abbrev own : R.Denot → Fml
  own x = shr.own 𝓛 m (keeps g.label g.sound d.label) d.name L b o x

  abbrev inside : List Val → R.Denot → Fml
  inside vs = cell_holds R (keeps g.label g.sound d.label) d.name (λ x. Data.own_val (x, tt) vs)

  apart : ⟦ Whole ⟧ ⊢ ex 𝓤 (λ (x : R.Denot). ⟦ Fields x ⟧ ∗ ⟦ own x ⟧)
  unfolding part_of
  apart = qed 𝓛 (‵ Whole ∷ []) ∵ fpick ! (λ vs. fsplit ! $ move ! (1 ∷ []) $ fpick ! (λ x. fsplit ! $ move ! (2 ∷ 0 ∷ []) $ fjoin ! $
      fpack ! (List Val) (λ us. fsep (cell_at full_share Data.mir us b o) (Data.own_val (x, tt) us)) vs $ show ! (λ (y : R.Denot). ⟦ Fields y ⟧ ∗ ⟦ own y ⟧) x $ done !))

  whole : (x : R.Denot) → ⟦ Fields x ⟧ ∗ ⟦ own x ⟧ ⊢ ⟦ Whole ⟧
  unfolding part_of
  whole x = qed 𝓛 (‵ (Fields x) ∷ ‵ (own x) ∷ []) ∵ fpick ! (λ vs. fsplit ! $ move ! (1 ∷ 2 ∷ []) $ fjoin ! $ fpack ! R.Denot (inside vs) x $ move ! (1 ∷ 0 ∷ []) $ fjoin ! $
      fpack ! (List Val) (λ us. fsep (cell_at full_share Data.mir us b o) (cell_owns R (keeps g.label g.sound d.label) d.name (λ y. Data.own_val (y, tt) us))) vs $ done !)

pub shares : (T : RattleType) (g : Ghosts T.Denot) (L : Laws T) → statement T g L
shares T g L = let m : Member = record { row = T; ty = layout T } in
    let same : T ≡ row_of m = λ i. record { Denot = T.Denot; mir = L.one i; written = T.written; reaches = T.reaches; lives = T.lives; own_val = T.own_val; exit = T.exit; coded = T.coded; shr_at = T.shr_at } in
    subst (λ (τ : List Ty). Law (C.the_written (record T { mir = τ }) g)) (sym L.one) (record {
      shr_laws = λ d b o. record { contraction = λ M 𝓤 𝓛 κ. shr.twice 𝓛 m (keeps g.label g.sound d.label) d.name (subst (Lawful 𝓛) same (L.lawful 𝓛)) b o κ; mono = λ M 𝓤 𝓛 κ' κ. shr.shorter 𝓛 m (keeps g.label g.sound d.label) d.name (subst (Lawful 𝓛) same (L.lawful 𝓛)) b o κ' κ };
      shares = λ M 𝓤 𝓛 d κ ts b o inc sp. let l = subst (Lawful 𝓛) same (L.lawful 𝓛) in
          let W : Fml = Whole 𝓛 m g d l b o in let p = apart 𝓛 m g d l b o in let w = whole 𝓛 m g d l b o in
          by_one 𝓛 κ ts sp (𝓛.A.bor κ W) (sem 𝓛 (shr.Shared 𝓛 m (keeps g.label g.sound d.label) d.name l b o W p w κ)) (shr.shared 𝓛 m (keeps g.label g.sound d.label) d.name l b o W p w κ);
    })
