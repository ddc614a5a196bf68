-- The laws of a cell with a promise, at each family. Assumes `Logic`.
use Rattle.std.proofs.Common.{◌≡◌, ℕ, List, [], ◌∷◌, ◌++◌, refl, subst, ◌∙◌}
use seplogic.Ra.Ura.{Ura}
use mir.Syntax.{Ty, named}
use mir.Val.{Val, vstruct, vcons, vnil, of_list}
use base.Fml.{Lft}
use types.Logic.{Logic}
use types.Kit.{Item, Goal, Seq, Step, step, ‵, ◌$◌, move, drop, fsplit, fjoin, fpick, fpack, rewrite, feq_i, feq_l}
use denote.Laws.{Is, Lawful, Typed, shows}
use denote.Steps.{nothing, peeks}
use denote.HoleKnot.{shared_laws}
use denote.Param.{layout}
use denote.Param.Laws.{Laws}
use denote.RattleType.{RattleType, Valss}
use denote.Ref.{ShrRef}
use denote.Struct.Struct.{Struct, within}
use denote.Struct.Tuple.{Tuple, tuple_laws}
use Rattle.core.specs.contracts.marker.Brand as brand
use Rattle.core.specs.contracts.option.Option as option
use Rattle.core.proofs.marker.Brand.TheLaws as brand_laws
use Rattle.core.proofs.cell.Inside.{Good, one}
use Rattle.core.proofs.alloc.AllocError.TheLaws as refusal_laws
use Rattle.core.proofs.option.Option.TheLaws as option_laws
use Rattle.core.proofs.result.Result.TheLaws as result_laws
use Rattle.core.specs.contracts.alloc.AllocError as refusal
use Rattle.core.specs.contracts.result.Result as result
use Rattle.once_cell.proofs.race.once_box.OnceBox.TheLaws as once_laws
use Rattle.once_cell.proofs.race.note.Note.TheLaws as note_laws
use Rattle.once_cell.specs.contracts.race.note.Note as note
use Rattle.seize_store.specs.declared.kin.Kin.{Ghosts}
use Rattle.seize_store.proofs.kin.Child.TheLaws as child_laws
use Rattle.seize_store.specs.Kept.{of_kin, once_row}

module _ (T : RattleType) (L : Laws T) (g : Ghosts T.Denot) (f : ℕ) where
  abbrev pub kin_laws : Laws (of_kin T g f)
  kin_laws = child_laws.the_row_laws T brand.the_row g (record { number = f }) L brand_laws.the_row_laws

  abbrev pub row_laws : Laws (once_row T g f)
  row_laws = once_laws.the_row_laws (of_kin T g f) kin_laws

  abbrev pub Note : RattleType
  Note = note.the_row (of_kin T g f)

  abbrev pub noted_laws : Laws Note
  noted_laws = note_laws.the_row_laws (of_kin T g f) kin_laws

  abbrev pub Found : Lft → RattleType
  Found κ = Tuple (option.the_row (ShrRef (named 0) κ T) ∷ Note ∷ [])

  abbrev pub found_laws : (κ : Lft) → Laws (Found κ)
  found_laws κ = tuple_laws (option.the_row (ShrRef (named 0) κ T) ∷ Note ∷ []) (option_laws.the_row_laws (ShrRef (named 0) κ T) (shared_laws (record { mir = named 0; lft = κ }) T L), (noted_laws, tt))

  abbrev pub Placed : Lft → RattleType
  Placed κ = Tuple (ShrRef (named 0) κ T ∷ Note ∷ [])

  abbrev pub Put : Lft → RattleType
  Put κ = result.the_row (Placed κ) refusal.the_row

  abbrev pub put_laws : (κ : Lft) → Laws (Put κ)
  put_laws κ = result_laws.the_row_laws (Placed κ) refusal.the_row (tuple_laws (ShrRef (named 0) κ T ∷ Note ∷ []) (shared_laws (record { mir = named 0; lft = κ }) T L, (noted_laws, tt))) refusal_laws.the_row_laws

abbrev pub single : Val → Val
single v = vstruct (vcons v vnil)

-- a struct of one field, by value
module _ (P : RattleType) where
  abbrev pub Sole : RattleType
  Sole = Struct (record { name = []; args = []; types = []; fields = P ∷ [] })

  module _ {M : Type 1} {𝓤 : Ura M} {𝓛 : Logic 𝓤} {K : Type 0} {Γ : List (Item 𝓤)} {G : Goal 𝓤 𝓛.H} (x : P.Denot) where
    pub sole_in : K → (v : Val) → Step K 𝓛 (‵ (Sole.own_val (x, tt) (single v ∷ [])) ∷ Γ) G (‵ (P.own_val x (v ∷ [])) ∷ Γ) G
    sole_in t v = step (λ s. nothing t $ move t (1 ∷ 0 ∷ []) $ fjoin t $ feq_i t (List Val) (single v ∷ []) (single v ∷ []) refl $ fjoin t $
        fpack t (Valss (P ∷ [])) (within (record { name = []; args = []; types = []; fields = P ∷ [] }) (x, tt) (single v ∷ [])) (v ∷ [], tt) $ s)

    pub sole_out : K → P.mir ≡ layout P ∷ [] → Lawful 𝓛 P → (us : List Val)
        → ((v : Val) → Good (layout P) v → us ≡ single v ∷ [] → Seq K 𝓛 (‵ (P.own_val x (v ∷ [])) ∷ Γ) G) → Seq K 𝓛 (‵ (Sole.own_val (x, tt) us) ∷ Γ) G
    sole_out t eP LP us k = fpick t (λ vss. fsplit t $ feq_l t (λ e. fsplit t $ peeks t P (Is P) (shows 𝓛 P) x vss.0 (λ i.
        let g = one (layout P) vss.0 (subst (λ (ρs : List Ty). Typed ρs vss.0) eP (LP.typed x vss.0 i)) in
        rewrite t 0 (λ (ws : List Val). ‵ (P.own_val x ws)) g.1 refl $ move t (1 ∷ []) $ drop t $ k g.0 g.2 (e ∙ (λ n. vstruct (of_list (g.1 n ++ [])) ∷ [])))))
