-- A `&` to a block's fields shows its pointer and its title. Assumes `Logic`.
use Rattle.std.proofs.Common.{ℕ, ◌+◌, [], ◌∷◌}
use seplogic.Ra.Ura.{Ura}
use base.Logic.{ent, sep}
use base.Fml.{Lft, Fml}
use types.Logic.{Logic, sem}
use types.Kit.{‵, ◌$◌, ◌∵◌, !, qed, keep, drop, fsplit, done}
use denote.RattleType.{RattleType, RowLaws}
use denote.Memory.{hidden_shr}
use denote.Opens.{shr_dup, unhide, hide}
use denote.RawPtr.{Ptr, RawPtr, ptr_row_laws}
use denote.Struct.Struct.{Struct, Struct-row_laws}
use denote.Struct.Owning.{shape}
use Rattle.seize_table.specs.declared.labelled.Labelled.{Ghosts}
use Rattle.seize_store.specs.contracts.block.Block as block
use Rattle.seize_store.specs.contracts.row_token.Title as title
use Rattle.seize_store.proofs.row_token.Title.TheLaws as title_laws

module _ (X U R : RattleType) (g : Ghosts U.Denot) where
  abbrev pub Words : RattleType
  Words = Struct (shape (block.the_type X U R g))

  module _ {M : Type 1} {𝓤 : Ura M} (𝓛 : Logic 𝓤) (κ : Lft) (b o : ℕ) (p : Ptr) (n : title.the_row.Denot) where
    abbrev S : Fml
    S = hidden_shr Words κ (p, (title.the_field.into n, tt)) b o

    laws : RowLaws Words
    laws = Struct-row_laws (shape (block.the_type X U R g)) (ptr_row_laws, (title_laws.the_field_shared.shr_laws, tt))

    pub shows_place : ent 𝓤 (sem 𝓛 S) (sep 𝓤 (sem 𝓛 (hidden_shr RawPtr κ p b (o + 0))) (sem 𝓛 S))
    shows_place = qed 𝓛 (‵ S ∷ []) ∵ shr_dup ! Words laws (p, (title.the_field.into n, tt)) b o κ $ unhide ! $ fsplit ! $ fsplit ! $ hide ! $ keep ! (0 ∷ 3 ∷ []) $ done !

    pub shows_title : ent 𝓤 (sem 𝓛 S) (sep 𝓤 (sem 𝓛 (hidden_shr title.the_row κ n b (o + 8))) (sem 𝓛 S))
    shows_title = qed 𝓛 (‵ S ∷ []) ∵ shr_dup ! Words laws (p, (title.the_field.into n, tt)) b o κ $ unhide ! $ fsplit ! $ fsplit ! $ drop ! $ fsplit ! $ hide ! $ keep ! (0 ∷ 3 ∷ []) $ done !
