-- A `&` to a block. Assumes `Logic`.
use Rattle.std.proofs.Common.{[]}
use mathlib.Core.List.{◌++◌}
use base.Fml.{Incl-trans}
use contract.BorrowLft.{meet_⊑_left, meet_⊑_right}
use denote.RattleType.{RattleType}
use denote.Param.Laws.{Laws}
use denote.Param.Shared.{copy_shared}
use denote.Shares.{Shares-less}
use denote.Struct.Field.{RawPtr-field}
use denote.Struct.Laws.{RawPtr-copy}
use denote.Struct.Lending.{of_Lends, Lends-lies}
use Rattle.seize_table.specs.declared.labelled.Labelled.{Ghosts}
use Rattle.seize_store.specs.contracts.block.Block as C
use Rattle.seize_store.specs.contracts.row_token.Title as titles
use Rattle.seize_store.specs.Titled.{title_tag, title_place}
use Rattle.seize_store.proofs.row_token.Title.TheLaws as title
use Rattle.seize_store.proofs.Showing.{block_laws, block_lends}
use Rattle.seize_store.proofs.block.Block.TheLaw.Statement.{statement}

pub shares : (X U T : RattleType) (g : Ghosts U.Denot) (LX : Laws X) (LU : Laws U) (L : Laws T) → statement X U T g LX LU L
shares X U T g LX LU L = of_Lends (C.struct X U T g) (C.the_codes X.Denot U.Denot T.Denot X.coded U.coded T.coded titles.the_row.coded) (C.the_heap X U T g) (C.the_lent X U T g)
    (λ d p. block_laws X U T g.label (title_tag d.title) LU.shr_laws L.shr_laws d.at d.value) (copy_shared RawPtr-field RawPtr-copy, (title.the_field_shared, tt))
    (λ M 𝓤 𝓛 d p. let l = (C.the_row X U T g).lives in let all = meet_⊑_left (X.lives ++ (U.lives ++ (T.lives ++ []))) [] in let later = Incl-trans all (meet_⊑_right X.lives (U.lives ++ (T.lives ++ []))) in
    block_lends X U T g.label (title_tag d.title) 𝓛 (title_place d.title) d.at d.value l
    (λ r u. Lends-lies 𝓛 U l r u (Shares-less 𝓛 U U.lives l (Incl-trans later (meet_⊑_left U.lives (T.lives ++ []))) (LU.shares 𝓛) u))
    (λ r. Lends-lies 𝓛 T l r d.value (Shares-less 𝓛 T T.lives l (Incl-trans later (Incl-trans (meet_⊑_right U.lives (T.lives ++ [])) (meet_⊑_left T.lives []))) (L.shares 𝓛) d.value)))
