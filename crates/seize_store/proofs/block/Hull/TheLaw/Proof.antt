-- A `&` to a hull. Assumes `Logic`.
use Rattle.std.proofs.Common.{[]}
use mathlib.Core.List.{◌++◌}
use base.Fml.{Incl-trans}
use contract.BorrowLft.{meet_⊑_left, meet_⊑_right}
use denote.RattleType.{RattleType}
use denote.Param.Laws.{Laws}
use denote.Param.Shared.{copy_shared}
use denote.Shares.{Shares-less}
use denote.Struct.Field.{RawPtr-field}
use denote.Struct.Laws.{RawPtr-copy}
use denote.Struct.Lending.{of_Lends, Lends-lies}
use Rattle.seize_table.specs.declared.labelled.Labelled.{Ghosts}
use Rattle.seize_store.specs.contracts.block.Hull as C
use Rattle.seize_store.proofs.Showing.{hull_laws, hull_lends}
use Rattle.seize_store.proofs.block.Hull.TheLaw.Statement.{statement}

pub shares : (X U T : RattleType) (g : Ghosts U.Denot) (LX : Laws X) (LU : Laws U) (L : Laws T) → statement X U T g LX LU L
shares X U T g LX LU L = of_Lends (C.struct X U T g) (C.the_codes X.Denot U.Denot T.Denot X.coded U.coded T.coded) (C.the_heap X U T g) (C.the_lent X U T g)
    (λ d p. hull_laws X U T g.label d.tag L.shr_laws d.at d.value) (copy_shared RawPtr-field RawPtr-copy, tt)
    (λ M 𝓤 𝓛 d p. let l = (C.the_row X U T g).lives in let last = Incl-trans (meet_⊑_right X.lives (U.lives ++ (T.lives ++ []))) (Incl-trans (meet_⊑_right U.lives (T.lives ++ [])) (meet_⊑_left T.lives [])) in
    hull_lends X U T g.label d.tag 𝓛 d.at d.value l (λ r. Lends-lies 𝓛 T l r d.value (Shares-less 𝓛 T T.lives l (Incl-trans (meet_⊑_left (X.lives ++ (U.lives ++ (T.lives ++ []))) []) last) (L.shares 𝓛) d.value)))
