-- A `&` to a chunk. Assumes `Logic`.
use Rattle.std.proofs.Common.{[]}
use mathlib.Core.List.{◌++◌}
use base.Fml.{Incl-trans}
use contract.BorrowLft.{meet_⊑_left}
use denote.RattleType.{RattleType}
use denote.Param.Laws.{Laws}
use denote.Param.Shared.{copy_shared}
use denote.Shares.{Shares-less}
use denote.Struct.Field.{RawPtr-field}
use denote.Struct.Laws.{RawPtr-copy}
use denote.Struct.Lending.{of_Lends, Lends-lies}
use Rattle.seize_table.specs.declared.labelled.Labelled.{Ghosts}
use Rattle.seize_store.specs.contracts.chunk.Chunk as C
use Rattle.seize_store.proofs.Sharing.{chunk_laws, chunk_lends}
use Rattle.seize_store.proofs.chunk.Chunk.TheLaw.Statement.{statement}

pub shares : (X U T : RattleType) (g : Ghosts U.Denot) (LX : Laws X) (LU : Laws U) (L : Laws T) → statement X U T g LX LU L
shares X U T g LX LU L = of_Lends (C.struct X U T g) (C.the_codes X.Denot U.Denot T.Denot X.coded U.coded T.coded) (C.the_heap X U T g) (C.the_lent X U T g)
    (λ d p. chunk_laws X U T g.label d.tag d.life d.out d.home LX.shr_laws d.at d.header) (copy_shared RawPtr-field RawPtr-copy, tt)
    (λ M 𝓤 𝓛 d p. let l = (C.the_row X U T g).lives in chunk_lends X U T g.label d.tag d.life d.out d.home 𝓛 d.at d.header l (λ r. Lends-lies 𝓛 X l r d.header
    (Shares-less 𝓛 X X.lives l (Incl-trans (meet_⊑_left (X.lives ++ (U.lives ++ (T.lives ++ []))) []) (meet_⊑_left X.lives (U.lives ++ (T.lives ++ [])))) (LX.shares 𝓛) d.header)))
