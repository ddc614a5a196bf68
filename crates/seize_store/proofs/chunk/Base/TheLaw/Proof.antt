-- A `&` to a `Base` says where the chunks lie, which is a plain fact. Assumes `Logic`.
use mathlib.Core.List.{[], ◌∷◌}
use seplogic.Ra.Ura.{Ura}
use base.Logic.{ent, sep, snd∗}
use base.Fml.{ftrue}
use base.Before.{before}
use types.Logic.{Logic, sem}
use types.Kit.{‵, ◌$◌, ◌∵◌, !, qed, drop, fpick, fpack, done}
use denote.RattleType.{RattleType}
use denote.Param.Laws.{Laws}
use denote.Param.Shared.{copy_shared}
use denote.Steps.{nothing}
use denote.Struct.Field.{RawPtr-field}
use denote.Struct.Laws.{RawPtr-copy}
use denote.Struct.Lending.{of_Lends}
use Rattle.seize_store.specs.Row.{fact}
use Rattle.seize_store.specs.contracts.chunk.Base as C
use Rattle.seize_store.proofs.Sharing.{lends_twice}
use Rattle.seize_store.proofs.chunk.Base.TheLaw.Statement.{statement}

twice : {M : Type 1} {𝓤 : Ura M} (𝓛 : Logic 𝓤) (φ : Type 0) → ent 𝓤 (sem 𝓛 (fact φ)) (sep 𝓤 (sem 𝓛 (fact φ)) (sem 𝓛 (fact φ)))
twice 𝓛 φ = qed 𝓛 (‵ (fact φ) ∷ []) ∵ fpick ! (λ so. drop ! $ nothing ! $ fpack ! φ (λ _. ftrue) so $ nothing ! $ fpack ! φ (λ _. ftrue) so $ done !)

pub shares : (X U T : RattleType) (LX : Laws X) (LU : Laws U) (L : Laws T) → statement X U T LX LU L
shares X U T LX LU L = of_Lends (C.struct X U T) (C.the_codes X.Denot U.Denot T.Denot X.coded U.coded T.coded) (C.the_heap X U T) (C.the_lent X U T)
    (λ d p. record { contraction = λ M 𝓤 𝓛 κ. twice 𝓛 _; mono = λ M 𝓤 𝓛 κ' κ. snd∗ 𝓤 (sem 𝓛 (before κ' κ)) (sem 𝓛 (C.the_heap X U T d)) })
    (copy_shared RawPtr-field RawPtr-copy, tt)
    (λ M 𝓤 𝓛 d p. lends_twice 𝓛 (C.the_heap X U T d) (twice 𝓛 _) (C.the_row X U T).lives)
