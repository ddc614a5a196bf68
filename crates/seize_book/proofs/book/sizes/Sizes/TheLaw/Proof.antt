-- A `&` to the right to set the size is a part of it. Assumes `Logic`.
use Rattle.std.specs.Prelude.{ℕ, [], ◌∷◌}
use seplogic.Ra.Ura.{Ura}
use base.Fml.{Lft, fbor}
use base.Share.{three_quarters}
use types.Logic.{Logic, lfts}
use types.Kit.{‵, raw, ◌$◌, ◌∵◌, !, qed, updating, now, done}
use types.Tokens.{bor_fracture}
use denote.Builtin.{unit}
use denote.Param.Shared.{copy_shared}
use denote.SharingLaws.{one_shr_laws}
use denote.Struct.Laws.{field_copy}
use denote.Struct.Lending.{Lends, of_Lends}
use Rattle.core.specs.contracts.marker.PhantomData as marker
use Rattle.seize_book.specs.Bounds.{sets_size, size_lent, size_part}
use Rattle.seize_book.specs.contracts.book.sizes.Sizes as C
use Rattle.seize_book.proofs.book.sizes.Sizes.TheLaw.Statement.{statement}

lends_part : {M : Type 1} {𝓤 : Ura M} (𝓛 : Logic 𝓤) (γ m : ℕ) (l : Lft) → Lends 𝓛 (sets_size γ m) (size_lent γ m) l
lends_part 𝓛 γ m l κ ts inc sp = qed 𝓛 (‵ (fbor κ (sets_size γ m)) ∷ raw (lfts 𝓛 ts) ∷ []) ∵ updating ! $ bor_fracture ! tt (size_part γ m) three_quarters $ now ! $ done !

pub shares : statement
shares = of_Lends C.struct (C.the_codes (marker.the_row unit).coded) C.the_heap C.the_lent
    (λ d p. one_shr_laws (size_part d.name.gate.sizes d.most)) (copy_shared (marker.the_field unit) (field_copy (marker.the_type unit) tt), tt)
    (λ M 𝓤 𝓛 d p. lends_part 𝓛 d.name.gate.sizes d.most C.the_row.lives)
