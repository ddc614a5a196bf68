-- The machine values of what a walk makes and takes apart, and how a walk ends. Assumes `Logic`.
use Rattle.seize_content.proofs.Kit.{[], ◌∷◌, refl, Val, vstruct, vcons, vnil, Ura, ent, sep, emp, Logic, sem, ‵, raw, ◌$◌, ◌∵◌, !, qed, by, move, use0, RattleType, makes_shadow, walk_of, leaves, Stays}
use denote.Signature.{type_at}
use denote.Struct.Struct.{Struct}
use denote.Triple.Clauses.{Ended, Clauses, Lasts, at_exit}
use denote.Triple.Entry.{Res, alive}
use denote.Triple.Walked.{Fit, has_of}
use Rattle.core.specs.contracts.marker.PhantomData as marker

-- a struct of one field, and of one marker
abbrev pub single : Val → Val
single v = vstruct (vcons v vnil)

abbrev pub token : Val
token = single (vstruct vnil)

module _ (R : RattleType) where
  abbrev pub Marked : RattleType
  Marked = Struct record { name = []; args = []; types = []; fields = marker.the_row R ∷ [] }

  pub marked_made : {M : Type 1} {𝓤 : Ura M} (𝓛 : Logic 𝓤) → ent 𝓤 (emp 𝓤) (sem 𝓛 (Marked.own_val (record {}, tt) (token ∷ [])))
  marked_made 𝓛 = makes_shadow 𝓛 (Marked.own_val (record {}, tt) (token ∷ [])) (λ vss. (tt, ((λ uss. (tt, tt)), tt))) ((vstruct vnil ∷ [], tt), (refl, ((tt, (refl, tt)), tt)))

pub ends : {M : Type 1} {𝓤 : Ura M} (𝓛 : Logic 𝓤) (T : Ended) (hs : Stays T.signature.params T.kept) (c : Clauses 𝓤 T) (y : (walk_of 𝓛 T hs c).Ghost) (v : Val) (r : Res T.signature y.0.0) (ws : Lasts T y.0.0 y.0.3)
    → Fit T hs y.0.0 y.0.3 ws → ent 𝓤 (emp 𝓤) ((c y.0.0 y.0.3).ensures y.1 r (at_exit T y.0.0 y.0.3 ws))
    → ent 𝓤 (sep 𝓤 (alive 𝓛 T.signature y.0.0 y.0.1) (sep 𝓤 (sem 𝓛 (has_of y.0.0 T.signature.params T.kept hs y.0.3 ws y.0.4)) (sem 𝓛 ((type_at T.signature.result y.0.0).own_val r (v ∷ []))))) ((walk_of 𝓛 T hs c).post y v)
ends 𝓛 T hs c y v r ws fit told = qed 𝓛 (raw (alive 𝓛 T.signature y.0.0 y.0.1) ∷ ‵ (has_of y.0.0 T.signature.params T.kept hs y.0.3 ws y.0.4) ∷ ‵ ((type_at T.signature.result y.0.0).own_val r (v ∷ [])) ∷ []) ∵
    use0 𝓛 (raw ((c y.0.0 y.0.3).ensures y.1 r (at_exit T y.0.0 y.0.3 ws))) told $ move ! (1 ∷ 2 ∷ 3 ∷ []) $ by ! (leaves 𝓛 T hs c y v r ws fit)
