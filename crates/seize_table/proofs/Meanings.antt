-- What a name means can be had twice, and is one value. Assumes `Logic`.
use Rattle.seize_table.proofs.Kit.{◌≡◌, ℕ, [], ◌∷◌, refl, ap, Ura, Val, vstruct, vcons, vnil, SProp, ent, sep, emp, via, fst∗, snd∗, Fml, Logic, sem, fact, RattleType, Struct, shape, makes_shadow}
use contract.Monad.{fact_mono, conj_i}
use base.Stored.{gnil, gcons}
use Rattle.once_cell.proofs.Moves.{second}
use Rattle.seize_table.specs.Meaning.{means}
use Rattle.seize_table.specs.contracts.tls.meaning.Meaning as meaning

-- the machine value of a token
abbrev pub token : Val
token = vstruct (vcons (vstruct vnil) vnil)

module _ {M : Type 1} {𝓤 : Ura M} (𝓛 : Logic 𝓤) (R : RattleType) where
  abbrev pub Meaning : RattleType
  Meaning = meaning.the_row R

  abbrev pub Data : Fml
  Data = (Struct (shape (meaning.the_type R))).own_val (tt, tt) (token ∷ [])

  pub meaning_made : ent 𝓤 (emp 𝓤) (sem 𝓛 Data)
  meaning_made = makes_shadow 𝓛 Data (λ vss. (tt, ((λ uss. (tt, tt)), tt))) ((vstruct vnil ∷ [], tt), (refl, ((tt, (refl, tt)), tt)))

  pub means_twice : (n : ℕ) (x : R.Denot) → ent 𝓤 (sem 𝓛 (means R n x)) (sep 𝓤 (sem 𝓛 (means R n x)) (sem 𝓛 (means R n x)))
  means_twice n x = 𝓛.names.res_dup n (gcons gnil (R.coded.code x))

  pub means_agree : (n : ℕ) (x y : R.Denot) → ent 𝓤 (sep 𝓤 (sem 𝓛 (means R n x)) (sem 𝓛 (means R n y))) (fact 𝓤 (x ≡ y))
  means_agree n x y = let u = gcons gnil (R.coded.code x) in let v = gcons gnil (R.coded.code y) in let P : SProp 𝓤 = 𝓛.A.res n u in let Q : SProp 𝓤 = 𝓛.A.res n v in
      via 𝓤 _ (via 𝓤 _ (conj_i 𝓤 P Q (fst∗ 𝓤 P Q) (snd∗ 𝓤 P Q)) (𝓛.names.res_one n u v)) (fact_mono 𝓤 (u ≡ v) (x ≡ y) (λ e. R.coded.inj x y (ap second e)))
