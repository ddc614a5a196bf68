-- The machine value of a `Known`, and one behind a `&mut` opened and shut. Assumes `Logic`.
use Rattle.std.proofs.Common.{◌≡◌, ℕ, [], ◌∷◌, refl, List, ap}
use seplogic.Ra.Ura.{Ura}
use mir.Val.{Val, vstruct, vcons, vnil}
use base.Logic.{SProp, ent, sep, emp, via, fst∗, snd∗}
use base.Stored.{gnil, gcons, coded_list, coded×, coded_ℕ}
use base.Fml.{Fml}
use types.Logic.{Logic, sem}
use contract.Monad.{fact, fact_mono, conj_i}
use denote.RattleType.{RattleType}
use denote.RawPtr.{Ptr, coded_ptr}
use denote.Shadow.{makes_shadow}
use denote.Struct.Struct.{Struct}
use denote.Struct.Owning.{shape}
use Rattle.once_cell.proofs.Moves.{second}
use Rattle.seize_store.specs.RowTokens.{known_row, row_name}
use Rattle.seize_store.specs.contracts.row_token.RowToken as known

abbrev pub token : Val
token = vstruct (vcons (vstruct vnil) vnil)

abbrev pub Known : RattleType
Known = known.the_row

abbrev pub Data : Fml
Data = (Struct (shape known.the_type)).own_val (tt, tt) (token ∷ [])

module _ {M : Type 1} {𝓤 : Ura M} (𝓛 : Logic 𝓤) where
  pub known_made : ent 𝓤 (emp 𝓤) (sem 𝓛 Data)
  known_made = makes_shadow 𝓛 Data (λ vss. (tt, ((λ uss. (tt, tt)), tt))) ((vstruct vnil ∷ [], tt), (refl, ((tt, (refl, tt)), tt)))

  abbrev pub told : Known.Denot → Fml
  told n = known_row n.store n.row n.chunks

  -- what is known of a row can be had twice
  pub row_twice : (store : List ℕ) (row : ℕ) (ps : List (Ptr × ℕ)) → ent 𝓤 (sem 𝓛 (known_row store row ps)) (sep 𝓤 (sem 𝓛 (known_row store row ps)) (sem 𝓛 (known_row store row ps)))
  row_twice store row ps = 𝓛.names.res_dup (row_name store row) (gcons gnil ((coded_list (coded× coded_ptr coded_ℕ)).code ps))

  pub known_twice : (n : Known.Denot) → ent 𝓤 (sem 𝓛 (told n)) (sep 𝓤 (sem 𝓛 (told n)) (sem 𝓛 (told n)))
  known_twice n = row_twice n.store n.row n.chunks

  -- one row has one list of chunks
  pub known_agree : (store : List ℕ) (row : ℕ) (ps qs : List (Ptr × ℕ)) → ent 𝓤 (sep 𝓤 (sem 𝓛 (known_row store row ps)) (sem 𝓛 (known_row store row qs))) (fact 𝓤 (ps ≡ qs))
  known_agree store row ps qs = let c = coded_list (coded× coded_ptr coded_ℕ) in let γ : ℕ = row_name store row in let x = gcons gnil (c.code ps) in let y = gcons gnil (c.code qs) in let P : SProp 𝓤 = 𝓛.A.res γ x in let Q : SProp 𝓤 = 𝓛.A.res γ y in
      via 𝓤 _ (via 𝓤 _ (conj_i 𝓤 P Q (fst∗ 𝓤 P Q) (snd∗ 𝓤 P Q)) (𝓛.names.res_one γ x y)) (fact_mono 𝓤 (x ≡ y) (ps ≡ qs) (λ e. c.inj ps qs (ap second e)))
