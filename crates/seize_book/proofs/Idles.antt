-- Code that runs nothing, and what its results are made of. Assumes `Logic`.
--     unit1 .. unit4, token1 .. token3, pair1, pair2, copied2, laid2      the code of such a function, by what it answers and how many parameters it has, at any types
--     No, Only, Of     what such a result is made of: nothing; what its type owns beside its marker, or beside a marker with a lifetime
--     Laid, Both       two such results in one struct;  in a pair
use Rattle.seize_book.proofs.Kit.{ℕ, sep, ◌≡◌, ◌++◌, ◌⊛◌, by, emp, split, sym, rewrite, refl, List, [], ◌∷◌, Val, vunit, vstruct, vnil, Ura, ent, sem, Logic, Fml, ftrue, fsep, ‵, raw, later, ◌$◌, ◌∵◌, !, qed, move, keep, use0, use1, await, feq_i, fsplit, fjoin, returns, enter, alloc_all, pass_all, free_all, look_at, get, sets, agg, no_more, and_then, of_opd, unit_lit, done, RattleType}
use denote.Builtin.{unit}
use denote.Struct.Tuple.{Tuple}
use lib.Dec.{T}
use mir.Syntax.{Kind, Ty, ty_unit, local, value_local, seq, assign, place, copy, aggregate, rv_opd, opd_unit, return}
use mir.Val.{WT, has_ty}
use prog.Wp.{Calls, Loops}
use Rattle.seize_book.proofs.Calls.{Idle, Made, all, apart}
use Rattle.seize_book.proofs.Fields.{token, Token, token_made}
use Rattle.seize_book.proofs.Tuples.{pair_of, pair_val}

abbrev pub Typed : Ty → Val → Type 0
Typed τ v = T (has_ty τ v) × WT v

module _ {M : Type 1} {𝓤 : Ura M} (𝓛 : Logic 𝓤) {C : Calls 𝓤 𝓛.H} {Λ : Loops 𝓤 𝓛.H} {n : ℕ} {os : List (ℕ × ℕ)} {ks : List Kind} {g p : ℕ} {σ : Ty} {u : Val} where
  pub unit1 : Typed σ u → Idle 𝓛 C Λ (record { lifetimes = n; outlives = os; ty_params = ks; givens = g; params = p; locals = local ty_unit value_local ∷ local σ value_local ∷ []; body = seq (assign (place 0 []) (rv_opd opd_unit)) return }) (u ∷ []) vunit
  unit1 hu = record {
    go = λ P Post h. qed 𝓛 (raw P ∷ []) ∵ enter ! C Λ _ (u ∷ []) Post $ alloc_all ! (λ l. pass_all ! refl (hu, tt) $
        use1 𝓛 (later (raw (Post vunit))) h $ await ! tt $ sets ! (of_opd ! (unit_lit !)) refl (tt, tt) $ returns ! (look_at ! 0 refl) $ free_all ! refl $ done !);
  }

  module _ {ρ η : Ty} where
    pub token1 : Typed ρ token → Typed η (vstruct vnil) → Typed σ u
        → Idle 𝓛 C Λ (record { lifetimes = n; outlives = os; ty_params = ks; givens = g; params = p; locals = local ρ value_local ∷ local σ value_local ∷ local η value_local ∷ []; body = seq (assign (place 2 []) (aggregate [])) (seq (assign (place 0 []) (aggregate (copy (place 2 []) ∷ []))) return) }) (u ∷ []) token
    token1 hr hh hu = record {
      go = λ P Post h. qed 𝓛 (raw P ∷ []) ∵ enter ! C Λ _ (u ∷ []) Post $ alloc_all ! (λ l. pass_all ! refl (hu, tt) $
          use1 𝓛 (later (raw (Post token))) h $ await ! tt $ sets ! (agg ! (no_more !)) refl hh $ sets ! (agg ! (and_then ! (get ! refl) (no_more !))) refl hr $ returns ! (look_at ! 0 refl) $ free_all ! refl $ done !);
    }

  module _ {τ : Ty} {w : Val} where
    pub unit2 : Typed σ u → Typed τ w → Idle 𝓛 C Λ (record { lifetimes = n; outlives = os; ty_params = ks; givens = g; params = p; locals = local ty_unit value_local ∷ local σ value_local ∷ local τ value_local ∷ []; body = seq (assign (place 0 []) (rv_opd opd_unit)) return }) (u ∷ w ∷ []) vunit
    unit2 hu hw = record {
      go = λ P Post h. qed 𝓛 (raw P ∷ []) ∵ enter ! C Λ _ (u ∷ w ∷ []) Post $ alloc_all ! (λ l. pass_all ! refl (hu, (hw, tt)) $
          use1 𝓛 (later (raw (Post vunit))) h $ await ! tt $ sets ! (of_opd ! (unit_lit !)) refl (tt, tt) $ returns ! (look_at ! 0 refl) $ free_all ! refl $ done !);
    }

  module _ {τ ρ η : Ty} {w : Val} where
    pub token2 : Typed ρ token → Typed η (vstruct vnil) → Typed σ u → Typed τ w
        → Idle 𝓛 C Λ (record { lifetimes = n; outlives = os; ty_params = ks; givens = g; params = p; locals = local ρ value_local ∷ local σ value_local ∷ local τ value_local ∷ local η value_local ∷ []; body = seq (assign (place 3 []) (aggregate [])) (seq (assign (place 0 []) (aggregate (copy (place 3 []) ∷ []))) return) }) (u ∷ w ∷ []) token
    token2 hr hh hu hw = record {
      go = λ P Post h. qed 𝓛 (raw P ∷ []) ∵ enter ! C Λ _ (u ∷ w ∷ []) Post $ alloc_all ! (λ l. pass_all ! refl (hu, (hw, tt)) $
          use1 𝓛 (later (raw (Post token))) h $ await ! tt $ sets ! (agg ! (no_more !)) refl hh $ sets ! (agg ! (and_then ! (get ! refl) (no_more !))) refl hr $ returns ! (look_at ! 0 refl) $ free_all ! refl $ done !);
    }

  module _ {τ₀ τ₁ : Ty} {w₀ w₁ : Val} where
    pub unit3 : Typed σ u → Typed τ₀ w₀ → Typed τ₁ w₁ → Idle 𝓛 C Λ (record { lifetimes = n; outlives = os; ty_params = ks; givens = g; params = p; locals = local ty_unit value_local ∷ local σ value_local ∷ local τ₀ value_local ∷ local τ₁ value_local ∷ []; body = seq (assign (place 0 []) (rv_opd opd_unit)) return }) (u ∷ w₀ ∷ w₁ ∷ []) vunit
    unit3 hu h₀ h₁ = record {
      go = λ P Post h. qed 𝓛 (raw P ∷ []) ∵ enter ! C Λ _ (u ∷ w₀ ∷ w₁ ∷ []) Post $ alloc_all ! (λ l. pass_all ! refl (hu, (h₀, (h₁, tt))) $
          use1 𝓛 (later (raw (Post vunit))) h $ await ! tt $ sets ! (of_opd ! (unit_lit !)) refl (tt, tt) $ returns ! (look_at ! 0 refl) $ free_all ! refl $ done !);
    }

  module _ {τ₀ τ₁ τ₂ : Ty} {w₀ w₁ w₂ : Val} where
    pub unit4 : Typed σ u → Typed τ₀ w₀ → Typed τ₁ w₁ → Typed τ₂ w₂ → Idle 𝓛 C Λ (record { lifetimes = n; outlives = os; ty_params = ks; givens = g; params = p; locals = local ty_unit value_local ∷ local σ value_local ∷ local τ₀ value_local ∷ local τ₁ value_local ∷ local τ₂ value_local ∷ []; body = seq (assign (place 0 []) (rv_opd opd_unit)) return }) (u ∷ w₀ ∷ w₁ ∷ w₂ ∷ []) vunit
    unit4 hu h₀ h₁ h₂ = record {
      go = λ P Post h. qed 𝓛 (raw P ∷ []) ∵ enter ! C Λ _ (u ∷ w₀ ∷ w₁ ∷ w₂ ∷ []) Post $ alloc_all ! (λ l. pass_all ! refl (hu, (h₀, (h₁, (h₂, tt)))) $
          use1 𝓛 (later (raw (Post vunit))) h $ await ! tt $ sets ! (of_opd ! (unit_lit !)) refl (tt, tt) $ returns ! (look_at ! 0 refl) $ free_all ! refl $ done !);
    }

  module _ {τ₀ τ₁ ρ η : Ty} {w₀ w₁ : Val} where
    pub token3 : Typed ρ token → Typed η (vstruct vnil) → Typed σ u → Typed τ₀ w₀ → Typed τ₁ w₁
        → Idle 𝓛 C Λ (record { lifetimes = n; outlives = os; ty_params = ks; givens = g; params = p; locals = local ρ value_local ∷ local σ value_local ∷ local τ₀ value_local ∷ local τ₁ value_local ∷ local η value_local ∷ []; body = seq (assign (place 4 []) (aggregate [])) (seq (assign (place 0 []) (aggregate (copy (place 4 []) ∷ []))) return) }) (u ∷ w₀ ∷ w₁ ∷ []) token
    token3 hr hh hu h₀ h₁ = record {
      go = λ P Post h. qed 𝓛 (raw P ∷ []) ∵ enter ! C Λ _ (u ∷ w₀ ∷ w₁ ∷ []) Post $ alloc_all ! (λ l. pass_all ! refl (hu, (h₀, (h₁, tt))) $
          use1 𝓛 (later (raw (Post token))) h $ await ! tt $ sets ! (agg ! (no_more !)) refl hh $ sets ! (agg ! (and_then ! (get ! refl) (no_more !))) refl hr $ returns ! (look_at ! 0 refl) $ free_all ! refl $ done !);
    }

  -- two tokens are made, and then laid into one value
  module _ {τ ρ π η₀ η₁ : Ty} {w : Val} where
    pub pair2 : Typed ρ (pair_val token token) → Typed π token → Typed η₀ token → Typed η₁ (vstruct vnil) → Typed σ u → Typed τ w
        → Idle 𝓛 C Λ (record { lifetimes = n; outlives = os; ty_params = ks; givens = g; params = p; locals = local ρ value_local ∷ local σ value_local ∷ local τ value_local ∷ local π value_local ∷ local η₀ value_local ∷ local η₁ value_local ∷ []; body = seq (assign (place 5 []) (aggregate [])) (seq (assign (place 3 []) (aggregate (copy (place 5 []) ∷ []))) (seq (assign (place 5 []) (aggregate [])) (seq (assign (place 4 []) (aggregate (copy (place 5 []) ∷ []))) (seq (assign (place 0 []) (aggregate (copy (place 3 []) ∷ copy (place 4 []) ∷ []))) return)))) }) (u ∷ w ∷ []) (pair_val token token)
    pair2 hr hp hq hh hu hw = record {
      go = λ P Post h. qed 𝓛 (raw P ∷ []) ∵ enter ! C Λ _ (u ∷ w ∷ []) Post $ alloc_all ! (λ l. pass_all ! refl (hu, (hw, tt)) $ use1 𝓛 (later (raw (Post (pair_val token token)))) h $ await ! tt $
          sets ! (agg ! (no_more !)) refl hh $ sets ! (agg ! (and_then ! (get ! refl) (no_more !))) refl hp $ sets ! (agg ! (no_more !)) refl hh $ sets ! (agg ! (and_then ! (get ! refl) (no_more !))) refl hq $
          sets ! (agg ! (and_then ! (get ! refl) (and_then ! (get ! refl) (no_more !)))) refl hr $ returns ! (look_at ! 0 refl) $ free_all ! refl $ done !);
    }

  module _ {τ ρ η₀ π₀ η₁ π₁ : Ty} {w : Val} where
    pub laid2 : Typed ρ (pair_val token token) → Typed η₀ (vstruct vnil) → Typed π₀ token → Typed η₁ (vstruct vnil) → Typed π₁ token → Typed σ u → Typed τ w
        → Idle 𝓛 C Λ (record { lifetimes = n; outlives = os; ty_params = ks; givens = g; params = p; locals = local ρ value_local ∷ local σ value_local ∷ local τ value_local ∷ local η₀ value_local ∷ local π₀ value_local ∷ local η₁ value_local ∷ local π₁ value_local ∷ []; body = seq (assign (place 3 []) (aggregate [])) (seq (assign (place 4 []) (aggregate (copy (place 3 []) ∷ []))) (seq (assign (place 5 []) (aggregate [])) (seq (assign (place 6 []) (aggregate (copy (place 5 []) ∷ []))) (seq (assign (place 0 []) (aggregate (copy (place 4 []) ∷ copy (place 6 []) ∷ []))) return)))) }) (u ∷ w ∷ []) (pair_val token token)
    laid2 hr h₀ p₀ h₁ p₁ hu hw = record {
      go = λ P Post h. qed 𝓛 (raw P ∷ []) ∵ enter ! C Λ _ (u ∷ w ∷ []) Post $ alloc_all ! (λ l. pass_all ! refl (hu, (hw, tt)) $ use1 𝓛 (later (raw (Post (pair_val token token)))) h $ await ! tt $
          sets ! (agg ! (no_more !)) refl h₀ $ sets ! (agg ! (and_then ! (get ! refl) (no_more !))) refl p₀ $ sets ! (agg ! (no_more !)) refl h₁ $ sets ! (agg ! (and_then ! (get ! refl) (no_more !))) refl p₁ $
          sets ! (agg ! (and_then ! (get ! refl) (and_then ! (get ! refl) (no_more !)))) refl hr $ returns ! (look_at ! 0 refl) $ free_all ! refl $ done !);
    }

  -- the first of the two is copied before it is laid in
  module _ {ρ π η₀ η₁ μ : Ty} where
    pub pair1 : Typed ρ (pair_val token token) → Typed π token → Typed η₀ token → Typed η₁ (vstruct vnil) → Typed μ token → Typed σ u
        → Idle 𝓛 C Λ (record { lifetimes = n; outlives = os; ty_params = ks; givens = g; params = p; locals = local ρ value_local ∷ local σ value_local ∷ local π value_local ∷ local η₀ value_local ∷ local η₁ value_local ∷ local μ value_local ∷ []; body = seq (assign (place 4 []) (aggregate [])) (seq (assign (place 2 []) (aggregate (copy (place 4 []) ∷ []))) (seq (assign (place 4 []) (aggregate [])) (seq (assign (place 3 []) (aggregate (copy (place 4 []) ∷ []))) (seq (assign (place 5 []) (rv_opd (copy (place 2 [])))) (seq (assign (place 0 []) (aggregate (copy (place 5 []) ∷ copy (place 3 []) ∷ []))) return))))) }) (u ∷ []) (pair_val token token)
    pair1 hr hp hq hh hm hu = record {
      go = λ P Post h. qed 𝓛 (raw P ∷ []) ∵ enter ! C Λ _ (u ∷ []) Post $ alloc_all ! (λ l. pass_all ! refl (hu, tt) $ use1 𝓛 (later (raw (Post (pair_val token token)))) h $ await ! tt $
          sets ! (agg ! (no_more !)) refl hh $ sets ! (agg ! (and_then ! (get ! refl) (no_more !))) refl hp $ sets ! (agg ! (no_more !)) refl hh $ sets ! (agg ! (and_then ! (get ! refl) (no_more !))) refl hq $ sets ! (of_opd ! (get ! refl)) refl hm $
          sets ! (agg ! (and_then ! (get ! refl) (and_then ! (get ! refl) (no_more !)))) refl hr $ returns ! (look_at ! 0 refl) $ free_all ! refl $ done !);
    }

  -- both are
  module _ {τ ρ π η₀ η₁ μ₀ μ₁ : Ty} {w : Val} where
    pub copied2 : Typed ρ (pair_val token token) → Typed π token → Typed η₀ token → Typed η₁ (vstruct vnil) → Typed μ₀ token → Typed μ₁ token → Typed σ u → Typed τ w
        → Idle 𝓛 C Λ (record { lifetimes = n; outlives = os; ty_params = ks; givens = g; params = p; locals = local ρ value_local ∷ local σ value_local ∷ local τ value_local ∷ local π value_local ∷ local η₀ value_local ∷ local η₁ value_local ∷ local μ₀ value_local ∷ local μ₁ value_local ∷ []; body = seq (assign (place 5 []) (aggregate [])) (seq (assign (place 3 []) (aggregate (copy (place 5 []) ∷ []))) (seq (assign (place 5 []) (aggregate [])) (seq (assign (place 4 []) (aggregate (copy (place 5 []) ∷ []))) (seq (assign (place 6 []) (rv_opd (copy (place 3 [])))) (seq (assign (place 7 []) (rv_opd (copy (place 4 [])))) (seq (assign (place 0 []) (aggregate (copy (place 6 []) ∷ copy (place 7 []) ∷ []))) return)))))) }) (u ∷ w ∷ []) (pair_val token token)
    copied2 hr hp hq hh h₀ h₁ hu hw = record {
      go = λ P Post h. qed 𝓛 (raw P ∷ []) ∵ enter ! C Λ _ (u ∷ w ∷ []) Post $ alloc_all ! (λ l. pass_all ! refl (hu, (hw, tt)) $ use1 𝓛 (later (raw (Post (pair_val token token)))) h $ await ! tt $
          sets ! (agg ! (no_more !)) refl hh $ sets ! (agg ! (and_then ! (get ! refl) (no_more !))) refl hp $ sets ! (agg ! (no_more !)) refl hh $ sets ! (agg ! (and_then ! (get ! refl) (no_more !))) refl hq $ sets ! (of_opd ! (get ! refl)) refl h₀ $ sets ! (of_opd ! (get ! refl)) refl h₁ $
          sets ! (agg ! (and_then ! (get ! refl) (and_then ! (get ! refl) (no_more !)))) refl hr $ returns ! (look_at ! 0 refl) $ free_all ! refl $ done !);
    }

abbrev pub No : {M : Type 1} {𝓤 : Ura M} (𝓛 : Logic 𝓤) → Made 𝓛 unit vunit
No 𝓛 = record { needs = λ r. []; made = λ r. qed 𝓛 (‵ ftrue ∷ []) ∵ feq_i ! (List Val) (vunit ∷ []) (vunit ∷ []) refl $ keep ! (0 ∷ []) $ done ! }

module _ {M : Type 1} {𝓤 : Ura M} (𝓛 : Logic 𝓤) where
  abbrev pub Of : (R : RattleType) {W : Fml} → ent 𝓤 (emp 𝓤) (sem 𝓛 W) → (O : R.Denot → Fml) → ((r : R.Denot) → R.own_val r (token ∷ []) ≡ fsep W (O r)) → Made 𝓛 R token
  Of R {W} mark O is = record { needs = λ r. O r ∷ []; made = λ r. qed 𝓛 (‵ (fsep (O r) ftrue) ∷ []) ∵ fsplit ! $ use0 𝓛 (‵ W) mark $ fjoin ! $ rewrite ! 0 (λ (P : Fml). ‵ P) (sym (is r)) refl $ keep ! (0 ∷ []) $ done ! }

  abbrev pub Only : (R : RattleType) (O : R.Denot → Fml) → ((r : R.Denot) → R.own_val r (token ∷ []) ≡ fsep (Token.own_val (record {}, tt) (token ∷ [])) (O r)) → Made 𝓛 R token
  Only R O is = Of R (token_made 𝓛) O is

  -- two of them, laid into one
  abbrev pub Laid : {A B R : RattleType} → Made 𝓛 A token → Made 𝓛 B token → (to : R.Denot → A.Denot × B.Denot)
      → ((r : R.Denot) → ent 𝓤 (sep 𝓤 (sem 𝓛 (A.own_val (to r).0 (token ∷ []))) (sem 𝓛 (B.own_val (to r).1 (token ∷ [])))) (sem 𝓛 (R.own_val r (pair_val token token ∷ [])))) → Made 𝓛 R (pair_val token token)
  Laid {A} {B} {R} m n to lay = record {
    needs = λ r. m.needs (to r).0 ++ n.needs (to r).1;
    made = λ r. let ps = m.needs (to r).0 in let qs = n.needs (to r).1 in qed 𝓛 (‵ (all (ps ++ qs)) ∷ []) ∵ use1 𝓛 (‵ (all ps) ⊛ ‵ (all qs)) (apart 𝓛 ps qs) $ split ! $
        use1 𝓛 (‵ (A.own_val (to r).0 (token ∷ []))) (m.made (to r).0) $ move ! (1 ∷ []) $ use1 𝓛 (‵ (B.own_val (to r).1 (token ∷ []))) (n.made (to r).1) $ move ! (1 ∷ 0 ∷ []) $ by ! (lay r);
  }

  abbrev pub Both : {A B : RattleType} → Made 𝓛 A token → Made 𝓛 B token → Made 𝓛 (Tuple (A ∷ B ∷ [])) (pair_val token token)
  Both {A} {B} m n = Laid {R = Tuple (A ∷ B ∷ [])} m n (λ r. r) (λ r. pair_of 𝓛 A B r.0 r.1 token token)
