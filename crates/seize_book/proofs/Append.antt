-- The step of the list, once for all events. Assumes `Logic`.
use Rattle.std.proofs.Common.{◌≡◌, ℕ, zero, suc, ◌+◌, ◌-◌, ◌<◌, ◌≤◌, Bool, true, false, ◌==◌, if◌then◌else◌, List, [], ◌∷◌, ◌++◌, length, get_or, set, length-set, sym, refl, ap, ◌∙◌, subst, ◌⊎◌, inl, inr, ⊎_elim, Some, slice_get, arith}
use mathlib.Core.List.{IsPrefix}
use mathlib.Core.Path.{fun_ext}
use seplogic.Ra.Ura.{Ura}
use native.Mathlib.Decide.{ℕ_discrete}
use base.Fraction.{full_share}
use base.Stored.{Coded}
use base.Logic.{SProp, ent, sep, wand, ex, all, guard, upd, apply∗, all_e, upd_i, guard_i}
use base.Fml.{Fml, ftrue}
use base.Growing.{latest}
use types.Logic.{Logic, sem}
use types.Growing.{latest_grows, latest_shows, latest_bounds}
use types.Kit.{‵, raw, ◌⊛◌, some, given, ◌$◌, ◌∵◌, !, qed, by, move, keep, drop, split, split3, join, fsplit, fsplit3, fjoin, fjoin3, fpick, fpack, pick, learn, show, check, frame, each, assume, suffices, settle, done, use1, use2, use3, rewrite}
use denote.Steps.{nothing}
use Rattle.seize_book.specs.Ledger.{HeldKey, logs, roster, rosters, right, rights, reached, first_row, rest, row, Rules, HoldsRows, standing, contents, Beside, WithKinds, with_list, HoldersKnow, Known, Goes, AllBelow, keys_made, more_of, AreNextNumbers, more_by, AllThere}
use Rattle.seize_book.proofs.Roster.{has, sets, mints}

-- the rows, one of them set
abbrev pub put : {X : Type 0} → List (List X) → ℕ → List X → List (List X)
put rows zero xs = xs ∷ rest rows
put rows (suc r) xs = first_row rows ∷ put (rest rows) r xs

put_same : {X : Type 0} (rows : List (List X)) (r : ℕ) (xs : List X) → row (put rows r xs) r ≡ xs
put_same rows zero xs = refl
put_same rows (suc r) xs = put_same (rest rows) r xs

put_other : {X : Type 0} (rows : List (List X)) (r q : ℕ) (xs : List X) → ¬ (q ≡ r) → row (put rows r xs) q ≡ row rows q
put_other rows zero zero xs n = absurd (n refl)
put_other rows zero (suc q) xs n = refl
put_other rows (suc r) zero xs n = refl
put_other rows (suc r) (suc q) xs n = put_other (rest rows) r q xs (λ e. n (ap suc e))

abbrev pub Has : {X : Type 0} → List (List X) → ℕ → ℕ → X → Type 0
Has rows r k x = slice_get (row rows r) k ≡ Some x

get_set : {X : Type 0} (xs : List X) (i k : ℕ) (y x : X) → slice_get (set xs i y) k ≡ Some x → ((k ≡ i) × (x ≡ y)) ⊎ ((¬ (k ≡ i)) × (slice_get xs k ≡ Some x))
get_set [] i k y x h = absurd (cc)
get_set (z ∷ xs) zero zero y x h = inl (refl, cc)
get_set (z ∷ xs) zero (suc k) y x h = inr ((λ e. omega arith), h)
get_set (z ∷ xs) (suc i) zero y x h = inr ((λ e. omega arith), h)
get_set (z ∷ xs) (suc i) (suc k) y x h = ⊎_elim (λ t. inl (ap suc t.0, t.1)) (λ t. inr ((λ e. t.0 (omega (arith, e))), t.1)) (get_set xs i k y x h)

abbrev pub at_key : {X : Type 0} → List (List X) → ℕ → ℕ → X → List (List X)
at_key rows r k x = put rows r (set (row rows r) k x)

has_put : {X : Type 0} (rows : List (List X)) (r k : ℕ) (x : X) (q j : ℕ) (y : X) → Has (at_key rows r k x) q j y → (y ≡ x) ⊎ ((¬ ((q ≡ r) × (j ≡ k))) × Has rows q j y)
has_put {X} rows r k x q j y h = go (ℕ_discrete q r)
  where
    go : Dec (q ≡ r) → (y ≡ x) ⊎ ((¬ ((q ≡ r) × (j ≡ k))) × Has rows q j y)
    go (yes e) = let h' : slice_get (set (row rows r) k x) j ≡ Some y = subst (λ (z : List X). slice_get z j ≡ Some y) (put_same rows r (set (row rows r) k x)) (subst (λ (z : ℕ). slice_get (row (at_key rows r k x) z) j ≡ Some y) e h) in
        ⊎_elim (λ t. inl t.1) (λ t. inr ((λ u. t.0 u.1), subst (λ (z : ℕ). slice_get (row rows z) j ≡ Some y) (sym e) t.1)) (get_set (row rows r) k j x y h')
    go (no n) = inr ((λ u. n u.0), subst (λ (z : List X). slice_get z j ≡ Some y) (put_other rows r q (set (row rows r) k x) n) h)

abbrev pub puts : {E : Type 0} → List (List (List E)) → List (HeldKey E) → List E → List (List (List E))
puts rows [] log = rows
puts rows (h ∷ hs) log = puts (at_key rows h.kind h.key log) hs log

has_puts : {E : Type 0} (rows : List (List (List E))) (held : List (HeldKey E)) (log : List E) (r k : ℕ) (own : List E) → Has (puts rows held log) r k own → (own ≡ log) ⊎ (Beside held r k × Has rows r k own)
has_puts rows [] log r k own h = inr (tt, h)
has_puts rows (g ∷ gs) log r k own h = ⊎_elim (λ e. inl e) (λ t. ⊎_elim (λ e. inl e) (λ u. inr ((u.0, t.0), u.1)) (has_put rows g.kind g.key log r k own t.1)) (has_puts (at_key rows g.kind g.key log) gs log r k own h)

put_length : {X : Type 0} (rows : List (List X)) (r q : ℕ) (xs : List X) → length xs ≡ length (row rows r) → length (row (put rows r xs) q) ≡ length (row rows q)
put_length {X} rows r q xs e = go (ℕ_discrete q r)
  where
    go : Dec (q ≡ r) → length (row (put rows r xs) q) ≡ length (row rows q)
    go (yes i) = ap (λ (z : ℕ). length (row (put rows r xs) z)) i ∙ ap length (put_same rows r xs) ∙ e ∙ ap (λ (z : ℕ). length (row rows z)) (sym i)
    go (no n) = ap length (put_other rows r q xs n)

puts_length : {E : Type 0} (rows : List (List (List E))) (held : List (HeldKey E)) (log : List E) (q : ℕ) → length (row (puts rows held log) q) ≡ length (row rows q)
puts_length rows [] log q = refl
puts_length rows (h ∷ hs) log q = puts_length (at_key rows h.kind h.key log) hs log q ∙ put_length rows h.kind q (set (row rows h.kind) h.key log) (length-set (row rows h.kind) h.key log)

-- the rows, with a new key of each of these kinds
abbrev pub one_more : {E : Type 0} → List (List (List E)) → ℕ → List E → List (List (List E))
one_more rows r log = put rows r (row rows r ++ log ∷ [])

abbrev pub grown : {E : Type 0} → List (List (List E)) → List (ℕ × ℕ) → List E → List (List (List E))
grown rows [] log = rows
grown rows (b ∷ births) log = grown (one_more rows b.0 log) births log

get_push : {X : Type 0} (xs : List X) (y : X) (k : ℕ) (x : X) → slice_get (xs ++ y ∷ []) k ≡ Some x → (x ≡ y) ⊎ (slice_get xs k ≡ Some x)
get_push [] y zero x h = inl (cc)
get_push [] y (suc k) x h = absurd (cc)
get_push (z ∷ xs) y zero x h = inr h
get_push (z ∷ xs) y (suc k) x h = get_push xs y k x h

get_lt : {X : Type 0} (xs : List X) (k : ℕ) (x : X) → slice_get xs k ≡ Some x → k < length xs
get_lt [] k x h = absurd (cc)
get_lt (y ∷ xs) zero x h = omega arith
get_lt (y ∷ xs) (suc k) x h = let l : k < length xs = get_lt xs k x h in omega arith

has_more : {E : Type 0} (rows : List (List (List E))) (b : ℕ) (log : List E) (r k : ℕ) (own : List E) → Has (one_more rows b log) r k own → (own ≡ log) ⊎ Has rows r k own
has_more rows b log r k own h = go (ℕ_discrete r b)
  where
    go : Dec (r ≡ b) → (own ≡ log) ⊎ Has rows r k own
    go (yes e) = let h' : slice_get (row rows b ++ log ∷ []) k ≡ Some own = subst (λ (z : List (List _)). slice_get z k ≡ Some own) (put_same rows b (row rows b ++ log ∷ [])) (subst (λ (z : ℕ). Has (one_more rows b log) z k own) e h) in
        ⊎_elim (λ i. inl i) (λ t. inr (subst (λ (z : ℕ). Has rows z k own) (sym e) t)) (get_push (row rows b) log k own h')
    go (no n) = inr (subst (λ (z : List (List _)). slice_get z k ≡ Some own) (put_other rows b r (row rows b ++ log ∷ []) n) h)

pub has_grown : {E : Type 0} (rows : List (List (List E))) (births : List (ℕ × ℕ)) (log : List E) (r k : ℕ) (own : List E) → Has (grown rows births log) r k own → (own ≡ log) ⊎ Has rows r k own
has_grown rows [] log r k own h = inr h
has_grown rows (b ∷ births) log r k own h = ⊎_elim (λ e. inl e) (λ t. has_more rows b.0 log r k own t) (has_grown (one_more rows b.0 log) births log r k own h)

length_more : {X : Type 0} (xs : List X) (x : X) → length (xs ++ x ∷ []) ≡ length xs + 1
length_more [] x = refl
length_more (y ∷ xs) x = omega (arith, length_more xs x)

is_true : (a : Bool) → (a ≡ true) ⊎ (a ≡ false)
is_true true = inl refl
is_true false = inr refl

eq_true : (a b : ℕ) → (a == b) ≡ true → a ≡ b
eq_true a b h = grind arith

-- how many keys of a kind there are
abbrev pub sizes : {E : Type 0} → List (List (List E)) → ℕ → ℕ
sizes rows r = length (row rows r)

size_more : {E : Type 0} (rows : List (List (List E))) (b : ℕ) (log : List E) → sizes (one_more rows b log) b ≡ sizes rows b + 1
size_more rows b log = ap length (put_same rows b (row rows b ++ log ∷ [])) ∙ length_more (row rows b) log

more_sizes : {E : Type 0} (rows : List (List (List E))) (b : ℕ) (log : List E) (r : ℕ) → sizes (one_more rows b log) r ≡ more_of b (sizes rows) r
more_sizes rows b log r = go (is_true (r == b))
  where
    go : ((r == b) ≡ true) ⊎ ((r == b) ≡ false) → sizes (one_more rows b log) r ≡ (if r == b then sizes rows r + 1 else sizes rows r)
    go (inl t) = let e : r ≡ b = eq_true r b t in ap (sizes (one_more rows b log)) e ∙ size_more rows b log ∙ ap (λ (z : ℕ). sizes rows z + 1) (sym e) ∙ ap (λ (y : Bool). if y then sizes rows r + 1 else sizes rows r) (sym t)
    go (inr t) = ap length (put_other rows b r (row rows b ++ log ∷ []) (λ e. grind arith)) ∙ ap (λ (y : Bool). if y then sizes rows r + 1 else sizes rows r) (sym t)

pub grown_sizes : {E : Type 0} (rows : List (List (List E))) (births : List (ℕ × ℕ)) (log : List E) (r : ℕ) → sizes (grown rows births log) r ≡ more_by births (sizes rows) r
grown_sizes rows [] log r = refl
grown_sizes rows (b ∷ births) log r = grown_sizes (one_more rows b.0 log) births log r ∙ ap (λ (many : ℕ → ℕ). more_by births many r) (fun_ext (more_sizes rows b.0 log))

-- how many there are of each kind, once there is this key
abbrev pub up_to : ℕ × ℕ → (ℕ → ℕ) → ℕ → ℕ
up_to b many r = if r == b.0 then suc b.1 else many r

up_to_last : {E : Type 0} (rows : List (List (List E))) (b : ℕ × ℕ) (log : List E) → sizes rows b.0 ≡ b.1 → up_to b (sizes rows) ≡ sizes (one_more rows b.0 log)
up_to_last rows b log e = fun_ext (λ r. let one = more_sizes rows b.0 log r in grind arith)

up_to_more : {E : Type 0} (rows : List (List (List E))) (b : ℕ × ℕ) (log : List E) → up_to b (sizes rows) ≡ up_to b (sizes (one_more rows b.0 log))
up_to_more rows b log = fun_ext (λ r. let one = more_sizes rows b.0 log r in grind arith)

-- there may always be one more of the kind
abbrev pub OneMore : {E : Type 0} → Rules E → ℕ → Type 0
OneMore {E} rules r = (log : List E) (j : ℕ) → rules.Sized r j log → rules.Sized r (j + 1) log

-- each of these keys is of one of n kinds, of which there may always be one more, and there is neither it nor a later one
abbrev pub MayMint : {E : Type 0} → Rules E → ℕ → (ℕ → ℕ) → List (ℕ × ℕ) → Type 0
MayMint rules n many [] = Unit {0}
MayMint rules n many (b ∷ births) = (b.0 < n) × OneMore rules b.0 × (many b.0 ≤ b.1) × MayMint rules n (up_to b many) births

module _ {E : Type 0} (c : Coded E) (rules : Rules E) (extra : List E → Fml) (η : ℕ) (δs : List ℕ) {M : Type 1} {𝓤 : Ura M} (𝓛 : Logic 𝓤) where
  open 𝓛 use {H, A}

  abbrev Pr : Type 2
  Pr = SProp 𝓤

  abbrev ◌⊢◌ : Pr → Pr → Type 1
  P ⊢ Q = ent 𝓤 P Q

  abbrev ◌∗◌ : Pr → Pr → Pr
  P ∗ Q = sep 𝓤 P Q

  abbrev ◌-∗◌ : Pr → Pr → Pr
  P -∗ Q = wand 𝓤 P Q

  abbrev ⟦◌⟧ : Fml → Pr
  ⟦ P ⟧ = sem 𝓛 P

  infix 26 ◌⊢◌
  infixr 35 ◌∗◌
  infixr 30 ◌-∗◌
  abbrev Rows : Type 0
  Rows = List (List (List E))

  abbrev Back : List ℕ → Rows → ℕ → List (List E) → Pr
  Back ns rows r owns = ⟦ roster c (get_or ns r 0) 0 owns ⟧ -∗ ⟦ rosters c ns (put rows r owns) ⟧

  opens : (ns : List ℕ) (rows : Rows) (r : ℕ) → r < length ns → ⟦ rosters c ns rows ⟧ ⊢ ⟦ roster c (get_or ns r 0) 0 (row rows r) ⟧ ∗ all 𝓤 (Back ns rows r)
  opens [] rows r h = absurd (omega arith)
  opens (δ ∷ ns) rows zero h = qed 𝓛 (‵ (roster c δ 0 (first_row rows)) ∷ ‵ (rosters c ns (rest rows)) ∷ []) ∵ frame ! $ each ! (Back (δ ∷ ns) rows zero) (λ owns. assume ! (‵ (roster c δ 0 owns)) $ done !)
  opens (δ ∷ ns) rows (suc r) h = qed 𝓛 (‵ (roster c δ 0 (first_row rows)) ∷ ‵ (rosters c ns (rest rows)) ∷ []) ∵ move ! (1 ∷ []) $
      use1 𝓛 (‵ (roster c (get_or ns r 0) 0 (row (rest rows) r)) ⊛ raw (all 𝓤 (Back ns (rest rows) r))) (opens ns (rest rows) r (omega arith)) $ split ! $ frame ! $
      each ! (Back (δ ∷ ns) rows (suc r)) (λ owns. use1 𝓛 (raw (Back ns (rest rows) r owns)) (all_e 𝓤 (Back ns (rest rows) r) owns) $ assume ! (‵ (roster c (get_or ns r 0) 0 owns)) $
      use2 𝓛 (‵ (rosters c ns (put (rest rows) r owns))) (apply∗ 𝓤 ⟦ roster c (get_or ns r 0) 0 owns ⟧ ⟦ rosters c ns (put (rest rows) r owns) ⟧) $ move ! (1 ∷ 0 ∷ []) $ done !)

  has_right : (ns : List ℕ) (rows : Rows) (r k : ℕ) (own : List E) → r < length ns → ⟦ rosters c ns rows ⟧ ∗ ⟦ right c ns r k own ⟧ ⊢ guard 𝓤 (Has rows r k own) (⟦ rosters c ns rows ⟧ ∗ ⟦ right c ns r k own ⟧)
  has_right [] rows r k own h = absurd (omega arith)
  has_right (δ ∷ ns) rows zero k own h = qed 𝓛 ((‵ (roster c δ 0 (first_row rows)) ⊛ ‵ (rosters c ns (rest rows))) ∷ ‵ (right c (δ ∷ ns) zero k own) ∷ []) ∵ split ! $ move ! (0 ∷ 2 ∷ []) $
      use2 𝓛 (given (Has rows zero k own) (‵ (roster c δ 0 (first_row rows)) ⊛ ‵ (right c (δ ∷ ns) zero k own))) (has c 𝓛 δ (first_row rows) 0 k k own (omega arith)) $ learn ! (λ so. check ! so $ split ! $ move ! (0 ∷ 2 ∷ []) $ join ! $ done !)
  has_right (δ ∷ ns) rows (suc r) k own h = qed 𝓛 ((‵ (roster c δ 0 (first_row rows)) ⊛ ‵ (rosters c ns (rest rows))) ∷ ‵ (right c ns r k own) ∷ []) ∵ split ! $ move ! (1 ∷ 2 ∷ []) $
      use2 𝓛 (given (Has (rest rows) r k own) (‵ (rosters c ns (rest rows)) ⊛ ‵ (right c ns r k own))) (has_right ns (rest rows) r k own (omega arith)) $ learn ! (λ so. check ! so $ split ! $ move ! (2 ∷ 0 ∷ []) $ join ! $ done !)

  sets_right : (rows : Rows) (r k : ℕ) (own new : List E) → r < length δs → ⟦ rosters c δs rows ⟧ ∗ ⟦ right c δs r k own ⟧ ⊢ upd 𝓤 (⟦ rosters c δs (at_key rows r k new) ⟧ ∗ ⟦ right c δs r k new ⟧)
  sets_right rows r k own new h = let δ : ℕ = get_or δs r 0 in let owns : List (List E) = row rows r in let owns' : List (List E) = set owns k new in let Z : Pr = ⟦ rosters c δs (at_key rows r k new) ⟧ ∗ ⟦ right c δs r k new ⟧ in
      qed 𝓛 (‵ (rosters c δs rows) ∷ ‵ (right c δs r k own) ∷ []) ∵ use1 𝓛 (‵ (roster c δ 0 owns) ⊛ raw (all 𝓤 (Back δs rows r))) (opens δs rows r h) $ split ! $ move ! (0 ∷ 2 ∷ []) $
      use2 𝓛 (raw (upd 𝓤 (⟦ roster c δ 0 owns' ⟧ ∗ ⟦ right c δs r k new ⟧))) (sets c 𝓛 δ owns 0 k k own new (omega arith)) $ settle 𝓛 Z (‵ (roster c δ 0 owns') ⊛ ‵ (right c δs r k new)) $ split ! $ move ! (2 ∷ []) $
      use1 𝓛 (raw (Back δs rows r owns')) (all_e 𝓤 (Back δs rows r) owns') $ move ! (1 ∷ 0 ∷ []) $ use2 𝓛 (‵ (rosters c δs (at_key rows r k new))) (apply∗ 𝓤 ⟦ roster c δ 0 owns' ⟧ ⟦ rosters c δs (at_key rows r k new) ⟧) $
      suffices ! _ (upd_i 𝓤 Z) $ done !

  mints_right : (rows : Rows) (r : ℕ) (new : List E) → r < length δs → ⟦ rosters c δs rows ⟧ ⊢ upd 𝓤 (⟦ rosters c δs (put rows r (row rows r ++ new ∷ [])) ⟧ ∗ ⟦ right c δs r (length (row rows r)) new ⟧)
  mints_right rows r new h = let δ : ℕ = get_or δs r 0 in let owns : List (List E) = row rows r in let owns' : List (List E) = owns ++ new ∷ [] in let k : ℕ = length owns in let Z : Pr = ⟦ rosters c δs (put rows r owns') ⟧ ∗ ⟦ right c δs r k new ⟧ in
      qed 𝓛 (‵ (rosters c δs rows) ∷ []) ∵ use1 𝓛 (‵ (roster c δ 0 owns) ⊛ raw (all 𝓤 (Back δs rows r))) (opens δs rows r h) $ split ! $
      use1 𝓛 (raw (upd 𝓤 (⟦ roster c δ 0 owns' ⟧ ∗ ⟦ right c δs r k new ⟧))) (mints c 𝓛 δ owns 0 k new (omega arith)) $ settle 𝓛 Z (‵ (roster c δ 0 owns') ⊛ ‵ (right c δs r k new)) $ split ! $ move ! (2 ∷ []) $
      use1 𝓛 (raw (Back δs rows r owns')) (all_e 𝓤 (Back δs rows r) owns') $ move ! (1 ∷ 0 ∷ []) $ use2 𝓛 (‵ (rosters c δs (put rows r owns'))) (apply∗ 𝓤 ⟦ roster c δ 0 owns' ⟧ ⟦ rosters c δs (put rows r owns') ⟧) $
      suffices ! _ (upd_i 𝓤 Z) $ done !

  -- several rights at once
  abbrev AllHas : Rows → List (HeldKey E) → Type 0
  AllHas rows [] = Unit {0}
  AllHas rows (h ∷ hs) = Has rows h.kind h.key h.own × AllHas rows hs

  has_rights : (rows : Rows) (held : List (HeldKey E)) → WithKinds (length δs) held → ⟦ rosters c δs rows ⟧ ∗ ⟦ rights c δs held ⟧ ⊢ guard 𝓤 (AllHas rows held) (⟦ rosters c δs rows ⟧ ∗ ⟦ rights c δs held ⟧)
  has_rights rows [] w = guard_i 𝓤 _ _ tt
  has_rights rows (h ∷ hs) w = qed 𝓛 (‵ (rosters c δs rows) ∷ (‵ (right c δs h.kind h.key h.own) ⊛ ‵ (rights c δs hs)) ∷ []) ∵ move ! (1 ∷ []) $ split ! $ move ! (2 ∷ 0 ∷ []) $
      use2 𝓛 (given (Has rows h.kind h.key h.own) (‵ (rosters c δs rows) ⊛ ‵ (right c δs h.kind h.key h.own))) (has_right δs rows h.kind h.key h.own w.0) $ learn ! (λ so. split ! $ move ! (0 ∷ 2 ∷ []) $
      use2 𝓛 (given (AllHas rows hs) (‵ (rosters c δs rows) ⊛ ‵ (rights c δs hs))) (has_rights rows hs w.1) $ learn ! (λ more. check ! (so, more) $ split ! $ frame ! $ move ! (1 ∷ 0 ∷ []) $ done !))

  sets_rights : (rows : Rows) (held : List (HeldKey E)) (log : List E) → WithKinds (length δs) held → ⟦ rosters c δs rows ⟧ ∗ ⟦ rights c δs held ⟧ ⊢ upd 𝓤 (⟦ rosters c δs (puts rows held log) ⟧ ∗ ⟦ rights c δs (with_list held log) ⟧)
  sets_rights rows [] log w = upd_i 𝓤 _
  sets_rights rows (h ∷ hs) log w = let rows' : Rows = at_key rows h.kind h.key log in let Z : Pr = ⟦ rosters c δs (puts rows' hs log) ⟧ ∗ ⟦ right c δs h.kind h.key log ⟧ ∗ ⟦ rights c δs (with_list hs log) ⟧ in
      qed 𝓛 (‵ (rosters c δs rows) ∷ (‵ (right c δs h.kind h.key h.own) ⊛ ‵ (rights c δs hs)) ∷ []) ∵ move ! (1 ∷ []) $ split ! $ move ! (2 ∷ 0 ∷ []) $
      use2 𝓛 (raw (upd 𝓤 (⟦ rosters c δs rows' ⟧ ∗ ⟦ right c δs h.kind h.key log ⟧))) (sets_right rows h.kind h.key h.own log w.0) $ settle 𝓛 Z (‵ (rosters c δs rows') ⊛ ‵ (right c δs h.kind h.key log)) $ split ! $ move ! (0 ∷ 2 ∷ []) $
      use2 𝓛 (raw (upd 𝓤 (⟦ rosters c δs (puts rows' hs log) ⟧ ∗ ⟦ rights c δs (with_list hs log) ⟧))) (sets_rights rows' hs log w.1) $ settle 𝓛 Z (‵ (rosters c δs (puts rows' hs log)) ⊛ ‵ (rights c δs (with_list hs log))) $ split ! $
      suffices ! _ (upd_i 𝓤 Z) $ frame ! $ move ! (1 ∷ 0 ∷ []) $ done !

  -- a new key, and those that are made after it
  mints_one : (rows last : Rows) (b : ℕ × ℕ) (births : List (ℕ × ℕ)) (log : List E) → b.0 < length δs → sizes rows b.0 ≡ b.1 → ⟦ rosters c δs (one_more rows b.0 log) ⟧ ⊢ upd 𝓤 (⟦ rosters c δs last ⟧ ∗ ⟦ rights c δs (keys_made births log) ⟧)
      → ⟦ rosters c δs rows ⟧ ⊢ upd 𝓤 (⟦ rosters c δs last ⟧ ∗ ⟦ rights c δs (keys_made (b ∷ births) log) ⟧)
  mints_one rows last b births log below is others = let rows' : Rows = one_more rows b.0 log in let k : ℕ = sizes rows b.0 in let Z : Pr = ⟦ rosters c δs last ⟧ ∗ ⟦ rights c δs (keys_made (b ∷ births) log) ⟧ in
      qed 𝓛 (‵ (rosters c δs rows) ∷ []) ∵ use1 𝓛 (raw (upd 𝓤 (⟦ rosters c δs rows' ⟧ ∗ ⟦ right c δs b.0 k log ⟧))) (mints_right rows b.0 log below) $ settle 𝓛 Z (‵ (rosters c δs rows') ⊛ ‵ (right c δs b.0 k log)) $ split ! $
      rewrite ! 1 (λ (j : ℕ). ‵ (right c δs b.0 j log)) is refl $ use1 𝓛 (raw (upd 𝓤 (⟦ rosters c δs last ⟧ ∗ ⟦ rights c δs (keys_made births log) ⟧))) others $
      settle 𝓛 Z (‵ (rosters c δs last) ⊛ ‵ (rights c δs (keys_made births log))) $ split ! $ suffices ! _ (upd_i 𝓤 Z) $ frame ! $ move ! (1 ∷ 0 ∷ []) $ fjoin ! $ done !

  -- a new key that nobody holds, and what is made after it
  drops_one : (rows : Rows) (r : ℕ) (log : List E) (Z : Pr) → r < length δs → ⟦ rosters c δs (one_more rows r log) ⟧ ⊢ upd 𝓤 Z → ⟦ rosters c δs rows ⟧ ⊢ upd 𝓤 Z
  drops_one rows r log Z below others = let rows' : Rows = one_more rows r log in let k : ℕ = sizes rows r in
      qed 𝓛 (‵ (rosters c δs rows) ∷ []) ∵ use1 𝓛 (raw (upd 𝓤 (⟦ rosters c δs rows' ⟧ ∗ ⟦ right c δs r k log ⟧))) (mints_right rows r log below) $ settle 𝓛 Z (‵ (rosters c δs rows') ⊛ ‵ (right c δs r k log)) $ split ! $ keep ! (0 ∷ []) $ by ! others

  -- the rights to new keys
  pub borns : (rows : Rows) (births : List (ℕ × ℕ)) (log : List E) → AllBelow (length δs) births → AreNextNumbers (sizes rows) births → ⟦ rosters c δs rows ⟧ ⊢ upd 𝓤 (⟦ rosters c δs (grown rows births log) ⟧ ∗ ⟦ rights c δs (keys_made births log) ⟧)
  borns rows [] log below next = qed 𝓛 (‵ (rosters c δs rows) ∷ []) ∵ suffices ! _ (upd_i 𝓤 (⟦ rosters c δs rows ⟧ ∗ ⟦ ftrue ⟧)) $ frame ! $ nothing ! $ done !
  borns rows (b ∷ births) log below next = let rows' : Rows = one_more rows b.0 log in
      mints_one rows (grown rows' births log) b births log below.0 next.0 (borns rows' births log below.1 (subst (λ (many : ℕ → ℕ). AreNextNumbers many births) (sym (fun_ext (more_sizes rows b.0 log))) next.1))

  pub joins : (xs ys : List (HeldKey E)) → ⟦ rights c δs xs ⟧ ∗ ⟦ rights c δs ys ⟧ ⊢ ⟦ rights c δs (xs ++ ys) ⟧
  joins [] ys = qed 𝓛 (‵ ftrue ∷ ‵ (rights c δs ys) ∷ []) ∵ keep ! (1 ∷ []) $ done !
  joins (h ∷ xs) ys = qed 𝓛 ((‵ (right c δs h.kind h.key h.own) ⊛ ‵ (rights c δs xs)) ∷ ‵ (rights c δs ys) ∷ []) ∵ split ! $ move ! (1 ∷ 2 ∷ []) $ use2 𝓛 (‵ (rights c δs (xs ++ ys))) (joins xs ys) $ move ! (1 ∷ 0 ∷ []) $ fjoin ! $ done !

  abbrev J : Fml
  J = contents c rules extra η δs

  abbrev top : List E → Fml
  top log = latest (logs c) full_share η log

  abbrev had : List E → Fml
  had log = reached c η log

  all_kept : (rows : Rows) (log : List E) (held : List (HeldKey E)) → HoldsRows rules rows log → AllHas rows held → HoldersKnow rules held log
  all_kept rows log [] so has = tt
  all_kept rows log (h ∷ hs) so has = (so.kept h.kind h.key h.own has.0, all_kept rows log hs so has.1)

  all_there : (rows : Rows) (held : List (HeldKey E)) → AllHas rows held → AllThere (sizes rows) held
  all_there rows [] h = tt
  all_there rows (g ∷ gs) h = (get_lt (row rows g.kind) g.key g.own h.0, all_there rows gs h.1)

  pub shut : (rows : Rows) (log : List E) → HoldsRows rules rows log → ⟦ rosters c δs rows ⟧ ∗ ⟦ top log ⟧ ∗ ⟦ extra log ⟧ ⊢ ⟦ J ⟧
  shut rows log so = qed 𝓛 (‵ (rosters c δs rows) ∷ ‵ (top log) ∷ ‵ (extra log) ∷ []) ∵ nothing ! $ fpack ! (HoldsRows rules rows log) (λ _. ftrue) so $ move ! (3 ∷ 0 ∷ []) $ fjoin ! $
      move ! (1 ∷ 2 ∷ 0 ∷ []) $ fjoin3 ! $ fpack ! (Rows × List E) (standing c rules extra η δs) (rows, log) $ done !

  abbrev Open : List (HeldKey E) → List E → Rows × List E → Pr
  Open held seen s = guard 𝓤 (HoldsRows rules s.0 s.1 × Known rules held seen s.1 × AllThere (sizes s.0) held) (⟦ rosters c δs s.0 ⟧ ∗ ⟦ top s.1 ⟧ ∗ ⟦ extra s.1 ⟧ ∗ ⟦ rights c δs held ⟧)

  looked : (held : List (HeldKey E)) (seen : List E) → WithKinds (length δs) held → ⟦ J ⟧ ∗ ⟦ rights c δs held ⟧ ∗ ⟦ had seen ⟧ ⊢ ex 𝓤 (Open held seen)
  looked held seen w = qed 𝓛 (‵ J ∷ ‵ (rights c δs held) ∷ ‵ (had seen) ∷ []) ∵ fpick ! (λ s. fsplit3 ! $ move ! (2 ∷ []) $ fsplit ! $ move ! (1 ∷ []) $ fpick ! (λ so. drop ! $
      -- [extra; rosters; top; rights; seen]
      move ! (2 ∷ 4 ∷ []) $ use2 𝓛 (given (IsPrefix seen s.1) (‵ (top s.1) ⊛ ‵ (had seen))) (latest_bounds (logs c) 𝓛 full_share η s.1 seen) $ learn ! (λ p. split ! $ move ! (3 ∷ 4 ∷ []) $
      use2 𝓛 (given (AllHas s.0 held) (‵ (rosters c δs s.0) ⊛ ‵ (rights c δs held))) (has_rights s.0 held w) $ learn ! (λ h. split ! $
      -- [rosters; rights; top; seen; extra]
      show ! (Open held seen) s $ check ! (so, (so.legal, p, all_kept s.0 s.1 held so h), all_there s.0 held h) $ keep ! (0 ∷ 2 ∷ 4 ∷ 1 ∷ []) $ done !))))

  abbrev seeing : List (HeldKey E) → List E → types.Kit.Item 𝓤
  seeing held seen = some (λ (s : Rows × List E). given (HoldsRows rules s.0 s.1 × Known rules held seen s.1 × AllThere (sizes s.0) held) (‵ (rosters c δs s.0) ⊛ ‵ (top s.1) ⊛ ‵ (extra s.1) ⊛ ‵ (rights c δs held)))

  abbrev KeptNow : Type 0
  KeptNow = (r k : ℕ) (log : List E) → rules.Knows r k log log

  holds_more : (rows : Rows) (held : List (HeldKey E)) (seen log : List E) (ev : List E → E) (births : List E → List (ℕ × ℕ)) (Told : List E → Type 0) → KeptNow → Goes rules held seen ev births Told → HoldsRows rules rows log → Known rules held seen log → AllThere (sizes rows) held → Told log
      → HoldsRows rules (grown (puts rows held (log ++ ev log ∷ [])) (births log) (log ++ ev log ∷ [])) (log ++ ev log ∷ [])
  holds_more rows held seen log ev births Told same goes so known there told = let log' : List E = log ++ ev log ∷ [] in let g = goes log known told in let mid : Rows = puts rows held log' in
      record {
        legal = g.0;
        kept = λ r k own h. ⊎_elim (λ (e : own ≡ log'). subst (λ (x : List E). rules.Knows r k x log') (sym e) (same r k log'))
            (λ h'. ⊎_elim (λ (e : own ≡ log'). subst (λ (x : List E). rules.Knows r k x log') (sym e) (same r k log')) (λ t. g.1 r k own t.0 (sizes rows r, so.sized r, get_lt (row rows r) k own t.1) (so.kept r k own t.1)) (has_puts rows held log' r k own h')) (has_grown mid (births log) log' r k own h);
        sized = λ r. subst (λ (j : ℕ). rules.Sized r j log') (ap (λ (many : ℕ → ℕ). more_by (births log) many r) (sym (fun_ext (puts_length rows held log'))) ∙ sym (grown_sizes mid (births log) log' r)) ((g.2 (sizes rows) so.sized there).1 r);
      }

  -- what is had after an event was appended
  abbrev pub Appended : List (HeldKey E) → List E → (List E → E) → (List E → List (ℕ × ℕ)) → (List E → Type 0) → (List E → Pr) → List E → Pr
  Appended held seen ev births Told Y log = guard 𝓤 (Known rules held seen log × Told log)
      (⟦ J ⟧ ∗ ⟦ rights c δs (with_list held (log ++ ev log ∷ []) ++ keys_made (births log) (log ++ ev log ∷ [])) ⟧ ∗ ⟦ had (log ++ ev log ∷ []) ⟧ ∗ Y log)

  -- THE step: whoever holds the rights to all that the event changes appends it, whatever the log is
  pub appends : (held : List (HeldKey E)) (seen : List E) (ev : List E → E) (births : List E → List (ℕ × ℕ)) (Told : List E → Type 0) (X : Pr) (Y : List E → Pr) → WithKinds (length δs) held → ((log : List E) → AllBelow (length δs) (births log)) → KeptNow → Goes rules held seen ev births Told
      → ((log : List E) → Known rules held seen log → ⟦ extra log ⟧ ∗ X ⊢ guard 𝓤 (Told log) (⟦ extra log ⟧ ∗ X))
      → ((log : List E) → Known rules held seen log → Told log → ⟦ extra log ⟧ ∗ X ⊢ upd 𝓤 (⟦ extra (log ++ ev log ∷ []) ⟧ ∗ Y log))
      → ⟦ J ⟧ ∗ ⟦ rights c δs held ⟧ ∗ ⟦ had seen ⟧ ∗ X ⊢ upd 𝓤 (ex 𝓤 (Appended held seen ev births Told Y))
  appends held seen ev births Told X Y w below same goes tells moves = let Z : Pr = ex 𝓤 (Appended held seen ev births Told Y) in
      qed 𝓛 (‵ J ∷ ‵ (rights c δs held) ∷ ‵ (had seen) ∷ raw X ∷ []) ∵ use3 𝓛 (seeing held seen) (looked held seen w) $ pick ! (λ s. learn ! (λ so. let rows : Rows = s.0 in let log : List E = s.1 in let log' : List E = log ++ ev log ∷ [] in
      let mid : Rows = puts rows held log' in let rows' : Rows = grown mid (births log) log' in let new : List (HeldKey E) = keys_made (births log) log' in
      split ! $ move ! (1 ∷ []) $ split3 ! $
      -- [top; extra; rights; rosters; X]
      move ! (1 ∷ 4 ∷ []) $ use2 𝓛 (given (Told log) (‵ (extra log) ⊛ raw X)) (tells log so.1) $ learn ! (λ told. split ! $
      -- [extra; X; top; rights; rosters]
      move ! (4 ∷ 3 ∷ []) $ use2 𝓛 (raw (upd 𝓤 (⟦ rosters c δs mid ⟧ ∗ ⟦ rights c δs (with_list held log') ⟧))) (sets_rights rows held log' w) $ settle 𝓛 Z (‵ (rosters c δs mid) ⊛ ‵ (rights c δs (with_list held log'))) $ split ! $
      use1 𝓛 (raw (upd 𝓤 (⟦ rosters c δs rows' ⟧ ∗ ⟦ rights c δs new ⟧))) (borns mid (births log) log' (below log) (subst (λ (many : ℕ → ℕ). AreNextNumbers many (births log)) (sym (fun_ext (puts_length rows held log'))) ((goes log so.1 told).2 (sizes rows) so.0.sized so.2).0)) $ settle 𝓛 Z (‵ (rosters c δs rows') ⊛ ‵ (rights c δs new)) $ split ! $
      -- [rosters; new rights; rights; extra; X; top]
      move ! (2 ∷ 1 ∷ []) $ use2 𝓛 (‵ (rights c δs (with_list held log' ++ new))) (joins (with_list held log') new) $ move ! (1 ∷ 0 ∷ []) $
      -- [rosters; rights; extra; X; top]
      move ! (4 ∷ []) $ use1 𝓛 (raw (upd 𝓤 ⟦ top log' ⟧)) (latest_grows (logs c) 𝓛 η log log' (ev log ∷ [], refl)) $ settle 𝓛 Z (‵ (top log')) $
      use1 𝓛 (‵ (top log') ⊛ ‵ (had log')) (latest_shows (logs c) 𝓛 full_share η log' log' ([], mathlib.Core.List.append-nil log')) $ split ! $
      -- [top; reached; rosters; rights; extra; X]
      move ! (4 ∷ 5 ∷ []) $ use2 𝓛 (raw (upd 𝓤 (⟦ extra log' ⟧ ∗ Y log))) (moves log so.1 told) $ settle 𝓛 Z (‵ (extra log') ⊛ raw (Y log)) $ split ! $ suffices ! _ (upd_i 𝓤 Z) $
      -- [extra; Y; top; reached; rosters; rights]
      move ! (4 ∷ 2 ∷ 0 ∷ []) $ use3 𝓛 (‵ J) (shut rows' log' (holds_more rows held seen log ev births Told same goes so.0 so.1 so.2 told)) $
      -- [J; Y; reached; rights]
      show ! (Appended held seen ev births Told Y) log $ check ! (so.1, told) $ move ! (0 ∷ 3 ∷ 2 ∷ 1 ∷ []) $ done !)))

  -- nothing is appended: what the log is now was reached, and the holders know of it. What stands beside the list may tell more of it, and
  -- give what may be had twice.
  pub looks_beside : (held : List (HeldKey E)) (seen : List E) (Told : List E → Type 0) (X : Pr) (Y : List E → Pr) → WithKinds (length δs) held → ((log : List E) → Known rules held seen log → ⟦ extra log ⟧ ∗ X ⊢ guard 𝓤 (Told log) (⟦ extra log ⟧ ∗ Y log))
      → ⟦ J ⟧ ∗ ⟦ rights c δs held ⟧ ∗ ⟦ had seen ⟧ ∗ X ⊢ ex 𝓤 (λ log. guard 𝓤 (Known rules held seen log × Told log) (⟦ J ⟧ ∗ ⟦ rights c δs held ⟧ ∗ ⟦ had log ⟧ ∗ Y log))
  looks_beside held seen Told X Y w tells = qed 𝓛 (‵ J ∷ ‵ (rights c δs held) ∷ ‵ (had seen) ∷ raw X ∷ []) ∵ use3 𝓛 (seeing held seen) (looked held seen w) $ pick ! (λ s. learn ! (λ so. split ! $ move ! (1 ∷ []) $ split3 ! $
      use1 𝓛 (‵ (top s.1) ⊛ ‵ (had s.1)) (latest_shows (logs c) 𝓛 full_share η s.1 s.1 ([], mathlib.Core.List.append-nil s.1)) $ split ! $
      -- [top; reached; extra; rights; rosters; X]
      move ! (2 ∷ 5 ∷ []) $ use2 𝓛 (given (Told s.1) (‵ (extra s.1) ⊛ raw (Y s.1))) (tells s.1 so.1) $ learn ! (λ told. split ! $
      -- [extra; Y; top; reached; rights; rosters]
      move ! (5 ∷ 2 ∷ 0 ∷ []) $ use3 𝓛 (‵ J) (shut s.0 s.1 so.0) $ show ! (λ log. guard 𝓤 (Known rules held seen log × Told log) (⟦ J ⟧ ∗ ⟦ rights c δs held ⟧ ∗ ⟦ had log ⟧ ∗ Y log)) s.1 $
      check ! (so.1, told) $ move ! (0 ∷ 3 ∷ 2 ∷ 1 ∷ []) $ done !)))

  holds_renewed : (rows : Rows) (held : List (HeldKey E)) (log : List E) → KeptNow → HoldsRows rules rows log → HoldsRows rules (puts rows held log) log
  holds_renewed rows held log same so = record {
    legal = so.legal;
    kept = λ r k own h. ⊎_elim (λ (e : own ≡ log). subst (λ (x : List E). rules.Knows r k x log) (sym e) (same r k log)) (λ t. so.kept r k own t.1) (has_puts rows held log r k own h);
    sized = λ r. subst (λ (j : ℕ). rules.Sized r j log) (sym (puts_length rows held log r)) (so.sized r);
  }

  -- and the keys know of all that was appended
  abbrev pub Renewed : List (HeldKey E) → List E → (List E → Type 0) → (List E → Pr) → List E → Pr
  Renewed held seen Told Y log = guard 𝓤 (Known rules held seen log × Told log) (⟦ J ⟧ ∗ ⟦ rights c δs (with_list held log) ⟧ ∗ ⟦ had log ⟧ ∗ Y log)

  pub renews : (held : List (HeldKey E)) (seen : List E) (Told : List E → Type 0) (X : Pr) (Y : List E → Pr) → WithKinds (length δs) held → KeptNow → ((log : List E) → Known rules held seen log → ⟦ extra log ⟧ ∗ X ⊢ guard 𝓤 (Told log) (⟦ extra log ⟧ ∗ Y log))
      → ⟦ J ⟧ ∗ ⟦ rights c δs held ⟧ ∗ ⟦ had seen ⟧ ∗ X ⊢ upd 𝓤 (ex 𝓤 (Renewed held seen Told Y))
  renews held seen Told X Y w same tells = let Z : Pr = ex 𝓤 (Renewed held seen Told Y) in
      qed 𝓛 (‵ J ∷ ‵ (rights c δs held) ∷ ‵ (had seen) ∷ raw X ∷ []) ∵ use3 𝓛 (seeing held seen) (looked held seen w) $ pick ! (λ s. learn ! (λ so. let rows : Rows = s.0 in let log : List E = s.1 in split ! $ move ! (1 ∷ []) $ split3 ! $
      use1 𝓛 (‵ (top log) ⊛ ‵ (had log)) (latest_shows (logs c) 𝓛 full_share η log log ([], mathlib.Core.List.append-nil log)) $ split ! $
      -- [top; reached; extra; rights; rosters; X]
      move ! (2 ∷ 5 ∷ []) $ use2 𝓛 (given (Told log) (‵ (extra log) ⊛ raw (Y log))) (tells log so.1) $ learn ! (λ told. split ! $
      -- [extra; Y; top; reached; rights; rosters]
      move ! (5 ∷ 4 ∷ []) $ use2 𝓛 (raw (upd 𝓤 (⟦ rosters c δs (puts rows held log) ⟧ ∗ ⟦ rights c δs (with_list held log) ⟧))) (sets_rights rows held log w) $
      settle 𝓛 Z (‵ (rosters c δs (puts rows held log)) ⊛ ‵ (rights c δs (with_list held log))) $ split ! $ suffices ! _ (upd_i 𝓤 Z) $
      -- [rosters; rights; extra; Y; top; reached]
      move ! (0 ∷ 4 ∷ 2 ∷ []) $ use3 𝓛 (‵ J) (shut (puts rows held log) log (holds_renewed rows held log same so.0)) $
      -- [J; rights; Y; reached]
      show ! (Renewed held seen Told Y) log $ check ! (so.1, told) $ move ! (0 ∷ 1 ∷ 3 ∷ 2 ∷ []) $ done !)))

  abbrev pub Looked : List (HeldKey E) → List E → List E → Pr
  Looked held seen log = guard 𝓤 (Known rules held seen log) (⟦ J ⟧ ∗ ⟦ rights c δs held ⟧ ∗ ⟦ had log ⟧)

  pub looks : (held : List (HeldKey E)) (seen : List E) → WithKinds (length δs) held → ⟦ J ⟧ ∗ ⟦ rights c δs held ⟧ ∗ ⟦ had seen ⟧ ⊢ ex 𝓤 (Looked held seen)
  looks held seen w = qed 𝓛 (‵ J ∷ ‵ (rights c δs held) ∷ ‵ (had seen) ∷ []) ∵ nothing ! $ move ! (3 ∷ 0 ∷ []) $ join ! $ move ! (1 ∷ 2 ∷ 0 ∷ []) $
      use3 𝓛 (some (λ (log : List E). given (Known rules held seen log × Unit {0}) (‵ J ⊛ ‵ (rights c δs held) ⊛ ‵ (had log) ⊛ ‵ ftrue))) (looks_beside held seen (λ _. Unit {0}) ⟦ ftrue ⟧ (λ _. ⟦ ftrue ⟧) w no_more) $
      pick ! (λ log. learn ! (λ known. split ! $ move ! (1 ∷ []) $ split3 ! $ show ! (Looked held seen) log $ check ! known.0 $ keep ! (3 ∷ 0 ∷ 1 ∷ []) $ done !))
    where
      no_more : (log : List E) → Known rules held seen log → ⟦ extra log ⟧ ∗ ⟦ ftrue ⟧ ⊢ guard 𝓤 (Unit {0}) (⟦ extra log ⟧ ∗ ⟦ ftrue ⟧)
      no_more log known = qed 𝓛 (‵ (extra log) ∷ ‵ ftrue ∷ []) ∵ check ! tt $ done !

  holds_minted : (rows : Rows) (r : ℕ) (log : List E) → KeptNow → OneMore rules r → HoldsRows rules rows log → HoldsRows rules (one_more rows r log) log
  holds_minted rows r log same more so = record {
    legal = so.legal;
    kept = λ q k own h. ⊎_elim (λ (i : own ≡ log). subst (λ (x : List E). rules.Knows q k x log) (sym i) (same q k log)) (λ t. so.kept q k own t) (has_more rows r log q k own h);
    sized = λ q. subst (λ (j : ℕ). rules.Sized q j log) (sym (more_sizes rows r log q)) (go q (is_true (q == r)));
  }
    where
      go : (q : ℕ) → ((q == r) ≡ true) ⊎ ((q == r) ≡ false) → rules.Sized q (more_of r (sizes rows) q) log
      go q (inl t) = let e : q ≡ r = eq_true q r t in subst (λ (y : Bool). rules.Sized q (if y then sizes rows q + 1 else sizes rows q) log) (sym t) (subst (λ (z : ℕ). rules.Sized z (sizes rows z + 1) log) (sym e) (more log (sizes rows r) (so.sized r)))
      go q (inr t) = subst (λ (y : Bool). rules.Sized q (if y then sizes rows q + 1 else sizes rows q) log) (sym t) (so.sized q)

  -- new keys and no event: the rows, and the rights to these
  abbrev Mints : List (ℕ × ℕ) → List E → Rows → Type 1
  Mints births log rows = (rows' : Rows) × HoldsRows rules rows' log × (⟦ rosters c δs rows ⟧ ⊢ upd 𝓤 (⟦ rosters c δs rows' ⟧ ∗ ⟦ rights c δs (keys_made births log) ⟧))

  -- a key, and others after it: nobody holds those of its kind that are made before it
  fills : (d : ℕ) (b : ℕ × ℕ) (births : List (ℕ × ℕ)) (log : List E) → KeptNow → b.0 < length δs → OneMore rules b.0 → ((rows : Rows) → HoldsRows rules rows log → MayMint rules (length δs) (sizes rows) births → Mints births log rows)
      → (rows : Rows) → HoldsRows rules rows log → sizes rows b.0 + d ≡ b.1 → MayMint rules (length δs) (up_to b (sizes rows)) births → Mints (b ∷ births) log rows
  fills zero b births log same below more others rows so is may = let last : sizes rows b.0 ≡ b.1 = omega (arith, is) in
      let made = others (one_more rows b.0 log) (holds_minted rows b.0 log same more so) (subst (λ (many : ℕ → ℕ). MayMint rules (length δs) many births) (up_to_last rows b log last) may) in
      (made.0, made.1, mints_one rows made.0 b births log below last made.2)
  fills (suc d) b births log same below more others rows so is may = let rows' : Rows = one_more rows b.0 log in
      let made = fills d b births log same below more others rows' (holds_minted rows b.0 log same more so) (omega (arith, is, size_more rows b.0 log)) (subst (λ (many : ℕ → ℕ). MayMint rules (length δs) many births) (up_to_more rows b log) may) in
      (made.0, made.1, drops_one rows b.0 log (⟦ rosters c δs made.0 ⟧ ∗ ⟦ rights c δs (keys_made (b ∷ births) log) ⟧) below made.2)

  mints_all : (births : List (ℕ × ℕ)) (log : List E) → KeptNow → (rows : Rows) → HoldsRows rules rows log → MayMint rules (length δs) (sizes rows) births → Mints births log rows
  mints_all [] log same rows so may = (rows, so, borns rows [] log tt tt)
  mints_all (b ∷ births) log same rows so may = fills (b.1 - sizes rows b.0) b births log same may.0 may.1 (mints_all births log same) rows so (omega (arith, may.2)) may.3

  -- New keys, picked by how many there are of each kind, and the rights to them. Those of a kind with smaller numbers that there were not are
  -- made too, and nobody holds them.
  abbrev pub Minted : List E → ((ℕ → ℕ) → List (ℕ × ℕ)) → (ℕ → ℕ) × List E → Pr
  Minted seen births t = guard 𝓤 (rules.Legal t.1 × IsPrefix seen t.1 × ((r : ℕ) → rules.Sized r (t.0 r) t.1)) (⟦ J ⟧ ∗ ⟦ rights c δs (keys_made (births t.0) t.1) ⟧ ∗ ⟦ had t.1 ⟧)

  pub mint : (seen : List E) (births : (ℕ → ℕ) → List (ℕ × ℕ)) → KeptNow → ((many : ℕ → ℕ) → MayMint rules (length δs) many (births many)) → ⟦ J ⟧ ∗ ⟦ had seen ⟧ ⊢ upd 𝓤 (ex 𝓤 (Minted seen births))
  mint seen births same may = let Z : Pr = ex 𝓤 (Minted seen births) in qed 𝓛 (‵ J ∷ ‵ (had seen) ∷ []) ∵ nothing ! $ move ! (1 ∷ 0 ∷ 2 ∷ []) $ use3 𝓛 (seeing [] seen) (looked [] seen tt) $ pick ! (λ s. learn ! (λ so.
      let log : List E = s.1 in let many : ℕ → ℕ = sizes s.0 in let made = mints_all (births many) log same s.0 so.0 (may many) in split ! $ move ! (1 ∷ []) $ split3 ! $ move ! (3 ∷ []) $
      use1 𝓛 (raw (upd 𝓤 (⟦ rosters c δs made.0 ⟧ ∗ ⟦ rights c δs (keys_made (births many) log) ⟧))) made.2 $ settle 𝓛 Z (‵ (rosters c δs made.0) ⊛ ‵ (rights c δs (keys_made (births many) log))) $ split ! $
      -- [rosters; rights; top; extra; nothing]
      move ! (2 ∷ []) $ use1 𝓛 (‵ (top log) ⊛ ‵ (had log)) (latest_shows (logs c) 𝓛 full_share η log log ([], mathlib.Core.List.append-nil log)) $ split ! $
      move ! (2 ∷ 0 ∷ 4 ∷ []) $ use3 𝓛 (‵ J) (shut made.0 log made.1) $ suffices ! _ (upd_i 𝓤 Z) $
      show ! (Minted seen births) (many, log) $ check ! (so.1.0, so.1.1, so.0.sized) $ keep ! (0 ∷ 2 ∷ 1 ∷ []) $ done !))
