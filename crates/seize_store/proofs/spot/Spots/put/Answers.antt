use Rattle.std.proofs.Common.{rules, ◌≡◌, ℕ, ◌==◌, Bool, true, false, cond, List, [], ◌∷◌, ◌++◌, map, length, take, sym, ap, ◌∙◌, inl, inr, ◌⊎◌}
use Rattle.std.proofs.lemmas.List.{map-append, take-map, length-map}
use Rattle.seize_store.specs.declared.row_token.Title.{Title}
use Rattle.seize_store.specs.Named.{titles_with}
use Rattle.seize_store.proofs.spot.Spots.put.Goals.{then-len-eq-SPOTS, else-len-eq-SPOTS}
use Rattle.seize_store.proofs.spot.Spots.put.Goals as goal

-- one more title, of a list that is full or not
put_title : {S : Type 0} (f : S → Title) (xs ys : List S) (x : S) → (((length xs == 128) ≡ true) × (ys ≡ take 64 xs)) ⊎ (((length xs == 128) ≡ false) × (ys ≡ xs))
    → map f (ys ++ x ∷ []) ≡ titles_with (map f xs) (f x)
put_title {S} f xs ys x h = map-append f ys (x ∷ []) ∙ ap (λ (ts : List Title). ts ++ f x ∷ []) (go h)
  where
    if_is : (b : Bool) → (length xs == 128) ≡ b → cond (length (map f xs) == 128) (take 64 (map f xs)) (map f xs) ≡ cond b (take 64 (map f xs)) (map f xs)
    if_is b e = ap (λ (n : ℕ). cond (n == 128) (take 64 (map f xs)) (map f xs)) (length-map xs f) ∙ ap (λ (c : Bool). cond c (take 64 (map f xs)) (map f xs)) e

    go : (((length xs == 128) ≡ true) × (ys ≡ take 64 xs)) ⊎ (((length xs == 128) ≡ false) × (ys ≡ xs)) → map f ys ≡ cond (length (map f xs) == 128) (take 64 (map f xs)) (map f xs)
    go (inl t) = ap (map f) t.1 ∙ sym (take-map f 64 xs) ∙ sym (if_is true t.0)
    go (inr t) = ap (map f) t.1 ∙ sym (if_is false t.0)

-- src/spot/list.rt:38:5
pub returns-clause-last : goal.returns-clause-last
returns-clause-last g c =
    ap (map (λ s. s.title)) c.push_reserved.ensures.items
    ∙ put_title (λ s. s.title) c.args.self.now.list.items c.if-len-eq-SPOTS.self.1.0.items c.args.spot
    (elim c.if-len-eq-SPOTS.branch [
      | then-len-eq-SPOTS w ↦ inl (search rules, ap (λ x. x.1.0.items) w.self-is ∙ w.truncate.ensures.items)
      | else-len-eq-SPOTS w ↦ inr (search rules, ap (λ x. x.1.0.items) w.self-is)
    ])
