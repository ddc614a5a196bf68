-- What a bucket has under each key once an entry took the place of the one of its key, or that is gone.
use Rattle.std.proofs.Common.{◌≡◌, Bool, true, false, not, cond, List, [], ◌∷◌, ◌++◌, Option, None, Some, option_to_list, refl, ap, sym, ◌∙◌}
use Rattle.std.proofs.lemmas.List.Folds.{find-append}
use Rattle.std.specs.Option.{option_or}
use Rattle.core.specs.Cmp.{IsEquivalence}
use Rattle.seize_map.specs.Buckets.{entry_under, other_entries}
use Rattle.seize_map.specs.declared.bucket.Entry.{Entry}

or_none : {X : Type 0} (o : Option X) → option_or o None ≡ o
or_none (Some x) = refl
or_none None = refl

module _ {K V : Type 0} (eq : K → K → Bool) (laws : IsEquivalence eq) (key : K) where
  abbrev others_with : Bool → Entry K V → List (Entry K V) → List (Entry K V)
  others_with b e es = cond (not b) (e ∷ other_entries (eq key) es) (other_entries (eq key) es)

  -- the other keys' entries have none of this key
  none_left : (q : K) → eq key q ≡ true → (es : List (Entry K V)) → entry_under (eq q) (other_entries (eq key) es) ≡ None
  none_left q same [] = refl
  none_left q same (e ∷ es) = go (none_left q same es) (eq key e.key) refl
    where
      go : entry_under (eq q) (other_entries (eq key) es) ≡ None → (b : Bool) → eq key e.key ≡ b → entry_under (eq q) (others_with b e es) ≡ None
      go none true is = none
      go none false is = ap (λ (b : Bool). cond b (Some e) (entry_under (eq q) (other_entries (eq key) es))) (sym (laws.congr key q e.key same) ∙ is) ∙ none

  -- and of each other key the one that there was
  others_left : (q : K) → eq key q ≡ false → (es : List (Entry K V)) → entry_under (eq q) (other_entries (eq key) es) ≡ entry_under (eq q) es
  others_left q differs [] = refl
  others_left q differs (e ∷ es) = go (others_left q differs es) (eq key e.key) refl
    where
      go : entry_under (eq q) (other_entries (eq key) es) ≡ entry_under (eq q) es → (b : Bool) → eq key e.key ≡ b → entry_under (eq q) (others_with b e es) ≡ entry_under (eq q) (e ∷ es)
      go same true is =
          let no : eq q e.key ≡ false = laws.symm q e.key ∙ (sym (laws.congr key e.key q is) ∙ differs) in
          same ∙ sym (ap (λ (b : Bool). cond b (Some e) (entry_under (eq q) es)) no)
      go same false is = ap (λ (o : Option (Entry K V)). cond (eq q e.key) (Some e) o) same

  -- **Once an entry took the place of that of its key, or none did, the bucket has that under the key, and else what it had.**
  pub changed : (new : Option (Entry K V)) (before after : List (Entry K V)) → ((e : Entry K V) → new ≡ Some e → e.key ≡ key) → after ≡ other_entries (eq key) before ++ option_to_list new
      → (q : K) → entry_under (eq q) after ≡ cond (eq key q) new (entry_under (eq q) before)
  changed new before after its is q = ap (entry_under (eq q)) is ∙ find-append (λ (e : Entry K V). eq q e.key) (other_entries (eq key) before) (option_to_list new) ∙ go new its (eq key q) refl
    where
      go : (new : Option (Entry K V)) → ((e : Entry K V) → new ≡ Some e → e.key ≡ key) → (b : Bool) → eq key q ≡ b
          → option_or (entry_under (eq q) (other_entries (eq key) before)) (entry_under (eq q) (option_to_list new)) ≡ cond b new (entry_under (eq q) before)
      go None its true same = ap (λ (o : Option (Entry K V)). option_or o None) (none_left q same before)
      go (Some e) its true same =
          let found : eq q e.key ≡ true = ap (eq q) (its e refl) ∙ (laws.symm q key ∙ same) in
          ap (λ (o : Option (Entry K V)). option_or o (cond (eq q e.key) (Some e) None)) (none_left q same before) ∙ ap (λ (b : Bool). cond b (Some e) None) found
      go None its false differs = or_none (entry_under (eq q) (other_entries (eq key) before)) ∙ others_left q differs before
      go (Some e) its false differs =
          let not_found : eq q e.key ≡ false = ap (eq q) (its e refl) ∙ (laws.symm q key ∙ differs) in
          ap (λ (b : Bool). option_or (entry_under (eq q) (other_entries (eq key) before)) (cond b (Some e) None)) not_found
          ∙ (or_none (entry_under (eq q) (other_entries (eq key) before)) ∙ others_left q differs before)
