-- A book begins: its list is empty, and each key is in hand. Assumes `Logic`.
use Rattle.std.proofs.Common.{◌≡◌, ℕ, zero, suc, ◌+◌, ◌≤◌, Bool, true, false, ◌==◌, if◌then◌else◌, List, [], ◌∷◌, replicate, slice_get, Option, Some, None, refl, sym, ◌∙◌, ap, subst, ⊎_elim, arith}
use Rattle.std.proofs.lemmas.List.{length-replicate}
use mathlib.Core.List.{IsPrefix}
use seplogic.Ra.Ura.{Ura}
use base.Fraction.{full_share}
use base.Share.{quarter, three_quarters, quarters}
use base.Logic.{SProp, ent, sep, ex, guard, upd, emp, via, upd_i}
use base.Stored.{Gv, gnil, gcons}
use base.Fml.{Fml, ftrue, fnamed, fobs, fauth}
use base.Growing.{latest, numbers as by_size}
use types.Logic.{Logic, sem}
use types.Owned.{basic, named_past}
use types.Keyed.{entries_new}
use types.Growing.{latest_new, latest_cut, latest_shows, at_least_dup}
use types.Kit.{‵, raw, ◌⊛◌, some, given, later, ◌$◌, ◌∵◌, !, qed, move, split, split3, fsplit, fjoin, fpack, pick, learn, show, check, rewrite, suffices, settle, done, drop, use0, use1, use2, use3, updating, await, now}
use types.Tokens.{name_new}
use denote.Steps.{nothing}
use Rattle.seize_machine.specs.Machine.State.{State, has, linked_values, are_distinct, opening}
use Rattle.seize_book.specs.Ledger.{HeldKey, logs, halved, roster, rosters, rights, reached, row, HoldsRows, AllBelow, AreNextNumbers, more_by, more_of, keys_made}
use Rattle.seize_book.specs.Entry.{Entry, entry_coded}
use Rattle.seize_book.specs.Book.{HolderKnows, IsKeyCount, mine, kind_of, rules, passes, numbers, slots, heads, links, totals, kinds}
use Rattle.seize_book.specs.Bounds.{AllWithin, bound_at, first_sizes, had_size, sets_size, size_part}
use Rattle.seize_book.specs.Homes.{IsSound}
use Rattle.seize_book.specs.Loans.{AllCarryOne}
use Rattle.seize_book.specs.Tokens.{Name, Gate, all_but, gate_share, rows, start, inside, beside, has_family, free_family, name_coded, gate_keeps, gate_gives, all_lead, all_lie, rights_own, keys_own, pass_at, pass_holds}
use Rattle.seize_book.specs.Begin.{BeganWith, new_key, first_links, first_keys, book_owns}
use Rattle.seize_book.proofs.Append.{grown, borns, has_grown, shut, sizes, grown_sizes}
use Rattle.seize_book.specs.Chains.{field_value}
use Rattle.seize_book.proofs.Chains.{chained_opening}
use Rattle.seize_book.proofs.Goes.{kept_now}
use Rattle.seize_book.proofs.Tables.{none_lie}
use Rattle.seize_book.proofs.Tickets.{all_back}
use Rattle.seize_book.proofs.Ways.{NeedNone, free_own}

-- the keys of the beginning, by kind and number: of the first pass, of the numbers, of the total, of the first slot and its head, and of
-- each link
abbrev of_links : ℕ → ℕ → List (ℕ × ℕ)
of_links l zero = []
of_links l (suc n) = (links, l) ∷ of_links (suc l) n

abbrev firsts : ℕ → List (ℕ × ℕ)
firsts n = (passes, 0) ∷ (numbers, 0) ∷ (totals, 0) ∷ (slots, 0) ∷ (heads, 0) ∷ of_links 0 n

born_links : (l n : ℕ) → keys_made {E = Entry} (of_links l n) [] ≡ first_links l n
born_links l zero = refl
born_links l (suc n) = ap (λ hs. record { kind = links; key = l; own = []; label = 0; note = gnil } ∷ hs) (born_links (suc l) n)

below_links : (l n : ℕ) → AllBelow kinds (of_links l n)
below_links l zero = tt
below_links l (suc n) = (omega arith, below_links (suc l) n)

next_links : (l n : ℕ) (f : ℕ → ℕ) → f links ≡ l → AreNextNumbers f (of_links l n)
next_links l zero f e = tt
next_links l (suc n) f e = (e, next_links (suc l) n (more_of links f) (omega (arith, e)))

bumped_links : (l n : ℕ) (f : ℕ → ℕ) → more_by (of_links l n) f links ≡ f links + n
bumped_links l zero f = omega arith
bumped_links l (suc n) f = omega (arith, bumped_links (suc l) n (more_of links f))

bumped_other : (l n : ℕ) (f : ℕ → ℕ) (r : ℕ) → (r == links) ≡ false → more_by (of_links l n) f r ≡ f r
bumped_other l zero f r e = refl
bumped_other l (suc n) f r e = bumped_other (suc l) n (more_of links f) r e ∙ ap (λ b. if b then f r + 1 else f r) e

-- empty links hold nothing
abbrev empty : ℕ → List (Option ℕ)
empty n = replicate n None

none_linked : (n : ℕ) → linked_values (empty n) ≡ []
none_linked zero = refl
none_linked (suc n) = none_linked n

row_nil : {X : Type 0} (r : ℕ) → row {X = X} [] r ≡ []
row_nil zero = refl
row_nil (suc r) = row_nil r

abbrev sizes_before : ℕ → ℕ
sizes_before = more_of heads (more_of slots (more_of totals (more_of numbers (more_of passes (sizes {E = Entry} [])))))

-- no value was named
none_lent : (n : ℕ) → AllCarryOne (linked_values (empty n))
none_lent n v named = absurd (let x : has v [] ≡ true = ap (has v) (sym (none_linked n)) ∙ named in cc)

sound_first : (n : ℕ) → IsSound (opening 0 (empty n))
sound_first n = record { one = λ v w home a b c d. absurd (let x : has v [] ≡ true = ap (has v) (sym (none_linked n)) ∙ a in cc); few = omega arith }

holds_first : (n : ℕ) → HoldsRows (rules (opening 0 (empty n))) (grown [] (firsts n) []) []
holds_first n = record {
  legal = (refl, sound_first n, chained_opening 0 (empty n) (field_value []), tt);
  kept = λ r k own h. ⊎_elim (λ (e : own ≡ []). subst (λ (x : List Entry). HolderKnows (opening 0 (empty n)) (kind_of r) k x []) (sym e) (kept_now (opening 0 (empty n)) r k []))
      (λ t. absurd (let h' : slice_get {X = List Entry} [] k ≡ Some own = subst (λ (z : List (List Entry)). slice_get z k ≡ Some own) (row_nil r) t in let m : Option.None ≡ Some own = h' in cc)) (has_grown [] (firsts n) [] r k own h);
  sized = λ r. subst (λ (j : ℕ). IsKeyCount (opening 0 (empty n)) (kind_of r) j []) (sym (grown_sizes [] (firsts n) [] r)) (go r);
}
  where
    go : (r : ℕ) → IsKeyCount (opening 0 (empty n)) (kind_of r) (more_by (firsts n) (sizes {E = Entry} []) r) []
    go zero = λ p le. refl
    go (suc zero) = bumped_other 0 n sizes_before 1 refl
    go (suc (suc zero)) = bumped_other 0 n sizes_before 2 refl
    go (suc (suc (suc zero))) = bumped_other 0 n sizes_before 3 refl
    go (suc (suc (suc (suc zero)))) = omega (arith, bumped_links 0 n sizes_before, length-replicate {A = Option ℕ} n Option.None)
    go (suc (suc (suc (suc (suc zero))))) = λ k le. (refl, refl)
    go (suc (suc (suc (suc (suc (suc zero)))))) = λ v le. ap (has v) (none_linked n)
    go (suc (suc (suc (suc (suc (suc (suc zero))))))) = λ f le. refl
    go (suc (suc (suc (suc (suc (suc (suc (suc zero)))))))) = bumped_other 0 n sizes_before 8 refl
    go (suc (suc (suc (suc (suc (suc (suc (suc (suc r))))))))) = tt

module _ {M : Type 1} {𝓤 : Ura M} (𝓛 : Logic 𝓤) where
  open 𝓛 use {H, A}

  abbrev Pr : Type 2
  Pr = SProp 𝓤

  abbrev ◌⊢◌ : Pr → Pr → Type 1
  P ⊢ Q = ent 𝓤 P Q

  abbrev ◌∗◌ : Pr → Pr → Pr
  P ∗ Q = sep 𝓤 P Q

  abbrev ⟦◌⟧ : Fml → Pr
  ⟦ P ⟧ = sem 𝓛 P

  infix 26 ◌⊢◌
  infixr 35 ◌∗◌
  no_links : (m : Name) (l n : ℕ) → NeedNone 𝓛 m (first_links l n)
  no_links m l zero = tt
  no_links m l (suc n) = (refl, no_links m (suc l) n)

  -- the gate is shut, and the first pass has its copy of the list
  abbrev Opened : ℕ → Gate → Pr
  Opened size g = ⟦ gate_keeps g [] ⟧ ∗ ⟦ gate_gives g 0 [] ⟧ ∗ ⟦ first_sizes g.sizes size ⟧

  opened : (size : ℕ) → emp 𝓤 ⊢ upd 𝓤 (ex 𝓤 (Opened size))
  opened size = let Z : Pr = ex 𝓤 (Opened size) in
      qed 𝓛 [] ∵ use0 𝓛 (raw (upd 𝓤 (ex 𝓤 (λ (η : ℕ). ⟦ latest (logs entry_coded) full_share η [] ⟧)))) (latest_new (logs entry_coded) 𝓛 []) $
      settle 𝓛 Z (some (λ (η : ℕ). ‵ (latest (logs entry_coded) full_share η []))) $ pick ! (λ η.
      use0 𝓛 (raw (upd 𝓤 (ex 𝓤 (λ (κ : ℕ). ⟦ all_but κ 0 ⟧)))) (all_back 𝓛) $ settle 𝓛 Z (some (λ (κ : ℕ). ‵ (all_but κ 0))) $ pick ! (λ κ.
      use0 𝓛 (raw (upd 𝓤 (ex 𝓤 (λ (γ : ℕ). ⟦ size_part γ size full_share ⟧)))) (latest_new by_size 𝓛 size) $ settle 𝓛 Z (some (λ (γ : ℕ). ‵ (size_part γ size full_share))) $ pick ! (λ γ. suffices ! _ (upd_i 𝓤 Z) $
      use1 𝓛 (‵ (size_part γ size full_share) ⊛ ‵ (had_size γ size)) (latest_shows by_size 𝓛 full_share γ size size (by_size.same size)) $ split ! $
      use1 𝓛 (‵ (size_part γ size quarter) ⊛ ‵ (sets_size γ size)) (latest_cut by_size 𝓛 full_share quarter three_quarters γ size quarters) $ split ! $
      -- [the book's part of the size; the rest; that it is one; the tickets; the list]
      nothing ! $ fpack ! (AllWithin size []) (λ _. ftrue) tt $ move ! (1 ∷ 0 ∷ []) $ fjoin ! $ fpack ! ℕ (bound_at γ []) size $ move ! (2 ∷ 1 ∷ []) $ fjoin ! $ move ! (3 ∷ []) $
      use1 𝓛 (‵ (latest (logs entry_coded) quarter η []) ⊛ ‵ (latest (logs entry_coded) three_quarters η [])) (latest_cut (logs entry_coded) 𝓛 full_share quarter three_quarters η [] quarters) $ split ! $
      -- [the book's share; the pass's; the sizes; the bound; the tickets]
      let g : Gate = record { copy = η; tickets = κ; sizes = γ } in
      move ! (0 ∷ 4 ∷ []) $ fjoin ! $ fpack ! Bool (gate_share g []) true $ move ! (3 ∷ 0 ∷ []) $ fjoin ! $ show ! (Opened size) g $ done !)))

  -- the keys of one kind, under a new name
  abbrev fresh_row : types.Kit.Item 𝓤
  fresh_row = later (some (λ (δ : ℕ). ‵ (roster entry_coded δ 0 [])))

  fresh : emp 𝓤 ⊢ H.⇛ (ex 𝓤 (λ (δ : ℕ). ⟦ roster entry_coded δ 0 [] ⟧))
  fresh = via 𝓤 _ (entries_new (halved entry_coded) 𝓛 0 (λ _. (full_share, []))) (basic 𝓛 _)

  module _ (n : ℕ) (store table : List ℕ) (permits pairs size : ℕ) where
    abbrev pub Begun : ℕ → Name → Pr
    Begun f m = guard 𝓤 ((m.family ≡ f) × (m.permits ≡ permits) × (m.pairs ≡ pairs) × BeganWith m n store table) (⟦ book_owns m [] ⟧ ∗ ⟦ pass_holds m 0 [] ⟧ ∗ ⟦ keys_own m (first_keys n) ⟧ ∗ ⟦ first_sizes m.gate.sizes size ⟧)

    pub begins : (f : ℕ) → ⟦ free_family f ⟧ ⊢ H.⇛ (ex 𝓤 (Begun f))
    begins f = qed 𝓛 (‵ (free_family f) ∷ []) ∵ updating ! $ fsplit ! $
        use0 𝓛 fresh_row fresh $ await ! tt $ pick ! (λ d0. use0 𝓛 fresh_row fresh $ await ! tt $ pick ! (λ d1.
        use0 𝓛 fresh_row fresh $ await ! tt $ pick ! (λ d2. use0 𝓛 fresh_row fresh $ await ! tt $ pick ! (λ d3.
        use0 𝓛 fresh_row fresh $ await ! tt $ pick ! (λ d4. use0 𝓛 fresh_row fresh $ await ! tt $ pick ! (λ d5.
        use0 𝓛 fresh_row fresh $ await ! tt $ pick ! (λ d6. use0 𝓛 fresh_row fresh $ await ! tt $ pick ! (λ d7.
        use0 𝓛 fresh_row fresh $ await ! tt $ pick ! (λ d8.
        -- [the rosters, the last first]
        nothing ! $ move ! (1 ∷ 0 ∷ []) $ fjoin ! $ move ! (1 ∷ 0 ∷ []) $ fjoin ! $ move ! (1 ∷ 0 ∷ []) $ fjoin ! $ move ! (1 ∷ 0 ∷ []) $ fjoin ! $ move ! (1 ∷ 0 ∷ []) $ fjoin ! $ move ! (1 ∷ 0 ∷ []) $ fjoin ! $ move ! (1 ∷ 0 ∷ []) $ fjoin ! $ move ! (1 ∷ 0 ∷ []) $ fjoin ! $ move ! (1 ∷ 0 ∷ []) $ fjoin ! $
        use0 𝓛 (later (some (λ (η : ℕ). ‵ (latest (logs entry_coded) full_share η [])))) (via 𝓤 _ (latest_new (logs entry_coded) 𝓛 []) (basic 𝓛 _)) $ await ! tt $ pick ! (λ η.
        use1 𝓛 (‵ (latest (logs entry_coded) full_share η []) ⊛ ‵ (reached entry_coded η [])) (latest_shows (logs entry_coded) 𝓛 full_share η [] [] ([], refl)) $ split ! $
        move ! (1 ∷ []) $ use1 𝓛 (‵ (reached entry_coded η []) ⊛ ‵ (reached entry_coded η [])) (at_least_dup (logs entry_coded) 𝓛 η []) $ split ! $
        -- [nothing was reached, twice; the list; the rosters]
        use0 𝓛 (later (some (λ (g : Gate). ‵ (gate_keeps g []) ⊛ ‵ (gate_gives g 0 []) ⊛ ‵ (first_sizes g.sizes size)))) (via 𝓤 _ (opened size) (basic 𝓛 _)) $ await ! tt $ pick ! (λ g. split3 ! $
        move ! (0 ∷ 1 ∷ 3 ∷ 4 ∷ 5 ∷ 6 ∷ 7 ∷ 8 ∷ 2 ∷ []) $
        let n₀ : Name = record {
          number = 0;
          log = η;
          family = f;
          pass_keys = d0;
          number_keys = d1;
          slot_keys = d2;
          head_keys = d3;
          link_keys = d4;
          count_keys = d5;
          block_keys = d6;
          field_keys = d7;
          total_keys = d8;
          gate = g;
          store = store;
          table = table;
          permits = permits;
          pairs = pairs;
          slots = 0;
          links = empty n;
        } in let st : State = start n₀ in let bs : List (ℕ × ℕ) = firsts n in
        -- [the book's copy; the pass's; nothing was reached, twice; the list; the rosters; the family, in two; the sizes]
        move ! (5 ∷ []) $ use1 𝓛 (later (‵ (rosters entry_coded (rows n₀) (grown [] bs [])) ⊛ ‵ (rights entry_coded (rows n₀) (keys_made bs []))))
        (via 𝓤 _ (borns entry_coded (rules st) (beside n₀) η (rows n₀) 𝓛 [] bs [] (omega arith, (omega arith, (omega arith, (omega arith, (omega arith, below_links 0 n))))) (refl, (refl, (refl, (refl, (refl, next_links 0 n sizes_before refl)))))) (basic 𝓛 _)) $ await ! tt $ split ! $
        -- [the rosters; the rights; the book's copy; the pass's; nothing was reached, twice; the list]
        use0 𝓛 (‵ (all_lie n₀ 0)) (none_lie 𝓛 n₀) $ nothing ! $ fpack ! (AllCarryOne (linked_values (empty n))) (λ _. ftrue) (none_lent n) $ move ! (1 ∷ 0 ∷ []) $ fjoin ! $
        nothing ! $ rewrite ! 0 (λ (vs : List ℕ). ‵ (all_lead n₀ vs)) (sym (none_linked n)) refl $ fjoin ! $ move ! (3 ∷ 0 ∷ []) $ fjoin ! $
        nothing ! $ nothing ! $ fjoin ! $ move ! (0 ∷ 1 ∷ []) $ fjoin ! $ move ! (1 ∷ 6 ∷ 0 ∷ []) $ use3 𝓛 (‵ (inside n₀)) (shut entry_coded (rules st) (beside n₀) η (rows n₀) 𝓛 (grown [] bs []) [] (holds_first n)) $
        use1 𝓛 (later (some (λ (j : ℕ). given (0 ≤ j) (‵ (fnamed j (inside n₀)))))) (named_past 𝓛 0 (inside n₀)) $ await ! tt $ pick ! (λ j. learn ! (λ _. let m : Name = record n₀ { number = j } in
        -- [the invariant; the rights; the pass's copy; nothing was reached, twice; what the family says, which is nothing yet]
        let c : Gv = gcons gnil (name_coded.code m) in move ! (5 ∷ 6 ∷ []) $
        use2 𝓛 (later (‵ (fobs f c) ⊛ ‵ (fauth f c))) (via 𝓤 _ (𝓛.names.name_set_upd f gnil gnil c) (basic 𝓛 _)) $ await ! tt $ split ! $ use1 𝓛 (‵ (has_family m)) (𝓛.names.obs-res f c) $ move ! (1 ∷ []) $ drop ! $
        -- [the book's call; the invariant; the rights; the pass's copy; nothing was reached, twice]
        nothing ! $ fpack ! (are_distinct (linked_values m.links) ≡ true) (λ _. ftrue) (ap are_distinct (none_linked n)) $ move ! (1 ∷ 0 ∷ []) $ fjoin ! $ move ! (1 ∷ 0 ∷ []) $ fjoin ! $ move ! (0 ∷ 3 ∷ []) $ fjoin ! $
        -- [the book; the rights; the pass's copy; nothing was reached]
        move ! (1 ∷ []) $ fsplit ! $ nothing ! $ fpack ! (IsPrefix [] [] × (mine st 0 [] ≡ mine st 0 [])) (λ _. ftrue) (([], refl), refl) $
        -- [nothing is past; the pass's key; the other keys; the book; the pass's copy; nothing was reached]
        move ! (4 ∷ 0 ∷ []) $ fjoin ! $ move ! (4 ∷ 0 ∷ []) $ fjoin ! $ move ! (1 ∷ 0 ∷ []) $ fjoin ! $ fpack ! (List Entry) (pass_at m 0 []) [] $
        rewrite ! 1 (λ (hs : List (HeldKey Entry)). ‵ (rights_own m (new_key numbers 0 ∷ new_key totals 0 ∷ new_key slots 0 ∷ new_key heads 0 ∷ hs))) (born_links 0 n) refl $
        move ! (1 ∷ []) $ use1 𝓛 (‵ (keys_own m (first_keys n))) (free_own 𝓛 m (first_keys n) (refl, (refl, (refl, (refl, no_links m 0 n))))) $
        now ! $ show ! (Begun f) m $ check ! (refl, refl, refl, (refl, refl, refl, refl)) $ move ! (2 ∷ 1 ∷ 0 ∷ 3 ∷ []) $ done !)))))))))))))

  -- a family that no book has
  pub new_family : emp 𝓤 ⊢ H.⇛ (ex 𝓤 (λ (f : ℕ). ⟦ free_family f ⟧))
  new_family = qed 𝓛 [] ∵ updating ! $ name_new ! tt gnil (λ f. fjoin ! $ now ! $ show ! (λ (f : ℕ). ⟦ free_family f ⟧) f $ done !)
