-- `chunk_keys` makes the keys of a block no value of which was ever named.
use Rattle.seize_book.proofs.Kit.{lit<, ap, ◌∙◌, ◌≡◌}
use Rattle.seize_book.proofs.CallKit.{ℕ, List, [], ◌∷◌, refl, sym, ‵, ◌⊛◌, some, given, later, await, ◌$◌, !, move, keep, split, fjoin, pick, learn, use1, yes, calls, told, copied2, Only, Both, shown, taken, Gv, Entry, after, Name, start, keys_own}
use Rattle.std.specs.Prelude.{false, pos}
use Rattle.seize_machine.specs.Machine.State.{has}
use Rattle.seize_book.specs.Bare.{IsNewChunk, of_header, of_values}
use Rattle.seize_book.specs.Chains.{field_value, first_field, next_field}
use Rattle.seize_book.specs.Deposits.{deposit}
use Rattle.seize_book.specs.Homes.{count_in, home_of}
use Rattle.seize_book.specs.Tokens.{notes_own, rights_own}
use Rattle.seize_book.specs.contracts.book.keys.Keys as Keys
use Rattle.seize_book.specs.contracts.book.rights.Rights as Rights
use Rattle.seize_book.specs.contracts.book.seen.Seen as Seen
use Rattle.seize_book.proofs.Books.{IsUnused, chunk}
use Rattle.seize_book.proofs.Homes.{another_with}
use Rattle.seize_book.proofs.Ways.{note_new}
use Rattle.seize_content.specs.contracts.token_cell.CellToken as CellToken
use Rattle.seize_content.proofs.Tokens.{cell_token_tells}
use Rattle.seize_book.specs.contracts.book.seen.Seen.chunk_keys.{ended, clauses}
use Rattle.seize_book.specs.contracts.book.seen.Seen.chunk_keys.Key.{name as #self}
use Rattle.seize_book.proofs.book.seen.Seen.chunk_keys.Statement.{statement}
use Rattle.seize_book.proofs.book.seen.Seen.chunk_keys.Code as code

-- the keys are those of a new block
its : (n : Name) (c : ℕ) (g : Gv) (t : ℕ × List Entry)
    → ((v : ℕ) → home_of v ≡ t.0 → has v (after (start n) t.1).named ≡ false) × ((count_in (after (start n) t.1) t.0 ≡ pos 0) × (deposit (after (start n) t.1) t.0 ≡ [])) × (field_value t.1 (next_field t.0) ≡ 0) × (field_value t.1 (first_field t.0) ≡ 0)
    → IsNewChunk c g (record { marker = record {}; name = n; held = of_values (another_with t.0 0 0 c 0 0 (lit< tt)).0 t.0 g t.1 }) (record { marker = record {}; name = n; held = of_header t.0 t.1 })
its n c g t new =
    let v = another_with t.0 0 0 c 0 0 (lit< tt) in
    record {
      value = v.0;
      own = t.1;
      right = ap (λ (k : ℕ). of_values v.0 k g t.1) (sym v.1);
      its_cell = v.6;
      header = ap (λ (k : ℕ). of_header k t.1) (sym v.1);
      book = refl;
      none_named = λ w home. new.0 w (home ∙ v.1);
      no_count = (ap (count_in (after (start n) t.1)) v.1 ∙ new.1.0, ap (deposit (after (start n) t.1)) v.1 ∙ new.1.1);
      none_told = (ap (λ (k : ℕ). field_value t.1 (next_field k)) v.1 ∙ new.2, ap (λ (k : ℕ). field_value t.1 (first_field k)) v.1 ∙ new.3);
    }

pub chunk_keys_spec : {M : Type 1} → statement M
chunk_keys_spec 𝓤 𝓛 𝓜 𝓡 wired =
    calls 𝓛 ended (shown 𝓛 0 tt (λ κs. Seen.the_row) (λ κs. Seen.the_lent) (λ κs x. refl), (taken 𝓛 yes (λ κs. CellToken.the_row) (λ κs. CellToken.the_heap) (λ κs x. refl) (λ κs. cell_token_tells) (λ κs x f. refl) (λ κs x. tt), tt)) (clauses 𝓛 𝓜.mem 𝓡.returns) _ (λ κs. Both 𝓛 (Only 𝓛 Rights.the_row Rights.the_heap (λ r. refl)) (Only 𝓛 Keys.the_row Keys.the_heap (λ r. refl))) 𝓜 𝓡 #self _ (code.unfolded 𝓤 𝓛.H 𝓜 𝓡 wired) (λ κs qs. refl) (λ κs a are. copied2 𝓛 (tt, ((tt, tt), ((tt, tt), tt))) (tt, (tt, tt)) (tt, (tt, tt)) (tt, tt) (tt, (tt, tt)) (tt, (tt, tt)) (tt, tt) (tt, (tt, tt))) (λ κs qs a are gh is end.
    let b = a.0.now in let c₀ : ℕ = a.1.0.name in let g : Gv = a.1.0.value in let value : ℕ → ℕ = λ k. (another_with k 0 0 c₀ 0 0 (lit< tt)).0 in keep ! (0 ∷ 2 ∷ 1 ∷ []) $
    use1 𝓛 (later (some (λ (t : ℕ × List Entry). given (IsUnused 𝓛 b.name t) (‵ (rights_own b.name (of_values (value t.0) t.0 g t.1)) ⊛ ‵ (keys_own b.name (of_header t.0 t.1)))))) (chunk 𝓛 b.name b.seen value g) $ await ! tt $ pick ! (λ t. learn ! (λ new. split ! $
    -- [the rights; the keys; the token of the cell; the book's]
    move ! (2 ∷ []) $ use1 𝓛 (‵ (notes_own (of_values (value t.0) t.0 g t.1))) (note_new 𝓛 b.name t.0 c₀ (value t.0) g t.1 (sym (another_with t.0 0 0 c₀ 0 0 (lit< tt)).6)) $ move ! (1 ∷ 0 ∷ []) $ fjoin ! $ move ! (2 ∷ 0 ∷ 1 ∷ []) $
    end (record { marker = record {}; name = b.name; held = of_values (value t.0) t.0 g t.1 }, record { marker = record {}; name = b.name; held = of_header t.0 t.1 }) (tt, (tt, tt)) (told 𝓤 (its b.name c₀ g t new, refl)))))
