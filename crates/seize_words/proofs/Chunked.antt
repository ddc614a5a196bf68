-- What the label of a chunk says, which a pass has found by the number of a value. These facts are for callers.
use Rattle.std.proofs.Math.Pow.{pow_mono}
use Rattle.std.proofs.Common.{◌≡◌, ℕ, ◌+◌, ◌/◌, ◌<◌, ◌≤◌, ◌^◌, true, length, sym, ◌∙◌, ap, subst, arith}
use Rattle.std.proofs.lemmas.List.Elements.{All-get_or}
use denote.RawPtr.{Ptr, null_ptr}
use Rattle.seize_machine.specs.Machine.State.{has}
use Rattle.seize_store.specs.RowTokens.{IsInRow, content_in, entry_of, family_in, label_in}
use Rattle.seize_store.specs.declared.row_token.RowToken.{RowToken}
use Rattle.seize_table.specs.Pairs.{left_of, of_family, pair, right_of}
use Rattle.seize_table.proofs.Pairs.{left_pair, right_pair}
use Rattle.seize_book.specs.Blocks.{block_number}
use Rattle.seize_book.specs.Book.{after}
use Rattle.seize_book.specs.Books.{IsNextIn}
use Rattle.seize_book.specs.Homes.{home_of}
use Rattle.seize_book.specs.Homesteads.{AreAt, state_seen}
use Rattle.seize_book.specs.Loans.{CarriesNone, cell_of, place_of}
use Rattle.seize_book.specs.Others.{FollowsValue, value_of}
use Rattle.seize_book.specs.Passes.{LooksOn}
use Rattle.seize_book.specs.Tokens.{Name, chunk_label, label_at, start}
use Rattle.seize_book.specs.declared.book.pass.Pass.{Pass}
use Rattle.seize_book.specs.declared.book.value_key.ValueKey.{ValueKey}
use Rattle.seize_store.specs.Named.{bare_title, hollow_title}
use Rattle.seize_store.specs.Titled.{titled_content, title_label}
use Rattle.seize_store.specs.declared.bare.Bare.{Bare}
use Rattle.seize_store.specs.declared.hollow.Hollow.{Hollow}
use Rattle.seize_store.specs.declared.row_token.Title.{Title}
use Rattle.seize_words.specs.Counts.{home}
use Rattle.seize_words.specs.Chunks.{IsBlockAfter, IsBlockAs, IsBlockIn, IsHollowAfter, IsHollowAs, IsHollowIn}
use Rattle.seize_words.specs.declared.blocks.Blocks.{Blocks}
use Rattle.seize_words.specs.declared.chunk.Header.{Header}
use Rattle.seize_words.specs.declared.chunk.Part.{Part}
use Rattle.seize_book.proofs.Renames.{follows_value}
use Rattle.seize_book.proofs.Facts.{named_later}

-- labels that are equal say one family and one home

pub same_family : (n m : Name) (k j : ℕ) → label_at n k ≡ label_at m j → n.family ≡ m.family
same_family n m k j same = sym (left_pair n.family k) ∙ (ap left_of same ∙ left_pair m.family j)

pub same_number : (n m : Name) (k j : ℕ) → label_at n k ≡ label_at m j → k ≡ j
same_number n m k j same = sym (right_pair n.family k) ∙ (ap right_of same ∙ right_pair m.family j)

-- and those of chunks one home and one cell

pub same_home : (n m : Name) (k c j d : ℕ) → chunk_label n k c ≡ chunk_label m j d → k ≡ j
same_home n m k c j d same = sym (left_pair k c) ∙ (ap left_of (same_number n m (pair k c) (pair j d) same) ∙ left_pair j d)

pub same_cell : (n m : Name) (k c j d : ℕ) → chunk_label n k c ≡ chunk_label m j d → c ≡ d
same_cell n m k c j d same = sym (right_pair k c) ∙ (ap right_of (same_number n m (pair k c) (pair j d) same) ∙ right_pair j d)

-- the label of a header
abbrev pub label : Header → ℕ
label header = chunk_label header.book.name (home header.count) header.note.name

-- the labels of a store's chunks are of its family
pub label_kin : (known : RowToken) (number : ℕ) → IsInRow number known.row
    → left_of (label_in known.chunks (entry_of number)) ≡ family_in known.store
label_kin known number placed = let e : ℕ = entry_of number in let within = placed.within in let long = known.made.1 in let less : e < length known.chunks = omega (arith, within, long) in
    All-get_or (λ (chunk : Ptr × ℕ). of_family (family_in known.store) (left_of chunk.1)) known.chunks e (null_ptr, 0) less known.made.2

-- what a pass has seen named stays so
pub named_seen : (pass pass' : Pass) (v : ℕ) → LooksOn pass pass' → has v (state_seen pass).named ≡ true → has v (state_seen pass').named ≡ true
named_seen pass pass' v looks named =
    subst (λ (n : Name). has v (after (start n) pass'.seen).named ≡ true) (sym looks.same.0)
    (named_later (start pass.name) pass.seen pass'.seen v looks.grows looks.legal named)

-- what has the label of the number's chunk has that of each value with this number
pub found_label : (known : RowToken) (pass : Pass) (label number : ℕ) → AreAt pass.name known (state_seen pass) → IsInRow number known.row
    → label ≡ label_in known.chunks (entry_of number)
    → (v : ℕ) → has v (state_seen pass).named ≡ true → block_number v ≡ number → label ≡ chunk_label pass.name (home_of v) (cell_of v)
found_label known pass label number homes placed its v named is =
    its ∙ (ap (λ (k : ℕ). label_in known.chunks (entry_of k)) (sym is)
    ∙ (homes v named (subst (λ (k : ℕ). IsInRow k known.row) (sym is) placed)).0)

-- and the content of that chunk is the place of each
pub found_content : (known : RowToken) (pass : Pass) (number : ℕ) → AreAt pass.name known (state_seen pass) → IsInRow number known.row
    → (v : ℕ) → has v (state_seen pass).named ≡ true → block_number v ≡ number → content_in known.chunks (entry_of number) ≡ place_of v
found_content known pass number homes placed v named is =
    ap (λ (k : ℕ). content_in known.chunks (entry_of k)) (sym is)
    ∙ (homes v named (subst (λ (k : ℕ). IsInRow k known.row) (sym is) placed)).1

-- a number of the store fits into a word beside 2
pub number_fits : (known : RowToken) (number : ℕ) → IsInRow number known.row → number + 2 < 2 ^ 64
number_fits known number placed =
    let row : known.row < 53 = known.made.0 in let below : 2 ^ (known.row + 5) ≤ 2 ^ 57 = pow_mono {i = known.row + 5} {j = 57} (omega (arith, row)) in
    let within : number / 64 < 2 ^ (known.row + 5) = placed.within in omega (arith, below, within)

-- a block that came back by `redeem` is as one that was added, once its key is settled
pub settles_block : {T : Type 0} (last : ℕ) (blocks : Blocks T) (value : T) (key key' : ValueKey) (block : Bare Header Part T) (pass' : Pass) → IsBlockAfter last blocks value key block
    → FollowsValue key pass' key' → IsNextIn key' (block_number (value_of key)) → IsBlockIn blocks value key' block
settles_block last blocks value key key' block pass' is follows next = let same : value_of key' ≡ value_of key = follows_value key key' pass' follows in
    record {
      holds = is.holds;
      store = is.store;
      book = follows.0 ∙ is.book;
      next = subst (IsNextIn key') (is.next.3) next;
      lies = ap (λ (t : Name × ℕ). chunk_label t.0 (home_of t.1) (cell_of t.1)) (λ j. (follows.0 j, same j)) ∙ is.lies;
      content = ap place_of same ∙ is.content;
      free = subst CarriesNone (sym same) is.free;
      fits = is.fits;
    }

-- what `Bare::take` leaves of a block: all that is known of it but the value
pub takes_block : {T : Type 0} (Is : ValueKey → ℕ → Type 0) (blocks : Blocks T) (value : T) (key : ValueKey) (block : Bare Header Part T) (hollow : Hollow Header Part T) → hollow_title hollow ≡ bare_title block
    → IsBlockAs Is blocks value key block → IsHollowAs Is blocks key hollow
takes_block Is blocks value key block hollow taken is = let same : bare_title block ≡ hollow_title hollow = sym taken in
    record {
      store = is.store ∙ ap (λ (t : Title). t.known.store) same;
      book = is.book;
      next = subst (λ (t : Title). Is key t.number) same is.next;
      lay = is.lies ∙ ap title_label same;
      content = is.content ∙ ap titled_content same;
      free = is.free;
      fits = subst (λ (t : Title). t.number + 2 < 2 ^ 64) same is.fits;
    }

-- and once the key is settled, it may be laid back
pub settles_hollow : {T : Type 0} (last : ℕ) (blocks : Blocks T) (key key' : ValueKey) (hollow : Hollow Header Part T) (pass' : Pass) → IsHollowAfter last blocks key hollow
    → FollowsValue key pass' key' → IsNextIn key' (block_number (value_of key)) → IsHollowIn blocks key' hollow
settles_hollow last blocks key key' hollow pass' is follows next = let same : value_of key' ≡ value_of key = follows_value key key' pass' follows in
    record {
      store = is.store;
      book = follows.0 ∙ is.book;
      next = subst (IsNextIn key') (is.next.3) next;
      lay = ap (λ (t : Name × ℕ). chunk_label t.0 (home_of t.1) (cell_of t.1)) (λ j. (follows.0 j, same j)) ∙ is.lay;
      content = ap place_of same ∙ is.content;
      free = subst CarriesNone (sym same) is.free;
      fits = is.fits;
    }
