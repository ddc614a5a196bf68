-- The label of a store's chunk is of the family of the list whose blocks lie there. Assumes `Logic`.
use Rattle.std.proofs.Common.{◌≡◌, ℕ, ◌<◌, length, sym, ap, ◌∙◌, arith}
use Rattle.std.proofs.lemmas.List.Elements.{All-get_or}
use denote.RawPtr.{Ptr, null_ptr}
use Rattle.seize_store.specs.Named.{IsRowOf}
use Rattle.seize_store.specs.RowTokens.{entry_of, family_in, label_in}
use Rattle.seize_store.specs.declared.row_token.RowToken.{RowToken}
use Rattle.seize_table.specs.Pairs.{left_of, of_family, pair}
use Rattle.seize_table.proofs.Pairs.{left_pair}
use Rattle.seize_book.specs.Tokens.{Name, chunk_label}
use Rattle.seize_words.specs.Chunks.{blocks_book}
use Rattle.seize_words.specs.declared.blocks.Blocks.{Blocks}

-- a token of a row knows the labels of its chunks, which are of the store's family
family_shown : (known : RowToken) (number : ℕ) → IsRowOf known number → left_of (label_in known.chunks (entry_of number)) ≡ family_in known.store
family_shown known number placed =
    let e : ℕ = entry_of number in let within = placed.within in let long = known.made.1 in let less : e < length known.chunks = omega (arith, within, long) in
    All-get_or (λ (chunk : Ptr × ℕ). of_family (family_in known.store) (left_of chunk.1)) known.chunks e (null_ptr, 0) less known.made.2

-- so what has a chunk's label is of that family
pub label_family : {T : Type 0} (blocks : Blocks T) (known : RowToken) (number : ℕ) (n : Name) (home cell : ℕ) → IsRowOf known number → known.store ≡ (blocks_book blocks).store
    → chunk_label n home cell ≡ label_in known.chunks (entry_of number) → n.family ≡ (blocks_book blocks).family
label_family blocks known number n home cell placed store label =
    sym (left_pair n.family (pair home cell)) ∙ (ap left_of label ∙ (family_shown known number placed ∙ (ap family_in (store ∙ blocks.stands) ∙ blocks.kin)))
