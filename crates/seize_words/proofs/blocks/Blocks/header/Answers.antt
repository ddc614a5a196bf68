use Rattle.std.proofs.Common.{◌≡◌, ℕ, true, sym, ap, ◌∙◌, subst}
use Rattle.seize_machine.specs.Machine.State.{has}
use Rattle.seize_book.specs.Blocks.{block_number}
use Rattle.seize_book.specs.Homesteads.{state_seen}
use Rattle.seize_words.specs.Counts.{home}
use Rattle.seize_book.specs.Homes.{home_of}
use Rattle.seize_book.specs.Loans.{cell_of}
use Rattle.seize_table.specs.Pairs.{pair}
use Rattle.seize_book.specs.declared.book.pass.Pass.{Pass}
use Rattle.seize_words.proofs.Chunked.{found_label, label, named_seen, same_cell, same_family, same_home}
use Rattle.seize_words.proofs.blocks.Blocks.header.Goals as goal

pub agree-requires : goal.agree-requires
agree-requires g c =
    let pass = c.args.pass.now in let seen = c.seek-known.new.self in let header = c.header-header.result.now in let v = c.requires.named.0 in
    let found = found_label c.seek-known.result seen (label header) c.args.number c.seek-known.ensures.homes c.seek-known.ensures.row.1
    (ap label c.header-header.ensures ∙ c.place-place.ensures.label) v (named_seen pass seen v c.seek-known.ensures.looks c.requires.named.1) c.requires.named.2 in
    same_family header.book.name seen.name (pair (home header.count) header.note.name) (pair (home_of v) (cell_of v)) found

pub returns-clause-header : goal.returns-clause-header
returns-clause-header g c =
    let seen = c.seek-known.new.self in let header = c.header-header.result.now in
    let labelled = λ (v : ℕ) (named : has v (state_seen c.agree.new.self).named ≡ true) (is : block_number v ≡ c.args.number).
    found_label c.seek-known.result seen (label header) c.args.number c.seek-known.ensures.homes c.seek-known.ensures.row.1
    (ap label c.header-header.ensures ∙ c.place-place.ensures.label) v (subst (λ (p : Pass). has v (state_seen p).named ≡ true) c.agree.ensures.0 named) is in (
      c.agree.ensures.1,
      (λ v named is. sym (same_home header.book.name seen.name (home header.count) header.note.name (home_of v) (cell_of v) (labelled v named is))),
      (λ v named is. sym (same_cell header.book.name seen.name (home header.count) header.note.name (home_of v) (cell_of v) (labelled v named is))),
    )
