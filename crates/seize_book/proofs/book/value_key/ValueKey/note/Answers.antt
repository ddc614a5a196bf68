use Rattle.std.proofs.Common.{ap, ◌∙◌}
use Rattle.seize_book.specs.Notes.{with_note}
use Rattle.seize_book.proofs.Noted.{same_note}
use Rattle.seize_book.proofs.book.value_key.ValueKey.note.Goals as goal

-- the token says what it said
pub returns-clause-same : goal.returns-clause-same
returns-clause-same g c = (c.close.ensures.0 ∙ c.open-opened.ensures.2, c.close.ensures.1 ∙ ap (with_note c.get-note.new.token.value) c.open-opened.ensures.3 ∙ same_note c.args.self.now.keys.held _ (c.get-note.ensures.token.1 ∙ c.open-opened.ensures.5))
