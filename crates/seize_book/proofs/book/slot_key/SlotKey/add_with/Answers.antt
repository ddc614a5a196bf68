use Rattle.std.proofs.Common.{◌≡◌, ap, subst, sym, ◌∙◌, true}
use Rattle.std.specs.Prelude.{take, drop}
use Rattle.seize_book.specs.Ledger.{HoldersKnow}
use Rattle.seize_book.specs.Book.{rules}
use Rattle.seize_book.specs.Fair.{Before}
use Rattle.seize_book.specs.Private.{is_one, key_of, own_of}
use Rattle.seize_book.specs.Tokens.{start}
use Rattle.seize_book.specs.Adding.{deed_with_words}
use Rattle.seize_book.proofs.Moves.{moves}
use Rattle.seize_book.proofs.Private.{held_after, parted, same_kind, two_kept}
use Rattle.seize_book.proofs.book.slot_key.SlotKey.add_with.Goals as goal

pub returns-clause-noted : goal.returns-clause-noted
returns-clause-noted g c =
    let key = c.args.self.now in let pass = c.args.pass.now in let seen = c.add.new.pass.seen in let told = c.add.ensures in let added = told.2 in let noted = added.noted in
    let a = key.keys.held in let b = c.args.other.now.held in let e = deed_with_words pass g.P.Picks.event g.P.Picks.kepts in let joined = c.join.ensures.2 in
    let two = parted a b seen key.one in
    let held = c.part.ensures.2 ∙ ap (take 1) (held_after pass.name pass.id pass.seen seen _ _ a b e joined c.requires.may.0 added) in
    let number = ap key_of held ∙ two.number in let own = ap own_of held ∙ two.own in
    let book = c.requires.book.0 in let name = c.part.ensures.0 ∙ told.1 ∙ c.join.ensures.0 in (
      told.0,
      (name, number, own),
      (
        noted,
        moves key _ pass.name e noted.before (noted.later, noted.answer) book (name ∙ book) c.requires.own added.before.legal noted.does
            (two_kept (start pass.name) a b noted.before key.one (subst (λ hs. HoldersKnow (rules (start pass.name)) hs noted.before) joined added.before.kept)) number (own ∙ noted.appended),
      ),
    )

pub returns-clause-other : goal.returns-clause-other
returns-clause-other g c =
    let key = c.args.self.now in let pass = c.args.pass.now in let seen = c.add.new.pass.seen in let told = c.add.ensures in
    let a = key.keys.held in let b = c.args.other.now.held in let e = deed_with_words pass g.P.Picks.event g.P.Picks.kepts in let joined = c.join.ensures.2 in
    let held = c.part.ensures.3 ∙ ap (drop 1) (held_after pass.name pass.id pass.seen seen _ _ a b e joined c.requires.may.0 told.2) ∙ (parted a b seen key.one).others in
    ((c.part.ensures.1 ∙ told.1 ∙ c.join.ensures.0 ∙ c.requires.book.0 ∙ sym c.requires.book.1, held), λ r one. subst (λ hs. is_one r hs ≡ true) (sym held) (same_kind r b seen one))

pub returns-clause-knew : goal.returns-clause-knew
returns-clause-knew g c =
    let pass = c.args.pass.now in let added = c.add.ensures.2 in let noted = added.noted in
    (noted.before, noted.appended, subst (λ hs. Before pass.name pass.id pass.seen hs noted.before) c.join.ensures.2 added.before)
