use Rattle.std.proofs.Common.{◌≡◌, ◌<◌, true, false, [], length, sym, subst, refl}
use Rattle.seize_book.proofs.Bounds.{size_itself}
use Rattle.seize_book.proofs.Facts.{equal}
use Rattle.seize_machine.specs.Machine.State.{slot_at}
use Rattle.seize_machine.specs.Machine.Event.{ReadHead}
use Rattle.seize_book.specs.Entry.{Made}
use Rattle.seize_words.specs.Atomic.{TakesStep, entries}
use Rattle.seize_book.specs.Blocks.{head_word}
use Rattle.seize_book.specs.Book.{after}
use Rattle.seize_words.specs.Heads.{reads}
use Rattle.seize_book.specs.Private.{key_of, own_of}
use Rattle.seize_words.specs.Reservations.{slot}
use Rattle.seize_words.specs.Stepping.{MayStep}
use Rattle.seize_book.specs.Tokens.{Name, start}
use Rattle.seize_words.specs.Words.{Site}
use Rattle.seize_words.proofs.Heads.{may_read}
use Rattle.seize_words.proofs.Stepped.{is_at_head, noted_by, shows_after}
use Rattle.seize_words.proofs.reservation.Head.read.Goals as goal

pub load-requires : goal.load-requires
load-requires c =
    let head = c.args.self.now in let key = c.args.key.now in let pass = c.args.pass.now in let held = key.keys.held in let book = c.requires.book in
    let next = subst (λ (n : Name). reads (slot_at (after (start n) (own_of held)) (key_of held)) (slot head) ≡ true) book.0 c.requires.reads.0 in
    let there = subst (λ (n : Name). slot head < length (after (start n) pass.seen).slots) book.1 c.requires.reads.1 in (
      book.1,
      book.0,
      subst (λ (w : Site). MayStep w pass.id pass.seen held [] [] (λ v. v) (λ v log. Made (record { pass = pass.id; size = pass.size; event = ReadHead (key_of held) (slot head); life = 0; kepts = [] })) (λ v. false))
          (sym (is_at_head head.word pass.name book.1 head.head)) (may_read pass.name (slot head) pass.id pass.size pass.seen held key.one next there),
      λ v log. size_itself pass.size,
    )

pub returns-clause-noted : goal.returns-clause-noted
returns-clause-noted c =
    let head = c.args.self.now in let key = c.args.key.now in let pass = c.args.pass.now in let s = key_of key.keys.held in let m = slot head in
    let told = subst (λ (w : Site). TakesStep w key.keys pass c.load.new.keys c.load.new.pass [] (λ v. v) c.load.result (entries pass 0 (λ v log. ReadHead s m)) (λ v. false)) (is_at_head head.word pass.name c.requires.book.1 head.head) c.load.ensures in
    noted_by m key _ pass c.load.new.pass (λ v. v) c.load.result 0 (λ v log. ReadHead s m) told (equal s s refl) c.requires.book.0

pub returns-clause-shows : goal.returns-clause-shows
returns-clause-shows c =
    let head = c.args.self.now in let key = c.args.key.now in let pass = c.args.pass.now in let s = key_of key.keys.held in let m = slot head in
    let told = subst (λ (w : Site). TakesStep w key.keys pass c.load.new.keys c.load.new.pass [] (λ v. v) c.load.result (entries pass 0 (λ v log. ReadHead s m)) (λ v. false)) (is_at_head head.word pass.name c.requires.book.1 head.head) c.load.ensures in
    subst (λ (n : Name). c.load.result ≡ head_word (start n) c.load.new.pass.seen m) (sym c.requires.book.1) (shows_after m pass c.load.new.pass key.keys c.load.new.keys (λ v. v) c.load.result 0 (λ v log. ReadHead s m) told)
