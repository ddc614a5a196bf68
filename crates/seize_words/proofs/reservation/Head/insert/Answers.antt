use Rattle.std.proofs.Common.{◌≡◌, ◌+◌, false, List, [], ◌∷◌, ◌++◌, sym, subst, refl}
use Rattle.seize_book.proofs.Bounds.{size_itself}
use Rattle.seize_book.proofs.Facts.{equal}
use Rattle.seize_machine.specs.Machine.Event.{Insert}
use Rattle.seize_words.specs.Atomic.{TakesStep, after_exchange, entries}
use Rattle.seize_book.specs.Blocks.{head_word}
use Rattle.seize_book.specs.Entry.{Entry, Made}
use Rattle.seize_words.specs.Heads.{IsTrying, found_end}
use Rattle.seize_book.specs.Private.{key_of, own_of}
use Rattle.seize_words.specs.Reservations.{slot}
use Rattle.seize_words.specs.Stepping.{MayStep}
use Rattle.seize_book.specs.Tokens.{Name, start}
use Rattle.seize_words.specs.Words.{Site}
use Rattle.seize_words.proofs.Heads.{Wrote, may_insert}
use Rattle.seize_words.proofs.Stepped.{found_before, is_at_head, noted_by}
use Rattle.seize_words.proofs.reservation.Head.insert.Goals as goal

pub exchange-requires : goal.exchange-requires
exchange-requires c =
    let head = c.args.self.now in let key = c.args.key.now in let pass = c.args.pass.now in let held = key.keys.held in let book = c.requires.book in
    let tries = subst (λ (n : Name). (t : IsTrying (start n) (key_of held) (own_of held) (slot head) c.args.seen c.args.block) × Wrote n (slot head) (key_of held) (own_of held) c.args.seen t.batch) book.0 (c.requires.tries.0, c.requires.tries.1) in (
      book.1,
      book.0,
      subst (λ (w : Site). MayStep w pass.id pass.seen held [] [] (after_exchange c.args.seen (c.args.block + 2)) (λ v log. Made (record { pass = pass.id; size = pass.size; event = Insert (key_of held) (slot head) (found_end c.args.seen v); life = 0; kepts = [] })) (λ v. false))
          (sym (is_at_head head.word pass.name book.1 head.head)) (may_insert pass.name (slot head) pass.id pass.size c.args.seen c.args.block pass.seen held key.one tries.0 tries.1),
      λ v log. size_itself pass.size,
    )

pub returns-clause-noted : goal.returns-clause-noted
returns-clause-noted c =
    let head = c.args.self.now in let key = c.args.key.now in let pass = c.args.pass.now in let s = key_of key.keys.held in let m = slot head in let f = after_exchange c.args.seen (c.args.block + 2) in
    let told = subst (λ (w : Site). TakesStep w key.keys pass c.exchange.new.keys c.exchange.new.pass [] f c.exchange.result (entries pass 0 (λ v log. Insert s m (found_end c.args.seen v))) (λ v. false)) (is_at_head head.word pass.name c.requires.book.1 head.head) c.exchange.ensures in
    noted_by m key _ pass c.exchange.new.pass f c.exchange.result 0 (λ v log. Insert s m (found_end c.args.seen v)) told (equal s s refl) c.requires.book.0

pub returns-clause-found : goal.returns-clause-found
returns-clause-found c =
    let head = c.args.self.now in let key = c.args.key.now in let pass = c.args.pass.now in let s = key_of key.keys.held in let m = slot head in let f = after_exchange c.args.seen (c.args.block + 2) in
    let told = subst (λ (w : Site). TakesStep w key.keys pass c.exchange.new.keys c.exchange.new.pass [] f c.exchange.result (entries pass 0 (λ v log. Insert s m (found_end c.args.seen v))) (λ v. false)) (is_at_head head.word pass.name c.requires.book.1 head.head) c.exchange.ensures in
    subst (λ (n : Name). (before : List Entry) × (last : Entry) × (c.exchange.new.pass.seen ≡ before ++ last ∷ []) × (c.exchange.result ≡ head_word (start n) before m)) (sym c.requires.book.1)
    (found_before m pass c.exchange.new.pass key.keys c.exchange.new.keys f c.exchange.result 0 (λ v log. Insert s m (found_end c.args.seen v)) told)
