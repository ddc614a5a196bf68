use Rattle.std.proofs.Common.{◌≡◌, ℕ, false, List, [], ◌∷◌, ◌++◌, inl, sym, subst, refl}
use Rattle.seize_book.proofs.Bounds.{size_itself}
use Rattle.seize_book.proofs.Facts.{equal}
use Rattle.seize_machine.specs.Machine.State.{Out}
use Rattle.seize_machine.specs.Machine.Event.{SwapOut}
use Rattle.seize_machine.proofs.Facts.{Stands}
use Rattle.seize_words.specs.Atomic.{TakesStep, entries}
use Rattle.seize_book.specs.Blocks.{head_word}
use Rattle.seize_book.specs.Book.{after}
use Rattle.seize_book.specs.Entry.{Entry, Made}
use Rattle.seize_book.specs.Laws.{IsAmong, life}
use Rattle.seize_book.specs.Private.{key_of, own_of}
use Rattle.seize_words.specs.Reservations.{slot}
use Rattle.seize_words.specs.Stepping.{MayStep}
use Rattle.seize_book.specs.Tokens.{Name, start}
use Rattle.seize_words.specs.Words.{Site}
use Rattle.seize_words.proofs.Heads.{may_leave}
use Rattle.seize_words.proofs.Stepped.{for_then, found_before, is_at_head, key_then, noted_by}
use Rattle.seize_words.proofs.Walked.{walks_on}
use Rattle.seize_words.proofs.reservation.Head.leave.Goals as goal

pub swap-requires : goal.swap-requires
swap-requires c =
    let head = c.args.self.now in let key = c.args.key.now in let pass = c.args.pass.now in let held = key.keys.held in let book = c.requires.book in let m = slot head in let s = key_of held in
    let out = subst (λ (n : Name). Stands (after (start n) (own_of held)) s (Out false) c.requires.leaving.0) book.0 c.requires.leaving.1 in
    let lives = c.end-over.result.lives in
    let its = subst (λ (ls : List ℕ). IsAmong ls (life s (own_of held))) (sym c.end-over.ensures.2) (inl c.requires.last.1) in (
      book.1,
      book.0,
      subst (λ (w : Site). MayStep w pass.id pass.seen held [] lives (λ v. 0) (λ v log. Made (record { pass = pass.id; size = pass.size; event = SwapOut s; life = 0; kepts = [] })) (λ v. false))
          (sym (is_at_head head.word pass.name book.1 head.head)) (may_leave pass.name m pass.id pass.size 0 false c.requires.leaving.0 lives pass.seen held key.one out (sym book.2) its),
      λ v log. size_itself pass.size,
    )

pub returns-clause-noted : goal.returns-clause-noted
returns-clause-noted c =
    let head = c.args.self.now in let key = c.args.key.now in let pass = c.args.pass.now in let s = key_of key.keys.held in let m = slot head in
    let told = subst (λ (w : Site). TakesStep w key.keys pass c.swap.new.keys c.swap.new.pass [] (λ v. 0) c.swap.result (entries pass 0 (λ v log. SwapOut s)) (λ v. false)) (is_at_head head.word pass.name c.requires.book.1 head.head) c.swap.ensures in
    noted_by m key _ pass c.swap.new.pass (λ v. 0) c.swap.result 0 (λ v log. SwapOut s) told (equal s s refl) c.requires.book.0

pub returns-clause-slot : goal.returns-clause-slot
returns-clause-slot c =
    let head = c.args.self.now in let key = c.args.key.now in let pass = c.args.pass.now in let s = key_of key.keys.held in let m = slot head in let end = c.end-over.ensures in
    let told = subst (λ (w : Site). TakesStep w key.keys pass c.swap.new.keys c.swap.new.pass [] (λ v. 0) c.swap.result (entries pass 0 (λ v log. SwapOut s)) (λ v. false)) (is_at_head head.word pass.name c.requires.book.1 head.head) c.swap.ensures in
    for_then m pass c.swap.new.pass key.keys c.swap.new.keys (λ v. 0) c.swap.result 0 (λ v log. SwapOut s) told key.one c.args.activation.now c.end-over.new.self c.requires.last.0 end.0 end.1 end.4

pub returns-clause-found : goal.returns-clause-found
returns-clause-found c =
    let head = c.args.self.now in let key = c.args.key.now in let pass = c.args.pass.now in let s = key_of key.keys.held in let m = slot head in
    let told = subst (λ (w : Site). TakesStep w key.keys pass c.swap.new.keys c.swap.new.pass [] (λ v. 0) c.swap.result (entries pass 0 (λ v log. SwapOut s)) (λ v. false)) (is_at_head head.word pass.name c.requires.book.1 head.head) c.swap.ensures in
    subst (λ (n : Name). (before : List Entry) × (last : Entry) × (c.swap.new.pass.seen ≡ before ++ last ∷ []) × (c.swap.result ≡ head_word (start n) before m)) (sym c.requires.book.1)
    (found_before m pass c.swap.new.pass key.keys c.swap.new.keys (λ v. 0) c.swap.result 0 (λ v log. SwapOut s) told)

pub returns-clause-walks : goal.returns-clause-walks
returns-clause-walks c leaving =
    let head = c.args.self.now in let key = c.args.key.now in let pass = c.args.pass.now in let s = key_of key.keys.held in let m = slot head in
    let told = subst (λ (w : Site). TakesStep w key.keys pass c.swap.new.keys c.swap.new.pass [] (λ v. 0) c.swap.result (entries pass 0 (λ v log. SwapOut s)) (λ v. false)) (is_at_head head.word pass.name c.requires.book.1 head.head) c.swap.ensures in
    let out = subst (λ (n : Name). Stands (after (start n) (own_of key.keys.held)) s (Out false) leaving.0) c.requires.book.0 leaving.1 in
    walks_on m key (key_then key c.swap.new.keys c.swap.new.pass.seen told.2.keys) pass c.swap.new.pass (λ v. 0) c.swap.result 0 told c.requires.book.0 (sym c.requires.book.2) false leaving.0 out
