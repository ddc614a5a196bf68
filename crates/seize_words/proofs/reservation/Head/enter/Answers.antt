use Rattle.std.proofs.Common.{◌≡◌, ℕ, true, false, [], refl, sym, ap, ◌∙◌, subst}
use Rattle.seize_machine.specs.Machine.State.{head_at, is_active, is_idle, slot_at}
use Rattle.seize_machine.specs.Machine.Event.{Enter}
use Rattle.seize_book.specs.Entry.{Made}
use Rattle.seize_words.specs.Atomic.{TakesStep, entries}
use Rattle.seize_book.specs.Book.{after}
use Rattle.seize_book.specs.Private.{key_of, own_of}
use Rattle.seize_words.specs.Reservations.{slot}
use Rattle.seize_words.specs.Stepping.{MayStep}
use Rattle.seize_book.specs.Tokens.{Name, start}
use Rattle.seize_words.specs.Words.{Site}
use Rattle.seize_book.specs.declared.book.keys.Keys.{Keys}
use Rattle.seize_book.specs.declared.book.pass.Pass.{Pass}
use Rattle.seize_book.proofs.Bounds.{size_itself}
use Rattle.seize_book.proofs.Facts.{equal}
use Rattle.seize_words.proofs.Heads.{at_head, may_enter}
use Rattle.seize_words.proofs.Stepped.{activation_is, is_at_head, noted_by}
use Rattle.seize_words.proofs.reservation.Head.enter.Goals as goal

pub swap-requires : goal.swap-requires
swap-requires c =
    let head = c.args.self.now in let key = c.args.key.now in let pass = c.args.pass.now in let held = key.keys.held in let book = c.requires.book in let m = slot head in let s = key_of held in
    let idle = subst (λ (n : Name). is_idle (slot_at (after (start n) (own_of held)) s) ≡ true) book.0 c.requires.outside.0 in
    let off = subst (λ (n : Name). is_active (head_at (after (start n) (own_of held)) s) ≡ false) book.0 c.requires.outside.1 in
    let lives = c.end-ended.result.lives in let next = c.end-ended.result.next in (
      book.1,
      book.0,
      subst (λ (w : Site). MayStep w pass.id pass.seen held [] lives (λ v. 1) (λ v log. Made (record { pass = pass.id; size = pass.size; event = Enter s; life = next; kepts = [] })) (λ v. false))
          (sym (is_at_head head.word pass.name book.1 head.head)) (may_enter pass.name m pass.id pass.size next pass.seen held key.one idle off (sym book.2) lives),
      λ v log. size_itself pass.size,
    )

-- what the step tells, said of the key and of the activation as they are in the end
told : (word : Site) (m s : ℕ) (pass pass' : Pass) (old k' new : Keys) (v next life : ℕ) → word ≡ at_head pass.name m → k' ≡ new → next ≡ life
    → TakesStep word old pass k' pass' [] (λ v. 1) v (entries pass next (λ v log. Enter s)) (λ v. false) → TakesStep (at_head pass.name m) old pass new pass' [] (λ v. 1) v (entries pass life (λ v log. Enter s)) (λ v. false)
told word m s pass pass' old k' new v next life w b i =
    subst (λ (t : Site × (Keys × ℕ)). TakesStep t.0 old pass t.1.0 pass' [] (λ v. 1) v (entries pass t.1.1 (λ v log. Enter s)) (λ v. false)) (λ j. (w j, (b j, i j)))

pub returns-clause-noted : goal.returns-clause-noted
returns-clause-noted c =
    let head = c.args.self.now in let key = c.args.key.now in let pass = c.args.pass.now in let s = key_of key.keys.held in let m = slot head in let life = c.begin.new.self.life in
    noted_by m key _ pass c.swap.new.pass (λ v. 1) c.swap.result life (λ v log. Enter s)
    (told head.word m s pass c.swap.new.pass key.keys c.swap.new.keys c.begin.new.keys c.swap.result c.end-ended.result.next life (is_at_head head.word pass.name c.requires.book.1 head.head)
    (sym c.begin.ensures.1) (c.end-ended.ensures.3 ∙ sym c.begin.ensures.0.2) c.swap.ensures) (equal s s refl) c.requires.book.0

pub returns-clause-activation : goal.returns-clause-activation
returns-clause-activation c =
    let head = c.args.self.now in let key = c.args.key.now in let pass = c.args.pass.now in let s = key_of key.keys.held in let m = slot head in let a = c.begin.new.self in let b = c.begin.ensures.0 in
    let then_ = c.end-ended.ensures in let pass' = c.swap.new.pass in
    let t = told head.word m s pass pass' key.keys c.swap.new.keys c.begin.new.keys c.swap.result c.end-ended.result.next a.life (is_at_head head.word pass.name c.requires.book.1 head.head)
    (sym c.begin.ensures.1) (then_.3 ∙ sym b.2) c.swap.ensures in
    activation_is m pass pass' key.keys c.begin.new.keys (λ v. 1) c.swap.result a.life (λ v log. Enter s) t refl (equal s m (sym c.requires.book.2)) key.one c.requires.book.0 (sym c.requires.book.2)
    _ a refl (b.0 ∙ then_.0 ∙ c.requires.slot.0) (b.1 ∙ then_.1 ∙ c.requires.slot.1) (b.3 ∙ ap (λ (k : Keys). own_of k.held) (sym c.begin.ensures.1)) refl (b.4 ∙ then_.4)
