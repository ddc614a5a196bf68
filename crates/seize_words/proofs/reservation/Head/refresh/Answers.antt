use Rattle.std.proofs.Common.{◌≡◌, ℕ, true, false, List, [], ◌∷◌, ◌++◌, inl, refl, sym, ap, ◌∙◌, subst}
use Rattle.seize_machine.specs.Machine.State.{Out}
use Rattle.seize_machine.specs.Machine.Event.{SwapOut}
use Rattle.seize_book.proofs.Bounds.{size_itself}
use Rattle.seize_machine.proofs.Facts.{Stands}
use Rattle.seize_words.specs.Atomic.{TakesStep, entries}
use Rattle.seize_book.specs.Blocks.{head_word}
use Rattle.seize_book.specs.Book.{after}
use Rattle.seize_book.specs.Entry.{Entry, Made}
use Rattle.seize_book.specs.Laws.{IsAmong, life}
use Rattle.seize_book.specs.Private.{key_of, own_of}
use Rattle.seize_words.specs.Reservations.{slot}
use Rattle.seize_words.specs.Stepping.{MayStep}
use Rattle.seize_book.specs.Tokens.{Name, start}
use Rattle.seize_words.specs.Words.{Site}
use Rattle.seize_book.specs.declared.book.keys.Keys.{Keys}
use Rattle.seize_book.specs.declared.book.pass.Pass.{Pass}
use Rattle.seize_book.proofs.Facts.{equal}
use Rattle.seize_words.proofs.Heads.{at_head, may_leave}
use Rattle.seize_words.proofs.Stepped.{activation_is, found_before, is_at_head, key_then, noted_by}
use Rattle.seize_words.proofs.Walked.{walks_on}
use Rattle.seize_words.proofs.reservation.Head.refresh.Goals as goal

pub swap-word-requires : goal.swap-word-requires
swap-word-requires c =
    let head = c.args.self.now in let key = c.args.key.now in let pass = c.args.pass.now in let held = key.keys.held in let book = c.requires.book in let m = slot head in let s = key_of held in
    let out = subst (λ (n : Name). Stands (after (start n) (own_of held)) s (Out true) c.requires.refreshing.0) book.0 c.requires.refreshing.1 in
    let lives = c.end-ended.result.lives in let next = c.end-ended.result.next in
    let its = subst (λ (ls : List ℕ). IsAmong ls (life s (own_of held))) (sym c.end-ended.ensures.2) (inl c.requires.last.1) in (
      book.1,
      book.0,
      subst (λ (w : Site). MayStep w pass.id pass.seen held [] lives (λ v. 1) (λ v log. Made (record { pass = pass.id; size = pass.size; event = SwapOut s; life = next; kepts = [] })) (λ v. false))
          (sym (is_at_head head.word pass.name book.1 head.head)) (may_leave pass.name m pass.id pass.size next true c.requires.refreshing.0 lives pass.seen held key.one out (sym book.2) its),
      λ v log. size_itself pass.size,
    )

-- what the step tells, said of the key and of the activation as they are in the end
told : (word : Site) (m s : ℕ) (pass pass' : Pass) (old k' new : Keys) (v next life : ℕ) → word ≡ at_head pass.name m → k' ≡ new → next ≡ life
    → TakesStep word old pass k' pass' [] (λ v. 1) v (entries pass next (λ v log. SwapOut s)) (λ v. false) → TakesStep (at_head pass.name m) old pass new pass' [] (λ v. 1) v (entries pass life (λ v log. SwapOut s)) (λ v. false)
told word m s pass pass' old k' new v next life w b i =
    subst (λ (t : Site × (Keys × ℕ)). TakesStep t.0 old pass t.1.0 pass' [] (λ v. 1) v (entries pass t.1.1 (λ v log. SwapOut s)) (λ v. false)) (λ j. (w j, (b j, i j)))

pub returns-clause-noted : goal.returns-clause-noted
returns-clause-noted c =
    let head = c.args.self.now in let key = c.args.key.now in let pass = c.args.pass.now in let s = key_of key.keys.held in let m = slot head in let life = c.begin.new.self.life in
    noted_by m key _ pass c.swap-word.new.pass (λ v. 1) c.swap-word.result life (λ v log. SwapOut s)
    (told head.word m s pass c.swap-word.new.pass key.keys c.swap-word.new.keys c.begin.new.keys c.swap-word.result c.end-ended.result.next life (is_at_head head.word pass.name c.requires.book.1 head.head)
    (sym c.begin.ensures.1) (c.end-ended.ensures.3 ∙ sym c.begin.ensures.0.2) c.swap-word.ensures) (equal s s refl) c.requires.book.0

pub returns-clause-activation : goal.returns-clause-activation
returns-clause-activation c =
    let head = c.args.self.now in let key = c.args.key.now in let pass = c.args.pass.now in let s = key_of key.keys.held in let m = slot head in let a = c.begin.new.self in let b = c.begin.ensures.0 in
    let then_ = c.end-ended.ensures in let pass' = c.swap-word.new.pass in
    let t = told head.word m s pass pass' key.keys c.swap-word.new.keys c.begin.new.keys c.swap-word.result c.end-ended.result.next a.life (is_at_head head.word pass.name c.requires.book.1 head.head)
    (sym c.begin.ensures.1) (then_.3 ∙ sym b.2) c.swap-word.ensures in
    activation_is m pass pass' key.keys c.begin.new.keys (λ v. 1) c.swap-word.result a.life (λ v log. SwapOut s) t refl (equal s m (sym c.requires.book.2)) key.one c.requires.book.0 (sym c.requires.book.2)
    _ a refl (b.0 ∙ then_.0 ∙ c.requires.last.0.0) (b.1 ∙ then_.1 ∙ c.requires.last.0.1) (b.3 ∙ ap (λ (k : Keys). own_of k.held) (sym c.begin.ensures.1)) refl (b.4 ∙ then_.4)

pub returns-clause-found : goal.returns-clause-found
returns-clause-found c =
    let head = c.args.self.now in let key = c.args.key.now in let pass = c.args.pass.now in let s = key_of key.keys.held in let m = slot head in let next = c.end-ended.result.next in
    let step = told head.word m s pass c.swap-word.new.pass key.keys c.swap-word.new.keys c.swap-word.new.keys c.swap-word.result next next (is_at_head head.word pass.name c.requires.book.1 head.head) refl refl c.swap-word.ensures in
    subst (λ (n : Name). (before : List Entry) × (last : Entry) × (c.swap-word.new.pass.seen ≡ before ++ last ∷ []) × (c.swap-word.result ≡ head_word (start n) before m)) (sym c.requires.book.1)
    (found_before m pass c.swap-word.new.pass key.keys c.swap-word.new.keys (λ v. 1) c.swap-word.result next (λ v log. SwapOut s) step)

pub returns-clause-walks : goal.returns-clause-walks
returns-clause-walks c refreshing =
    let head = c.args.self.now in let key = c.args.key.now in let pass = c.args.pass.now in let s = key_of key.keys.held in let m = slot head in let life = c.begin.new.self.life in let pass' = c.swap-word.new.pass in
    let step = told head.word m s pass pass' key.keys c.swap-word.new.keys c.begin.new.keys c.swap-word.result c.end-ended.result.next life (is_at_head head.word pass.name c.requires.book.1 head.head)
    (sym c.begin.ensures.1) (c.end-ended.ensures.3 ∙ sym c.begin.ensures.0.2) c.swap-word.ensures in
    let out = subst (λ (n : Name). Stands (after (start n) (own_of key.keys.held)) s (Out true) refreshing.0) c.requires.book.0 refreshing.1 in
    walks_on m key (key_then key c.begin.new.keys pass'.seen step.2.keys) pass pass' (λ v. 1) c.swap-word.result life step c.requires.book.0 (sym c.requires.book.2) true refreshing.0 out
