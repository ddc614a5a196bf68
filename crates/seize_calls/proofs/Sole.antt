-- Where the pass is alone an insertion is won: the head's word is what was seen.
use Rattle.std.proofs.Common.{◌≡◌, ℕ, ◌==◌, true, List, [], ◌∷◌, ◌++◌, sym, ap, ◌∙◌, subst, arith}
use Rattle.std.specs.Prelude.{slice_index_or}
use Rattle.std.proofs.lemmas.List.{same_from_push}
use Rattle.seize_machine.specs.Machine.State.{State, head_at}
use Rattle.seize_book.specs.Blocks.{block_in, head_word, no_plan, word_of}
use Rattle.seize_book.specs.Entry.{Entry, Use, Used}
use Rattle.seize_book.specs.Passes.{IsSamePass}
use Rattle.seize_book.specs.Tokens.{AddsEntry, IsSole, start}
use Rattle.seize_book.specs.declared.book.pass.Pass.{Pass}
use Rattle.seize_book.specs.declared.book.slot_key.SlotKey.{SlotKey}
use Rattle.seize_words.proofs.Facts.{after_used, plans_used}
use Rattle.seize_words.specs.Headers.{Uses}
use Rattle.seize_words.specs.Reservations.{FoundBefore, ShowsHead, slot}
use Rattle.seize_words.specs.declared.reservation.Head.{Head}

word_used : (st : State) (log : List Entry) (u : Use) (m : ℕ) → head_word st (log ++ Used u ∷ []) m ≡ head_word st log m
word_used st log u m = λ i. word_of (λ b. block_in (slice_index_or (plans_used st log u i) b no_plan) m) (head_at (after_used st log u i) m)

pub equal_same : {a b : ℕ} → a ≡ b → (a == b) ≡ true
equal_same e = grind arith

-- with which pass a call may be made, it may be made with the same one later
pub may_same : (may : ℕ → Type 0) (pass pass' : Pass) → IsSamePass pass pass' → may pass.id → may pass'.id
may_same may pass pass' same is = subst may (sym same.1) is

pub sole_same : (pass pass' : Pass) → IsSamePass pass pass' → IsSole pass.id → IsSole pass'.id
sole_same = may_same IsSole

-- what a head showed it shows after a use of a field by the pass that is alone
shows_used : (head : Head) (v : ℕ) (key : SlotKey) (pass : Pass) (key' : SlotKey) (pass' : Pass) (f g : ℕ) → Uses key pass key' pass' f g → IsSole pass.id → ShowsHead head pass.seen v → ShowsHead head pass'.seen v
shows_used head v key pass key' pass' f g uses sole shows =
    shows ∙ sym (ap (λ (log : List Entry). head_word (start head.word.name) log (slot head)) (uses.noted.appended ∙ ap (λ (log : List Entry). log ++ _ ∷ []) (uses.noted.alone sole))
    ∙ word_used (start head.word.name) pass.seen _ (slot head))

-- so what an insertion finds after both of its stores is what was seen before
pub found_same : (head : Head) (seen v : ℕ) (key one two : SlotKey) (pass pass1 pass2 pass' : Pass) (f g front : ℕ) → Uses key pass one pass1 f seen → Uses one pass1 two pass2 g front
    → (e : Entry) → AddsEntry pass2.name pass2.id pass2.seen pass'.seen e → FoundBefore head pass' v → IsSole pass.id → ShowsHead head pass.seen seen → v ≡ seen
found_same head seen v key one two pass pass1 pass2 pass' f g front first second e noted found sole shows =
    let sole1 = sole_same pass pass1 first.same sole in let sole2 = sole_same pass1 pass2 second.same sole1 in
    let shows1 = shows_used head seen key pass one pass1 f seen first sole shows in
    let shows2 = shows_used head seen one pass1 two pass2 g front second sole1 shows1 in
    let before : found.0 ≡ pass2.seen = (same_from_push found.0 noted.before found.1 e (sym found.2 ∙ noted.appended)).0 ∙ noted.alone sole2 in
    found.3 ∙ ap (λ (log : List Entry). head_word (start head.word.name) log (slot head)) before ∙ sym shows2
