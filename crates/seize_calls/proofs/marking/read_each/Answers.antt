use Rattle.std.proofs.Common.{◌≡◌, ℕ, ◌+◌, ◌<◌, ◌∙◌, ap, subst, sym, lit<, arith}
use Rattle.seize_words.specs.Reserved.{comes_to, heads_book, heads_end}
use Rattle.seize_calls.specs.Batches.{slot_marks_of}
use Rattle.seize_calls.specs.Rounds.{Remarks, all_in, rest_in}
use Rattle.seize_calls.proofs.Marks.{IsReading, all_read, has_next, may_read, none_read, one_marked, passed_over, read_on, reads_next, stops}
use Rattle.seize_calls.proofs.marking.read_each.Goals as goal

pub loop-head-init : goal.loop-head-init
loop-head-init g c =
    let heads = c.args.heads in let is = c.into_iter-head-iterator.ensures.into_iter_gives in let none : comes_to c.into_iter-head-iterator.result ≡ 0 = ap comes_to is ∙ c.requires.heads.1 in (
      λ at. subst (λ (i : ℕ). IsReading at (heads_end heads) c.args.pass.now (rest_in c.args.round.now) i 0 c.args.key.now c.args.pass.now c.args.round.now) (sym none)
          (none_read c.args.key.now at (heads_end heads) c.args.pass.now c.args.round.now c.requires.key.knows c.requires.heads.2 c.requires.round.0 c.requires.round.1),
      ap heads_end is,
      ap heads_book is,
      sym none,
    )

pub read-requires-clause-book : goal.read-requires-clause-book
read-requires-clause-book g c =
    let l = c.loop-head in let i = comes_to l.head-iterator in let step = c.in-Some.ensures.steps.2 in
    let less : i < heads_end c.args.heads = subst (λ (e : ℕ). i < e) l.invariant.1 step.0 in
    may_read (l.invariant.0 c.requires.begins) c.in-Some.head.now (step.2 ∙ l.invariant.2 ∙ c.requires.heads.0, step.3) less c.requires.key.its

pub read-requires-clause-reads : goal.read-requires-clause-reads
read-requires-clause-reads g c =
    let l = c.loop-head in let i = comes_to l.head-iterator in let step = c.in-Some.ensures.steps.2 in
    let less : i < heads_end c.args.heads = subst (λ (e : ℕ). i < e) l.invariant.1 step.0 in
    reads_next (l.invariant.0 c.requires.begins) c.in-Some.head.now (step.2 ∙ l.invariant.2 ∙ c.requires.heads.0, step.3) less c.requires.key.its

pub overflow_add-number : goal.overflow_add-number
overflow_add-number g c =
    let l = c.loop-head in let i = comes_to l.head-iterator in let step = c.in-Some.ensures.steps.2 in
    let less : i < heads_end c.args.heads = subst (λ (e : ℕ). i < e) l.invariant.1 step.0 in
    let fits = c.requires.heads.3 in omega (arith, fits, less, l.invariant.3)

pub loop-head-preserved-then-read-eq0 : goal.loop-head-preserved-then-read-eq0
loop-head-preserved-then-read-eq0 g c =
    let l = c.loop-head in let i = comes_to l.head-iterator in let step = c.in-Some.ensures.steps.2 in
    let less : i < heads_end c.args.heads = subst (λ (e : ℕ). i < e) l.invariant.1 step.0 in (
      λ at. subst (λ (j : ℕ). IsReading at (heads_end c.args.heads) c.args.pass.now (rest_in c.args.round.now) j l.marked c.read.new.key c.read.new.pass l.round) (sym step.1)
          (passed_over (l.invariant.0 at) c.in-Some.head.now (step.2 ∙ l.invariant.2 ∙ c.requires.heads.0, step.3) less c.requires.key.its c.read.ensures.noted c.read.ensures.shows c.if-read-eq0.true),
      c.in-Some.ensures.steps.1 ∙ l.invariant.1,
      c.in-Some.ensures.steps.0 ∙ l.invariant.2,
      ap (λ (n : ℕ). n + 1) l.invariant.3 ∙ sym step.1,
    )

pub mark-requires : goal.mark-requires
mark-requires g c =
    let l = c.loop-head in let i = comes_to l.head-iterator in let step = c.in-Some.ensures.steps.2 in
    let less : i < heads_end c.args.heads = subst (λ (e : ℕ). i < e) l.invariant.1 step.0 in
    let r = l.invariant.0 c.requires.begins in let now = read_on r c.in-Some.head.now (step.2 ∙ l.invariant.2 ∙ c.requires.heads.0, step.3) less c.requires.key.its c.read.ensures.noted c.read.ensures.shows in (
      lit< tt,
      (
        (r.book ∙ sym now.same.0, c.requires.key.of.0 ∙ sym now.same.0),
        has_next r c.in-Some.head.now (step.2 ∙ l.invariant.2 ∙ c.requires.heads.0, step.3) less c.requires.key.its c.read.ensures.noted c.read.ensures.shows c.if-read-eq0.false c.args.len c.requires.round.2 c.if-marked-len.false,
      ),
    )

pub loop-head-preserved : goal.loop-head-preserved
loop-head-preserved g c =
    let l = c.loop-head in let i = comes_to l.head-iterator in let step = c.in-Some.ensures.steps.2 in
    let less : i < heads_end c.args.heads = subst (λ (e : ℕ). i < e) l.invariant.1 step.0 in (
      λ at.
          subst (λ (j : ℕ). IsReading at (heads_end c.args.heads) c.args.pass.now (rest_in c.args.round.now) j (l.marked + 1) c.read.new.key c.mark.new.pass c.mark.new.self) (sym step.1)
          (one_marked (l.invariant.0 at) c.in-Some.head.now (step.2 ∙ l.invariant.2 ∙ c.requires.heads.0, step.3) less c.requires.key.its c.read.ensures.noted c.read.ensures.shows c.if-read-eq0.false c.args.len c.requires.round.2 c.if-marked-len.false
          (subst (λ (m : ℕ). Remarks l.round m c.mark.new.self) l.invariant.3 c.mark.ensures.marks) c.mark.ensures.looks),
      c.in-Some.ensures.steps.1 ∙ l.invariant.1,
      c.in-Some.ensures.steps.0 ∙ l.invariant.2,
      ap (λ (n : ℕ). n + 1) l.invariant.3 ∙ sym step.1,
    )

pub returns-then-marked-len-clause-ends : goal.returns-then-marked-len-clause-ends
returns-then-marked-len-clause-ends g c =
    let l = c.loop-head in let i = comes_to l.head-iterator in let step = c.in-Some.ensures.steps.2 in
    let less : i < heads_end c.args.heads = subst (λ (e : ℕ). i < e) l.invariant.1 step.0 in
    λ at. stops (l.invariant.0 at) c.in-Some.head.now (step.2 ∙ l.invariant.2 ∙ c.requires.heads.0, step.3) less c.requires.key.its c.read.ensures.noted c.read.ensures.shows c.if-read-eq0.false c.args.len c.requires.round.2 c.if-marked-len.true c.requires.heads.3 (slot_marks_of (all_in l.round))

pub returns-then-marked-len-clause-round : goal.returns-then-marked-len-clause-round
returns-then-marked-len-clause-round g c =
    let r = c.loop-head.invariant.0 c.requires.begins in (r.book, r.remarked)

pub returns-clause-knows : goal.returns-clause-knows
returns-clause-knows g c = (c.loop-head.invariant.0 c.requires.begins).knows

pub returns-clause-round : goal.returns-clause-round
returns-clause-round g c = let r = c.loop-head.invariant.0 c.requires.begins in (r.book, r.remarked)

pub returns-clause-ends : goal.returns-clause-ends
returns-clause-ends g c = λ at.
    let l = c.loop-head in
    all_read (l.invariant.0 at) (c.in-None.ensures.steps.3.0 ∙ l.invariant.1) (c.requires.heads.4 at)
