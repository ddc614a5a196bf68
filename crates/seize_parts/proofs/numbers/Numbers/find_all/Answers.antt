use Rattle.std.proofs.Common.{◌≡◌, ℕ, true, length, sym, ap, subst, ◌∙◌, arith}
use native.Mathlib.Decide.{ℕ_discrete}
use Rattle.seize_book.specs.Tokens.{IsSole}
use Rattle.seize_book.specs.declared.book.pass.Pass.{Pass}
use Rattle.seize_calls.specs.Slots.{IsPassOf}
use Rattle.seize_parts.specs.Resting.{AreLeft, LiesSomewhere}
use Rattle.seize_parts.proofs.numbers.Numbers.find_all.Goals as goal
use Rattle.seize_parts.proofs.numbers.Numbers.find_all.Goals.{then-not-find_at, else-not-find_at}

pub find_at-requires : goal.find_at-requires
find_at-requires g c =
    let i = c.loop-n.invariant in let same : c.args.pass.now ≡ c.loop-n.pass = sym i.3 in let places = c.loop-n.places.items in
    let long = ap (λ slots. length slots.items) i.2 in let less = c.loop-n-test.true in let many = c.len-n-end.ensures in let room = i.5 in (
      omega arith,
      (
        (i.0, ap (λ seen. seen.name) i.1 ∙ c.requires.numbers.1, omega (arith, less, many, long)),
        ((subst (λ (q : Pass). AreLeft q places) same i.4, omega (arith, less, many, room)), (subst (IsPassOf c.args.words.now) same c.requires.pass.0, subst (λ (q : Pass). IsSole q.id) same c.requires.pass.1)),
      ),
    )

pub loop-n-preserved : goal.loop-n-preserved
loop-n-preserved g c =
    let i = c.loop-n.invariant in let one = c.find_at.ensures in let places' = c.find_at.new.places.items in let items = c.args.self.now.slots.items in
    let same : c.loop-n.pass ≡ c.args.pass.now = i.3 in let was : (s : ℕ) → LiesSomewhere c.loop-n.self.slots.items c.loop-n.places.items s → LiesSomewhere c.loop-n.self.slots.items places' s = one.more in let room = i.5 in let long = one.left.1 in
    let all : (c.if-not-find_at.all ≡ true) → (c.find_at.result ≡ true) × (c.loop-n.all ≡ true) =
    elim c.if-not-find_at.branch [
      | then-not-find_at w ↦ λ is. absurd (cc)
      | else-not-find_at w ↦ λ is. (w.if-not-find_at.false, sym w.all-is ∙ is)
    ] in (
      one.numbers.0,
      one.numbers.1 ∙ i.1,
      one.numbers.2 ∙ i.2,
      one.still ∙ same,
      subst (λ (q : Pass). AreLeft q places') same one.left.0,
      omega (arith, room, long),
      λ is s less.
          let both = all is in let here : LiesSomewhere items places' c.loop-n.n = subst (λ slots. LiesSomewhere slots.items places' c.loop-n.n) i.2 (one.here both.0) in
          elim (ℕ_discrete s c.loop-n.n) [
            | yes at ↦ subst (λ (k : ℕ). LiesSomewhere items places' k) (sym at) here
            | no other ↦ subst (λ slots. LiesSomewhere slots.items places' s) i.2 (was s (subst (λ slots. LiesSomewhere slots.items c.loop-n.places.items s) (sym i.2) (i.6 both.1 s (omega (arith, less, other)))))
          ],
    )
