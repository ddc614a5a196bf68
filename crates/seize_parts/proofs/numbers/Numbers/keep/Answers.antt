use Rattle.std.proofs.Common.{refl, sym, subst, ◌∙◌, arith, ℕ, ◌<◌, length}
use Rattle.seize_parts.proofs.Recovered.{found_below, found_numbers}
use Rattle.seize_parts.proofs.Stilled.{same_pass, still_looked}
use Rattle.seize_parts.proofs.Swept.{led_none, looked_pass, still_sole}
use Rattle.seize_parts.proofs.numbers.Numbers.keep.Goals as goal

pub index_mut-requires : goal.index_mut-requires
index_mut-requires g c =
    let p = c.args.pass.now in let known = c.look.ensures in let looked = c.look-2 in let slot = c.requires.slot in
    let below = found_below c.args.words.now c.args.self.now c.requires.numbers.0 c.requires.numbers.1 c.args.slot looked.new.self p p c.look.new.pass looked.new.pass c.requires.pass.0 c.requires.pass.1
    c.args.n (led_none c.args.n p p (refl, refl, refl) refl) slot c.look.new.self known.looks known.used.1 looked.ensures.of.0 looked.ensures.looks in let number = looked.ensures.looks.0.same.0 ∙ slot.2 in let ok = c.args.self.now.kept.ok in omega (arith, below, number, ok.0)

pub returns-clause-still : goal.returns-clause-still
returns-clause-still g c =
    let p = c.args.pass.now in let q = c.look.new.pass in let looks = c.look.ensures.looks.0 in
    same_pass (still_sole p q looks.same c.requires.pass.1) (still_looked c.args.slot c.look-2.new.self c.look-2.ensures.looks) ∙ looked_pass p q looks c.requires.pass.1

pub returns-clause-numbers : goal.returns-clause-numbers
returns-clause-numbers g c =
    let p = c.args.pass.now in let known = c.look.ensures in let looked = c.look-2 in let slot = c.requires.slot in (
      found_numbers c.args.words.now c.args.self.now c.requires.numbers.0 c.requires.numbers.1 c.args.slot looked.new.self p p c.look.new.pass looked.new.pass c.requires.pass.0 c.requires.pass.1
          c.args.n (led_none c.args.n p p (refl, refl, refl) refl) slot c.look.new.self known.looks known.used.1 looked.ensures.of.0 looked.ensures.looks c.args.n (sym (looked.ensures.looks.0.same.0 ∙ slot.2)) known.rest.1 _ refl refl refl refl refl refl refl,
      (refl, refl, refl),
    )

pub returns-clause-kept : goal.returns-clause-kept
returns-clause-kept g c =
    let p = c.args.pass.now in let known = c.look.ensures in let looked = c.look-2 in let slot = c.requires.slot in
    let below = found_below c.args.words.now c.args.self.now c.requires.numbers.0 c.requires.numbers.1 c.args.slot looked.new.self p p c.look.new.pass looked.new.pass c.requires.pass.0 c.requires.pass.1
    c.args.n (led_none c.args.n p p (refl, refl, refl) refl) slot c.look.new.self known.looks known.used.1 looked.ensures.of.0 looked.ensures.looks in let number = looked.ensures.looks.0.same.0 ∙ slot.2 in
    (looked.new.self, subst (λ (k : ℕ). k < length c.args.self.now.kept.items) number below, refl)
