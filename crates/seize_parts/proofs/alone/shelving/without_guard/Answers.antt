use Rattle.std.proofs.Common.{◌==◌, refl, sym, subst, ◌∙◌, arith}
use Rattle.seize_book.specs.Homesteads.{state_seen}
use Rattle.seize_book.specs.declared.book.pass.Pass.{Pass}
use Rattle.seize_alone.specs.Begins.{IsUsedAs}
use Rattle.seize_parts.specs.Kinds.{kind_if_owned}
use Rattle.seize_calls.specs.Slots.{its_number}
use Rattle.seize_calls.proofs.Current.{looked_active}
use Rattle.seize_parts.proofs.Placed.{at_none, may_still, placed, placed_slot}
use Rattle.seize_parts.proofs.Shelved.{label_left, used_left}
use Rattle.seize_parts.proofs.Stilled.{same_pass, still_looked}
use Rattle.seize_parts.proofs.alone.shelving.without_guard.Goals as goal

pub returns-clause-still : goal.returns-clause-still
returns-clause-still g c = same_pass c.requires.pass.1 (still_looked c.args.r.slot c.look.new.self c.look.ensures.looks)

pub returns-clause-place : goal.returns-clause-place
returns-clause-place g c =
    let words = c.args.words.now in let r = c.args.r in let is = c.requires.r.0 in let slot' = c.look.new.self in let look = c.look.ensures in let pass = c.args.pass.now in
    let of = placed_slot words r is (sym c.seen.ensures.0 ∙ c.agree.ensures) in
    let may = at_none r.slot r.rest r.guards c.requires.r.2 is.at in let still = same_pass c.requires.pass.1 (still_looked r.slot slot' look.looks) in record {
      used = subst (λ (q : Pass). IsUsedAs (state_seen q) (its_number r.slot) (kind_if_owned (r.most == 1), 0)) still
          (used_left words r.slot slot' pass c.look.new.pass c.requires.pass.0 of look.of.0 look.looks r.most 0 (omega arith) (looked_active _ _ _ _ look.looks.0.does ∙ may.0));
      sound = placed words slot' r.rest 0 1 look.of.0 (may_still r.slot slot' r.rest (let by = look.looks.0.does.seen_by in (by.0, by.1)) (looked_active _ _ _ _ look.looks.0.does) may) (let all = is.units in let none = c.requires.r.2 in omega (arith, all, none)) (omega arith);
      reservation = label_left words r.slot slot' pass c.look.new.pass c.requires.pass.0 of look.of.0 look.looks;
      unit = refl;
      shelf = c.requires.shelf;
    }
