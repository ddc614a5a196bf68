use Rattle.std.proofs.Common.{◌≡◌, ℕ, Option, List, [], ◌∷◌, ◌++◌, length, None, refl, sym, ap, subst, ◌∙◌, arith}
use Rattle.seize_machine.specs.Machine.Event.{Take}
use Rattle.seize_book.specs.Tokens.{IsSole}
use Rattle.seize_alone.proofs.Ready.{made_alone}
use Rattle.seize_alone.specs.Events.{MakesAlone}
use Rattle.seize_parts.proofs.Made.{makes_slot, none_learned, none_then}
use Rattle.seize_parts.proofs.Stilled.{alone_from, still_learned}
use Rattle.seize_parts.proofs.Numbered.{is_full, next_is, none_added, none_pushed, slots_made, slots_still, still_none}
use Rattle.seize_parts.specs.Numbers.{AreNumbers, KnowsLeast, NoneBelow}
use Rattle.seize_parts.specs.declared.numbers.Numbers.{Numbers}
use Rattle.seize_parts.proofs.numbers.Numbers.make.Goals.{then-is_err-via-then-is_err, then-is_err-via-else-is_err+then-is_err-2}
use Rattle.seize_parts.proofs.numbers.Numbers.make.Goals as goal

-- none lies among those that are kept, as they are the same
kept_still : {X : Type 0} (kept kept' : List (Option X)) → kept' ≡ kept → NoneBelow (length kept) kept → NoneBelow (length kept') kept'
kept_still kept kept' same none = subst (λ (l : List (Option _)). NoneBelow (length l) l) (sym same) none

pub returns-then-is_err-clause-numbers : goal.returns-then-is_err-clause-numbers
returns-then-is_err-clause-numbers g c =
    let self = c.args.self.now in let numbers = c.requires.numbers.0 in let are = numbers.0 in elim c.then-is_err.branch [
      | then-is_err-via-then-is_err w ↦ subst (λ (n : Numbers g.row.T.Denot). AreNumbers n × (n.book ≡ self.book) × KnowsLeast n) (sym w.self-is) (
        (slots_still self are _ are.next are.next are.is_there (refl, refl, refl) refl c.reserve.ensures.items refl refl refl are.is_there refl, numbers.1),
        refl,
        still_none self.slots.items _ self.least c.requires.least c.reserve.ensures.items,
      )
      | then-is_err-via-else-is_err+then-is_err-2 w ↦ subst (λ (n : Numbers g.row.T.Denot). AreNumbers n × (n.book ≡ self.book) × KnowsLeast n) (sym w.self-is) (
        (
          slots_still self are _ are.next are.next are.is_there (refl, refl, refl) refl c.reserve.ensures.items refl w.reserve-else-is_err.ensures.items refl are.is_there refl,
          kept_still self.kept.items _ w.reserve-else-is_err.ensures.items numbers.1,
        ),
        refl,
        still_none self.slots.items _ self.least c.requires.least c.reserve.ensures.items,
      )
    ]

pub make-requires : goal.make-requires
make-requires g c =
    let self = c.args.self.now in let numbers = c.requires.numbers in let name = c.learn.ensures.0.0 in
    let comes = next_is self numbers.0.0 c.in-Some.next (sym c.take.ensures.value ∙ c.in-Some.is) in (
      omega arith,
      ((c.requires.pass.0 ∙ sym name, numbers.0.0.book ∙ numbers.1 ∙ c.requires.pass.0 ∙ sym name), (is_full self numbers.0.0 c.requires.taken, comes.0, comes.1)),
    )

pub returns-in-Ok-clause-numbers : goal.returns-in-Ok-clause-numbers
returns-in-Ok-clause-numbers g c =
    let self = c.args.self.now in let are = c.requires.numbers.0.0 in let slots = c.push_reserved.ensures.items ∙ ap (λ items. items ++ None ∷ []) c.reserve.ensures.items in
    let kept = c.push_reserved-in-Ok.ensures.items ∙ ap (λ items. items ++ None ∷ []) c.reserve-else-is_err.ensures.items in
    let made = c.in-Ok.ensures.made in (
      (
        slots_made self are c.requires.taken _ c.learn.new.self c.make.new.pass c.in-Ok.slot.holder.key c.in-Some.next c.in-Ok.next made.0 slots refl kept refl refl refl,
        kept_still (self.kept.items ++ None ∷ []) _ kept (none_added self.kept.items c.requires.numbers.0.1),
      ),
      refl,
      subst (NoneBelow c.len-self.result) (sym slots) (none_pushed self.slots.items c.len-self.result c.requires.taken),
    )

pub returns-in-Ok-clause-made : goal.returns-in-Ok-clause-made
returns-in-Ok-clause-made g c =
    let learned = none_learned c.args.pass.now c.args.self.now.book c.learn.new.self c.learn.ensures in let made = c.in-Ok.ensures in record {
      its = made.of;
      inactive = made.outside;
      takes = none_then learned (makes_slot c.args.self.now.key c.in-Some.next c.learn.new.self c.make.new.numbers c.in-Ok.slot c.in-Ok.next c.make.new.pass made.made);
      alone = λ sole.
          let still = still_learned c.args.self.now.book c.learn.ensures in let makes = made.made.0.made in
          (makes.noted.answer, subst (λ (s : ℕ). MakesAlone c.args.pass.now c.make.new.pass (Take s) makes.noted.answer) (sym makes.seen_by.1 ∙ c.in-Ok.slot.together.numbered) (alone_from sole still (made_alone (subst IsSole (sym still.same.1) sole) makes)));
      took = λ begun. absurd (cc);
      sees = made.made.0.made.seen_by.2;
    }

pub returns-in-Err-clause-numbers : goal.returns-in-Err-clause-numbers
returns-in-Err-clause-numbers g c =
    let self = c.args.self.now in let numbers = c.requires.numbers.0 in let are = numbers.0 in let refused = c.in-Err.ensures in (
      (
        slots_still self are _ c.in-Some.next c.in-Err.next (sym c.take.ensures.value ∙ c.in-Some.is) refused.refused.1 refused.unchanged.0 c.reserve.ensures.items refl c.reserve-else-is_err.ensures.items refl refl refl,
        kept_still self.kept.items _ c.reserve-else-is_err.ensures.items numbers.1,
      ),
      refl,
      still_none self.slots.items _ self.least c.requires.least c.reserve.ensures.items,
    )
