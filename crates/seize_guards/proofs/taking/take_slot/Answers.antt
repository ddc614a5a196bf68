use Rattle.std.proofs.Common.{ℕ, Bool, inl, inr, sym, subst, ◌∙◌}
use Rattle.seize_machine.specs.Machine.Event.{Take}
use Rattle.seize_book.specs.declared.book.pass.Pass.{Pass}
use Rattle.seize_calls.specs.Slots.{IsInactive, IsSlotOf, IsTakenAs, its_number}
use Rattle.seize_calls.specs.declared.slot.Slot.{Slot}
use Rattle.seize_parts.specs.Makes.{MakesWhole, TakesNumber}
use Rattle.seize_parts.specs.Puts.{PutBy}
use Rattle.seize_parts.proofs.Steps.{put_so, puts_by}
use Rattle.seize_parts.proofs.Wholly.{slot_takes_whole}
use Rattle.seize_guards.proofs.taking.take_slot.Goals.{then-begun, else-begun}
use Rattle.seize_guards.proofs.taking.take_slot.Goals as goal

pub returns-clause-slot : goal.returns-clause-slot
returns-clause-slot g c =
    let words = c.args.parts.now.words in let ok = c.in_ok-slot in
    let taken = ok.ensures.gives.0.0 in
    let now : IsSlotOf words c.if-begun.slot × IsInactive c.if-begun.slot = elim c.if-begun.branch [
      | then-begun w ↦ subst (λ (s : Slot g.row.T.Denot). IsSlotOf words s × IsInactive s) (sym w.slot-is) (w.resume.ensures.of.0, w.resume.ensures.of.1 ∙ taken.inactive)
      | else-begun w ↦ subst (λ (s : Slot g.row.T.Denot). IsSlotOf words s × IsInactive s) (sym w.slot-is) (subst (λ (b : Bool). IsTakenAs b words ok.field-0.slot) w.if-begun.false taken.its, taken.inactive)
    ] in
    (now.0, now.1, ok.ensures.gives.0.1)

pub returns-clause-takes : goal.returns-clause-takes
returns-clause-takes g c =
    let words = c.args.parts.now.words in let ok = c.in_ok-slot in let p = c.args.pass.now in let IsPut = PutBy g.row.T.coded.code g.R.Puts.puts in
    let taken = ok.ensures.gives.0.0 in
    elim c.if-begun.branch [
      | then-begun w ↦
          let took = taken.took w.if-begun.true in let slot' = w.resume.new.self in let pass' = w.resume.new.pass in let had' = w.resume.new.reclaimer.ends.had in
          let whole = slot_takes_whole IsPut pass' (puts_by g.row.T.coded.code g.R.Puts.puts pass') words took.0 p ok.field-0.slot c.with.new.with slot' w.resume.ensures.of.0.0 c.requires w.new.result.ends.had had'
          (put_so g.row.T.coded.code g.R.Puts.puts pass' had' w.resume.ensures.serves.1) took.3 w.resume.ensures.resumes in
          subst (λ (t : Slot g.row.T.Denot × Pass). TakesNumber IsPut (its_number t.0) p t.1) (λ j. (sym w.slot-is j, sym w.pass-is j))
          (inr (subst (λ (k : ℕ). MakesWhole IsPut k (Take k) p pass') (took.2 ∙ sym w.resume.ensures.resumes.same.0) whole))
      | else-begun w ↦ subst (λ (t : Slot g.row.T.Denot × Pass). TakesNumber IsPut (its_number t.0) p t.1) (λ j. (sym w.slot-is j, sym w.pass-is j)) (inl taken.takes)
    ]
