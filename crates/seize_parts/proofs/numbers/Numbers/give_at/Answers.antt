use Rattle.std.proofs.Common.{◌≡◌, ◌<◌, ℕ, List, Option, None, Some, is_some, true, length, get_or, slice_set, inl, inr, ⊎_elim, refl, sym, ap, subst, ◌∙◌, arith}
use Rattle.std.proofs.lemmas.List.{get_or_default, length-set}
use Rattle.seize_machine.specs.Machine.Event.{Give}
use Rattle.seize_machine.specs.Machine.Frames.{used}
use Rattle.seize_machine.specs.Machine.State.{Slot as Record, are_distinct, linked_values, slot_at}
use Rattle.seize_book.specs.Book.{IsLegalList}
use Rattle.seize_book.specs.Homesteads.{state_seen}
use Rattle.seize_book.specs.Tokens.{IsSole, Name, start}
use Rattle.seize_book.specs.Values.{values_of}
use Rattle.seize_book.specs.declared.book.pass.Pass.{Pass}
use Rattle.seize_book.specs.Others.{use_flags}
use Rattle.seize_calls.specs.Batches.{keys_in}
use Rattle.seize_calls.specs.Slots.{IsOfList, IsPassOf, its_number}
use Rattle.seize_calls.specs.declared.slot.Slot.{Slot}
use Rattle.seize_calls.proofs.Current.{looked_active, shown}
use Rattle.seize_alone.specs.Events.{MakesAlone}
use Rattle.seize_alone.specs.Holding.{Holds}
use Rattle.seize_alone.specs.Reclaiming.{number_in_turn}
use Rattle.seize_parts.specs.Sweeps.{AreOff, IsOff, KeepsActive, KeepsIdle, KeepsOn}
use Rattle.seize_parts.proofs.Ended.{gave_held, gave_on, gave_rest, here_ended, may_end}
use Rattle.seize_parts.proofs.InUse.{kept_set, none_again, slots_kept, slots_looked}
use Rattle.seize_parts.proofs.Keeping.{used_place}
use Rattle.seize_parts.proofs.Placed.{still_for}
use Rattle.seize_parts.proofs.Stilled.{same_pass, still_looked}
use Rattle.seize_parts.proofs.Swept.{looked_pass, still_sole}
use Rattle.seize_parts.proofs.numbers.Numbers.give_at.Goals as goal

pub look-requires-in-Some : goal.look-requires-in-Some
look-requires-in-Some g c =
    let self = c.args.self.now in let n = c.args.n in let items = self.kept.items in let numbers = c.requires.numbers in let slot = c.in-Some.slot in let p0 = c.args.pass.now in let p1 = c.look.new.pass in let look = c.look.ensures in let words = c.args.words.now in
    let is = get_or_default items n None c.index_mut.result.now numbers.2 ∙ sym c.index_mut.ensures.value ∙ sym c.take.ensures.value ∙ c.in-Some.is in let at = numbers.0.kept n slot is in
    (omega arith, ((subst (λ (m : Name). IsOfList m slot) numbers.1 at.its, at.used), still_for words p0 p1 c.requires.pass.0 look.looks.0.same))

pub give-requires : goal.give-requires
give-requires g c =
    let self = c.args.self.now in let n = c.args.n in let items = self.kept.items in let numbers = c.requires.numbers in let slot = c.in-Some.slot in let p0 = c.args.pass.now in let p1 = c.look.new.pass in let look = c.look.ensures in let words = c.args.words.now in
    let is = get_or_default items n None c.index_mut.result.now numbers.2 ∙ sym c.index_mut.ensures.value ∙ sym c.take.ensures.value ∙ c.in-Some.is in let at = numbers.0.kept n slot is in
    let slot' = c.look-in-Some.new.self in let looked = c.look-in-Some.ensures.looks in let p2 = c.look-in-Some.new.pass in let sole = c.requires.pass.1 in let sole1 = still_sole p0 p1 look.looks.0.same sole in let for1 = still_for words p0 p1 c.requires.pass.0 look.looks.0.same in
    let same1 : p1 ≡ p0 = looked_pass p0 p1 look.looks.0 sole in let same2 : p2 ≡ p1 = same_pass sole1 (still_looked slot slot' looked) in let number : its_number slot' ≡ n = looked.0.same.0 ∙ at.number in
    let seen = shown slot slot' p1 p2 looked (at.its.book ∙ numbers.1 ∙ for1.0) in
    let legal1 : IsLegalList (start p1.name) p1.seen = subst (λ (m : Name). IsLegalList (start m) p1.seen) (sym look.looks.0.same.0) look.looks.0.legal in
    let distinct1 : are_distinct (linked_values p1.name.links) ≡ true = ap (λ (m : Name). are_distinct (linked_values m.links)) look.looks.0.same.0 ∙ look.looks.0.distinct in
    let kept = kept_set self numbers.0 n c.take.new.self (λ s same. absurd (let e = sym c.take.ensures.after ∙ same in cc)) in
    let looked_self = record self { key = c.look.new.self } in let are = slots_looked self numbers.0 looked_self p1 look.looks.1 look.looks.2 look.used.1 look.rest.1 refl refl refl refl refl refl in (
      omega arith,
      (
        (slots_kept looked_self are _ refl refl refl refl kept (length-set items n c.take.new.self) refl refl, numbers.1),
        (
          subst (λ (p : Pass). IsPassOf words p) (sym same2) for1,
          (
            (c.look-in-Some.ensures.of.0, looked_active _ _ _ _ looked.0.does ∙ at.inactive),
            may_end c.look.new.self slot' p2 (subst (λ (p : Pass). IsLegalList (start p.name) p.seen) (sym same2) legal1) (subst (λ (p : Pass). are_distinct (linked_values p.name.links) ≡ true) (sym same2) distinct1)
                (subst (λ (p : Pass). used (state_seen p) ≡ use_flags c.look.new.self) (sym same2) (look.used.0 ∙ sym look.used.1))
                (subst (IsOff p2) (sym looked.0.same.0) (seen.1 ∙ looked_active _ _ _ _ looked.0.does ∙ at.inactive))
                (λ off. let spent = c.requires.spent (subst AreOff (same2 ∙ same1) off) in (sym slot'.together.batch_is.1 ∙ ap (λ b. values_of (keys_in b)) looked.1 ∙ spent.0 n slot is, look.rest.1 ∙ spent.1)),
          ),
        ),
      ),
    )

pub returns-in-Some-clause-numbers : goal.returns-in-Some-clause-numbers
returns-in-Some-clause-numbers g c =
    let self = c.args.self.now in let n = c.args.n in let items = self.kept.items in let numbers = c.requires.numbers in let slot = c.in-Some.slot in let p0 = c.args.pass.now in let p1 = c.look.new.pass in let look = c.look.ensures in let words = c.args.words.now in
    let is = get_or_default items n None c.index_mut.result.now numbers.2 ∙ sym c.index_mut.ensures.value ∙ sym c.take.ensures.value ∙ c.in-Some.is in let at = numbers.0.kept n slot is in
    let slot' = c.look-in-Some.new.self in let looked = c.look-in-Some.ensures.looks in let p2 = c.look-in-Some.new.pass in let sole = c.requires.pass.1 in let sole1 = still_sole p0 p1 look.looks.0.same sole in let for1 = still_for words p0 p1 c.requires.pass.0 look.looks.0.same in
    let same1 : p1 ≡ p0 = looked_pass p0 p1 look.looks.0 sole in let same2 : p2 ≡ p1 = same_pass sole1 (still_looked slot slot' looked) in let number : its_number slot' ≡ n = looked.0.same.0 ∙ at.number in
    let given = c.give.new.self in let give = c.give.ensures in let look' = c.look-in-Some-2.ensures in let many = numbers.0.many in let below = numbers.2 in let there : n < length self.slots.items = omega (arith, below, many) in
    let slots = give.place.1 ∙ ap (λ (k : ℕ). slice_set self.slots.items k (Some give.place.0)) number in
    let kept = ap (λ l. l.items) give.numbers.2 ∙ ap (slice_set items n) c.take.ensures.after in
    let ended = here_ended self.slots.items given.slots.items items given.kept.items n give.place.0 slots kept there in (
      slots_looked given give.numbers.0 _ c.look-in-Some-2.new.pass look'.looks.1 look'.looks.2 look'.used.1 look'.rest.1 refl refl refl refl refl refl,
      (give.numbers.1, ended.0, ended.1),
      kept,
    )

pub returns-in-Some-clause-on : goal.returns-in-Some-clause-on
returns-in-Some-clause-on g c =
    let self = c.args.self.now in let n = c.args.n in let items = self.kept.items in let numbers = c.requires.numbers in let slot = c.in-Some.slot in let p0 = c.args.pass.now in let p1 = c.look.new.pass in let look = c.look.ensures in let words = c.args.words.now in
    let is = get_or_default items n None c.index_mut.result.now numbers.2 ∙ sym c.index_mut.ensures.value ∙ sym c.take.ensures.value ∙ c.in-Some.is in let at = numbers.0.kept n slot is in
    let slot' = c.look-in-Some.new.self in let looked = c.look-in-Some.ensures.looks in let p2 = c.look-in-Some.new.pass in let sole = c.requires.pass.1 in let sole1 = still_sole p0 p1 look.looks.0.same sole in let for1 = still_for words p0 p1 c.requires.pass.0 look.looks.0.same in
    let same1 : p1 ≡ p0 = looked_pass p0 p1 look.looks.0 sole in let same2 : p2 ≡ p1 = same_pass sole1 (still_looked slot slot' looked) in let number : its_number slot' ≡ n = looked.0.same.0 ∙ at.number in
    let p3 = c.give.new.pass in let sole2 : IsSole p2.id = subst (λ (p : Pass). IsSole p.id) (sym (same2 ∙ same1)) sole in let gives = c.give.ensures.alone sole2 in let makes = subst (λ (k : ℕ). MakesAlone p2 p3 (Give k) gives.0) number gives.1 in
    let p4 = c.look-in-Some-2.new.pass in let look' = c.look-in-Some-2.ensures in let same4 : p4 ≡ p3 = looked_pass p3 p4 look'.looks.0 (still_sole p2 p3 makes.same sole2) in
    subst (λ (t : Pass × Pass). KeepsOn t.0 t.1 × KeepsActive t.0 t.1 × KeepsIdle t.0 t.1) (λ j. ((same2 ∙ same1) j, sym same4 j)) (gave_on makes)

pub returns-in-Some-clause-rest : goal.returns-in-Some-clause-rest
returns-in-Some-clause-rest g c off =
    let self = c.args.self.now in let n = c.args.n in let items = self.kept.items in let numbers = c.requires.numbers in let slot = c.in-Some.slot in let p0 = c.args.pass.now in let p1 = c.look.new.pass in let look = c.look.ensures in let words = c.args.words.now in
    let is = get_or_default items n None c.index_mut.result.now numbers.2 ∙ sym c.index_mut.ensures.value ∙ sym c.take.ensures.value ∙ c.in-Some.is in let at = numbers.0.kept n slot is in
    let slot' = c.look-in-Some.new.self in let looked = c.look-in-Some.ensures.looks in let p2 = c.look-in-Some.new.pass in let sole = c.requires.pass.1 in let sole1 = still_sole p0 p1 look.looks.0.same sole in let for1 = still_for words p0 p1 c.requires.pass.0 look.looks.0.same in
    let same1 : p1 ≡ p0 = looked_pass p0 p1 look.looks.0 sole in let same2 : p2 ≡ p1 = same_pass sole1 (still_looked slot slot' looked) in let number : its_number slot' ≡ n = looked.0.same.0 ∙ at.number in
    let p3 = c.give.new.pass in let sole2 : IsSole p2.id = subst (λ (p : Pass). IsSole p.id) (sym (same2 ∙ same1)) sole in let gives = c.give.ensures.alone sole2 in let makes = subst (λ (k : ℕ). MakesAlone p2 p3 (Give k) gives.0) number gives.1 in
    let p4 = c.look-in-Some-2.new.pass in let look' = c.look-in-Some-2.ensures in let same4 : p4 ≡ p3 = looked_pass p3 p4 look'.looks.0 (still_sole p2 p3 makes.same sole2) in
    let seen = shown slot slot' p1 p2 looked (at.its.book ∙ numbers.1 ∙ for1.0) in let spent = c.requires.spent off in
    look'.rest.1 ∙ sym look'.rest.0 ∙ ap (λ (p : Pass). (state_seen p).rest) same4
    ∙ gave_rest makes (ap (λ (p : Pass). (state_seen p).rest) same2 ∙ look.rest.0 ∙ spent.1)
    (ap (λ (k : ℕ). (slot_at (state_seen p2) k).batch) (sym at.number) ∙ ap (λ (x : Record). x.batch) seen.0 ∙ sym slot'.together.batch_is.1 ∙ ap (λ b. values_of (keys_in b)) looked.1 ∙ spent.0 n slot is)

pub returns-in-Some-clause-gives : goal.returns-in-Some-clause-gives
returns-in-Some-clause-gives g c st names kinds are holds =
    let self = c.args.self.now in let n = c.args.n in let items = self.kept.items in let numbers = c.requires.numbers in let slot = c.in-Some.slot in let p0 = c.args.pass.now in let p1 = c.look.new.pass in let look = c.look.ensures in let words = c.args.words.now in
    let is = get_or_default items n None c.index_mut.result.now numbers.2 ∙ sym c.index_mut.ensures.value ∙ sym c.take.ensures.value ∙ c.in-Some.is in let at = numbers.0.kept n slot is in
    let slot' = c.look-in-Some.new.self in let looked = c.look-in-Some.ensures.looks in let p2 = c.look-in-Some.new.pass in let sole = c.requires.pass.1 in let sole1 = still_sole p0 p1 look.looks.0.same sole in let for1 = still_for words p0 p1 c.requires.pass.0 look.looks.0.same in
    let same1 : p1 ≡ p0 = looked_pass p0 p1 look.looks.0 sole in let same2 : p2 ≡ p1 = same_pass sole1 (still_looked slot slot' looked) in let number : its_number slot' ≡ n = looked.0.same.0 ∙ at.number in
    let p3 = c.give.new.pass in let sole2 : IsSole p2.id = subst (λ (p : Pass). IsSole p.id) (sym (same2 ∙ same1)) sole in let gives = c.give.ensures.alone sole2 in let makes = subst (λ (k : ℕ). MakesAlone p2 p3 (Give k) gives.0) number gives.1 in
    let p4 = c.look-in-Some-2.new.pass in let look' = c.look-in-Some-2.ensures in let same4 : p4 ≡ p3 = looked_pass p3 p4 look'.looks.0 (still_sole p2 p3 makes.same sole2) in
    let free = used_place items n slot st is are in
    subst (λ (p : Pass). Holds g.row.T.coded.code (number_in_turn st n) names kinds p.name p.seen) (sym same4)
    (gave_held makes g.row.T.coded st names kinds (subst (λ (p : Pass). Holds g.row.T.coded.code st names kinds p.name p.seen) (sym (same2 ∙ same1)) holds) free.0 free.1)

pub returns-in_default-clause-numbers : goal.returns-in_default-clause-numbers
returns-in_default-clause-numbers g c =
    let self = c.args.self.now in let n = c.args.n in let items = self.kept.items in let numbers = c.requires.numbers in let look = c.look.ensures in
    let is = get_or_default items n None c.index_mut.result.now numbers.2 ∙ sym c.index_mut.ensures.value ∙ sym c.take.ensures.value ∙ c.in_default.is in
    let kept = kept_set self numbers.0 n c.take.new.self (λ s same. absurd (let e = sym c.take.ensures.after ∙ same in cc)) in
    let looked_self = record self { key = c.look.new.self } in let are = slots_looked self numbers.0 looked_self c.look.new.pass look.looks.1 look.looks.2 look.used.1 look.rest.1 refl refl refl refl refl refl in (
      slots_kept looked_self are _ refl refl refl refl kept (length-set items n c.take.new.self) refl refl,
      (refl, refl, λ i. ⊎_elim (λ lies. inl lies) (λ held. inr (ap (λ (l : List (Option (Slot g.row.T.Denot))). is_some (get_or l i None)) (none_again items n c.take.new.self c.take.ensures.after is) ∙ held))),
      ap (slice_set items n) c.take.ensures.after,
    )
