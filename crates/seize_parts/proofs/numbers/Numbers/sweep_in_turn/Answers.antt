use Rattle.std.proofs.Common.{◌≡◌, ◌∙◌, ⊎_elim, ℕ, List, Option, true, false, None, is_some, get_or, length, refl, sym, ap, subst, arith}
use Rattle.std.proofs.lemmas.List.{get_or_past}
use Rattle.seize_machine.specs.Machine.Frames.{used}
use Rattle.seize_machine.specs.Machine.Laws.{is_quiet}
use Rattle.seize_machine.specs.Machine.State.{are_distinct, linked_values, slot_at}
use Rattle.seize_book.specs.Book.{IsLegalList, after}
use Rattle.seize_book.specs.Homes.{IsSound}
use Rattle.seize_book.specs.Homesteads.{state_seen}
use Rattle.seize_book.specs.Loans.{AllCarryOne}
use Rattle.seize_book.specs.Tokens.{Name, start}
use Rattle.seize_book.specs.declared.book.pass.Pass.{Pass}
use Rattle.seize_calls.specs.declared.slot.Slot.{Slot}
use Rattle.seize_parts.specs.Numbers.{flags_of}
use Rattle.seize_parts.specs.Sweeps.{AreOff, KeepsActive, KeepsIdle, KeepsOn}
use Rattle.seize_parts.proofs.Cleared.{all_reclaimed, all_rest, below_or, cleared, quiet_at, quiet_by, used_before}
use Rattle.seize_parts.proofs.InUse.{AreAllHere, all_here, all_unused, here_all, slots_looked, unused_all}
use Rattle.seize_parts.proofs.Keeping.{off_before, off_then}
use Rattle.seize_parts.proofs.Placed.{still_for}
use Rattle.seize_parts.proofs.Swept.{keeps_looked, keeps_then, looked_pass, still_sole}
use Rattle.seize_parts.proofs.numbers.Numbers.sweep_in_turn.Goals as goal

pub recover_all-requires : goal.recover_all-requires
recover_all-requires g c =
    let words = c.args.words.now in let self = c.args.self.now in let p = c.args.pass.now in let p0 = c.look.new.pass in let look = c.look.ensures in let same = look.looks.0.same in (
      omega arith,
      (
        (slots_looked self c.requires.numbers.0.0 _ p0 look.looks.1 look.looks.2 look.used.1 look.rest.1 refl refl refl refl refl refl, c.requires.numbers.1),
        ((still_for words p p0 c.requires.pass.0 same, still_sole p p0 same c.requires.pass.1, c.requires.pass.2), c.requires.queue),
      ),
    )

pub reclaim_kept-requires : goal.reclaim_kept-requires
reclaim_kept-requires g c =
    let words = c.args.words.now in let self = c.args.self.now in let p = c.args.pass.now in let p0 = c.look.new.pass in let p1 = c.recover_all.new.pass in let found = c.recover_all.ensures in let free = found.numbers.2 in let same0 = c.look.ensures.looks.0.same in let same1 = found.on.0.0 in (
      omega arith,
      (
        (
          found.numbers.0,
          ap (λ seen. seen.name) free.0 ∙ c.requires.numbers.1,
          λ i less. ap (λ (l : List (Option (Slot g.row.T.Denot))). is_some (get_or l i None)) free.1 ∙ c.requires.numbers.2 i (let least = free.2 in omega (arith, less, least)),
        ),
        ((still_for words p0 p1 (still_for words p p0 c.requires.pass.0 same0) same1, still_sole p0 p1 same1 (still_sole p p0 same0 c.requires.pass.1), c.requires.pass.2), found.aside.1),
      ),
    )

pub all_here-requires : goal.all_here-requires
all_here-requires g c =
    let s2 = c.reclaim_kept.new.self in let look = c.look-2.ensures in slots_looked s2 c.reclaim_kept.ensures.numbers.0.0 _ c.look-2.new.pass look.looks.1 look.looks.2 look.used.1 look.rest.1 refl refl refl refl refl refl

pub returns-clause-numbers : goal.returns-clause-numbers
returns-clause-numbers g c =
    let s2 = c.reclaim_kept.new.self in let look = c.look-2.ensures in let kept = c.reclaim_kept.ensures.numbers in (
      (slots_looked s2 kept.0.0 _ c.look-2.new.pass look.looks.1 look.looks.2 look.used.1 look.rest.1 refl refl refl refl refl refl, kept.0.1),
      kept.1.0 ∙ c.recover_all.ensures.numbers.1.0,
      kept.2,
    )

pub returns-clause-sweeps : goal.returns-clause-sweeps
returns-clause-sweeps g c =
    let p = c.args.pass.now in let p0 = c.look.new.pass in let p1 = c.recover_all.new.pass in let p2 = c.reclaim_kept.new.pass in let p3 = c.look-2.new.pass in
    let look = c.look.ensures in let found = c.recover_all.ensures in let kept = c.reclaim_kept.ensures in let look2 = c.look-2.ensures in
    let self = c.args.self.now in let s1 = c.recover_all.new.self in let s2 = c.reclaim_kept.new.self in
    let sole = c.requires.pass.1 in let sole0 = still_sole p p0 look.looks.0.same sole in let sole1 = still_sole p0 p1 found.on.0.0 sole0 in let sole2 = still_sole p1 p2 kept.on.0.0 sole1 in
    let same0 : p0 ≡ p = looked_pass p p0 look.looks.0 sole in let same3 : p3 ≡ p2 = looked_pass p2 p3 look2.looks.0 sole2 in
    let keeps : KeepsOn p p3 = keeps_then p p0 p3 (keeps_looked p p0 look.looks.0 sole) (keeps_then p0 p1 p3 found.on.0 (keeps_then p1 p2 p3 kept.on.0 (keeps_looked p2 p3 look2.looks.0 sole2))) in
    let name2 : p2.name ≡ p.name = sym look2.looks.0.same.0 ∙ keeps.0.0 in let name3 : p2.name ≡ p3.name = sym look2.looks.0.same.0 in
    let legal3 : IsLegalList (start p3.name) p3.seen = subst (λ (n : Name). IsLegalList (start n) p3.seen) name3 look2.looks.0.legal in
    let distinct3 : are_distinct (linked_values p3.name.links) ≡ true = subst (λ (n : Name). are_distinct (linked_values n.links) ≡ true) name3 look2.looks.0.distinct in
    let flags0 : used (state_seen p) ≡ flags_of self.slots.items = ap (λ (q : Pass). used (state_seen q)) (sym same0) ∙ look.used.0 ∙ c.requires.numbers.0.0.flags in
    let flags3 : used (state_seen p3) ≡ flags_of s2.slots.items = look2.used.0 ∙ kept.numbers.0.0.flags in
    let here_of : c.all_here.result ≡ true → AreAllHere (flags_of s2.slots.items) = λ so. all_here s2.slots.items (sym c.all_here.ensures ∙ so) in
    let unused : c.all_here.result ≡ true → (s : ℕ) → (slot_at (state_seen p3) s).used ≡ false = λ so. unused_all (state_seen p3).slots (subst AreAllHere (sym flags3) (here_of so)) in
    let none : (i : ℕ) → is_some (get_or s2.kept.items i None) ≡ false =
    λ i. ⊎_elim (λ less. kept.numbers.0.1 i less) (λ past. ap (λ (o : Option (Slot g.row.T.Denot)). is_some o) (get_or_past s2.kept.items i None past)) (below_or i (length s2.kept.items)) in
    let active : KeepsActive p1 p3 = subst (KeepsActive p1) (sym same3) kept.on.1 in let idle : KeepsIdle p1 p3 = subst (KeepsIdle p1) (sym same3) kept.on.2 in
    record {
      same = keeps.0;
      goes_on = record {
        grows = keeps.1;
        legal = subst (λ (n : Name). IsLegalList (start n) p3.seen) name2 look2.looks.0.legal;
        sound = subst (λ (n : Name). IsSound (after (start n) p3.seen)) name2 look2.looks.0.sound;
        lent = subst (λ (n : Name). AllCarryOne (after (start n) p3.seen).named) name2 look2.looks.0.lent;
        distinct = subst (λ (n : Name). are_distinct (linked_values n.links) ≡ true) name2 look2.looks.0.distinct;
      };
      adds = keeps.3;
      links = keeps.2;
      numbers = used_before (state_seen p).slots (state_seen p3).slots self.slots.items s2.slots.items self.kept.items s2.kept.items flags0 flags3 (kept.numbers.1.1 ∙ found.numbers.1.1) (λ i here. kept.numbers.1.2 i (found.numbers.1.2 i here)) none;
      none_in_use = (unused, λ none_used. c.all_here.ensures ∙ here_all s2.slots.items (subst AreAllHere flags3 (all_unused (state_seen p3).slots none_used)));
      cleared = λ so. cleared p3 legal3 distinct3 (unused so);
      reclaimed = λ so. all_reclaimed p3 legal3 distinct3 (unused so);
      quiet = λ quiet.
          let before = quiet_at (state_seen p0) (subst (λ (q : Pass). is_quiet (state_seen q) ≡ true) (sym same0) quiet) in
          quiet_by (state_seen p3) (λ t. idle t (found.on.2 t (before t).0)) (off_then p1 p3 active (λ t. found.on.1 t (before t).1));
      rests = λ quiet.
          let off : AreOff p1 = off_before p1 p3 active (λ t. (quiet_at (state_seen p3) quiet t).1) in
          all_rest p3 legal3 distinct3 quiet (look2.rest.0 ∙ kept.rest off);
    }
