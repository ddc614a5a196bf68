use Rattle.std.proofs.Common.{◌≡◌, ◌↔◌, ◌⊎◌, ℕ, true, false, List, refl, sym, ap, subst, ◌∙◌}
use Rattle.seize_machine.specs.Machine.History.{Reclaimed, Retired}
use Rattle.seize_machine.specs.Machine.State.{head_at, is_active, link_at, no_slot, slot_at}
use Rattle.seize_book.specs.Book.{after, mine, moments}
use Rattle.seize_book.specs.Entry.{Entry}
use Rattle.seize_book.specs.Porters.{GoesOnTo}
use Rattle.seize_book.specs.Tokens.{Name, start}
use Rattle.seize_calls.specs.Alone.{AllBy}
use Rattle.seize_machine.specs.Machine.Laws.{is_quiet}
use Rattle.seize_parts.specs.Sweeps.{StandsInUse}
use Rattle.seize.specs.Collectors.{its_book}
use Rattle.seize.proofs.collector.Collector.reclaim_all.Goals as goal

pub invariant_of-self : goal.invariant_of-self
invariant_of-self g c =
    let stay = c.stay-all.ensures in let leave = c.leave_home.ensures in let self = c.args.self.now in record {
      lends = (leave.0.0 ∙ sym stay.again.0.0 ∙ stay.same.0 ∙ stay.shut.book.0 ∙ self.lends.0, leave.0.1 ∙ sym stay.again.0.1 ∙ stay.same.2 ∙ stay.shut.book.1 ∙ self.lends.1, leave.2);
    }

pub returns-clause-reclaims : goal.returns-clause-reclaims
returns-clause-reclaims g c =
    let stay = c.stay-all.ensures in let leave = c.leave_home.ensures in let self = c.args.self.now in let lent = stay.lent in let back = stay.back in let sweeps = stay.gives.2 in let name = its_book self in
    let seen' = c.leave_home.new.self.seen in let own_name : self.porter.name ≡ name = self.lends.0 in let lent_name : lent.name ≡ name = stay.shut.book.0 ∙ own_name in
    let back_name : back.name ≡ name = stay.same.0 ∙ lent_name in let back_seen : back.seen ≡ seen' = sym (leave.1 ∙ stay.again.1) in
    let added = sweeps.adds stay.shut.alone in
    record {
      same = (refl, refl, refl, refl);
      at_call = lent.seen;
      goes_on = subst (λ (n : Name). GoesOnTo n self.porter.seen lent.seen) own_name stay.shut.goes_on;
      nothing = subst (λ (n : Name). mine (start n) 0 lent.seen ≡ mine (start n) 0 self.porter.seen) own_name stay.shut.none_made;
      grows = subst (λ (t : Name × List Entry). GoesOnTo t.0 lent.seen t.1) (λ j. (lent_name j, back_seen j)) sweeps.goes_on;
      by_itself = (added.0, sym back_seen ∙ added.1, subst (λ (p : ℕ). AllBy p added.0) stay.shut.alone added.2);
      links = λ l. ap (λ (t : Name × List Entry). link_at (after (start t.0) t.1) l) (λ j. (sym back_name j, sym back_seen j)) ∙ sweeps.links l ∙ ap (λ (n : Name). link_at (after (start n) lent.seen) l) lent_name;
      numbers = λ s is. ap (λ (n : Name). (slot_at (after (start n) lent.seen) s).used) (sym lent_name)
          ∙ sweeps.numbers s (ap (λ (t : Name × List Entry). (slot_at (after (start t.0) t.1) s).used) (λ j. (back_name j, back_seen j)) ∙ is);
      none_in_use = subst (λ (t : Name × List Entry). (c.stay-all.result ≡ true) ↔ ((s : ℕ) → (slot_at (after (start t.0) t.1) s).used ≡ false)) (λ j. (back_name j, back_seen j)) sweeps.none_in_use;
      cleared = λ so. subst (λ (t : Name × List Entry). (s : ℕ) → (slot_at (after (start t.0) t.1) s ≡ no_slot) × (is_active (head_at (after (start t.0) t.1) s) ≡ false)) (λ j. (back_name j, back_seen j)) (sweeps.cleared so);
      reclaimed = λ so. subst (λ (t : Name × List Entry). (v q : ℕ) → Retired (moments (start t.0) t.1) v q → (k : ℕ) × Reclaimed (moments (start t.0) t.1) v k) (λ j. (back_name j, back_seen j)) (sweeps.reclaimed so);
      quiet = λ quiet. subst (λ (t : Name × List Entry). is_quiet (after (start t.0) t.1) ≡ true) (λ j. (back_name j, back_seen j))
          (sweeps.quiet (ap (λ (n : Name). is_quiet (after (start n) lent.seen)) lent_name ∙ quiet));
      rests = λ quiet. subst (λ (t : Name × List Entry). (v q : ℕ) → Retired (moments (start t.0) t.1) v q → ((k : ℕ) × Reclaimed (moments (start t.0) t.1) v k) ⊎ StandsInUse (after (start t.0) t.1) v)
          (λ j. (back_name j, back_seen j)) (sweeps.rests (ap (λ (t : Name × List Entry). is_quiet (after (start t.0) t.1)) (λ j. (back_name j, back_seen j)) ∙ quiet));
    }
