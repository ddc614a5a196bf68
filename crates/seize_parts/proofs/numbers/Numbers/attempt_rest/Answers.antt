use Rattle.std.proofs.Common.{◌≡◌, ◌<◌, ◌==◌, ℕ, List, Option, Some, true, false, length, slice_set, refl, sym, ap, subst, ◌∙◌, arith}
use Rattle.seize_machine.specs.Machine.Frames.{used}
use Rattle.seize_machine.specs.Machine.State.{are_distinct, linked_values}
use Rattle.seize_model.specs.declared.kind.Kind.TheVariants.{Registered}
use Rattle.seize_model.specs.Waiting.Attempt.{StateAndGone, attempt_if_full}
use Rattle.seize_model.specs.Waiting.Calls.{is_free, least_unused, with_number_in_use}
use Rattle.seize_model.specs.Waiting.State.{ModelState, has_guard, model_slot}
use Rattle.seize_book.specs.Book.{IsLegalList}
use Rattle.seize_book.specs.Homesteads.{state_seen}
use Rattle.seize_book.specs.Tokens.{Name, start}
use Rattle.seize_book.specs.declared.book.pass.Pass.{Pass}
use Rattle.seize_calls.specs.Furthers.{further_in}
use Rattle.seize_calls.specs.Handing.{IsServed}
use Rattle.seize_calls.specs.Numbered.{are_none}
use Rattle.seize_words.specs.Joined.{words_book}
use Rattle.seize_calls.specs.declared.slot.Slot.{Slot}
use Rattle.seize_alone.specs.Reclaiming.{batch_in_turn, rest_in_turn}
use Rattle.seize_parts.specs.Aparts.{AreKeptOf, Fits}
use Rattle.seize_parts.specs.Numbers.{IsKeptAt, flags_of}
use Rattle.seize_parts.specs.Sweeps.{KeepsActive, KeepsIdle, KeepsOn}
use Rattle.seize_parts.proofs.Going.{fits_then, goes_as, goes_held, goes_none, goes_since, goes_then}
use Rattle.seize_parts.proofs.InUse.{kept_at, kept_set, slots_kept, slots_looked}
use Rattle.seize_parts.proofs.Keeping.{active_then, idle_then}
use Rattle.seize_parts.proofs.Leftover.{all_in_use, are_nothing, here_moved, least_first, none_left, rest_fits, rest_kept, rest_long, rest_none, rest_some, some_left}
use Rattle.seize_parts.proofs.Numbered.{first_below, some_same}
use Rattle.seize_parts.proofs.Outlined.{full_size}
use Rattle.seize_parts.proofs.Placed.{still_for}
use Rattle.seize_parts.proofs.Swept.{keeps_on, keeps_then, looked_pass, still_sole}
use Rattle.std.proofs.lemmas.List.{length-set}
use Rattle.seize_parts.proofs.numbers.Numbers.attempt_rest.Goals as goal

-- Nothing was left.

pub returns-then-is_empty-clause-numbers : goal.returns-then-is_empty-clause-numbers
returns-then-is_empty-clause-numbers g c =
    let self = c.args.self.now in let look = c.look.ensures in let are = c.requires.numbers.0 in (
      slots_looked self are _ c.look.new.pass look.looks.1 look.looks.2 look.used.1 look.rest.1 refl refl refl refl refl refl,
      (refl, refl, λ i here. here),
      look.rest.1 ∙ sym are.rest.values ∙ are_nothing _ (sym c.is_empty.ensures ∙ c.if-is_empty.true),
    )

pub returns-then-is_empty-clause-goes : goal.returns-then-is_empty-clause-goes
returns-then-is_empty-clause-goes g c =
    let T = g.row.T in let W = g.W.Watch in let puts = g.R.Puts.puts in let p = c.args.pass.now in let q = c.look.new.pass in let look = c.look.ensures in let queue = c.args.aside.now.queue in
    let same : q ≡ p = looked_pass p q look.looks.0 c.requires.pass.1 in
    let none : are_none (state_seen q).rest ≡ true = ap are_none (look.rest.0 ∙ sym c.requires.numbers.0.rest.values) ∙ sym c.is_empty.ensures ∙ c.if-is_empty.true in
    goes_since T.coded.code puts W.told same
    (goes_held T.coded.code puts W.told (λ st names kinds may holds. (may, sym (rest_none st (none_left T.coded st names kinds q holds none))))
    (goes_none T.coded.code puts W.told (λ st. Fits p st × AreKeptOf c.args.self.now.kept.items st) q (W.seen c.args.aside.now.watch.now) queue
    (subst (λ (m : Name). IsServed (further_in queue) m) (c.requires.pass.0.0 ∙ sym look.looks.0.same.0) c.requires.queue.0)))

pub returns-then-is_empty-clause-kept : goal.returns-then-is_empty-clause-kept
returns-then-is_empty-clause-kept g c st names kinds are holds =
    let p = c.args.pass.now in let q = c.look.new.pass in let look = c.look.ensures in
    let none : are_none (state_seen p).rest ≡ true = ap (λ (x : Pass). are_none (state_seen x).rest) (sym (looked_pass p q look.looks.0 c.requires.pass.1)) ∙ ap are_none (look.rest.0 ∙ sym c.requires.numbers.0.rest.values) ∙ sym c.is_empty.ensures ∙ c.if-is_empty.true in
    subst (λ (o : StateAndGone g.row.T.Denot ℕ). AreKeptOf c.args.self.now.kept.items o.0 × (length o.0.slots ≡ length st.slots)) (sym (rest_none st (none_left g.row.T.coded st names kinds p holds none))) (are, refl)

-- Something was left, so a number is not in use.

pub unreachable-requires : goal.unreachable-requires
unreachable-requires g c =
    let q = c.look.new.pass in let look = c.look.ensures in let same = look.looks.0.same.0 in
    let legal : IsLegalList (start q.name) q.seen = subst (λ (m : Name). IsLegalList (start m) q.seen) (sym same) look.looks.0.legal in
    let distinct : are_distinct (linked_values q.name.links) ≡ true = ap (λ (m : Name). are_distinct (linked_values m.links)) same ∙ look.looks.0.distinct in
    let nothing = all_in_use q c.args.self.now.slots.items legal distinct (look.used.0 ∙ c.requires.numbers.0.flags) (sym c.first.ensures ∙ c.in_default.is) in
    let is : true ≡ false = sym (ap are_none nothing) ∙ ap are_none (look.rest.0 ∙ sym c.requires.numbers.0.rest.values) ∙ sym c.is_empty.ensures ∙ c.if-is_empty.false in
    absurd (cc)

pub take_rest-slot-requires : goal.take_rest-slot-requires
take_rest-slot-requires g c =
    let self = c.args.self.now in let look = c.look.ensures in let are = c.requires.numbers.0 in let p = c.args.pass.now in let q = c.look.new.pass in let same = look.looks.0.same in (
      omega arith,
      (
        (slots_looked self are _ q look.looks.1 look.looks.2 look.used.1 look.rest.1 refl refl refl refl refl refl, c.requires.numbers.1, sym c.first.ensures ∙ c.in-Some.is),
        ((still_for c.args.words.now p q c.requires.pass.0 same, still_sole p q same c.requires.pass.1, c.requires.pass.2), c.requires.queue),
      ),
    )

pub returns-clause-numbers : goal.returns-clause-numbers
returns-clause-numbers g c =
    let self = c.args.self.now in let taken = c.take_rest-slot.new.self in let take = c.take_rest-slot.ensures in let n = c.in-Some.n in let slot' = c.attempt.new.slot in let one = c.attempt.ensures.slot in let name = taken.book.name in
    let below = first_below self.slots.items n (sym c.first.ensures ∙ c.in-Some.is) in let many = c.requires.numbers.0.many in let words = c.args.words.now in
    let there : n < length self.kept.items = omega (arith, below, many) in
    let moved = here_moved self.slots.items taken.slots.items self.kept.items (slice_set taken.kept.items n (Some slot')) n slot' take.places.0 (ap (λ l. slice_set l.items n (Some slot')) take.places.1) there in
    let of : name ≡ words_book words = ap (λ seen. seen.name) take.numbers.1 ∙ c.requires.numbers.1 in (
      slots_kept taken take.numbers.0 _ refl refl refl refl
          (kept_set taken take.numbers.0 n (Some slot') (λ s same. subst (IsKeptAt name n) (some_same slot' s same) (kept_at words name n slot' of one.0 one.1 (one.2 ∙ take.slot.2))))
          (length-set taken.kept.items n (Some slot')) refl refl,
      (take.numbers.1, moved.0, moved.1),
      take.numbers.2,
    )

pub returns-clause-on : goal.returns-clause-on
returns-clause-on g c =
    let p = c.args.pass.now in let q = c.look.new.pass in let r = c.take_rest-slot.new.pass in let s = c.attempt.new.pass in let look = c.look.ensures in let take = c.take_rest-slot.ensures.on in let one = c.attempt.ensures.led in
    let same : q ≡ p = looked_pass p q look.looks.0 c.requires.pass.1 in
    let first = subst (λ (x : Pass). KeepsOn x r × KeepsActive x r × KeepsIdle x r) same take in
    (keeps_then p r s first.0 (keeps_on _ r s one.0), active_then p r s first.1 one.1, idle_then p r s first.2 one.2)

pub returns-clause-goes : goal.returns-clause-goes
returns-clause-goes g c =
    let T = g.row.T in let W = g.W.Watch in let puts = g.R.Puts.puts in let p = c.args.pass.now in let q = c.look.new.pass in let r = c.take_rest-slot.new.pass in let look = c.look.ensures in let n = c.in-Some.n in let take = c.take_rest-slot.ensures in
    let same : q ≡ p = looked_pass p q look.looks.0 c.requires.pass.1 in let found = sym c.first.ensures ∙ c.in-Some.is in
    let some : are_none (state_seen q).rest ≡ false = ap are_none (look.rest.0 ∙ sym c.requires.numbers.0.rest.values) ∙ sym c.is_empty.ensures ∙ c.if-is_empty.false in
    let flags : used (state_seen q) ≡ flags_of c.args.self.now.slots.items = look.used.0 ∙ c.requires.numbers.0.flags in
    let one = goes_as T.coded.code puts W.told {May' = λ st. Fits r st × (is_free (model_slot st n).kind ≡ false) × (has_guard (model_slot st n) ≡ false)}
    (λ st may. let there = subst (λ (k : ℕ). (is_free (model_slot st k).kind ≡ false) × (has_guard (model_slot st k) ≡ false)) (sym take.slot.2) (may.1, may.2) in (may.0, there.0, there.1)) (λ st may. ap (λ (k : ℕ). batch_in_turn st k) take.slot.2) c.attempt.ensures.goes in
    let May : ModelState T.Denot ℕ → Type 0 = λ st. Fits q st × (n ≡ least_unused st.slots) × ((length st.rest == 0) ≡ false) × (n < length st.slots) in
    goes_since T.coded.code puts W.told same
    (goes_held T.coded.code puts W.told
    (λ st names kinds may holds.
    let least = least_first T.coded st names kinds q holds c.args.self.now.slots.items flags n found in let left = some_left T.coded st names kinds q holds some in
    ((subst (λ (x : Pass). Fits x st) (sym same) may.0, least.0, left, least.1), rest_some st n least.0 left))
    (goes_then T.coded.code puts W.told (goes_as T.coded.code puts W.told {May' = May} (λ st may. may.0) (λ st may. refl) take.goes) one
    (λ st names kinds may holds held.
    let fits = rest_fits st n may.1 may.2 may.3 in (fits_then q r st (attempt_if_full (with_number_in_use st n Registered) n).0 take.goes.same (full_size (with_number_in_use st n Registered) n) may.0, fits.0, fits.1))))

pub returns-clause-kept : goal.returns-clause-kept
returns-clause-kept g c st names kinds are holds =
    let self = c.args.self.now in let p = c.args.pass.now in let q = c.look.new.pass in let look = c.look.ensures in let n = c.in-Some.n in let found = sym c.first.ensures ∙ c.in-Some.is in let same : q ≡ p = looked_pass p q look.looks.0 c.requires.pass.1 in
    let some : are_none (state_seen p).rest ≡ false = ap (λ (x : Pass). are_none (state_seen x).rest) (sym same) ∙ ap are_none (look.rest.0 ∙ sym c.requires.numbers.0.rest.values) ∙ sym c.is_empty.ensures ∙ c.if-is_empty.false in
    let flags : used (state_seen p) ≡ flags_of self.slots.items = ap (λ (x : Pass). used (state_seen x)) (sym same) ∙ look.used.0 ∙ c.requires.numbers.0.flags in
    let least = least_first g.row.T.coded st names kinds p holds self.slots.items flags n found in let below = first_below self.slots.items n found in let many = c.requires.numbers.0.many in
    let there : n < length self.kept.items = omega (arith, below, many) in
    let left = some_left g.row.T.coded st names kinds p holds some in (
      subst (λ (l : List (Option (Slot g.row.T.Denot))). AreKeptOf (slice_set l n (Some c.attempt.new.slot)) (rest_in_turn st).0) (ap (λ l. l.items) (sym c.take_rest-slot.ensures.places.1))
          (rest_kept st n least.0 left least.1 self.kept.items c.attempt.new.slot there are),
      rest_long st n least.0 left least.1,
    )
