use Rattle.std.proofs.Common.{◌≡◌, ◌<◌, ℕ, List, [], Option, None, true, false, get_or, length, refl, sym, ap, subst, true≢false, ◌∙◌, arith}
use Rattle.seize_machine.specs.Machine.Frames.{used}
use Rattle.seize_machine.specs.Machine.State.{slot_at}
use Rattle.seize_book.specs.Homesteads.{state_seen}
use Rattle.seize_book.specs.declared.book.pass.Pass.{Pass}
use Rattle.seize_parts.specs.Numbers.{AreNumbers, flags_of}
use Rattle.seize_parts.specs.Resting.{AreLeft, ComesToRest, LiesSomewhere}
use Rattle.seize_parts.specs.declared.alone.place.Place.{Place}
use Rattle.seize_parts.specs.declared.numbers.Numbers.{Numbers}
use Rattle.seize_parts.specs.declared.numbers.resting.Found.{Found}
use Rattle.seize_parts.proofs.InUse.{AreAllHere, all_unused, here_all, slots_looked}
use Rattle.seize_parts.proofs.Placed.{still_for}
use Rattle.seize_parts.proofs.Resting.{all_lie, left_none, rested_many, rested_on, rested_used}
use Rattle.seize_parts.proofs.Swept.{still_sole}
use Rattle.seize_parts.proofs.numbers.Numbers.rest.Goals as goal
use Rattle.seize_parts.proofs.numbers.Numbers.rest.Goals.{then-all_here, else-all_here}

pub all_here-requires : goal.all_here-requires
all_here-requires g c =
    let look = c.look.ensures in slots_looked c.args.self.now c.requires.numbers.0.0 _ c.look.new.pass look.looks.1 look.looks.2 look.used.1 look.rest.1 refl refl refl refl refl refl

pub find_all-all-requires : goal.find_all-all-requires
find_all-all-requires g c =
    let words = c.args.words.now in let p = c.args.pass.now in let q = c.look.new.pass in let look = c.look.ensures in let same = look.looks.0.same in
    let slots = slots_looked c.args.self.now c.requires.numbers.0.0 _ q look.looks.1 look.looks.2 look.used.1 look.rest.1 refl refl refl refl refl refl in (
      omega arith,
      (
        ((slots, c.requires.numbers.0.1), c.requires.numbers.1),
        (
          (λ s. ap (λ (ps : List (Option (Place g.row.T.Denot))). get_or ps s None) c.new-places.ensures.items),
          (still_for words p q c.requires.pass.0 same, still_sole p q same c.requires.pass.1),
        ),
      ),
    )

pub returns-clause-numbers : goal.returns-clause-numbers
returns-clause-numbers g c =
    let look = c.look.ensures in let slots = slots_looked c.args.self.now c.requires.numbers.0.0 _ c.look.new.pass look.looks.1 look.looks.2 look.used.1 look.rest.1 refl refl refl refl refl refl in
    elim c.if-all_here.branch [
      | then-all_here w ↦ (subst (λ (n : Numbers g.row.T.Denot). AreNumbers n) (sym w.self-is) (slots, c.requires.numbers.0.1), ap (λ (n : Numbers g.row.T.Denot). n.book) w.self-is)
      | else-all_here w ↦ (subst (λ (n : Numbers g.row.T.Denot). AreNumbers n) (sym w.self-is) w.find_all-all.ensures.numbers.0, ap (λ (n : Numbers g.row.T.Denot). n.book) w.self-is ∙ w.find_all-all.ensures.numbers.1)
    ]

pub returns-clause-rests : goal.returns-clause-rests
returns-clause-rests g c =
    let p = c.args.pass.now in let q = c.look.new.pass in let look = c.look.ensures in let looks = look.looks.0 in
    let items = c.args.self.now.slots.items in let flags : used (state_seen q) ≡ flags_of items = look.used.0 ∙ c.requires.numbers.0.0.flags in
    let Places : Type 0 = List (Option (Place g.row.T.Denot)) in
    let result : Found g.row.T.Denot = record { made = c.len.result; places = c.if-all_here.places; all = c.if-all_here.all } in let found : Places = c.if-all_here.places.items in
    let so : c.len.result ≡ length items → AreLeft q found → (c.if-all_here.all ≡ true → (s : ℕ) → s < length items → LiesSomewhere items found s)
    → (c.if-all_here.all ≡ false → ¬ ((s : ℕ) → (slot_at (state_seen q) s).used ≡ false)) → ComesToRest p q result =
    λ many left lie kept. record {
      same = looks.same;
      goes_on = rested_on p q looks;
      made = many ∙ rested_many p q looks items flags;
      left = left;
      still = looks.alone c.requires.pass.1;
      used = λ is. rested_used p q looks items flags found left (lie is);
      kept = kept;
    } in
    elim c.if-all_here.branch [
      | then-all_here w ↦
          let none : found ≡ [] = ap (λ ps. ps.items) w.places-is ∙ c.new-places.ensures.items in
          subst (λ (r : Pass). ComesToRest p r result) (sym w.pass-is)
          (so (let len = c.len.ensures in let many = ap (λ (n : Numbers g.row.T.Denot). length n.slots.items) w.self-is in omega (arith, len, many)) (left_none q found (λ s. ap (λ (ps : Places). get_or ps s None) none))
          (λ _. all_lie items found (sym c.all_here.ensures ∙ w.if-all_here.true)) (λ none. absurd (true≢false (sym (w.all-is ∙ w.if-all_here.true) ∙ none))))
      | else-all_here w ↦
          let same : found ≡ w.find_all-all.new.places.items = ap (λ ps. ps.items) w.places-is in
          subst (λ (r : Pass). ComesToRest p r result) (sym (w.pass-is ∙ w.find_all-all.ensures.still))
          (so (let len = c.len.ensures in let many = ap (λ (n : Numbers g.row.T.Denot). length n.slots.items) w.self-is in let slots = ap (λ slots. length slots.items) w.find_all-all.ensures.numbers.2 in omega (arith, len, many, slots))
          (subst (λ (ps : Places). AreLeft q ps) (sym same) w.find_all-all.ensures.left)
          (λ is. subst (λ (ps : Places). (s : ℕ) → s < length items → LiesSomewhere items ps s) (sym same) (w.find_all-all.ensures.all (sym w.all-is ∙ is)))
          (λ none unused. true≢false (sym (c.all_here.ensures ∙ here_all items (subst AreAllHere flags (all_unused (state_seen q).slots unused))) ∙ w.if-all_here.false)))
    ]
