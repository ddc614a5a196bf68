use Rattle.std.proofs.Common.{◌≡◌, ◌≤◌, ◌-◌, ◌^◌, ◌⊎◌, ℕ, inl, inr, true, refl, sym, ap, subst, ◌∙◌, arith}
use Rattle.std.specs.Prelude.{IfSome, option_map}
use Rattle.seize_words.specs.Joined.{words_book}
use Rattle.seize_parts.specs.Placing.{unit_in}
use Rattle.seize_parts.specs.Shelves.{IsForgottenOf, IsLaidFor}
use Rattle.seize_parts.specs.declared.reservation.Reservation.{Reservation}
use Rattle.seize_parts.proofs.Places.{in_place}
use Rattle.seize_parts.proofs.Shelved.{held_none, held_some, laid_with, unit_held}
use Rattle.seize_parts.proofs.alone.shelving.lay.Goals as goal
use Rattle.seize_parts.proofs.alone.shelving.lay.Goals.{in-Some, in-None, then-owned, else-owned}

pub units_of-requires : goal.units_of-requires
units_of-requires g c =
    let n = words_book c.args.words.now in let place = c.requires.place in let unit = c.in-Some.unit in
    let at = in_place n place.slot 1 c.args.place.reservation place.reservation in
    let held = held_some unit place.slot n _ (sym (ap (option_map unit_in) c.in-Some.is) ∙ place.unit) in (
      omega arith,
      (
        (place.sound, at.0, at.2),
        (
          c.requires.pass,
          (
            (unit_held unit n _ (held.1 ∙ sym at.1) held.2 unit.its unit.known, held.1 ∙ sym at.1),
            held_none place.slot n c.args.place.guards held.0,
          ),
        ),
      ),
    )

pub put-requires : goal.put-requires
put-requires g c =
    let n = words_book c.args.words.now in let place = c.requires.place in let r = c.args.place.reservation in let most = c.if-owned.r in let shelf = c.args.place.shelf in
    let at = in_place n place.slot 1 r place.reservation in
    let room : ((c.args.place.owned ≡ true) × (most ≡ 1)) ⊎ (most ≡ 2 ^ 64 - 1) =
    elim c.if-owned.branch [ then-owned w ↦ inl (w.if-owned.true, w.r-is) | else-owned w ↦ inr w.r-is ] in
    let least : 1 ≤ most = elim room [ inl t ↦ (let one = t.1 in omega (arith, one)) | inr e ↦ omega (arith, e) ] in
    let fits : (k : ℕ) → k ≡ c.args.place.guards → k ≤ 2 ^ 64 - 1 → k ≤ most =
    λ k same few. elim room [ inl t ↦ (let one = t.1 in let some = place.fits t.0 in omega (arith, one, some, same)) | inr e ↦ omega (arith, e, few) ] in
    elim c.match-unit.branch [
      | in-Some w ↦ (
        subst (λ (x : Reservation g.row.T.Denot). IsLaidFor shelf (record x { most = most })) (sym w.r-is)
            (subst (λ (f : ℕ). IsLaidFor f (record w.units_of.new.r { most = most })) (sym place.shelf) (w.units_of.ensures.rest most (fits _ refl w.units_of.ensures.few))),
        subst (λ o. IfSome o (IsForgottenOf shelf)) (sym w.forgotten-is) (subst (λ (f : ℕ). IsForgottenOf f w.units_of.result) (sym place.shelf) w.units_of.ensures.units),
      )
      | in-None w ↦ (
        subst (λ (x : Reservation g.row.T.Denot). IsLaidFor shelf (record x { most = most })) (sym w.r-is)
            (laid_with shelf most r place.sound (at.0 ∙ sym place.shelf) (let small = place.sound.fits in let one = at.2 in omega (arith, small, one, least))),
        subst (λ o. IfSome o (IsForgottenOf shelf)) (sym w.forgotten-is) tt,
      )
    ]
