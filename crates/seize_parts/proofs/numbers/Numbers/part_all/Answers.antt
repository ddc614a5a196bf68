use Rattle.std.proofs.Common.{◌≡◌, ◌<◌, ⊎_elim, ℕ, List, Option, None, Some, is_some, false, true, get_or, length, refl, sym, ap, subst, ◌∙◌, arith}
use Rattle.std.specs.List.{range_with_len}
use Rattle.std.specs.Option.{is_none}
use Rattle.std.proofs.lemmas.Bool.{cases_lt}
use Rattle.std.proofs.lemmas.List.{get_or_past, get_or-set_other, length-set}
use Rattle.seize_calls.specs.Furthers.{further_in}
use Rattle.seize_calls.specs.Handing.{IsServed}
use Rattle.seize_alone.specs.Reclaiming.{parts_in_turn}
use Rattle.seize_parts.specs.Aparts.{IsSomeHeld, MayGo, MayPart}
use Rattle.seize_parts.specs.declared.alone.place.Place.{Place}
use Rattle.seize_parts.proofs.Going.{goes_as, goes_none, goes_then, part_more}
use Rattle.seize_parts.proofs.Parting.{held_then, kept_parted, may_part, moved_after, moved_before, none_more, parts_all}
use Rattle.seize_parts.proofs.Placed.{still_for}
use Rattle.seize_parts.proofs.Swept.{still_sole}
use Rattle.seize_parts.proofs.numbers.Numbers.part_all.Goals as goal

-- where none lies, none does
none_lies : {X : Type 0} (o : Option X) → is_some o ≡ false → is_none o ≡ true
none_lies None none = refl
none_lies (Some x) none = absurd (cc)

pub loop-n-init : goal.loop-n-init
loop-n-init g c =
    let pass = c.args.pass.now in let places = c.args.places.now.items in let queue = c.args.aside.now.queue in let kept = c.args.self.now.kept.items in (
      c.requires.numbers.0.0,
      (refl, refl, refl),
      c.requires.pass.0,
      c.requires.pass.1,
      refl,
      c.requires.queue,
      refl,
      (λ s less. absurd (omega (arith, less))),
      (λ s past. refl),
      (λ s less. absurd (omega (arith, less))),
      (λ s past. ⊎_elim (λ less. none_lies (get_or kept s None) (c.requires.numbers.0.1 s less)) (λ beyond. ap is_none (get_or_past kept s None beyond)) (cases_lt s (length kept))),
      goes_none g.row.T.coded.code g.R.Puts.puts g.W.Watch.told (MayGo pass places) pass (g.W.Watch.seen c.args.aside.now.watch.now) queue (subst (IsServed (further_in queue)) c.requires.pass.0.0 c.requires.queue.0),
    )

pub part_at-requires : goal.part_at-requires
part_at-requires g c =
    let i = c.loop-n.invariant in let less = c.loop-n-test.true in let long = i.6 in let many = c.len-n-end.ensures in let end = c.loop-n.auto.n-end in let first = c.args.pass.now in let was = c.loop-n.pass in let n = c.loop-n.n in
    let held : IsSomeHeld g.row.T.coded.code was (MayPart was n c.loop-n.places.items) =
    held_then g.row.T.coded.code g.R.Puts.puts g.W.Watch.told i.11 c.requires.held (λ st may. may_part first was c.args.places.now.items c.loop-n.places.items n st i.11.same may i.7 i.8) in
    (omega arith, ((i.0, ap (λ seen. seen.name) i.1.0 ∙ c.requires.numbers.1), ((i.2, i.3, c.requires.pass.2), ((held, omega (arith, less, long, many, end)), i.5))))

pub loop-n-preserved : goal.loop-n-preserved
loop-n-preserved g c =
    let i = c.loop-n.invariant in let one = c.part_at.ensures in let T = g.row.T in let W = g.W.Watch in let puts = g.R.Puts.puts in let words = c.args.words.now in let first = c.args.pass.now in let was = c.loop-n.pass in let now = c.part_at.new.pass in let n = c.loop-n.n in
    let all = c.args.places.now.items in let places = c.loop-n.places.items in let places' = c.part_at.new.places.items in let same = one.goes.same in let parted = one.places in let free = one.numbers.1 in let kept = c.loop-n.self.kept.items in let kept' = c.part_at.new.self.kept.items in
    let below : n < length places = (let less = c.loop-n-test.true in let long = i.6 in let many = c.len-n-end.ensures in let end = c.loop-n.auto.n-end in omega (arith, less, long, many, end)) in (
      one.numbers.0,
      (free.0 ∙ i.1.0, free.1 ∙ i.1.1, free.2 ∙ i.1.2),
      still_for words was now i.2 same,
      still_sole was now same i.3,
      one.aside.0 ∙ i.4,
      one.aside.1,
      ap (λ (l : List (Option (Place T.Denot))). length l) parted ∙ length-set places n None ∙ i.6,
      none_more n places places' parted below i.7,
      (λ s past. ap (λ (l : List (Option (Place T.Denot))). get_or l s None) parted ∙ get_or-set_other places n s None None (λ e. absurd (omega (arith, past, e))) ∙ i.8 s (omega (arith, past))),
      moved_before n places kept kept' all one.kept (i.8 n (omega arith)) i.9 i.10,
      moved_after n places kept kept' one.kept i.10,
      goes_as T.coded.code puts W.told (λ st may. may) (λ st may. sym (part_more st n))
          (goes_then T.coded.code puts W.told i.11 one.goes (λ st names kinds may holds held. may_part first was all places n st i.11.same may i.7 i.8)),
    )

pub returns-clause-aside : goal.returns-clause-aside
returns-clause-aside g c = let i = c.loop-n.invariant in (i.4, i.5)

pub returns-clause-numbers : goal.returns-clause-numbers
returns-clause-numbers g c = let i = c.loop-n.invariant in (i.0, i.1)

pub returns-clause-places : goal.returns-clause-places
returns-clause-places g c s =
    let i = c.loop-n.invariant in let end = c.loop-n.auto.n-end in let over = c.loop-n-test.false in let many = c.len-n-end.ensures in let long = i.6 in let items = c.loop-n.places.items in
    ⊎_elim (λ less. i.7 s less) (λ past. get_or_past items s None (omega (arith, end, over, many, long, past))) (cases_lt s c.loop-n.n)

pub returns-clause-kept : goal.returns-clause-kept
returns-clause-kept g c st may =
    let i = c.loop-n.invariant in let end = c.loop-n.auto.n-end in let over = c.loop-n-test.false in let many = c.len-n-end.ensures in let all = c.args.places.now.items in
    let same : c.loop-n.n ≡ length all = omega (arith, end, over, many) in
    kept_parted c.args.pass.now.name all c.loop-n.self.kept.items st may.1 (λ s less. i.9 s (omega (arith, less, same))) (λ s past. i.10 s (omega (arith, past, same)))

pub returns-clause-goes : goal.returns-clause-goes
returns-clause-goes g c =
    let i = c.loop-n.invariant in let W = g.W.Watch in let T = g.row.T in let end = c.loop-n.auto.n-end in let over = c.loop-n-test.false in let many = c.len-n-end.ensures in let all = c.args.places.now.items in
    let same : c.loop-n.n ≡ length all = omega (arith, end, over, many) in
    goes_as T.coded.code g.R.Puts.puts W.told (λ st may. may) (λ st may. ap (λ (k : ℕ). parts_in_turn st (range_with_len 0 k)) same ∙ parts_all c.args.pass.now.name all st may.1) i.11
