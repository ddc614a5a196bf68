use Rattle.std.proofs.Common.{List, Option, None, is_some, get_or, length, ap, ◌∙◌, arith}
use Rattle.std.specs.List.{range_with_len}
use Rattle.seize_calls.specs.declared.slot.Slot.{Slot}
use Rattle.seize_alone.specs.Reclaiming.{parts_in_turn}
use Rattle.seize_parts.proofs.Going.{fits_then, goes_then}
use Rattle.seize_parts.proofs.Outlined.{parts_size}
use Rattle.seize_parts.proofs.Placed.{still_for}
use Rattle.seize_parts.proofs.Swept.{still_sole}
use Rattle.seize_parts.proofs.numbers.Numbers.reclaim_in_turn.Goals as goal

pub reclaim_kept-requires : goal.reclaim_kept-requires
reclaim_kept-requires g c =
    let words = c.args.words.now in let p = c.args.pass.now in let q = c.part_all.new.pass in let part = c.part_all.ensures in let free = part.numbers.1 in let same = part.goes.same in (
      omega arith,
      (
        (
          part.numbers.0,
          ap (λ seen. seen.name) free.0 ∙ c.requires.numbers.1,
          λ i less. ap (λ (l : List (Option (Slot g.row.T.Denot))). is_some (get_or l i None)) free.1 ∙ c.requires.numbers.2 i (let least = free.2 in omega (arith, less, least)),
        ),
        ((still_for words p q c.requires.pass.0 same, still_sole p q same c.requires.pass.1, c.requires.pass.2), part.aside.1),
      ),
    )

pub returns-clause-numbers : goal.returns-clause-numbers
returns-clause-numbers g c =
    let kept = c.reclaim_kept.ensures.numbers in (kept.0, kept.1.0 ∙ c.part_all.ensures.numbers.1.0, kept.2)

pub returns-clause-goes : goal.returns-clause-goes
returns-clause-goes g c =
    let p = c.args.pass.now in let q = c.part_all.new.pass in let part = c.part_all.ensures in let W = g.W.Watch in
    goes_then g.row.T.coded.code g.R.Puts.puts W.told part.goes c.reclaim_kept.ensures.goes
    (λ st names kinds may holds held. (fits_then p q st (parts_in_turn st (range_with_len 0 (length st.slots))).0 part.goes.same (parts_size st (range_with_len 0 (length st.slots))) may.0, part.kept st may))
