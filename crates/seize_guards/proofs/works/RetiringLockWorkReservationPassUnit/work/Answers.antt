use Rattle.std.proofs.Common.{ap, ◌∙◌}
use Rattle.seize_book.specs.Tokens.{Name}
use Rattle.seize_parts.proofs.OfKind.{kind_told}
use Rattle.seize_parts.proofs.Placed.{at_kept, label_same, may_still, placed}
use Rattle.seize_parts.specs.Puts.{PutBy}
use Rattle.seize_parts.proofs.Steps.{put_so, puts_by}
use Rattle.seize_parts.proofs.Wholly.{slot_retires}
use Rattle.seize_guards.proofs.works.RetiringLockWorkReservationPassUnit.work.Goals as goal

pub agree-requires : goal.agree-requires
agree-requires g c = ap (λ (n : Name). n.family) c.seen.ensures.0 ∙ c.requires.1.0

pub returns : goal.returns
returns g c =
    let words = c.args.self.words.now in let r = c.args.r.now in let is = c.requires.0 in let pass = c.args.pass.now in let slot' = c.retire.new.self in let pass' = c.retire.new.pass in
    let retire = c.retire.ensures in let does = retire.retires.does in let had = c.retire.new.reclaimer.ends.had in let so = put_so g.row.T.coded.code g.R.Puts.puts pass' had c.retire.ensures.serves.1 in (
      (
        label_same r.slot slot' r.most retire.retires.same,
        placed words slot' r.rest r.guards r.most retire.of.0 (at_kept r.slot slot' r.rest r.guards (may_still r.slot slot' r.rest does.rests.its does.active) (retire.of.1 r.rest) is.at) is.units is.fits,
      ),
      (
        (slot_retires (PutBy g.row.T.coded.code g.R.Puts.puts) pass' (puts_by g.row.T.coded.code g.R.Puts.puts pass') words r.slot pass slot' retire.of.0.0 c.requires.1.1 c.new.result.ends.had had so c.args.self.loose c.args.self.kind c.retire.result retire.retires).0,
        kind_told _ _ _ _ _ _ _ _ _ _ _ does,
      ),
    )
