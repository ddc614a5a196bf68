use Rattle.seize_parts_rows.proofs.Kept.{kept}
use Rattle.seize_parts_rows.proofs.place.Place.leave.Goals as goal

pub returns : goal.returns
returns c = record { place = kept c.args.self.now c.work.new.r c.requires.place c.work.ensures.0.0 c.work.ensures.0.1 }
