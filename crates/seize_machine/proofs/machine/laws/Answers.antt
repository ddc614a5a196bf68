use Rattle.seize_machine.proofs.Facts.{law_at_most_once, law_after, law_quiet, law_unused, law_protection, law_whereabouts, law_gone, law_holders, law_no_later_holders, law_under_guard, law_tries}
use Rattle.seize_machine.proofs.machine.laws.Goals as goal

pub returns-clause-at_most_once : goal.returns-clause-at_most_once
returns-clause-at_most_once c = law_at_most_once

pub returns-clause-after : goal.returns-clause-after
returns-clause-after c = law_after

pub returns-clause-quiet : goal.returns-clause-quiet
returns-clause-quiet c = law_quiet

pub returns-clause-unused : goal.returns-clause-unused
returns-clause-unused c = law_unused

pub returns-clause-protection : goal.returns-clause-protection
returns-clause-protection c = law_protection

pub returns-clause-whereabouts : goal.returns-clause-whereabouts
returns-clause-whereabouts c = law_whereabouts

pub returns-clause-gone : goal.returns-clause-gone
returns-clause-gone c = law_gone

pub returns-clause-holders : goal.returns-clause-holders
returns-clause-holders c = law_holders

pub returns-clause-no_later_holders : goal.returns-clause-no_later_holders
returns-clause-no_later_holders c = law_no_later_holders

pub returns-clause-under_guard : goal.returns-clause-under_guard
returns-clause-under_guard c = law_under_guard

pub returns-clause-tries : goal.returns-clause-tries
returns-clause-tries c = law_tries
