use Rattle.std.proofs.Common.{rules, ◌≡◌, IfSome, option_map, refl, subst}
use Rattle.seize.specs.Blocks.{content_of}
use Rattle.seize.specs.Collectors.{IsBlockOf}
use Rattle.seize.specs.Links.{shared_value}
use Rattle.seize_atomic.specs.Alters.{MayAnswer}
use Rattle.seize_atomic.proofs.Trying.{may_follow, needs_block, new_belongs, refuses, try_lost, try_won}
use Rattle.seize_atomic.proofs.attempt.attempt.Goals as goal
use Rattle.seize_atomic.proofs.attempt.attempt.Goals.{in-Some+in-Ok-owned, in-None}

pub returns-in-Err : goal.returns-in-Err
returns-in-Err g c = (refl, refuses (goal.F-post g c.args.f.now) g.row.T.coded.code (g.G.Guard.its_collector c.args.guard.now) c.args.i c.args.found c.requires.found c.in-Err.why (subst (MayAnswer (goal.F-post g c.args.f.now) (option_map shared_value c.args.found)) c.in-Err.is c.made.ensures))

pub returns-in-Err-owned : goal.returns-in-Err-owned
returns-in-Err-owned g c = (refl, needs_block (goal.F-post g c.args.f.now) g.row.T.coded.code (g.G.Guard.its_collector c.args.guard.now) c.args.i c.args.found c.requires.found c.in-Ok.made.0 c.in-Ok.made.1 (subst (MayAnswer (goal.F-post g c.args.f.now) (option_map shared_value c.args.found)) c.in-Ok.is c.made.ensures) c.in-Some.value c.in-Some.is)

pub compare_exchange-requires-clause-value : goal.compare_exchange-requires-clause-value
compare_exchange-requires-clause-value g c =
    let is : content_of c.match-value.new ≡ c.in-Ok.made.0 = elim c.match-value.branch [ in-Some+in-Ok-owned w ↦ search rules | in-None w ↦ search rules ] in
    let its : IfSome c.match-value.new (IsBlockOf (g.G.Guard.its_collector c.args.guard.now)) = elim c.match-value.branch [ in-Some+in-Ok-owned w ↦ search rules | in-None w ↦ search rules ] in
    new_belongs (goal.F-post g c.args.f.now) g.row.T.coded.code (g.G.Guard.its_collector c.args.guard.now) c.args.i c.args.found c.requires.found c.in-Ok.made.0 c.in-Ok.made.1 (subst (MayAnswer (goal.F-post g c.args.f.now) (option_map shared_value c.args.found)) c.in-Ok.is c.made.ensures) g.G.Reclaimer.Puts.keeps g.G.Reclaimer.Puts.owners _ c.match-value.new c.core.ensures.0 c.requires.may_hold is its

pub compare_exchange-requires-clause-rule : goal.compare_exchange-requires-clause-rule
compare_exchange-requires-clause-rule g c =
    let is : content_of c.match-value.new ≡ c.in-Ok.made.0 = elim c.match-value.branch [ in-Some+in-Ok-owned w ↦ search rules | in-None w ↦ search rules ] in
    may_follow (goal.F-post g c.args.f.now) g.row.T.coded.code (g.G.Guard.its_collector c.args.guard.now) c.args.i c.args.found c.requires.found c.in-Ok.made.0 c.in-Ok.made.1 (subst (MayAnswer (goal.F-post g c.args.f.now) (option_map shared_value c.args.found)) c.in-Ok.is c.made.ensures) g.G.Reclaimer.Puts.keeps g.G.Reclaimer.Puts.owners c.match-value.new c.as_ref.result c.requires.may_hold is c.as_ref.ensures.value

pub returns-in-Ok-compare_exchange : goal.returns-in-Ok-compare_exchange
returns-in-Ok-compare_exchange g c =
    let is : content_of c.match-value.new ≡ c.in-Ok.made.0 = elim c.match-value.branch [ in-Some+in-Ok-owned w ↦ search rules | in-None w ↦ search rules ] in
    try_won (goal.F-post g c.args.f.now) g.row.T.coded.code (g.G.Guard.its_collector c.args.guard.now) c.args.i c.args.found c.requires.found c.in-Ok.made.0 c.in-Ok.made.1 (subst (MayAnswer (goal.F-post g c.args.f.now) (option_map shared_value c.args.found)) c.in-Ok.is c.made.ensures) _ c.core.ensures.0 _ _ c.core.ensures.1 _ c.as_ref.result c.as_ref.ensures.value c.match-value.new is _ _ _ _ c.compare_exchange.ensures c.in-Ok-compare_exchange.is

pub returns-in-Err-compare_exchange : goal.returns-in-Err-compare_exchange
returns-in-Err-compare_exchange g c =
    let is : content_of c.match-value.new ≡ c.in-Ok.made.0 = elim c.match-value.branch [ in-Some+in-Ok-owned w ↦ search rules | in-None w ↦ search rules ] in
    try_lost (goal.F-post g c.args.f.now) g.row.T.coded.code (g.G.Guard.its_collector c.args.guard.now) c.args.i c.args.found c.requires.found c.in-Ok.made.0 c.in-Ok.made.1 (subst (MayAnswer (goal.F-post g c.args.f.now) (option_map shared_value c.args.found)) c.in-Ok.is c.made.ensures) _ c.core.ensures.0 _ _ c.core.ensures.1 _ c.as_ref.result c.as_ref.ensures.value c.match-value.new is _ _ _ _ c.compare_exchange.ensures c.in-Err-compare_exchange.is
