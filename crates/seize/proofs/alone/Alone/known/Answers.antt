use Rattle.std.proofs.Common.{◌≡◌, ◌≤◌, true, ap, subst, ◌∙◌}
use Rattle.seize_model.specs.Waiting.Calls.{is_owned}
use Rattle.seize_model.specs.Waiting.State.{model_slot}
use Rattle.seize.specs.Alones.{View}
use Rattle.seize.proofs.Reclaimed.{owned_one}
use Rattle.seize.proofs.alone.Alone.known.Goals as goal

pub returns-clause-one : goal.returns-clause-one
returns-clause-one g c owned =
    let s = c.args.s in let is : is_owned (model_slot c.self.inside.hands.state s).kind ≡ true = ap (λ (v : View g.row.T.Denot). is_owned (model_slot v.state s).kind) c.self.view_is ∙ owned in
    subst (λ (v : View g.row.T.Denot). (model_slot v.state s).guards ≤ 1) c.self.view_is (owned_one c.self.invariant.knows.holds s is)
