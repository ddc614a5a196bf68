use Rattle.std.proofs.Common.{ℕ, ◌==◌, not, inr, lit<, sym, ap, ◌∙◌}
use Rattle.seize_model.specs.declared.kind.Kind.TheVariants.{Owned}
use Rattle.seize_model.specs.Waiting.Calls.{Response, is_free, set_guards}
use Rattle.seize_model.specs.Waiting.State.{ModelState, has_guard, model_slot}
use Rattle.seize_alone.proofs.Ready.{taken, taken_slot}
use Rattle.seize_parts.specs.Told.{told_of}
use Rattle.seize.proofs.Grown.{took}
use Rattle.seize.proofs.alone.Alone.enter_owned.Goals as goal

pub returns-clause-done : goal.returns-clause-done
returns-clause-done g c =
    let P = g.R.Puts in let st = c.args.self.now.state in let n = c.in_ok-number.number in let mid = c.take.new.self.state in let seen = g.W.Watch.seen c.args.watch.now in
    let t = took P.puts P.weight g.W.Watch.told st Owned seen (g.W.Watch.seen c.take.new.watch) n mid c.in_ok-number.ensures.done in let told = taken st n Owned t.0 P.puts P.weight 1 t.1 in
    inr (
      (
        ap (λ (r : Response ℕ g.row.T.Denot ℕ). r.0) (sym told),
        c.begin.ensures.done ∙ ap (λ (x : ModelState g.row.T.Denot ℕ). set_guards x n 1) t.2 ∙ ap (λ (r : Response ℕ g.row.T.Denot ℕ). r.1.0) (sym told),
      ),
      t.3 ∙ ap (λ (r : Response ℕ g.row.T.Denot ℕ). told_of g.W.Watch.told seen r.1.1) (sym told),
    )

pub begin-requires : goal.begin-requires
begin-requires g c =
    let P = g.R.Puts in let st = c.args.self.now.state in let n = c.in_ok-number.number in
    let t = took P.puts P.weight g.W.Watch.told st Owned (g.W.Watch.seen c.args.watch.now) (g.W.Watch.seen c.take.new.watch) n c.take.new.self.state c.in_ok-number.ensures.done in let slot = taken_slot st n Owned t.0 P.puts P.weight in (
      lit< tt,
      (
        ap (λ (x : ModelState g.row.T.Denot ℕ). is_free (model_slot x n).kind) t.2 ∙ ap is_free slot.0,
        ap (λ (x : ModelState g.row.T.Denot ℕ). has_guard (model_slot x n)) t.2 ∙ ap (λ (k : ℕ). not (k == 0)) slot.1,
      ),
    )
