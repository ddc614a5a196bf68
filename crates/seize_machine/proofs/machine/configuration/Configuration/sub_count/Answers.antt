use Rattle.std.proofs.Common.{◌≡◌, ◌<◌, ◌^◌, length, sym, ◌∙◌, ap, arith}
use Rattle.std.proofs.lemmas.Int.{ints}
use Rattle.std.proofs.lemmas.List.{get_or_default}
use Rattle.seize_machine.specs.Machine.State.{no_slot, no_batch, batch_at, slot_at}
use Rattle.seize_machine.specs.Machine.Code.{SubFits}
use Rattle.seize_machine.proofs.Words.{sub_fits}
use Rattle.seize_machine.proofs.machine.configuration.Configuration.sub_count.Goals as goal

pub lowered-count-requires : goal.lowered-count-requires
lowered-count-requires c =
    let slots_is : c.self.inside.slots.items ≡ c.args.self.now.slots = ap (λ st. st.slots) c.self.view_is in
    let batches_is : c.self.inside.batches.items ≡ c.args.self.now.batches = ap (λ st. st.batches) c.self.view_is in
    let few : length c.self.inside.slots.items < 2 ^ 64 = omega arith in
    let slot_is : c.index.result.now ≡ slot_at c.args.self.now c.args.s = rw (← slots_is) (c.index.ensures ∙ get_or_default c.self.inside.slots.items c.args.s c.index.result.now no_slot (omega arith)) in
    let f : SubFits c.args.self.now c.in-Some.b = sub_fits c.args.self.now c.args.s c.in-Some.b c.index.result.now c.requires slot_is (sym c.walking.ensures ∙ c.in-Some.is) in
    let batch_is : c.index-2.result.now ≡ batch_at c.args.self.now c.in-Some.b =
    rw (← batches_is) (c.index-2.ensures ∙ get_or_default c.self.inside.batches.items c.in-Some.b c.index-2.result.now no_batch (rw batches_is f.0)) in
    omega (arith, ints, f.1, ap (λ batch. batch.count) batch_is, ap length slots_is)
