-- By which a state of waiting sets may stand in a type that owns memory.
--     state_coded t r    the code of states, by those of values and of reclaimers
use Rattle.std.specs.Prelude.{ℕ, List, Option}
use base.Stored.{Coded, coded_list, coded×, coded_ℕ}
use Rattle.std.specs.Coded.{code_by, coded_option}
use mathlib.Core.Path.{refl}
use Rattle.seize_model.specs.Waiting.State.{ModelSlot, ModelState}
use Rattle.seize_model.specs.declared.kind.Kind.{Kind}
use Rattle.seize_model.specs.contracts.kind.Kind as kind

abbrev pub slot_coded : {T R : Type 0} → Coded T → Coded R → Coded (ModelSlot T R)
slot_coded {T} {R} t r =
    code_by (Kind × (ℕ × (List (T × R) × List ℕ)))
    (coded× kind.the_row.coded (coded× coded_ℕ (coded× (coded_list (coded× t r)) (coded_list coded_ℕ))))
    (λ slot. (slot.kind, (slot.guards, (slot.batch, slot.order))))
    (λ x. record { kind = x.0; guards = x.1.0; batch = x.1.1.0; order = x.1.1.1 }) (λ _. refl)

abbrev pub state_coded : {T R : Type 0} → Coded T → Coded R → Coded (ModelState T R)
state_coded {T} {R} t r =
    code_by (ℕ × (List (ModelSlot T R) × (List (List (T × R)) × (List (Option T) × List (T × R)))))
    (coded× coded_ℕ (coded× (coded_list (slot_coded t r)) (coded× (coded_list (coded_list (coded× t r)))
    (coded× (coded_list (coded_option t)) (coded_list (coded× t r))))))
    (λ st. (st.size, (st.slots, (st.retired, (st.links, st.rest)))))
    (λ x. record { size = x.0; slots = x.1.0; retired = x.1.1.0; links = x.1.1.1.0; rest = x.1.1.1.1 }) (λ _. refl)
