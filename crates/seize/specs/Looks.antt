-- Links of a collector in one caller's hands.
--     with_link st link value    the state where the link holds this value, or none
use Rattle.std.specs.Prelude.{ℕ, Option, slice_set}
use Rattle.seize_model.specs.Waiting.State.{ModelState}

abbrev pub with_link : {T R : Type 0} → ModelState T R → ℕ → Option T → ModelState T R
with_link st link value = record st { links = slice_set st.links link value }
