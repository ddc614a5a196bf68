use Rattle.seize_table.proofs.Kit.{ℕ, List, [], ◌∷◌}
use Rattle.std.proofs.Common.{suc}
use base.Shift.{Keyless}
use denote.Param.Send.{IsSend}
use Rattle.seize_table.specs.Filled.{all_from}
use Rattle.seize_table.specs.contracts.tls.all_filled.AllFilled.{the_row}

pub all_keyless : (table : List ℕ) (from : ℕ) (labels : List ℕ) → Keyless (all_from table from labels)
all_keyless table from [] = tt
all_keyless table from (l ∷ ls) = ((λ way. (tt, tt)), all_keyless table (suc from) ls)

pub send : IsSend the_row
send = record { owned = λ n vs. ((λ vss. (tt, ((λ uss. (tt, tt)), tt))), all_keyless n.table 0 n.labels); leaving = λ k d w. tt }
