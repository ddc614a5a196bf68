use denote.RattleType.{RattleType}
use denote.Param.Send.{IsSend}
use Rattle.seize_book.specs.declared.book.permit.Condition.{Ghosts}
use Rattle.seize_book.specs.contracts.book.permit.Permits.{the_row}
use Rattle.seize_book.proofs.Sent.{list_keyless}

pub send : (T : RattleType) (g : Ghosts T.Denot) → IsSend (the_row T g)
send T g = record { owned = λ d vs. ((λ vss. (tt, ((λ uss. (tt, tt)), tt))), list_keyless (g.holds d.store) d.list); leaving = λ k f vs. tt }
