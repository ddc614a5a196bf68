use denote.Param.Send.{IsSend, owning_send, struct_send, sendable}
use denote.Builtin.{unit}
use denote.Struct.Struct.{exits_of}
use denote.Struct.Owning.{shape, fields, to}
use Rattle.core.specs.contracts.marker.PhantomData as marker
use Rattle.std_alloc.proofs.SendSync.{quiet}
use Rattle.seize_content.specs.contracts.token_cell.CellToken.{the_row, the_type}
use Rattle.seize_content.proofs.Sends.{token_sent}

pub send : IsSend the_row
send = let O = the_type in let ms : IsSend (marker.the_field unit).row = search sendable depth 30 in owning_send O (ms, tt) (λ d. token_sent d.name d.value)
    (λ k. quiet (to O) (exits_of k (fields O)) ((struct_send (shape O) (ms, tt)).leaving k))
