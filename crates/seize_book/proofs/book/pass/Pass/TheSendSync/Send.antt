use denote.Param.Send.{IsSend, owning_send, struct_send, sendable}
use denote.Builtin.{unit}
use denote.Ref.{NamedLft, ShrRef}
use denote.Struct.Struct.{exits_of}
use denote.Struct.Owning.{shape, fields, to}
use Rattle.core.specs.contracts.marker.PhantomData as marker
use Rattle.std_alloc.proofs.SendSync.{quiet}
use Rattle.seize_book.specs.contracts.book.pass.Pass.{the_row, the_type}
use Rattle.seize_book.proofs.Sent.{sized_keyless}

pub send : (a : NamedLft) → IsSend (the_row a)
send a = let O = the_type a in let ms : IsSend (marker.the_field (ShrRef a.mir a.lft unit)).row = search sendable depth 30 in owning_send O (ms, tt) (λ d. sized_keyless d.name a.lft d.id d.size d.seen)
    (λ k. quiet (to O) (exits_of k (fields O)) ((struct_send (shape O) (ms, tt)).leaving k))
