-- The right to give memory back: what the allocator hands out with a block, and asks for with it.
use mir.Syntax.{Ty}
use base.Fml.{Fml}
use denote.RawPtr.{Ptr}
use Rattle.std.specs.declared.alloc.Global.{Global}
use Rattle.std.specs.contracts.impls.GlobalAllocator.TheImpl.{ghosts}

-- the allocator is the global one, which has no state
abbrev pub heap : Global
heap = record { memory = record { seal = tt } }

-- the memory of a τ at p may be given back
abbrev pub freeable : Ty → Ptr → Fml
freeable τ p = ghosts.dealloc_token heap τ p
