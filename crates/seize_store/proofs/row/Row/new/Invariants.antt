use Rattle.std.proofs.Common.{◌≡◌, ◌+◌, ◌≤◌, ◌++◌, All, length, map, vec_len}
use Rattle.seize_table.specs.Pairs.{left_of, of_family}
use Rattle.std.specs.Prelude.{vec_capacity}
use Rattle.seize_store.proofs.row.Row.new.Given as goal

abbrev pub invariant-loop-entry : goal.invariant-loop-entry
invariant-loop-entry g l = (vec_len l.chunks ≡ l.entry) × (l.len ≤ vec_capacity l.chunks) × (length l.strip.places + l.entry ≡ l.len)
    × (l.base.places ≡ map (λ k. k.chunk.at) l.chunks.items ++ l.strip.places)
    × All (λ k. of_family (g.M.Maker.family l.maker) (left_of k.chunk.tag)) l.chunks.items
