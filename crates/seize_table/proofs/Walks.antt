-- What the steps of a walk yield comes in order.
use Rattle.std.proofs.Common.{ℕ, ◌+◌, List, [], ◌∷◌, subst}
use Rattle.std.specs.Iterator.{Yields}
use denote.Bor.{Bor}
use Rattle.seize_table.specs.declared.labelled.Labelled.{Ghosts}
use Rattle.seize_table.specs.declared.tls.ThreadLocal.{ThreadLocal}
use Rattle.seize_table.specs.declared.tls.filled.Loaded.{Loaded}
use Rattle.seize_table.specs.declared.tls.iter.Iter.{Iter}
use Rattle.seize_table.specs.Named.{cells_of, stands_at, table_of}
use Rattle.seize_table.specs.Walk.{WalksOn, ComeFrom, YieldsInOrder}

pub in_order : {T : Type 0} {g : Ghosts T} (walk : Iter T g) → YieldsInOrder walk
in_order {T} {g} walk found after steps = go found walk steps
  where
    go : (found : List (Loaded T)) (walk : Iter T g) → Yields WalksOn walk found after → ComeFrom g.label (cells_of (table_of walk).now) (stands_at walk) found
    go [] walk steps = tt
    go (first ∷ more) walk steps =
        let entry = steps.1.3 in
        let later = subst (λ (table : Bor (ThreadLocal T g)). ComeFrom g.label (cells_of table.now) (stands_at steps.0) more) steps.1.0 (go more steps.0 steps.2) in
        (entry.0, entry.1, subst (λ (n : ℕ). ComeFrom g.label (cells_of (table_of walk).now) n more) entry.2 later)
