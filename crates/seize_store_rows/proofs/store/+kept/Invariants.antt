use Rattle.seize_store_rows.proofs.store.+kept.Given as goal

abbrev pub decreases-kept : goal.decreases-kept
decreases-kept l = l.count
