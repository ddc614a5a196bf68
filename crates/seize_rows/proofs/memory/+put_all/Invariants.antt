use Rattle.seize_rows.proofs.memory.+put_all.Given as goal

abbrev pub decreases-put_all : goal.decreases-put_all
decreases-put_all g a = a.count
