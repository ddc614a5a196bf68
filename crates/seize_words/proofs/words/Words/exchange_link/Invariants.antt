use Rattle.seize_words.proofs.words.Words.exchange_link.Given as goal

abbrev pub ghosts-compare_exchange : goal.ghosts-compare_exchange
ghosts-compare_exchange g a = record { current = g.E.Expects.current }
