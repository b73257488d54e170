use Rattle.unit_close.proofs.measure.Measure.+first_words.Given as goal

abbrev pub decreases-first_words : goal.decreases-first_words
decreases-first_words l = l.k
