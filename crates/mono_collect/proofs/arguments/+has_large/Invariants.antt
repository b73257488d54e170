use Rattle.mono_collect.proofs.arguments.+has_large.Given as goal

abbrev pub decreases-has_large : goal.decreases-has_large
decreases-has_large l = l.list
