use Rattle.type_table.proofs.types.Types.+argument.Given as goal

abbrev pub decreases-argument : goal.decreases-argument
decreases-argument l = l.k
