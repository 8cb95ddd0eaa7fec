use Rattle.p10_macros.proofs.sets.+with_number.Given as goal

abbrev pub decreases-with_number : goal.decreases-with_number
decreases-with_number l = l.set
