use Rattle.p10_expand.specs.private.Steps.{AreWords}
use Rattle.p10_expand.proofs.expansion.words_of_files.Given as goal

abbrev pub invariant-loop-number : goal.invariant-loop-number
invariant-loop-number l = AreWords l.sources l.number l.all.items
