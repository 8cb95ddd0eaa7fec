use Rattle.p10_expand.specs.private.Steps.{AreCuts}
use Rattle.p10_expand.proofs.expansion.lines_of_files.Given as goal

abbrev pub invariant-loop-words : goal.invariant-loop-words
invariant-loop-words l = AreCuts l.files l.words-index l.all.items
