use Rattle.std.proofs.Common.{map}
use Rattle.p10_base.specs.Words.{plain_word}
use Rattle.p10_macros.specs.Answers.{table_of}
use Rattle.p10_macros.specs.private.Beginning.{start_of}
use Rattle.p10_macros.specs.private.Standing.{LeadsTo, weight}
use Rattle.p10_macros.proofs.expansion.replace.Given as goal

-- whatever comes of the replacement now comes of the words
abbrev pub invariant-loop-next : goal.invariant-loop-next
invariant-loop-next l = LeadsTo (table_of l.macros) (start_of (map plain_word l.words) l.left) l.run

abbrev pub decreases-loop-next : goal.decreases-loop-next
decreases-loop-next l = weight l.run
