use Rattle.std.proofs.Common.{◌≡◌, length}
use Rattle.p10_lex.specs.private.Runs.{after_number}
use Rattle.p10_lex.proofs.runs.after_number.Given as goal

abbrev pub invariant-loop-rest : goal.invariant-loop-rest
invariant-loop-rest l = after_number l.old l.rest ≡ after_number l.first l.text

abbrev pub decreases-loop-rest : goal.decreases-loop-rest
decreases-loop-rest l = length l.rest
