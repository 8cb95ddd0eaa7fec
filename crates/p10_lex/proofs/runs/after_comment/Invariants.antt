use Rattle.std.proofs.Common.{◌≡◌, length}
use Rattle.p10_lex.specs.private.Runs.{after_comment}
use Rattle.p10_lex.proofs.runs.after_comment.Given as goal

abbrev pub invariant-loop-rest : goal.invariant-loop-rest
invariant-loop-rest l = after_comment l.rest ≡ after_comment l.text

abbrev pub decreases-loop-rest : goal.decreases-loop-rest
decreases-loop-rest l = length l.rest
