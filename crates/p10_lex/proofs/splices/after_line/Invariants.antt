use Rattle.std.proofs.Common.{◌≡◌, length}
use Rattle.p10_lex.specs.private.Runs.{after_line}
use Rattle.p10_lex.proofs.splices.after_line.Given as goal

abbrev pub invariant-loop-rest : goal.invariant-loop-rest
invariant-loop-rest l = after_line l.older l.old l.rest ≡ after_line 0 l.before l.text

abbrev pub decreases-loop-rest : goal.decreases-loop-rest
decreases-loop-rest l = length l.rest
