use Rattle.std.proofs.Common.{◌≡◌, length}
use Rattle.p10_lex.specs.private.Runs.{after_header}
use Rattle.p10_lex.proofs.runs.after_header.Given as goal

abbrev pub invariant-loop-rest : goal.invariant-loop-rest
invariant-loop-rest l = after_header l.rest ≡ after_header l.text

abbrev pub decreases-loop-rest : goal.decreases-loop-rest
decreases-loop-rest l = length l.rest
