use Rattle.std.proofs.Common.{◌≡◌, length}
use Rattle.p10_lex.specs.private.Runs.{after_splices}
use Rattle.p10_lex.proofs.splices.after_splices.Given as goal

abbrev pub invariant-loop-rest : goal.invariant-loop-rest
invariant-loop-rest l = after_splices l.skip l.rest ≡ after_splices 0 l.text

abbrev pub decreases-loop-rest : goal.decreases-loop-rest
decreases-loop-rest l = length l.rest
