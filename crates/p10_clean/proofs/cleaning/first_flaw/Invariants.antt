use Rattle.std.proofs.Common.{◌≡◌, length, None}
use Rattle.p10_clean.specs.private.Telling.{first_after}
use Rattle.p10_clean.proofs.cleaning.first_flaw.Given as goal

-- the first of what was passed and of what is left is that of the whole
abbrev pub invariant-loop-rest : goal.invariant-loop-rest
invariant-loop-rest l = first_after l.first l.rest ≡ first_after None l.flaws

abbrev pub decreases-loop-rest : goal.decreases-loop-rest
decreases-loop-rest l = length l.rest
