use Rattle.std.proofs.Common.{◌≡◌, length}
use Rattle.p10_lex.specs.Integers.{after_digits}
use Rattle.p10_lex.proofs.integers.after_digits.Given as goal

-- what is looked for lies in what is left
abbrev pub invariant-loop-rest : goal.invariant-loop-rest
invariant-loop-rest l = after_digits l.base l.rest ≡ after_digits l.base l.text

abbrev pub decreases-loop-rest : goal.decreases-loop-rest
decreases-loop-rest l = length l.rest
