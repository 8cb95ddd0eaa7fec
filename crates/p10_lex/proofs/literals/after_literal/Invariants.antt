use Rattle.std.proofs.Common.{◌≡◌, length, false}
use Rattle.p10_lex.specs.private.Runs.{after_literal}
use Rattle.p10_lex.proofs.literals.after_literal.Given as goal

abbrev pub invariant-loop-rest : goal.invariant-loop-rest
invariant-loop-rest l = after_literal l.quote l.skip l.escaped l.rest ≡ after_literal l.quote 0 false l.text

abbrev pub decreases-loop-rest : goal.decreases-loop-rest
decreases-loop-rest l = length l.rest
