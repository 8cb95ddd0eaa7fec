use Rattle.std.proofs.Common.{◌≡◌, length}
use Rattle.std.specs.Prelude.{option_map}
use Rattle.p10_core.specs.Views.{plain_program}
use Rattle.p10_cert.specs.Claims.{claims_of}
use Rattle.p10_pass.specs.Leaving.{failing_of}
use Rattle.p10_incr.specs.Passing.{PassedUpTo}
use Rattle.p10_incr.specs.Rechecking.{first_from, failures_among}
use Rattle.p10_incr.proofs.rechecking.first_among.Given as goal

abbrev pub invariant-loop-numbers : goal.invariant-loop-numbers
invariant-loop-numbers g l = record {
  found : first_from (option_map failing_of l.found) (failures_among (g.E.Evidence.standing l.evidence (plain_program l.judged.program.now)) (plain_program l.judged.program.now) (claims_of l.judged.certificate.now) l.numbers)
      ≡ first_from (option_map failing_of l.fn.first) (failures_among (g.E.Evidence.standing l.evidence (plain_program l.judged.program.now)) (plain_program l.judged.program.now) (claims_of l.judged.certificate.now) l.initial.numbers);
  passed : PassedUpTo (g.P.Passer.passed l.fn.passer) (g.P.Passer.passed l.passer) l.initial.numbers l.numbers;
}

abbrev pub decreases-loop-numbers : goal.decreases-loop-numbers
decreases-loop-numbers g l = length l.numbers
