use Rattle.std.proofs.Common.{◌∙◌, ap}
use Rattle.std.specs.Prelude.{option_map}
use Rattle.p10_core.specs.Views.{plain_program}
use Rattle.p10_cert.specs.Claims.{claims_of}
use Rattle.p10_pass.specs.Leaving.{failing_of}
use Rattle.p10_check.specs.Fails.{failures_of}
use Rattle.p10_incr.specs.Rechecking.{first_from}
use Rattle.p10_incr.proofs.Judged.{first_and_rest, asked_one, passed_one}
use Rattle.p10_incr.proofs.rechecking.first_among.Goals as goal

pub loop-numbers-preserved : goal.loop-numbers-preserved
loop-numbers-preserved g c = record {
  found = asked_one (g.E.Evidence.standing c.args.evidence.now (plain_program c.args.judged.program.now)) (plain_program c.args.judged.program.now) (claims_of c.args.judged.certificate.now) c.loop-numbers.numbers.now _ _
      (option_map failing_of c.loop-numbers.found) (option_map failing_of c.first_from-found.result) _ (failures_of c.in_ok-fails.fails.items)
      (first_and_rest _ c.loop-numbers.numbers.now c.in-len1-up.len_at_least) c.in_ok-fails.ensures.fails
      (c.first_from-found.ensures ∙ ap (λ fails. first_from (option_map failing_of c.loop-numbers.found) (failures_of fails)) c.as_slice.ensures.value) c.loop-numbers.invariant.found;
  passed = passed_one _ _ _ _ c.loop-numbers.numbers.now _ _ (first_and_rest _ c.loop-numbers.numbers.now c.in-len1-up.len_at_least) c.loop-numbers.invariant.passed c.in_ok-fails.ensures.more;
}
