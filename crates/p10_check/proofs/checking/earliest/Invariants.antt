use Rattle.std.proofs.Common.{◌≡◌, map, drop}
use Rattle.std.specs.Prelude.{option_map}
use Rattle.p10_core.specs.Views.{plain_function, plain_program}
use Rattle.p10_cert.specs.Claims.{claims_of}
use Rattle.p10_pass.specs.Leaving.{failing_of}
use Rattle.p10_check.specs.private.Firsts.{earliest_from}
use Rattle.p10_check.proofs.checking.earliest.Given as goal

abbrev pub invariant-loop-number : goal.invariant-loop-number
invariant-loop-number g l =
    earliest_from (g.E.Evidence.standing l.evidence (plain_program l.program)) (plain_program l.program) (claims_of l.certificate) (option_map failing_of l.found) l.number (map plain_function (drop l.number l.program.functions))
    ≡ earliest_from (g.E.Evidence.standing l.evidence (plain_program l.program)) (plain_program l.program) (claims_of l.certificate) (option_map failing_of l.fn.first) 0 (map plain_function l.program.functions)
