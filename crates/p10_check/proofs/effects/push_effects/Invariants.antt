use Rattle.std.proofs.Common.{◌≡◌, ◌++◌, map, drop}
use Rattle.p10_core.specs.Views.{plain_function, plain_program}
use Rattle.p10_cert.specs.Claims.{claims_of}
use Rattle.p10_check.specs.Places.{place_if, places_from}
use Rattle.p10_check.specs.Shapes.{has_hidden_effect, late_names, hidden_effects}
use Rattle.p10_check.specs.Conditions.{failing_at_each}
use Rattle.p10_check.specs.Fails.{failures_of}
use Rattle.p10_check.proofs.effects.push_effects.Given as goal

abbrev pub invariant-loop-number : goal.invariant-loop-number
invariant-loop-number l =
    failures_of l.failing.items
    ++ failing_at_each 13 (places_from (λ n f. place_if (has_hidden_effect (claims_of l.certificate).funcs n f) f.span ++ late_names (plain_program l.program) l.late n) l.number (map plain_function (drop l.number l.functions)))
    ≡ failures_of l.fn.failing.items ++ failing_at_each 13 (hidden_effects (plain_program l.program) (claims_of l.certificate).funcs l.late)
