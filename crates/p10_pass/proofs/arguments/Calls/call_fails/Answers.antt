use Rattle.std.proofs.Common.{◌≡◌, ◌∙◌, ap, map, slice_get, Some, true, arith}
use Rattle.std.proofs.lemmas.Bool.Decides.{nat_tests}
use Rattle.p10_core.specs.Views.{plain_values}
use Rattle.p10_cert.specs.Claims.{value_of, func_of, claims_of}
use Rattle.p10_absx.specs.Trails.{Branching}
use Rattle.p10_absx.specs.Entering.{claims_on}
use Rattle.p10_pass.proofs.Failing.{call_failed}
use Rattle.p10_pass.proofs.arguments.Calls.call_fails.Goals as goal

pub returns-clause-fails : goal.returns-clause-fails
returns-clause-fails c =
    let yes : c.in_ok-all_have_values.field-0 ≡ true = grind (arith, nat_tests, c.if-not-branch.false) in
    call_failed (Some (claims_of c.args.self.now.cert.now)) (map value_of c.claims_on-claims.result.now) (claims_on (slice_get (map func_of c.args.self.now.cert.now.funcs) c.args.n)) (plain_values c.args.arguments.now)
    c.args.env.now.values c.all_have_values.new.env.values c.in_ok-all_have_values.field-0 c.in_ok-lie.lie yes c.in_ok-all_have_values.ensures.has (ap (λ (b : Branching). b.values) c.in_ok-all_have_values.ensures.same)
    (c.claims_on-claims.ensures ∙ ap (λ fs. claims_on (slice_get (map func_of fs) c.args.n)) c.as_slice.ensures) c.in_ok-lie.ensures.lies
