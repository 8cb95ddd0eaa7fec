use Rattle.std.proofs.Common.{◌≡◌, drop, Some}
use Rattle.p10_core.specs.Views.{plain_values}
use Rattle.p10_cert.specs.Claims.{claims_of}
use Rattle.p10_pass.specs.Arguments.{all_have_values}
use Rattle.p10_pass.proofs.arguments.Calls.all_have_values.Given as goal

-- what is left decides what the whole decides
abbrev pub invariant-loop-v : goal.invariant-loop-v
invariant-loop-v l = record {
  same : l.env ≡ l.initial.env;
  rest : all_have_values (Some (claims_of l.self.cert.now)) (plain_values (drop l.v-index l.arguments)) l.env.values ≡ all_have_values (Some (claims_of l.self.cert.now)) (plain_values l.arguments) l.env.values;
}
