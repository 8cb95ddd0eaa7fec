use Rattle.std.proofs.Common.{◌≡◌, ◌++◌, drop}
use Rattle.p10_core.specs.Views.{plain_values}
use Rattle.p10_cert.specs.Claims.{claims_of}
use Rattle.p10_pass.specs.Arguments.{failing_in_values}
use Rattle.p10_pass.proofs.arguments.Calls.+failing.Given as goal

-- what is put and what is left are what the whole gives
abbrev pub invariant-put_values-loop-v : goal.invariant-put_values-loop-v
invariant-put_values-loop-v l = record {
  same : l.env ≡ l.initial.env;
  rest : l.names.items ++ failing_in_values (claims_of l.self.cert.now) (plain_values (drop l.v-index l.all)) l.env.values ≡ l.initial.names.items ++ failing_in_values (claims_of l.self.cert.now) (plain_values l.all) l.env.values;
}
