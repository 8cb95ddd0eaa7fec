use Rattle.std.proofs.Common.{◌≡◌, drop, map, Some}
use Rattle.p10_core.specs.Views.{plain_values}
use Rattle.p10_cert.specs.Claims.{value_of, claims_of}
use Rattle.p10_pass.specs.private.Lying.{arguments_lie_from}
use Rattle.p10_pass.proofs.arguments.Calls.arguments_lie.Given as goal

-- what is left decides what the whole decides
abbrev pub invariant-loop-k : goal.invariant-loop-k
invariant-loop-k l = record {
  same : l.env ≡ l.initial.env;
  rest : arguments_lie_from (Some (claims_of l.self.cert.now)) (map value_of l.claims) l.k (plain_values (drop l.k l.arguments)) l.env.values
      ≡ arguments_lie_from (Some (claims_of l.self.cert.now)) (map value_of l.claims) 0 (plain_values l.arguments) l.env.values;
}
