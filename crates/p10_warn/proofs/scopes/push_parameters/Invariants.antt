use Rattle.std.proofs.Common.{◌≡◌, ◌++◌, map, drop}
use Rattle.p10_core.specs.Views.{plain_variable}
use Rattle.p10_warn.specs.Scopes.{declarations_of_parameters}
use Rattle.p10_warn.specs.private.Contexts.{listed_by}
use Rattle.p10_warn.specs.private.ScopeNames.{names_in}
use Rattle.p10_warn.proofs.scopes.push_parameters.Given as goal

-- the names and violations of the parameters so far, and of those that are left, are those of all
abbrev pub invariant-loop-parameter : goal.invariant-loop-parameter
invariant-loop-parameter l = record {
  names : names_in l.names ++ map (λ v. v.name) (map plain_variable (drop l.parameter-index l.parameters)) ≡ names_in l.initial.names ++ map (λ v. v.name) (map plain_variable l.parameters);
  violations : l.violations.items ++ listed_by l.context (declarations_of_parameters (names_in l.names) (map plain_variable (drop l.parameter-index l.parameters)))
      ≡ l.initial.violations.items ++ listed_by l.context (declarations_of_parameters (names_in l.initial.names) (map plain_variable l.parameters));
}
