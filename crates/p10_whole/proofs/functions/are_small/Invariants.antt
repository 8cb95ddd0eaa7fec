use Rattle.std.proofs.Common.{◌≡◌, ◌+◌, ◌≤◌, map, drop}
use Rattle.std.specs.Prelude.{sum}
use Rattle.p10_base.specs.declared.report.TheConstants.Limit.{MOST_OBJECT_BYTES}
use Rattle.p10_core.specs.Views.{plain_variable}
use Rattle.p10_whole.proofs.functions.are_small.Given as goal

abbrev pub invariant-loop-variable : goal.invariant-loop-variable
invariant-loop-variable l = record {
  within : l.total ≤ MOST_OBJECT_BYTES;
  all : sum (map (λ v. v.bytes) (map plain_variable l.variables)) ≡ l.total + sum (map (λ v. v.bytes) (map plain_variable (drop l.variable-index l.variables)));
}
