use Rattle.std.proofs.Common.{◌≡◌, nat_le, sum, map, drop}
use Rattle.p10_core.specs.Views.{plain_variable}
use Rattle.p10_program.proofs.sizes.fit_in_frame.Given as goal

abbrev pub invariant-loop-variable : goal.invariant-loop-variable
invariant-loop-variable l = nat_le (sum (map (λ v. v.bytes) (map plain_variable (drop l.variable-index l.variables)))) l.left ≡ nat_le (sum (map (λ v. v.bytes) (map plain_variable l.variables))) l.most
