use Rattle.std.proofs.Common.{◌≡◌, take, map}
use Rattle.p10_core.specs.Views.{plain_variable}
use Rattle.p10_pass.specs.Marks.{is_marked}
use Rattle.p10_pass.specs.Scopes.{changed_each}
use Rattle.p10_diff.specs.private.Scopes.{forgotten}
use Rattle.p10_diff.proofs.scopes.forget_marked.Given as goal

-- the entries of the variables so far are changed
abbrev pub invariant-loop-n : goal.invariant-loop-n
invariant-loop-n l = record {
  values : l.env.values ≡ changed_each (forgotten (λ n. is_marked l.marks n)) 0 (take l.n (map plain_variable l.variables)) l.initial.env.values;
  outer : l.env.outer ≡ l.initial.env.outer;
}
