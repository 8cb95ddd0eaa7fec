use Rattle.std.proofs.Common.{◌≡◌, drop}
use Rattle.p10_core.specs.Views.{plain_statements}
use Rattle.p10_pass.specs.Scopes.{left_scope}
use Rattle.p10_diff.proofs.scopes.leave_scope.Given as goal

-- what is left to go out of scope leaves what the whole leaves
abbrev pub invariant-loop-s : goal.invariant-loop-s
invariant-loop-s l = record {
  values : left_scope (plain_statements (drop l.s-index l.items)) l.env.values ≡ left_scope (plain_statements l.items) l.initial.env.values;
  outer : l.env.outer ≡ l.initial.env.outer;
}
