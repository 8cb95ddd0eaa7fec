use Rattle.std.proofs.Common.{◌≡◌, [], take, map}
use Rattle.p10_core.specs.Views.{plain_variable}
use Rattle.p10_pass.specs.Scopes.{changed_each}
use Rattle.p10_candidates.specs.Offering.{entry_by}
use Rattle.p10_candidates.specs.private.Trying.{change_by}
use Rattle.p10_candidates.proofs.changing.changed.Given as goal

-- the entries of the variables so far are changed
abbrev pub invariant-loop-n : goal.invariant-loop-n
invariant-loop-n l = record {
  values : l.env.values ≡ changed_each (change_by (entry_by l.l) l.change) 0 (take l.n (map plain_variable l.l.variables.now)) l.l.entry.now.values;
  outer : l.env.outer ≡ [];
}
