use Rattle.std.proofs.Common.{◌≡◌, ℕ, ◌+◌, ◌*◌, ◌≤◌, map}
use Rattle.p10_syn.specs.BuiltStatements.{bare_initializer_of}
use Rattle.p10_parse.specs.ExternalReading.{builders}
use Rattle.p10_parse.proofs.initializer.+initialising.Given as goal

-- each reader goes down the budget, or to a reader of a part at the same budget

abbrev pub decreases-initializer : goal.decreases-initializer
decreases-initializer l = 4 * l.budget

abbrev pub decreases-braced : goal.decreases-braced
decreases-braced l = 4 * l.budget + 3

abbrev pub decreases-initializers : goal.decreases-initializers
decreases-initializers l = 4 * l.budget + 2

abbrev pub decreases-all_initializers : goal.decreases-all_initializers
decreases-all_initializers l = 4 * l.budget + 1

abbrev pub invariant-all_initializers-loop-fuel : goal.invariant-all_initializers-loop-fuel
invariant-all_initializers-loop-fuel l = record {
  left : l.fuel ≤ l.budget;
  scope : l.scope ≡ l.fn.scope;
  same : (builders l.fuel).initializers l.scope (map bare_initializer_of l.all.items) l.cursor ≡ (builders l.budget).initializers l.fn.scope (map bare_initializer_of l.fn.all.items) l.fn.cursor;
}

abbrev pub decreases-all_initializers-loop-fuel : goal.decreases-all_initializers-loop-fuel
decreases-all_initializers-loop-fuel l = l.fuel
