-- What the values so far need, and what is left needs after them.
use Rattle.std.proofs.Common.{◌≡◌, ◌+◌, max, drop}
use Rattle.p10_core.specs.Views.{plain_values}
use Rattle.p10_code.specs.ValueCode.{values_height}
use Rattle.p10_compile.proofs.heights.+heights.Given as goal

abbrev pub invariant-values_height-loop-v : goal.invariant-values_height-loop-v
invariant-values_height-loop-v l = max l.most (l.count + values_height (plain_values (drop l.v-index l.values))) ≡ values_height (plain_values l.values)
