use Rattle.std.proofs.Common.{◌≡◌, ◌+◌, ◌≤◌, ◌++◌, length}
use Rattle.p10_sensors.specs.Texts.{AreValues, values_text}
use Rattle.p10_sensors.proofs.values.sensor_values.Given as goal

abbrev pub invariant-loop-rest : goal.invariant-loop-rest
invariant-loop-rest l = record {
  good : AreValues l.values.items;
  parts : l.text ≡ values_text l.values.items ++ l.rest;
  count : length l.values.items + length l.rest ≤ length l.text;
}

abbrev pub decreases-loop-rest : goal.decreases-loop-rest
decreases-loop-rest l = length l.rest
