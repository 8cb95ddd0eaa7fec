use Rattle.std.proofs.Common.{◌≡◌, ◌+◌, length}
use Rattle.p10_sensors.specs.private.Lines.{line_length}
use Rattle.p10_sensors.proofs.lines.line_length.Given as goal

abbrev pub invariant-loop-rest : goal.invariant-loop-rest
invariant-loop-rest l = record {
  counted : line_length l.text ≡ l.count + line_length l.rest;
  within : l.count + length l.rest ≡ length l.text;
}

abbrev pub decreases-loop-rest : goal.decreases-loop-rest
decreases-loop-rest l = length l.rest
