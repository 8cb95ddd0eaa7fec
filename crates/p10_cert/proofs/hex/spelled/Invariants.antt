use Rattle.std.proofs.Common.{◌≡◌, ◌+◌, ◌*◌, ◌++◌, length, take}
use Rattle.p10_cert.specs.private.Reading.{spelled}
use Rattle.p10_cert.proofs.hex.spelled.Given as goal

abbrev pub invariant-loop-rest : goal.invariant-loop-rest
invariant-loop-rest l = record {
  size : length l.bytes ≡ 32;
  left : length l.rest + 2 * l.count ≡ 64;
  parts : take l.count l.bytes ++ spelled l.rest ≡ spelled l.digits;
}

abbrev pub decreases-loop-rest : goal.decreases-loop-rest
decreases-loop-rest l = length l.rest
