use Rattle.std.proofs.Common.{◌≡◌, ◌≤◌, ◌+◌, ◌*◌, ◌^◌, take}
use Rattle.p10_cert.specs.private.Reading.{value_of_digits}
use Rattle.p10_cert.proofs.numbers.value_of_short.Given as goal

abbrev pub invariant-loop-byte : goal.invariant-loop-byte
invariant-loop-byte l = record {
  so_far : l.value ≡ value_of_digits (take l.byte-index l.digits);
  small : l.value + 23 ≤ 23 * 10 ^ l.byte-index;
}
