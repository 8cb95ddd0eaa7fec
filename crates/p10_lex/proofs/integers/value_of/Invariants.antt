use Rattle.std.proofs.Common.{◌≡◌, ◌<◌, ◌^◌, drop}
use Rattle.p10_lex.specs.Integers.{radix_of, value_from}
use Rattle.p10_lex.proofs.integers.value_of.Given as goal

-- the digits that are left go on from the value so far
abbrev pub invariant-loop-byte : goal.invariant-loop-byte
invariant-loop-byte l = record {
  small : l.value < 2 ^ 64;
  so_far : value_from (radix_of l.base) 0 l.digits ≡ value_from (radix_of l.base) l.value (drop l.byte-index l.digits);
}
