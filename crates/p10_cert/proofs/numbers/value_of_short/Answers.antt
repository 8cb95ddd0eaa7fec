use Rattle.std.proofs.Common.{arith}
use Rattle.p10_cert.proofs.Numerals.{short_power}
use Rattle.p10_cert.proofs.numbers.value_of_short.Goals as goal

pub overflow_mul-value : goal.overflow_mul-value
overflow_mul-value c = omega (arith, c.loop-byte.invariant.small, short_power c.loop-byte.byte-index (omega (arith, c.requires, c.loop-byte-test.true)))

pub overflow_add-value : goal.overflow_add-value
overflow_add-value c = omega (arith, c.loop-byte.invariant.small, c.value_of_digit.ensures.small, short_power c.loop-byte.byte-index (omega (arith, c.requires, c.loop-byte-test.true)))
