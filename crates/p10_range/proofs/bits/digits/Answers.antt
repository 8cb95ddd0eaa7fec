use Rattle.p10_range.proofs.Digits.{carried_digits}
use Rattle.p10_range.proofs.bits.digits.Goals as goal

pub returns-clause-value : goal.returns-clause-value
returns-clause-value c = carried_digits c.args.z c.ranges.z c.requires.low c.requires.high
