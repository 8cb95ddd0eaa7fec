use Rattle.p10_range.proofs.Held.{held_conversion}
use Rattle.p10_range.proofs.laws.ranges_hold_conversions.Goals as goal

pub returns : goal.returns
returns c = held_conversion
