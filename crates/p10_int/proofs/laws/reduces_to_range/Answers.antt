use Rattle.p10_int.proofs.Conversions.{reduces}
use Rattle.p10_int.proofs.laws.reduces_to_range.Goals as goal

pub returns : goal.returns
returns c = reduces
