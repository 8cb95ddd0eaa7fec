use Rattle.p10_sensors.proofs.Uniqueness.{one_first_other}
use Rattle.p10_sensors.proofs.laws.one_first_other.Goals as goal

pub returns : goal.returns
returns c = one_first_other
