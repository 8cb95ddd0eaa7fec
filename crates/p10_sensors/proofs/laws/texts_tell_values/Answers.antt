use Rattle.p10_sensors.proofs.Uniqueness.{texts_tell_values}
use Rattle.p10_sensors.proofs.laws.texts_tell_values.Goals as goal

pub returns : goal.returns
returns c = texts_tell_values
