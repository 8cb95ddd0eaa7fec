use Rattle.p10_sensors.proofs.Uniqueness.{other_is_no_text}
use Rattle.p10_sensors.proofs.laws.other_is_no_text.Goals as goal

pub returns : goal.returns
returns c = other_is_no_text
