use Rattle.p10_sensors.proofs.Small.{small_text}
use Rattle.p10_sensors.proofs.laws.small_text.Goals as goal

pub returns : goal.returns
returns c = small_text
