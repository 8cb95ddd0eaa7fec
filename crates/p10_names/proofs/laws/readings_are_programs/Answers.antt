use Rattle.p10_names.proofs.Readings.{readings_are_programs}
use Rattle.p10_names.proofs.laws.readings_are_programs.Goals as goal

pub returns : goal.returns
returns c = readings_are_programs
