use Rattle.p10_parse.proofs.UnitLaws.{faults_are_one}
use Rattle.p10_parse.proofs.laws.one_fault.Goals as goal

pub returns : goal.returns
returns c = faults_are_one
