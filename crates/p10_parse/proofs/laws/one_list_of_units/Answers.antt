use Rattle.p10_parse.proofs.UnitLaws.{units_are_one}
use Rattle.p10_parse.proofs.laws.one_list_of_units.Goals as goal

pub returns : goal.returns
returns c = units_are_one
