use Rattle.p10_parse.proofs.UnitLaws.{spelled_have_no_fault}
use Rattle.p10_parse.proofs.laws.no_fault_where_spelled.Goals as goal

pub returns : goal.returns
returns c = spelled_have_no_fault
