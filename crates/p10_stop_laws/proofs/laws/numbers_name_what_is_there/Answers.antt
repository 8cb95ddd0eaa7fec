use Rattle.p10_stop_laws.proofs.Names.{numbers_name_what_is_there}
use Rattle.p10_stop_laws.proofs.laws.numbers_name_what_is_there.Goals as goal

pub returns : goal.returns
returns c = numbers_name_what_is_there
