use Rattle.p10_program.proofs.UsesTold.{each_use_is_told}
use Rattle.p10_program.proofs.laws.each_use_is_told.Goals as goal

pub returns : goal.returns
returns c = each_use_is_told
