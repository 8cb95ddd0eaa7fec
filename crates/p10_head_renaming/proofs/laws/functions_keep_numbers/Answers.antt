use Rattle.p10_head_renaming.proofs.Numbers.{functions_keep_numbers}
use Rattle.p10_head_renaming.proofs.laws.functions_keep_numbers.Goals as goal

pub returns : goal.returns
returns c = functions_keep_numbers
