use Rattle.p10_head_renaming.proofs.Names.{names_ascend}
use Rattle.p10_head_renaming.proofs.laws.names_ascend.Goals as goal

pub returns : goal.returns
returns c = names_ascend
