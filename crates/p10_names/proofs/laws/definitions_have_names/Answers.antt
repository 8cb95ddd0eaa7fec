use Rattle.p10_names.proofs.Trees.{definitions_have_names}
use Rattle.p10_names.proofs.laws.definitions_have_names.Goals as goal

pub returns : goal.returns
returns c = definitions_have_names
