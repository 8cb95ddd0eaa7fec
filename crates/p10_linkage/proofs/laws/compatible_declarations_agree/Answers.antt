use Rattle.p10_linkage.proofs.Agreements.{compatible_declarations_agree}
use Rattle.p10_linkage.proofs.laws.compatible_declarations_agree.Goals as goal

pub returns : goal.returns
returns c = compatible_declarations_agree
