use Rattle.p10_expansion_laws.proofs.ProgramsExpand.{programs_expand}
use Rattle.p10_expansion_laws.proofs.laws.programs_expand.Goals as goal

pub returns : goal.returns
returns c = programs_expand
