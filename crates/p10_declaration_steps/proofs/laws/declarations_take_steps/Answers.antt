use Rattle.p10_declaration_steps.proofs.Initializing.{declarations_take_steps}
use Rattle.p10_declaration_steps.proofs.laws.declarations_take_steps.Goals as goal

pub returns : goal.returns
returns c = declarations_take_steps
