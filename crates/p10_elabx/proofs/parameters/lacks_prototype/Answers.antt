use Rattle.std.proofs.Common.{◌∙◌, ap, sym, option_copied}
use Rattle.p10_elabx.proofs.ParameterRows.{lacking_none, lacking_some}
use Rattle.p10_elabx.proofs.parameters.lacks_prototype.Goals as goal

pub returns-in-Some : goal.returns-in-Some
returns-in-Some c = lacking_some c.args.parameters.now _ c.args.dots (sym (ap option_copied c.in-Some.is) ∙ c.first.ensures.value)

pub returns-in-None : goal.returns-in-None
returns-in-None c = lacking_none c.args.parameters.now c.args.dots (sym (ap option_copied c.in-None.is) ∙ c.first.ensures.value)
