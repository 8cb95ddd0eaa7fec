use Rattle.std.proofs.Common.{◌∙◌}
use Rattle.p10_synrules.proofs.Putting.{same_types}
use Rattle.p10_synrules.proofs.specifier.make_types.Goals as goal

pub returns : goal.returns
returns c = c.makes_types.ensures ∙ same_types c.args.specs.now
