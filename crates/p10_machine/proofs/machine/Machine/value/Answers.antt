-- The scalar, or 0.
use Rattle.std.proofs.Common.{◌∙◌, ap}
use Rattle.p10_code.specs.Machine.{or_zero}
use Rattle.p10_machine.proofs.machine.Machine.value.Goals as goal

pub returns : goal.returns
returns c = c.or_zero.ensures ∙ ap or_zero c.found.ensures
