-- The argument stands in its slot.
use Rattle.std.proofs.Common.{◌∙◌}
use Rattle.p10_machine.specs.Views.{slot_of}
use Rattle.p10_machine.proofs.Served.{no_first, first_there}
use Rattle.p10_machine.proofs.library.first_argument.Goals as goal

pub returns-then-count-eq0 : goal.returns-then-count-eq0
returns-then-count-eq0 c = no_first c.args.arguments.0 c.args.arguments.1 (slot_of c.args.m.now) c.if-count-eq0.true

pub returns-else-count-eq0 : goal.returns-else-count-eq0
returns-else-count-eq0 c = c.value.ensures ∙ first_there c.args.arguments.0 c.args.arguments.1 (slot_of c.args.m.now) c.if-count-eq0.false
