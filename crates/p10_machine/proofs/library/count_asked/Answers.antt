-- The number stands in its slot.
use Rattle.std.proofs.Common.{◌∙◌, ap}
use Rattle.std.specs.Int.{w128}
use Rattle.std.proofs.lemmas.Int.{to_z-of_z}
use Rattle.p10_meaning.specs.Scalars.{number_of}
use Rattle.p10_meaning.specs.Values.{natural}
use Rattle.p10_machine.specs.Views.{slot_of}
use Rattle.p10_machine.proofs.Served.{one_asked, some_asked}
use Rattle.p10_machine.proofs.library.count_asked.Goals as goal

pub returns-then-count-eq0 : goal.returns-then-count-eq0
returns-then-count-eq0 c = one_asked c.args.arguments.0 c.args.arguments.1 (slot_of c.args.m.now) c.if-count-eq0.true

pub returns-else-count-eq0 : goal.returns-else-count-eq0
returns-else-count-eq0 c = c.natural.ensures ∙ (ap natural (to_z-of_z w128 c.number_of.result (record { sfits = c.number_of.type_inv }) ∙ c.number_of.ensures) ∙ (ap (λ x. natural (number_of x)) c.value.ensures ∙ some_asked c.args.arguments.0 c.args.arguments.1 (slot_of c.args.m.now) c.if-count-eq0.false))
