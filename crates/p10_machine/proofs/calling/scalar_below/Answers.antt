-- The slot is one of the first, or it isn't.
use Rattle.std.proofs.Common.{◌∙◌, sym, ap}
use Rattle.std.proofs.lemmas.List.{get_or-take}
use Rattle.p10_meaning.specs.Values.{absent}
use Rattle.p10_code.specs.Machine.{scalar_in}
use Rattle.p10_machine.specs.Slots.{held_in}
use Rattle.p10_machine.proofs.Framing.{past_end}
use Rattle.p10_machine.proofs.calling.scalar_below.Goals as goal

pub returns-then-place-end : goal.returns-then-place-end
returns-then-place-end c = c.scalar_at.ensures ∙ ap scalar_in (sym (get_or-take c.args.end (held_in c.args.m.now.targets.items c.args.m.now.slots.items) c.args.place absent c.if-place-end.true))

pub returns-else-place-end : goal.returns-else-place-end
returns-else-place-end c = ap scalar_in (past_end (held_in c.args.m.now.targets.items c.args.m.now.slots.items) c.args.end c.args.place c.if-place-end.false)
