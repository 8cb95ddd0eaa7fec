-- A slot of the open frame is one of all.
use Rattle.std.proofs.Common.{◌∙◌, ap}
use Rattle.std.specs.Prelude.{get_or}
use Rattle.p10_meaning.specs.Values.{absent}
use Rattle.p10_code.specs.Machine.{scalar_in}
use Rattle.p10_machine.specs.Slots.{held_in}
use Rattle.p10_machine.proofs.machine.Machine.scalar.Goals as goal

pub returns : goal.returns
returns c = c.scalar_at.ensures ∙ ap (λ place. scalar_in (get_or (held_in c.args.self.now.targets.items c.args.self.now.slots.items) place absent)) c.place.ensures
