-- The state has all of the world.
use Rattle.std.proofs.Common.{◌∙◌}
use Rattle.p10_core.specs.Views.{plain_program}
use Rattle.p10_interp.proofs.WholeWorlds.{opens_with}
use Rattle.p10_interp.proofs.states.start.Goals as goal

pub returns-clause-state : goal.returns-clause-state
returns-clause-state c =
    opens_with (plain_program c.args.p.now) c.args.world c.in_ok-outside.outside c.with_world.result c.in_ok-input.input.items c.in_ok-denied.denied.items c.in_ok-sensors.sensors.items c.in_ok-outside.ensures.state c.with_world.ensures
    (c.in_ok-input.ensures ∙ c.as_slice-2.ensures) (c.in_ok-denied.ensures ∙ c.as_slice.ensures) (c.in_ok-sensors.ensures ∙ c.as_slice-3.ensures)
