-- The value is in its slot.
use Rattle.std.proofs.Common.{◌∙◌, ap}
use Rattle.std.specs.Prelude.{slice_set}
use Rattle.p10_code.specs.Machine.{on, cell_of}
use Rattle.p10_machine.specs.declared.machine.Spot.{Spot}
use Rattle.p10_machine.specs.Views.{config_of}
use Rattle.p10_machine.proofs.machine.Machine.give.Goals as goal

pub returns : goal.returns
returns c =
    let there : Spot = record { pc = c.args.caller.pc; left = c.args.left } in
    λ io. ap on (c.in_ok-hold_or_unset.ensures there io) ∙ ap (λ place. on (record (config_of there c.args.self.now io) { slots = slice_set (config_of there c.args.self.now io).slots place (cell_of c.args.x) })) c.place-place.ensures
