-- The pointer stands after all slots.
use Rattle.std.proofs.Common.{arith}
use Rattle.p10_machine.proofs.Framing.{pointer_is, pointer_pushed}
use Rattle.p10_machine.proofs.machine.Machine.add_pointer.Goals as goal

pub returns-in_ok-aim-in-To : goal.returns-in_ok-aim-in-To
returns-in_ok-aim-in-To c =
    pointer_pushed c.add.result c.args.self.now c.aim.new.self c.add.new.self c.len-place.result (record { object = c.in-To.object; window = c.in-To.window }) c.in-To.position c.args.x (omega (arith, c.len-place.ensures, c.args.self.now.slots.ok.0)) c.in_ok-aim-in-To.ensures.targets c.in_ok-aim-in-To.ensures.same
    (pointer_is c.args.x c.pointer_of.result c.in-To.object c.in-To.window c.in-To.position c.pointer_of.ensures c.in-To.is) c.add.ensures
