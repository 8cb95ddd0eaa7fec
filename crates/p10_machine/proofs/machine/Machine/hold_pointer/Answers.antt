-- The pointer is in its slot, and beside it stands where it points.
use Rattle.p10_machine.proofs.Framing.{pointer_is, pointer_put}
use Rattle.p10_machine.proofs.machine.Machine.hold_pointer.Goals as goal

pub returns-in_ok-aim-in-To : goal.returns-in_ok-aim-in-To
returns-in_ok-aim-in-To c = λ s io.
    pointer_put c.args.self.now c.aim.new.self c.set.new.self c.args.place (record { object = c.in-To.object; window = c.in-To.window }) c.in-To.position c.args.x s io c.in_ok-aim-in-To.ensures.targets c.in_ok-aim-in-To.ensures.same (pointer_is c.args.x c.pointer_of.result c.in-To.object c.in-To.window c.in-To.position c.pointer_of.ensures c.in-To.is) (c.set.ensures s io)
