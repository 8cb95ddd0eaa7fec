-- What is done at once comes after the turn.
use Rattle.p10_core.specs.Views.{plain_program}
use Rattle.p10_interp.specs.private.Machines.{state_of}
use Rattle.p10_interp.proofs.Hastened.{turned_then, turn_fails}
use Rattle.p10_interp.proofs.turning.go_on.Goals as goal

pub returns-in-Ok : goal.returns-in-Ok
returns-in-Ok c = λ io r w e h. turned_then (plain_program c.args.p.now) r c.args.next c.args.stacks.now c.hasten.new.stacks w (state_of c.args.outside.now io) (state_of c.hasten.new.outside io) h e (c.in-Ok.ensures.ok io)

pub returns-in-Err : goal.returns-in-Err
returns-in-Err c = λ io r w e h. turn_fails (plain_program c.args.p.now) r w (state_of c.hasten.new.outside io) c.in-Err.halt c.hasten.new.stacks c.in-Err.ensures.err
