-- The machine is as before.
use Rattle.p10_core.specs.Views.{plain_program}
use Rattle.p10_interp.proofs.Settled.{rests_same}
use Rattle.p10_interp.proofs.machine.Machine.reserve_for.Goals as goal

pub returns : goal.returns
returns c = rests_same (plain_program c.args.self.now.p.now) c.args.self.now.place c.args.self.now.engine c.reserve.new.self c.args.self.now.turns c.reserve.ensures
