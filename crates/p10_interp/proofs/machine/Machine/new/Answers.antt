-- The opening state, where nothing was run.
use Rattle.std.proofs.Common.{ap, false}
use Rattle.p10_core.specs.Views.{plain_program}
use Rattle.p10_meaning.specs.States.{State}
use Rattle.p10_interp.specs.Resting.{fresh}
use Rattle.p10_interp.proofs.Settled.{resting_with, opens}
use Rattle.p10_interp.proofs.machine.Machine.new.Goals as goal

pub returns : goal.returns
returns c =
    ap (λ state. resting_with (plain_program c.args.p.now) fresh state false 0) (opens (plain_program c.args.p.now) c.args.denied.items c.in_ok-outside.outside c.in_ok-outside.ensures.state)
