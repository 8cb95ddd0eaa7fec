-- The state has the store.
use Rattle.p10_core.specs.Views.{plain_program}
use Rattle.p10_interp.specs.private.Machines.{state_of}
use Rattle.p10_interp.proofs.Starting.{if_ok_on, opens_at}
use Rattle.p10_interp.proofs.opening.opened.Goals as goal

pub returns-in-Ok-clause-state : goal.returns-in-Ok-clause-state
returns-in-Ok-clause-state c =
    if_ok_on c.without_world.result _ _ (λ outside h io. opens_at (plain_program c.args.p.now) c.in-Ok.store c.args.denied.items io (state_of outside io) c.in-Ok.ensures (h io)) c.without_world.ensures.state
