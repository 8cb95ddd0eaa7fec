-- What stays where room is made.
use Rattle.std.specs.Prelude.{◌≡◌}
use Rattle.p10_interp.specs.declared.engine.Engine.{Engine}
use Rattle.p10_interp.specs.private.Views.{tasks_in}
use Rattle.p10_interp.specs.private.OpenCalls.{calls_in}
use Rattle.p10_interp.specs.private.Machines.{Around, state_of}

-- a machine is as before except for room
pub record StaysButRoom (old new : Engine) : Type 0 where
  pub tasks : tasks_in new.stacks.tasks ≡ tasks_in old.stacks.tasks
  pub operands : new.stacks.operands ≡ old.stacks.operands
  pub calls : calls_in new.stacks.calls ≡ calls_in old.stacks.calls
  pub state : (io : Around) → state_of new.outside io ≡ state_of old.outside io
  pub pending : new.outside.pending ≡ old.outside.pending
  pub waiting : new.outside.waiting.items ≡ old.outside.waiting.items
  pub ended : new.ended ≡ old.ended
