-- What contracts see of a machine.
use Rattle.std.specs.Prelude.{[]}
use Rattle.p10_core.specs.Views.{plain_program}
use Rattle.p10_interp.specs.Resting.{Resting}
use Rattle.p10_interp.specs.declared.machine.Machine.{Machine}
use Rattle.p10_interp.specs.private.OpenCalls.{calls_in}
use Rattle.p10_interp.specs.private.Machines.{state_of}
use Rattle.p10_interp.specs.private.Placing.{position_of}

-- a machine between its calls
abbrev pub resting_of : Machine → Resting
resting_of m = record {
  program = plain_program m.p.now;
  position = position_of m.place (calls_in m.engine.stacks.calls);
  state = record (state_of m.engine.outside (record { out = []; rest = [] })) { input = m.engine.outside.pending; output = m.engine.outside.waiting.items };
  ended = m.engine.ended;
  turns = m.turns;
}
