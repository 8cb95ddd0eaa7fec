-- The state and the stacks of the code, as definitions speak of them.
use Rattle.std.specs.Prelude.{◌≡◌, ℕ, List, ◌++◌, Result, Ok, Err}
use Rattle.p10_meaning.specs.States.{State, AssertionFailed, Undefined as IsUndefined, StepsSpent, Progress, gives, ends}
use Rattle.p10_meaning.specs.Statements.{Flow}
use Rattle.p10_interp.specs.declared.work.Halt.{Halt}
use Rattle.p10_interp.specs.declared.work.Halt.TheVariants.{Failed, Undefined, Spent, Memory}
use Rattle.p10_interp.specs.declared.work.Flow.{Flow as Way}
use Rattle.p10_interp.specs.declared.outside.Outside.{Outside}
use Rattle.p10_interp.specs.declared.stacks.Stacks.{Stacks}
use Rattle.p10_interp.specs.private.Tasks.{Rig}
use Rattle.p10_interp.specs.private.Views.{flow_of, tasks_in}
use Rattle.p10_interp.specs.private.OpenCalls.{calls_in}

-- what stands round a state of the code: the output that was put before, and what is left of the input
pub record Around : Type 0 where
  pub out : List ℕ
  pub rest : List ℕ

-- the state of a run
abbrev pub state_of : Outside → Around → State
state_of s io = record {
  objects = s.store.objects;
  opened = s.store.opened;
  input = s.pending ++ io.rest;
  sensors = s.sensors;
  denied = s.denied.items;
  requests = s.requests;
  output = io.out ++ s.waiting.items;
  left = s.left;
  calls = s.calls;
  bytes = s.bytes;
  marked = s.marked;
  after_mark = s.after;
}

-- the machine, except for its state
abbrev pub rig_of : Flow → Stacks → Rig
rig_of flow s = record { flow = flow; tasks = tasks_in s.tasks; operands = s.operands; calls = calls_in s.calls }

-- an answer of the code is what comes of an act, with how execution goes on, unless memory runs out
abbrev pub Moves : Progress Rig → Result Way Halt → Stacks → State → Type 0
Moves o (Ok flow) new w = o ≡ gives (rig_of (flow_of flow) new) w
Moves o (Err (Failed span)) new w = o ≡ ends (AssertionFailed span) w
Moves o (Err (Undefined stop span)) new w = o ≡ ends (IsUndefined stop span) w
Moves o (Err Spent) new w = o ≡ ends StepsSpent w
Moves o (Err Memory) new w = Unit {0}
