-- What all work of the machine comes to.
use Rattle.std.specs.Prelude.{◌≡◌, Result, Ok, Err}
use Rattle.p10_meaning.specs.States.{State, AssertionFailed, Undefined as IsUndefined, StepsSpent, Progress, gives, ends}
use Rattle.p10_interp.specs.declared.work.Halt.{Halt}
use Rattle.p10_interp.specs.declared.work.Halt.TheVariants.{Failed, Undefined, Spent, Memory}
use Rattle.p10_interp.specs.declared.work.Flow.{Flow as Way}
use Rattle.p10_interp.specs.declared.stacks.Stacks.{Stacks}
use Rattle.p10_interp.specs.private.Tasks.{Left}
use Rattle.p10_interp.specs.private.Views.{flow_of}
use Rattle.p10_interp.specs.private.OpenCalls.{calls_in}

-- what is left once all work is done
abbrev pub left_of : Way → Stacks → Left
left_of flow s = record { flow = flow_of flow; operands = s.operands; calls = calls_in s.calls }

-- an answer of the code is what work comes to, unless memory runs out
abbrev pub Comes : Progress Left → Result Way Halt → Stacks → State → Type 0
Comes o (Ok flow) new w = o ≡ gives (left_of flow new) w
Comes o (Err (Failed span)) new w = o ≡ ends (AssertionFailed span) w
Comes o (Err (Undefined stop span)) new w = o ≡ ends (IsUndefined stop span) w
Comes o (Err Spent) new w = o ≡ ends StepsSpent w
Comes o (Err Memory) new w = Unit {0}
