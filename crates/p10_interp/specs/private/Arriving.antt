-- Where the acts of the machine arrive: all work is done, or the outside is needed before the next act.
use Rattle.std.specs.Prelude.{◌≡◌, ℕ, ◌<◌, ◌≤◌, ◌⊎◌, Result, Ok, Err}
use Rattle.p10_core.specs.Typed.{PlainProgram}
use Rattle.p10_meaning.specs.States.{State, AssertionFailed, Undefined as IsUndefined, StepsSpent, Progress, gives, ends}
use Rattle.p10_interp.specs.declared.stacks.Stacks.{Stacks}
use Rattle.p10_interp.specs.declared.work.Halt.{Halt}
use Rattle.p10_interp.specs.declared.work.Halt.TheVariants.{Failed, Undefined, Spent, Memory}
use Rattle.p10_interp.specs.declared.work.Pause.{Pause}
use Rattle.p10_interp.specs.declared.work.Pause.TheVariants.{Over, Held}
use Rattle.p10_interp.specs.private.Tasks.{Left}
use Rattle.p10_interp.specs.private.OpenCalls.{calls_in}
use Rattle.p10_interp.specs.private.Views.{flow_of}
use Rattle.p10_interp.specs.private.Machines.{rig_of}
use Rattle.p10_interp.specs.private.Resuming.{proceed}

-- what the stacks come to at a pause: all is done, or the machine goes on with them
abbrev pub paused_at : PlainProgram → ℕ → Stacks → Pause → State → Progress Left
paused_at p n s (Over flow) w = gives (record { flow = flow_of flow; operands = s.operands; calls = calls_in s.calls }) w
paused_at p n s (Held flow) w = proceed p n (rig_of (flow_of flow) s) w

-- what the machine comes to is what its stacks come to where it arrives, or it ends as the answer says, unless memory runs out
abbrev pub Arrives : PlainProgram → ℕ → Progress Left → Result Pause Halt → Stacks → State → Type 0
Arrives p n o (Ok pause) new w = o ≡ paused_at p n new pause w
Arrives p n o (Err (Failed span)) new w = o ≡ ends (AssertionFailed span) w
Arrives p n o (Err (Undefined stop span)) new w = o ≡ ends (IsUndefined stop span) w
Arrives p n o (Err Spent) new w = o ≡ ends StepsSpent w
Arrives p n o (Err Memory) new w = Unit {0}

-- where the machine pauses, a step was taken since, or less is left to be done before the next one
abbrev pub Falls : Pause → ℕ → ℕ → ℕ → ℕ → Type 0
Falls (Over flow) left weight left_now weight_now = left_now ≤ left
Falls (Held flow) left weight left_now weight_now = (left_now < left) ⊎ ((left_now ≡ left) × (weight_now < weight))

-- where the machine pauses, a step was taken since
abbrev pub IsHeldBelow : Pause → ℕ → ℕ → Type 0
IsHeldBelow (Over flow) left left_now = left_now ≤ left
IsHeldBelow (Held flow) left left_now = left_now < left
