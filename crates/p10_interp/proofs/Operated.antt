-- The act for an operation is what the operation comes to.
use Rattle.std.proofs.Common.{◌≡◌, List, sym, ◌∙◌, ap, subst, Result, Ok, Err}
use Rattle.p10_core.specs.Typed.{PlainProgram}
use Rattle.p10_meaning.specs.States.{State, gives, and_then}
use Rattle.p10_meaning.specs.Statements.{normal}
use Rattle.p10_interp.specs.declared.work.Halt.{Halt}
use Rattle.p10_interp.specs.declared.work.Halt.TheVariants.{Failed, Undefined, Spent, Memory}
use Rattle.p10_interp.specs.declared.work.Flow.{Flow as Way}
use Rattle.p10_interp.specs.declared.work.Operation.{Operation as Doing}
use Rattle.p10_interp.specs.declared.stacks.Stacks.{Stacks}
use Rattle.p10_interp.specs.private.Tasks.{Task, operate, Operand, Open, Left}
use Rattle.p10_interp.specs.private.Operations.{done_by}
use Rattle.p10_interp.specs.private.Views.{Answers, operation_of, left_with, tasks_in}
use Rattle.p10_interp.specs.private.OpenCalls.{calls_in}
use Rattle.p10_interp.specs.private.Machines.{rig_of, Moves}
use Rattle.p10_interp.specs.private.Acts.{act, goes_back}

-- an operation that is another
pub done_as : {B : Type 0} (p : PlainProgram) (o other : Doing) (operands : List Operand) (calls : List Open) (w v : State) (r : Result B Halt) (new : Left) → o ≡ other →
    Answers (done_by p (operation_of other) operands calls w) r new v → Answers (done_by p (operation_of o) operands calls w) r new v
done_as p o other operands calls w v r new e h = subst (λ o. Answers (done_by p (operation_of o) operands calls w) r new v) (sym e) h

-- an operation that is another, and leaves the open calls
pub done_kept : {B : Type 0} (p : PlainProgram) (o other : Doing) (operands left : List Operand) (now calls : List Open) (w v : State) (r : Result B Halt) → o ≡ other → now ≡ calls →
    Answers (done_by p (operation_of other) operands calls w) r (left_with left calls) v → Answers (done_by p (operation_of o) operands calls w) r (left_with left now) v
done_kept p o other operands left now calls w v r e same h =
    subst (λ now. Answers (done_by p (operation_of o) operands calls w) r (left_with left now) v) (sym same) (done_as p o other operands calls w v r (left_with left calls) e h)

pub operated : {B : Type 0} (p : PlainProgram) (o : Doing) (k : List Task) (operands : List Operand) (calls : List Open) (w v : State) (r : Result B Halt) (new : Stacks) →
    Answers (done_by p (operation_of o) operands calls w) r (left_with new.operands (calls_in new.calls)) v → tasks_in new.tasks ≡ k → Answers (act p (operate (operation_of o)) k operands calls w) r (rig_of normal new) v
operated p o k operands calls w v (Ok done) new h e =
    ap (λ done. and_then done (λ left w. goes_back left.flow k left.operands left.calls w)) h ∙ ap (λ k. gives (record { flow = normal; tasks = k; operands = new.operands; calls = calls_in new.calls }) v) (sym e)
operated p o k operands calls w v (Err (Failed span)) new h e = ap (λ done. and_then done (λ left w. goes_back left.flow k left.operands left.calls w)) h
operated p o k operands calls w v (Err (Undefined stop span)) new h e = ap (λ done. and_then done (λ left w. goes_back left.flow k left.operands left.calls w)) h
operated p o k operands calls w v (Err Spent) new h e = ap (λ done. and_then done (λ left w. goes_back left.flow k left.operands left.calls w)) h
operated p o k operands calls w v (Err Memory) new h e = tt

pub acts_as : (p : PlainProgram) (o other : Doing) (k : List Task) (operands : List Operand) (calls : List Open) (w v : State) (r : Result Way Halt) (new : Stacks) → o ≡ other →
    Moves (act p (operate (operation_of other)) k operands calls w) r new v → Moves (act p (operate (operation_of o)) k operands calls w) r new v
acts_as p o other k operands calls w v r new e h = subst (λ o. Moves (act p (operate (operation_of o)) k operands calls w) r new v) (sym e) h
