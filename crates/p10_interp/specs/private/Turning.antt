-- One turn of the loops of the machine: a piece of work is done at once or by an act.
use Rattle.std.specs.Prelude.{◌≡◌, ℕ, ◌<◌, ◌≤◌, List, ◌∷◌, Bool, true, false, ℤ, Result, Ok, Err}
use Rattle.p10_core.specs.Typed.{PlainProgram, PlainValue, PlainStatements}
use Rattle.p10_core.specs.Views.{plain_statements}
use Rattle.p10_meaning.specs.Values.{Held, Setting, evaluate}
use Rattle.p10_meaning.specs.Scalars.{is_true}
use Rattle.p10_meaning.specs.declared.pointers.Scalar.TheVariants.{Int}
use Rattle.p10_meaning.specs.States.{State, gives}
use Rattle.p10_interp.specs.private.Acts.{next_act}
use Rattle.p10_interp.specs.declared.work.Halt.{Halt}
use Rattle.p10_interp.specs.declared.work.Flow.{Flow as Way}
use Rattle.p10_interp.specs.declared.stacks.Stacks.{Stacks}
use Rattle.p10_interp.specs.declared.stopped.Stopped.{Stopped}
use Rattle.p10_interp.specs.declared.stopped.Stopped.TheVariants.{AtTest, AtEnd, InBody, InThird}
use Rattle.p10_interp.specs.private.Operations.{in_new_block}
use Rattle.p10_interp.specs.private.Executing.{with_held}
use Rattle.p10_meaning.specs.Statements.{normal}
use Rattle.p10_interp.specs.private.Tasks.{Task, Loop, execute_statement, execute_statements, test_loop, end_turn, end_block, Operand, Open, Rig}
use Rattle.p10_interp.specs.private.OpenCalls.{calls_in}
use Rattle.p10_interp.specs.private.Views.{flow_of, tasks_in}
use Rattle.p10_interp.specs.private.Machines.{rig_of}
use Rattle.p10_interp.specs.private.Resuming.{proceed}
use Rattle.p10_interp.specs.private.Weights.{weights}
use Rattle.p10_interp.specs.private.Arriving.{Arrives}

-- what the machine comes to is as before, and a step was taken or less is left to be done
pub record IsTurned (p : PlainProgram) (r : Rig) (w : State) (next : Way) (new : Stacks) (v : State) : Type 0 where
  pub few : v.left ≤ w.left
  pub less : w.left ≤ v.left → weights (tasks_in new.tasks) < weights r.tasks
  pub same : (n : ℕ) → w.left ≤ n → proceed p n r w ≡ proceed p n (rig_of (flow_of next) new) v

-- an answer of a turn
abbrev pub Turns : PlainProgram → Rig → State → Result Way Halt → Stacks → State → Type 0
Turns p r w (Ok next) new v = IsTurned p r w next new v
Turns p r w (Err halt) new v = (n : ℕ) → w.left ≤ n → Arrives p n (proceed p n r w) (Err halt) new v

-- the machine where execution goes on with these tasks
abbrev pub rig_at : List Task → List Operand → List Open → Rig
rig_at tasks operands calls = record { flow = normal; tasks = tasks; operands = operands; calls = calls }

-- the machine with a piece of work on top
abbrev pub with_work : Task → Stacks → Rig
with_work t s = record { flow = normal; tasks = t ∷ tasks_in s.tasks; operands = s.operands; calls = calls_in s.calls }

-- what the machine comes to is as before, and a step was taken
pub record IsDone (p : PlainProgram) (t : Task) (old : Stacks) (w : State) (new : Stacks) (v : State) : Type 0 where
  pub paid : v.left < w.left
  pub same : (n : ℕ) → w.left ≤ n → proceed p n (with_work t old) w ≡ proceed p n (rig_of normal new) v

-- a piece of work was done at once, or nothing has changed
abbrev pub Does : PlainProgram → Task → Stacks → State → Bool → Stacks → State → Type 0
Does p t old w true new v = IsDone p t old w new v
Does p t old w false new v = (rig_of normal new ≡ rig_of normal old) × (v ≡ w)

-- what the machine comes to is as before, and no more is left to be done unless a step was taken
pub record Goes (p : PlainProgram) (r : Rig) (w : State) (now : Rig) (v : State) : Type 0 where
  pub few : v.left ≤ w.left
  pub light : w.left ≤ v.left → weights now.tasks ≤ weights r.tasks
  pub same : (n : ℕ) → w.left ≤ n → proceed p n r w ≡ proceed p n now v

-- a piece of work was done by its act, or nothing has changed
abbrev pub ActsOn : PlainProgram → Task → Stacks → State → Bool → Stacks → State → Type 0
ActsOn p t old w true new v = next_act p normal t (tasks_in old.tasks) old.operands (calls_in old.calls) w ≡ gives (rig_of normal new) v
ActsOn p t old w false new v = (rig_of normal new ≡ rig_of normal old) × (v ≡ w)

-- an open call whose innermost block has opened these objects, in blocks that have opened those
abbrev pub in_block : Open → List ℕ → List (List ℕ) → Open
in_block f opened outer = record f { frame = record f.frame { opened = opened }; outer = outer }

-- of statements in the innermost call those up to these that are left were executed, whatever its blocks have opened and whatever is
-- to be done after them
pub record IsRow (p : PlainProgram) (xs left : PlainStatements) (f : Open) (around : List Open) (w : State) (new : List Open) (v : State) : Type 0 where
  pub held : List Held
  pub now : new ≡ with_held f held ∷ around
  pub goes : (opened : List ℕ) (outer : List (List ℕ)) (k : List Task) (operands : List Operand) → Goes p (rig_at (execute_statements xs ∷ k) operands (in_block f opened outer ∷ around)) w (rig_at (execute_statements left ∷ k) operands (in_block (with_held f held) opened outer ∷ around)) v

-- ## Turns

-- the work that is left where turns have stopped
abbrev pub left_by : Stopped → Loop → List Task → List Task
left_by AtTest l k = test_loop l ∷ k
left_by AtEnd l k = k
left_by (InBody items) l k = execute_statements (plain_statements items.now) ∷ (end_block ∷ (end_turn l ∷ k))
left_by (InThird rest) l k = execute_statements (plain_statements rest.now) ∷ (test_loop l ∷ k)

-- the block that is open where turns have stopped
abbrev pub block_by : Stopped → Open → Open
block_by AtTest f = f
block_by AtEnd f = f
block_by (InBody items) f = in_new_block f
block_by (InThird rest) f = f

-- turns of a loop in the innermost call were taken from its body on, up to this work that is left, in this block
pub record AreTaken (p : PlainProgram) (l : Loop) (left : List Task → List Task) (block : Open → Open) (f : Open) (around : List Open) (w : State) (new : List Open) (v : State) : Type 0 where
  pub held : List Held
  pub now : new ≡ with_held f held ∷ around
  pub goes : (k : List Task) (operands : List Operand) → Goes p (rig_at (execute_statement l.body ∷ (end_turn l ∷ k)) operands (f ∷ around)) w (rig_at (left k) operands (block (with_held f held) ∷ around)) v

-- a test in the innermost call came to a number that is true or not
pub record IsTested (p : PlainProgram) (tested : PlainValue) (f : Open) (holds : Bool) (w v : State) : Type 0 where
  pub number : ℤ
  pub paid : v.left < w.left
  pub truth : is_true (Int number) ≡ holds
  pub run : (s : Setting) → s.program ≡ p → evaluate s f.frame.held tested w ≡ gives (Int number) v
