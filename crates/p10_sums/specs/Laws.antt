-- What the sums are worth: as long as callees and loops keep their claims, no execution takes more.
use Rattle.std.specs.Prelude.{◌≡◌, ℕ, suc, ◌+◌, ◌<◌, ◌≤◌, max, Bool, true, false, List, [], map, take, slice_get, Some, None}
use Rattle.p10_core.specs.Typed.{PlainValue, PlainStatement, statements_list, statements_of_list, PlainFunction, PlainProgram}
use Rattle.p10_core.specs.Nodes.{PlainNode, nodes_of_value, nodes_of_statement}
use Rattle.p10_cert.specs.Claims.{Func, Loop}
use Rattle.p10_meaning.specs.declared.pointers.Scalar.{Scalar}
use Rattle.p10_meaning.specs.States.{State, AssertionFailed, Undefined, StepsSpent, Progress, gives, ends}
use Rattle.p10_meaning.specs.Values.{Setting, Held, evaluate}
use Rattle.p10_meaning.specs.Statements.{Frame, execute}
use Rattle.p10_meaning.specs.Calling.{Depth, deeper, raised, Entered, entered, setting_of, call_at}
use Rattle.p10_meaning.specs.Runs.{Task, task_in, task_test, task_turn, before_task}
use Rattle.p10_sums.specs.Counting.{Counting, steps_claimed, calls_claimed, bytes_claimed, alloc_claimed, counting_of}
use Rattle.p10_sums.specs.Costs.{value_cost, statement_cost, cost_of, turn_cost}
use Rattle.p10_sums.specs.Depths.{callees, greatest_number, depth_of, have_effect, effect_of}
use Rattle.p10_sums.specs.Keeping.{OnGives, AfterStep, TestKeeps, ValueKeeps, StatementKeeps, StatementsKeep}

-- ## What a piece takes

-- from one state to another at most n steps are taken, no calls nest deeper than some number of calls and of bytes, unless they did
-- before, and memory is allocated or freed only where that may be
pub record Spends (n calls bytes : ℕ) (alloc : Bool) (from to : State) : Type 0 where
  pub no_more : to.left ≤ from.left
  pub steps : from.left ≤ to.left + n
  pub calls_at_most : to.calls ≤ max from.calls calls
  pub bytes_at_most : to.bytes ≤ max from.bytes bytes
  pub quiet : alloc ≡ false → to.after_mark ≡ from.after_mark

-- a piece runs out of steps only where fewer than n were left
pub record RunsOut (n calls bytes : ℕ) (alloc : Bool) (from to : State) : Type 0 where
  pub too_few : from.left < n
  pub calls_at_most : to.calls ≤ max from.calls calls
  pub bytes_at_most : to.bytes ≤ max from.bytes bytes
  pub quiet : alloc ≡ false → to.after_mark ≡ from.after_mark

-- what a piece takes, whatever comes of it
abbrev pub Taken : {A : Type 0} → ℕ → ℕ → ℕ → Bool → State → Progress A → Type 0
Taken n calls bytes alloc from (gives a to) = Spends n calls bytes alloc from to
Taken n calls bytes alloc from (ends (AssertionFailed span) to) = Spends n calls bytes alloc from to
Taken n calls bytes alloc from (ends (Undefined stop span) to) = Spends n calls bytes alloc from to
Taken n calls bytes alloc from (ends StepsSpent to) = RunsOut n calls bytes alloc from to

-- a piece takes at most that, from a state
pub record Takes {A : Type 0} (n calls bytes : ℕ) (alloc : Bool) (from : State) (o : Progress A) : Type 0 where
  pub taken : Taken n calls bytes alloc from o

-- ## Claims of callees

-- what trees stand in, counted under claims
abbrev pub counting_in : Setting → List Func → List Loop → Counting
counting_in s functions loops = record { program = s.program; variables = s.variables; functions = functions; loops = loops }

-- a call at a depth takes at most what is claimed of its function
abbrev pub CallKeeps : Setting → List Func → Depth → ℕ → List Scalar → State → Type 0
CallKeeps s functions depth g xs w =
    Takes (steps_claimed (slice_get functions g)) (depth.calls + calls_claimed (slice_get functions g)) (depth.bytes + bytes_claimed (slice_get functions g)) (alloc_claimed (slice_get functions g)) w (s.call g xs w)

-- the depth of the deepest call in trees with these nodes, which stand at a depth
abbrev pub calls_under : List Func → Depth → List PlainNode → ℕ
calls_under functions depth ns = depth.calls + greatest_number (map (λ g. calls_claimed (slice_get functions g)) (callees ns))

-- the same in bytes
abbrev pub bytes_under : List Func → Depth → List PlainNode → ℕ
bytes_under functions depth ns = depth.bytes + greatest_number (map (λ g. bytes_claimed (slice_get functions g)) (callees ns))

-- ## The laws

-- a value whose calls keep their claims takes at most what it costs
abbrev pub ValuesTakeWhatTheyCost : Type 0
ValuesTakeWhatTheyCost =
    (s : Setting) (functions : List Func) (loops : List Loop) (depth : Depth) (held : List Held) (v : PlainValue) (w : State) →
    ValueKeeps s (CallKeeps s functions depth) held v w →
    Takes (value_cost (counting_in s functions loops) v) (calls_under functions depth (nodes_of_value v)) (bytes_under functions depth (nodes_of_value v)) (have_effect functions (nodes_of_value v)) w (evaluate s held v w)

-- so does a statement of a function whose calls and loops keep theirs, with no more steps left than the bound on calls and turns,
-- which then never counts
abbrev pub StatementsTakeWhatTheyCost : Type 0
StatementsTakeWhatTheyCost =
    (p : PlainProgram) (functions : List Func) (loops : List Loop) (n : ℕ) (depth : Depth) (f : PlainFunction) (x : PlainStatement) (frame : Frame) (w : State) → w.left ≤ n →
    let s : Setting = setting_of p n (call_at n p) depth f in
    StatementKeeps (counting_in s functions loops) s (CallKeeps s functions depth) x frame w →
    Takes (statement_cost (counting_in s functions loops) x) (calls_under functions depth (nodes_of_statement x)) (bytes_under functions depth (nodes_of_statement x)) (have_effect functions (nodes_of_statement x)) w (execute s x frame w)

-- in a call of a function the calls and loops of its body keep their claims
abbrev pub BodyKeeps : PlainProgram → List Func → ℕ → Depth → ℕ → PlainFunction → List Scalar → State → Type 0
BodyKeeps p functions n depth k f xs w =
    let there : Depth = deeper f depth in
    let s : Setting = setting_of p n (call_at n p) there f in
    AfterStep w (λ w. let start : Entered = entered f.variables xs (raised there w) in
    StatementsKeep (counting_of p functions k f) s (CallKeeps s functions there) 0 f.body start.frame start.state)

-- a call of a function takes at most what that costs, where the calls and loops of its body keep their claims
abbrev pub CallsTakeWhatTheyCost : Type 0
CallsTakeWhatTheyCost =
    (p : PlainProgram) (functions : List Func) (n : ℕ) (depth : Depth) (k : ℕ) (f : PlainFunction) (xs : List Scalar) (w : State) →
    slice_get p.functions k ≡ Some f → w.left ≤ suc n → BodyKeeps p functions n depth k f xs w →
    Takes (cost_of (counting_of p functions k f) None f) (depth.calls + (depth_of functions f).calls) (depth.bytes + (depth_of functions f).bytes) (effect_of functions f) w (call_at (suc n) p depth k xs w)

-- ## The task loop

-- in the part of `main` before its task loop, calls and loops keep their claims
abbrev pub FirstPartKeeps : PlainProgram → List Func → ℕ → Depth → ℕ → PlainFunction → ℕ → State → Type 0
FirstPartKeeps p functions n depth k f i w =
    let there : Depth = deeper f depth in
    let s : Setting = setting_of p n (call_at n p) there f in
    AfterStep w (λ w. let start : Entered = entered f.variables [] (raised there w) in
    StatementsKeep (counting_of p functions k f) s (CallKeeps s functions there) 0 (statements_of_list (take i (statements_list f.body))) start.frame start.state)

-- that part, up to the statement step of the loop, takes at most what the function costs that has its task loop there
abbrev pub FirstPartsTakeWhatTheyCost : Type 0
FirstPartsTakeWhatTheyCost =
    (p : PlainProgram) (functions : List Func) (n : ℕ) (depth : Depth) (k : ℕ) (f : PlainFunction) (i : ℕ) (w : State) →
    w.left ≤ n → FirstPartKeeps p functions n depth k f i w →
    Takes (cost_of (counting_of p functions k f) (Some i) f) (depth.calls + (depth_of functions f).calls) (depth.bytes + (depth_of functions f).bytes) (effect_of functions f) w
    (before_task (setting_of p n (call_at n p) (deeper f depth) f) f i (deeper f depth) w)

-- in a turn of a task loop, calls and loops keep their claims
abbrev pub TurnKeeps : Counting → Setting → List Func → Depth → Task → Frame → State → Type 0
TurnKeeps c s functions depth task frame w =
    TestKeeps s (CallKeeps s functions depth) task.tested frame w
    × OnGives (λ more w. more ≡ true → StatementKeeps c s (CallKeeps s functions depth) task.body frame w) (task_test s task.tested frame w)

-- a turn of the task loop of a function takes at most what a turn costs
abbrev pub TurnsTakeWhatTheyCost : Type 0
TurnsTakeWhatTheyCost =
    (p : PlainProgram) (functions : List Func) (n : ℕ) (depth : Depth) (k : ℕ) (f : PlainFunction) (i : ℕ) (task : Task) (frame : Frame) (w : State) →
    w.left ≤ n → task_in (slice_get (statements_list f.body) i) ≡ Some task →
    let s : Setting = setting_of p n (call_at n p) (deeper f depth) f in
    TurnKeeps (counting_of p functions k f) s functions (deeper f depth) task frame w →
    Takes (turn_cost (counting_of p functions k f) (Some i) f) (depth.calls + (depth_of functions f).calls) (depth.bytes + (depth_of functions f).bytes) (effect_of functions f) w (task_turn s task frame w)
