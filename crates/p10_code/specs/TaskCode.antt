-- The code of a program with its task loop: after its functions stand the part of `main` before the loop, and one turn.
use Rattle.std.specs.Prelude.{◌≡◌, ℕ, ◌+◌, ◌≤◌, max, List, [], ◌∷◌, ◌++◌, length, take, slice_get, Option, Some, None}
use Rattle.p10_core.specs.Typed.{PlainValue, PlainStatements, statements_list, statements_of_list, PlainFunction, PlainProgram}
use Rattle.p10_meaning.specs.States.{State, Progress, gives, and_then}
use Rattle.p10_meaning.specs.Statements.{Frame, Flow, normal, broken, continued, returned}
use Rattle.p10_meaning.specs.Calling.{no_depth, deeper, setting_of, call_at}
use Rattle.p10_meaning.specs.Runs.{Task, task_turn, before_task}
use Rattle.p10_code.specs.Frames.{has_objects, IsFrameOf}
use Rattle.p10_code.specs.Operations.{slot, call, return, rest, Op, Entry}
use Rattle.p10_code.specs.Machine.{Config, Standing, Rest, over, at_loop, on, with_block, standing_in, start, Reaches}
use Rattle.p10_code.specs.ValueCode.{op}
use Rattle.p10_code.specs.StatementCode.{Exits, need, statements_need, statement_code, statements_code, test_code, test_length, test_height}
use Rattle.p10_code.specs.ProgramCode.{no_span, site_of, code_of, entries_of}

-- the exits of the parts of a `main` with a task loop: `return` closes no objects of its outermost block, since the run is over
abbrev pub task_exits : ℕ → ℕ → Exits
task_exits past again = record { over = past; over_close = 0; again = again; again_close = 0; all_close = 0 }

-- the run is over without a value
abbrev pub over_op : Op
over_op = op 0 no_span (return 0 None)

-- the items of `main` before its task loop
abbrev pub first_items : PlainFunction → ℕ → PlainStatements
first_items f i = statements_of_list (take i (statements_list f.body))

-- `main` up to its task loop, whose statement step is paid before the machine rests
abbrev pub first_code : PlainProgram → PlainFunction → ℕ → ℕ → List Op
first_code p f i at =
    over_op ∷ (statements_code (site_of p f) (task_exits at at) (at + 1) (first_items f i) ++ op 1 no_span (rest (length f.variables)) ∷ [])

-- the test of a task loop; where there is none, nothing is in its place
abbrev pub task_test_code : PlainProgram → PlainFunction → Option PlainValue → ℕ → ℕ → List Op
task_test_code p f None at miss = []
task_test_code p f (Some v) at miss = test_code (site_of p f) no_span 0 at v (at + test_length (site_of p f) 0 at v) miss

-- a turn of the task loop: where `break` and `continue` go, the test, the body, and the rest
abbrev pub turn_code : PlainProgram → PlainFunction → Task → ℕ → List Op
turn_code p f task at =
    let ct : List Op = task_test_code p f task.tested (at + 2) at in
    over_op ∷ op 0 no_span (rest (length f.variables)) ∷
    (ct ++ (statement_code (site_of p f) (task_exits at (at + 1)) (at + 2 + length ct) task.body ++ op 0 no_span (rest (length f.variables)) ∷ []))

-- how many slots `main` has after its variables: enough for the part before its task loop, and for each turn
abbrev pub task_room : PlainFunction → ℕ → Task → ℕ
task_room f i task = max (statements_need (first_items f i)) (max (test_height task.tested) (need task.body))

-- the entry of `main` up to its task loop, with room for its turns
abbrev pub task_entry : PlainFunction → ℕ → Task → ℕ → Entry
task_entry f i task at = record { at = at + 1; room = task_room f i task; tracked = has_objects f.variables }

-- the code of a task loop from a place on: a call of `main` by its entry, the first part, a turn
abbrev pub task_code : PlainProgram → PlainFunction → ℕ → Task → ℕ → List Op
task_code p f i task at =
    op 1 no_span (call 0 p.main (length p.functions) 0 0) ∷ op 0 no_span (return 0 (Some (slot 0))) ∷
    (first_code p f i (at + 2) ++ turn_code p f task (at + 2 + length (first_code p f i (at + 2))))

-- the code of a program with a task loop, and its table
abbrev pub whole_code : PlainProgram → PlainFunction → ℕ → Task → List Op
whole_code p f i task = code_of p ++ task_code p f i task (length (code_of p))

abbrev pub whole_entries : PlainProgram → PlainFunction → ℕ → Task → List Entry
whole_entries p f i task = entries_of p ++ task_entry f i task (length (code_of p) + 2) ∷ []

-- how the machine stands at the loop: with a frame of `main`, in one call, that which began the first part
abbrev pub standing_of : PlainProgram → PlainFunction → ℕ → Task → Frame → Standing
standing_of p f i task frame = record {
  frame = frame;
  base = 1;
  size = 1 + (length f.variables + task_room f i task);
  callers = record { pc = length (code_of p) + 1; base = 0; to = 0; depth = no_depth } ∷ [];
  blocks = with_block (has_objects f.variables) frame.opened [];
  depth = deeper f no_depth;
}

-- how the machine rests after the first part, and after a turn
abbrev pub first_rest : (Frame → Standing) → Flow → Frame → State → Progress Rest
first_rest stands normal frame w = gives (at_loop (stands frame)) w
first_rest stands (returned x) frame w = gives (over x) w
first_rest stands flow frame w = gives (over None) w

abbrev pub turn_rest : (Frame → Standing) → Flow → Frame → State → Progress Rest
turn_rest stands normal frame w = gives (at_loop (stands frame)) w
turn_rest stands continued frame w = gives (at_loop (stands frame)) w
turn_rest stands (returned x) frame w = gives (over x) w
turn_rest stands broken frame w = gives (over None) w

-- the code of the part of `main` before its task loop does what that part means
abbrev pub FirstPartIsExact : Type 0
FirstPartIsExact =
    (p : PlainProgram) (f : PlainFunction) (i : ℕ) (task : Task) (n : ℕ) (w : State) → slice_get p.functions p.main ≡ Some f → w.left ≤ n →
    Reaches p (whole_code p f i task) (whole_entries p f i task) (on (record (start w) { pc = length (code_of p) }))
    (and_then (before_task (setting_of p n (call_at n p) (deeper f no_depth) f) f i (deeper f no_depth) w) (λ d w. first_rest (standing_of p f i task) d.flow d.frame w))

-- where the code of a turn begins
abbrev pub turn_place : PlainProgram → PlainFunction → ℕ → ℕ
turn_place p f i = length (code_of p) + 2 + length (first_code p f i (length (code_of p) + 2)) + 2

-- the code of a turn does what a turn means, where the machine stands as it came to rest, with each frame of `main`
abbrev pub TurnIsExact : Type 0
TurnIsExact =
    (p : PlainProgram) (f : PlainFunction) (i : ℕ) (task : Task) (n : ℕ) (frame : Frame) (c : Config) → slice_get p.functions p.main ≡ Some f → IsFrameOf f frame →
    c.pc ≡ turn_place p f i → standing_in (length f.variables) c ≡ standing_of p f i task frame → c.state.left ≤ n →
    Reaches p (whole_code p f i task) (whole_entries p f i task) (on c)
    (and_then (task_turn (setting_of p n (call_at n p) (deeper f no_depth) f) task frame c.state) (λ d w. turn_rest (standing_of p f i task) d.flow d.frame w))
