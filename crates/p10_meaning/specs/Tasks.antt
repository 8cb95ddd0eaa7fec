-- Whole runs by hand: worlds, depths, marks and the task loop.
use Rattle.std.specs.Prelude.{◌≡◌, ℕ, true, false, List, [], ◌∷◌, ℤ, pos, negsuc, Some, None}
use Rattle.p10_int.specs.declared.types.IntType.TheVariants.{UChar}
use Rattle.p10_int.specs.declared.operators.BinOp.TheVariants.{Sub, Mul, Rem, Gt, Eq}
use Rattle.p10_core.specs.declared.typed.Library.TheVariants.{Getchar, Putchar, Malloc}
use Rattle.p10_core.specs.declared.statements.LoopKeyword.TheVariants.{While, For}
use Rattle.p10_core.specs.declared.statements.MarkKind.TheVariants.{InitDone, TaskLoop}
use Rattle.p10_core.specs.Types.{PlainType, void, integer, array}
use Rattle.p10_core.specs.Typed.{PlainValue, read, sense, address, decay, convert, cast, binary, call, built_in, PlainPlace, place, global, index, dereference, values_of_list, one_scalar, PlainInitializer, not_initialized, single, listed, PlainStatement, set, evaluate, if_then, break, mark, PlainFunction, PlainObject, PlainProgram}
use Rattle.p10_meaning.specs.States.{Undefined, StepsSpent}
use Rattle.p10_int.specs.declared.operators.Stop.TheVariants.{U5}
use Rattle.p10_meaning.specs.Runs.{Returned, Turns, Ended, run_of}
use Rattle.p10_meaning.specs.Examples.{span, tree, int, number, get, does, block_of, returns, frame_variable, int_variable, function_of, main_of, program_of, value_of, plus, pointer_to, null, assign, begin, loop_of, no_world}

-- ## Calls

-- `int q(int n);  int p(int n) { if (n > 0) { return q(n - 1); } return 0; }` and q with 1: functions 0 and 1
abbrev pub passing : ℕ → ℤ → PlainFunction
passing other z = function_of 1 int (int_variable ∷ [])
    (does (if_then (value_of int (binary Gt (get 0 int 0) (number (pos 0))))
    (block_of (returns (value_of int (call (span 0) other (values_of_list (value_of int (binary Sub (get 0 int 0) (number (pos 1))) ∷ [])))) ∷ []))) ∷
    returns (number z) ∷ [])

-- `return p(3);`
abbrev pub mutual_recursion : PlainProgram
mutual_recursion = program_of (passing 1 (pos 0) ∷ passing 0 (pos 1) ∷ []) [] (returns (value_of int (call (span 0) 0 (values_of_list (number (pos 3) ∷ [])))) ∷ [])

-- greatest depths of nested calls
pub record CallsAreNested : Type 0 where
  pub ends : run_of mutual_recursion no_world 100 0 0 ≡ record { outcome = Returned (pos 1); output = []; calls = 5; bytes = 16; after = 0 }

-- ## The world

-- `putchar(getchar()); putchar(getchar()); return getchar();`
abbrev pub echo : PlainStatement
echo = does (evaluate (value_of int (built_in (span 0) Putchar (values_of_list (value_of int (built_in (span 0) Getchar (values_of_list [])) ∷ [])))))

-- the program
abbrev pub echoing : PlainProgram
echoing = main_of [] (echo ∷ echo ∷ returns (value_of int (built_in (span 0) Getchar (values_of_list []))) ∷ [])

-- `int *p = malloc(sizeof(int)); if (p == 0) return 3; *p = 7; return *p;`, and without the test
abbrev pub ints : PlainType
ints = pointer_to int

-- `p`
abbrev pub p : PlainValue
p = get 0 ints 0

-- `int *p = malloc(sizeof(int));`
abbrev pub allocates : PlainStatement
allocates = begin 0 (value_of ints (built_in (span 0) Malloc (values_of_list [])))

-- `*p = 7; return *p;`
abbrev pub uses : List PlainStatement
uses = does (set (place (tree 4) int (dereference p)) (number (pos 7))) ∷ returns (value_of int (read (place (tree 4) int (dereference p)))) ∷ []

-- with the test
abbrev pub careful : PlainProgram
careful = main_of (frame_variable ints 8 ∷ []) (allocates ∷ does (if_then (value_of int (binary Eq p (null int))) (returns (number (pos 3)))) ∷ uses)

-- without it
abbrev pub careless : PlainProgram
careless = main_of (frame_variable ints 8 ∷ []) (allocates ∷ uses)

-- `static volatile unsigned char s; int a = s; int b = s; return a * 1000 + b;`
abbrev pub sensor : PlainObject
sensor = record { name = []; type = integer false UChar; bytes = 1; span = span 0; initializer = not_initialized; owner = None; sensor = true; visible = [] }

-- a read of the sensor, as an `int`
abbrev pub sensed : PlainValue
sensed = value_of int (convert (value_of (integer false UChar) (sense 0)))

-- the program
abbrev pub sensing : PlainProgram
sensing = record (main_of (int_variable ∷ int_variable ∷ [])
    (begin 0 sensed ∷ begin 1 sensed ∷ returns (plus (value_of int (binary Mul (get 0 int 0) (number (pos 1000)))) (get 0 int 1)) ∷ [])) { objects = sensor ∷ [] }

-- `static int t[2] = {0, 2 + 3}; static int *r = &t[1]; return *r;`
abbrev pub table : PlainType
table = array false int 2

-- an object of static lifetime
abbrev pub static_of : PlainType → PlainInitializer → PlainObject
static_of t initializer = record { name = []; type = t; bytes = 8; span = span 0; initializer = initializer; owner = None; sensor = false; visible = [] }

-- `t[1]`
abbrev pub table_element : PlainPlace
table_element = place (tree 0) int (index (value_of ints (decay (place (tree 0) table (global 0)))) (number (pos 1)))

-- the program
abbrev pub initialized : PlainProgram
initialized = record (main_of [] (returns (value_of int (read (place (tree 0) int (dereference (value_of ints (read (place (tree 0) ints (global 1)))))))) ∷ [])) {
  objects = static_of table (listed (tree 0) (record { scalar = 1; written = one_scalar (plus (number (pos 2)) (number (pos 3))) } ∷ [])) ∷
      static_of ints (single (value_of ints (address table_element))) ∷ [];
}

-- what worlds and static objects do to a run
pub record WorldsCount : Type 0 where
  pub input : run_of echoing (record no_world { input = 97 ∷ 98 ∷ [] }) 100 0 0 ≡ record { outcome = Returned (negsuc 0); output = 97 ∷ 98 ∷ []; calls = 1; bytes = 0; after = 0 }
  pub granted : run_of careful no_world 100 0 0 ≡ record { outcome = Returned (pos 7); output = []; calls = 1; bytes = 8; after = 1 }
  pub denied : run_of careful (record no_world { denied = 1 ∷ [] }) 100 0 0 ≡ record { outcome = Returned (pos 3); output = []; calls = 1; bytes = 8; after = 1 }
  pub other_denied : (run_of careful (record no_world { denied = 2 ∷ [] }) 100 0 0).outcome ≡ Returned (pos 7)
  pub denied_and_used : (run_of careless (record no_world { denied = 1 ∷ [] }) 100 0 0).outcome ≡ Ended (Undefined U5 (span 4))
  pub sensors : run_of sensing (record no_world { sensors = pos 300 ∷ pos 7 ∷ [] }) 11 0 0 ≡ record { outcome = Returned (pos 44007); output = []; calls = 1; bytes = 8; after = 0 }
  pub sensors_end : (run_of sensing no_world 11 0 0).outcome ≡ Returned (pos 0)
  pub sensing_takes : (run_of sensing no_world 10 0 0).outcome ≡ Ended StepsSpent
  pub static_objects : (run_of initialized no_world 100 0 0).outcome ≡ Returned (pos 5)

-- ## The mark and the task loop

-- `int n = 0; while (1) { (void)putchar('A' + n); n = (n + 1) % 26; ... }`, the loop as a task
abbrev pub printing : PlainStatement
printing = does (evaluate (value_of (void false) (cast (value_of int (built_in (span 0) Putchar (values_of_list (plus (number (pos 65)) (get 0 int 0) ∷ [])))))))

-- `n = (n + 1) % 26;`
abbrev pub counting_on : PlainStatement
counting_on = assign int 0 (value_of int (binary Rem (plus (get 0 int 0) (number (pos 1))) (number (pos 26))))

-- `int n = 0; #pragma p10 task_loop LOOP`
abbrev pub task_of : PlainStatement → PlainProgram
task_of loop = record (main_of (int_variable ∷ []) (begin 0 (number (pos 0)) ∷ does (mark TaskLoop) ∷ loop ∷ [])) { task = Some 2 }

-- the program
abbrev pub letters : PlainProgram
letters = task_of (loop_of While (Some (number (pos 1))) (block_of (printing ∷ counting_on ∷ [])))

-- the same, with `if (n == 2) break;` at the end, and with `for (;;)`
abbrev pub leaving : PlainProgram
leaving = task_of (loop_of For None (block_of (printing ∷ counting_on ∷ does (if_then (value_of int (binary Eq (get 0 int 0) (number (pos 2)))) (does break)) ∷ [])))

-- `#pragma p10 init_done` after one allocation, and one more after it
abbrev pub marked : PlainProgram
marked = record (main_of (frame_variable ints 8 ∷ []) (allocates ∷ does (mark InitDone) ∷ allocates ∷ returns (number (pos 0)) ∷ [])) { mark = Some 1 }

-- turns, their budgets, and marks
pub record TasksTurn : Type 0 where
  pub three_turns : run_of letters no_world 4 13 3 ≡ record { outcome = Turns 3; output = 65 ∷ 66 ∷ 67 ∷ []; calls = 1; bytes = 4; after = 0 }
  pub no_turn : (run_of letters no_world 4 0 0).outcome ≡ Turns 0
  pub part_before : (run_of letters no_world 3 13 3).outcome ≡ Ended StepsSpent
  pub each_turn : (run_of letters no_world 4 12 1).outcome ≡ Ended StepsSpent
  pub left : run_of leaving no_world 10 100 5 ≡ record { outcome = Returned (pos 0); output = 65 ∷ 66 ∷ []; calls = 1; bytes = 4; after = 0 }
  pub not_left_yet : (run_of leaving no_world 10 100 1).outcome ≡ Turns 1
  pub test_costs_nothing : (run_of leaving no_world 4 16 1).outcome ≡ Turns 1
  pub after_the_mark : (run_of marked no_world 100 0 0).after ≡ 1

-- ## Whole runs
pub record RunsGive : Type 0 where
  pub calls : CallsAreNested
  pub worlds : WorldsCount
  pub tasks : TasksTurn
