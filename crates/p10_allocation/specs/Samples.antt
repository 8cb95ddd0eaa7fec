-- Small programs that allocate before the mark, after it, and through a function; and why a program has to be whole.
use Rattle.std.specs.Prelude.{◌≡◌, [], ◌∷◌, false, Some, None}
use Rattle.p10_core.specs.declared.statements.LoopKeyword.TheVariants.{For}
use Rattle.p10_core.specs.declared.statements.MarkKind.TheVariants.{InitDone, TaskLoop}
use Rattle.p10_core.specs.Types.{void}
use Rattle.p10_core.specs.Typed.{call, values_of_list, PlainStatement, evaluate, empty, mark, PlainFunction, PlainProgram}
use Rattle.p10_core.specs.WholePrograms.{IsWholeProgram}
use Rattle.p10_flowrules.specs.Allocating.{AllocatesOrFrees, AreLateAllocations}
use Rattle.p10_meaning.specs.Runs.{Turns, run_of}
use Rattle.p10_meaning.specs.Examples.{span, int, does, block_of, frame_variable, function_of, main_of, program_of, value_of, loop_of, no_world}
use Rattle.p10_meaning.specs.Tasks.{ints, allocates}
use Rattle.p10_meaning.specs.Turns.{allocating}

-- `int *p = malloc(sizeof(int)); #pragma p10 init_done #pragma p10 task_loop for (;;) { }`
abbrev pub main_allocating_early : PlainFunction
main_allocating_early = function_of 0 int (frame_variable ints 8 ∷ []) (allocates ∷ does (mark InitDone) ∷ does (mark TaskLoop) ∷ loop_of For None (block_of []) ∷ [])

-- the program of that `main`
abbrev pub allocating_early : PlainProgram
allocating_early = record (main_of [] []) { functions = main_allocating_early ∷ []; mark = Some 1; task = Some 3 }

-- `void f(void) { int *p = malloc(sizeof(int)); }`
abbrev pub allocator : PlainFunction
allocator = function_of 0 (void false) (frame_variable ints 8 ∷ []) (allocates ∷ [])

-- `f();` of function 0
abbrev pub calls_first : PlainStatement
calls_first = does (evaluate (value_of (void false) (call (span 0) 0 (values_of_list []))))

-- with that function: `f(); #pragma p10 init_done #pragma p10 task_loop for (;;) { f(); }`
abbrev pub allocating_by_calls : PlainProgram
allocating_by_calls = record (program_of (allocator ∷ []) []
    (calls_first ∷ does (mark InitDone) ∷ does (mark TaskLoop) ∷ loop_of For None (block_of (calls_first ∷ [])) ∷ [])) { mark = Some 1; task = Some 3 }

-- `void f(void) { #pragma p10 init_done }` and `f(); int *p = malloc(sizeof(int)); ;` where the last item is given as the mark
abbrev pub marking_elsewhere : PlainProgram
marking_elsewhere = record (program_of (function_of 0 (void false) [] (does (mark InitDone) ∷ []) ∷ []) (frame_variable ints 8 ∷ [])
    (calls_first ∷ allocates ∷ does empty ∷ [])) { mark = Some 2 }

-- what small programs allocate, and when
pub record SmallProgramsAllocate : Type 0 where
  -- before the mark: the program is whole and its `main` allocates, and there is no late allocation
  pub early_is_whole : IsWholeProgram allocating_early
  pub early : AllocatesOrFrees allocating_early allocating_early.main
  pub early_is_free : AreLateAllocations allocating_early []
  pub early_run : run_of allocating_early no_world 10 100 3 ≡ record { outcome = Turns 3; output = []; calls = 1; bytes = 8; after = 0 }
  -- in each turn
  pub late : AreLateAllocations allocating [] → ⊥
  pub late_run : (run_of allocating no_world 10 100 3).after ≡ 3
  -- in each turn by a call
  pub by_calls : AreLateAllocations allocating_by_calls [] → ⊥
  pub by_calls_run : run_of allocating_by_calls no_world 10 100 3 ≡ record { outcome = Turns 3; output = []; calls = 2; bytes = 8; after = 3 }
  -- a mark that another function passes, which no whole program has
  pub elsewhere : AreLateAllocations marking_elsewhere []
  pub elsewhere_run : (run_of marking_elsewhere no_world 10 0 0).after ≡ 1
