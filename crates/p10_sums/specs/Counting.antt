-- What trees are counted under: the program, the function that they stand in, and what a certificate claims.
use Rattle.std.specs.Prelude.{ℕ, nat_eq, if◌then◌else◌, Bool, false, List, [], Option, Some, None, slice_get}
use Rattle.p10_core.specs.Typed.{PlainVariable, PlainFunction, PlainProgram}
use Rattle.p10_cert.specs.Claims.{Func, Loop}

-- the program, the variables of the function, what is claimed of each function by its number, and of each loop of the
-- function by its number
pub record Counting : Type 0 where
  pub program : PlainProgram
  pub variables : List PlainVariable
  pub functions : List Func
  pub loops : List Loop

-- the steps that are claimed of a function; 0 where nothing is claimed, as in all that follow
abbrev pub steps_claimed : Option Func → ℕ
steps_claimed None = 0
steps_claimed (Some f) = f.steps

-- the calls that are claimed
abbrev pub calls_claimed : Option Func → ℕ
calls_claimed None = 0
calls_claimed (Some f) = f.calls

-- the bytes that are claimed
abbrev pub bytes_claimed : Option Func → ℕ
bytes_claimed None = 0
bytes_claimed (Some f) = f.bytes

-- whether it is claimed that the function may allocate or free memory
abbrev pub alloc_claimed : Option Func → Bool
alloc_claimed None = false
alloc_claimed (Some f) = f.alloc

-- the turns that are claimed of a loop
abbrev pub turns_claimed : Option Loop → ℕ
turns_claimed None = 0
turns_claimed (Some l) = l.turns

-- the loops that are claimed of a function
abbrev pub loops_claimed : Option Func → List Loop
loops_claimed None = []
loops_claimed (Some f) = f.loops

-- what the trees of the function with a number are counted under
abbrev pub counting_of : PlainProgram → List Func → ℕ → PlainFunction → Counting
counting_of p functions n f = record { program = p; variables = f.variables; functions = functions; loops = loops_claimed (slice_get functions n) }

-- the place of the task loop among the items of the function with a number: it stands in `main` alone
abbrev pub task_of : PlainProgram → ℕ → Option ℕ
task_of p n = if nat_eq n p.main then p.task else None
