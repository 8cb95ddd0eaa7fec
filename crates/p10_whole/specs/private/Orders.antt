-- Declarations, loops and pragmas in order.
use Rattle.std.specs.Prelude.{◌≡◌, ℕ, ◌+◌, ◌-◌, Bool, List, [], ◌∷◌, ◌++◌, map, length, Option, Some, None, if◌then◌else◌}
use Rattle.p10_core.specs.declared.statements.LoopHead.{LoopHead}
use Rattle.p10_core.specs.declared.statements.MarkKind.{MarkKind}
use Rattle.p10_core.specs.declared.statements.MarkKind.TheVariants.{InitDone, TaskLoop}
use Rattle.p10_core.specs.Typed.{PlainFunction, PlainStatement}
use Rattle.p10_core.specs.WholePrograms.{declared_in, declared_of, loops_in, loops_of, marks_in, marks_of, numbers_from}
use Rattle.p10_whole.specs.declared.order.Next.{Next}

-- the numbers are those from one on up to another, which isn't among them
abbrev pub Rise : ℕ → List ℕ → ℕ → Type 0
Rise from [] to = from ≡ to
Rise from (n ∷ rest) to = (n ≡ from) × Rise (from + 1) rest to

-- the pragmas, of which each may be there once, in their order
abbrev pub marks_by : Bool → Bool → List MarkKind
marks_by init_done task_loop = (if init_done then InitDone ∷ [] else []) ++ (if task_loop then TaskLoop ∷ [] else [])

-- the pragmas that are still to come
abbrev pub marks_left : Next → List MarkKind
marks_left n = marks_by n.init_done n.task_loop

-- what comes next before variables, loops and pragmas, and after them
pub record Passes (before : Next) (declared : List ℕ) (loops : List LoopHead) (marks : List MarkKind) (after : Next) : Type 0 where
  pub variables : Rise before.variable declared after.variable
  pub numbers : Rise before.of_loop (map (λ h. h.number) loops) after.of_loop
  pub pragmas : marks_left before ≡ marks ++ marks_left after

-- the same for the second branch of an `if`, if there is one
abbrev pub PassesOther : Next → Option PlainStatement → Next → Type 0
PassesOther before None after = Passes before [] [] [] after
PassesOther before (Some s) after = Passes before (declared_in s) (loops_in s) (marks_in s) after

-- a function's declarations and loops are in order, and its pragmas are these
pub record InOrder (f : PlainFunction) (init_done task_loop : Bool) : Type 0 where
  pub declared : declared_of f.body ≡ numbers_from f.parameters (length f.variables - f.parameters)
  pub loops : map (λ h. h.number) (loops_of f.body) ≡ numbers_from 0 (length (loops_of f.body))
  pub marks : marks_of f.body ≡ marks_by init_done task_loop
