-- What a function is for the conditions on it, its view, and when claims agree as far as these conditions ask for them.
use Rattle.std.specs.Prelude.{◌≡◌, ℕ, List, Option, slice_get}
use Rattle.std.specs.List.{AllByRecursion}
use Rattle.p10_core.specs.Typed.{PlainFunction, PlainProgram}
use Rattle.p10_core.specs.Nodes.{nodes_of_statements}
use Rattle.p10_cert.specs.Claims.{Func}
use Rattle.p10_sums.specs.Counting.{task_of}
use Rattle.p10_sums.specs.Depths.{callees}
use Rattle.p10_views.specs.Erased.{erased_function}

-- the function without places and numbers, and the place of the task loop in its body, if it has it
pub record View : Type 0 where
  pub function : PlainFunction
  pub task : Option ℕ

-- the view of the function with a number
abbrev pub view_of : PlainProgram → ℕ → PlainFunction → View
view_of p n f = record { function = erased_function p f; task = task_of p n }

-- two lists of claims say the same of the function with a number
abbrev pub SayTheSame : List Func → List Func → ℕ → Type 0
SayTheSame these others n = slice_get these n ≡ slice_get others n

-- they do so of a function, and of each that it calls
pub record AgreeAbout (these others : List Func) (n : ℕ) (f : PlainFunction) : Type 0 where
  pub own : SayTheSame these others n
  pub called : AllByRecursion (SayTheSame these others) (callees (nodes_of_statements f.body))
