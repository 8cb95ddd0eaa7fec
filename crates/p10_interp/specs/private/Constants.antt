-- Constant expressions, and the objects that they initialise.
use Rattle.std.specs.Prelude.{◌≡◌, ℕ, Bool, true, false, List, [], ◌∷◌, Option, Some, None}
use Rattle.p10_core.specs.Typed.{PlainFunction, PlainProgram, PlainItem}
use Rattle.p10_meaning.specs.Calling.{Depth}
use Rattle.p10_meaning.specs.declared.pointers.Scalar.{Scalar}
use Rattle.p10_meaning.specs.States.{State, Progress, gives, ends}
use Rattle.p10_meaning.specs.Opening.{constant_state}
use Rattle.p10_interp.specs.declared.work.Halt.{Halt}
use Rattle.p10_interp.specs.declared.work.Halt.TheVariants.{Failed, Undefined, Spent, Memory}
use Rattle.p10_interp.specs.private.Machines.{Around}
use Rattle.p10_interp.specs.private.Operations.{scalars_of_items}
use Rattle.p10_interp.specs.private.Tasks.{Task, Operand, Open}

-- nothing was put, and nothing is left of the input
abbrev pub nothing_around : Around
nothing_around = record { out = []; rest = [] }

-- a state is that in which constant expressions are evaluated, except for the steps that are left
abbrev pub IsConstantState : PlainProgram → State → Type 0
IsConstantState p w = w ≡ record (constant_state p) { left = w.left }

-- the value that an evaluation gives
abbrev pub value_given : Progress Scalar → Option Scalar
value_given (gives x w) = Some x
value_given (ends end w) = None

-- what was given, or something else
abbrev pub given_or : Option Scalar → Scalar → Scalar
given_or (Some x) other = x
given_or None other = other

-- the scalars that items give with these values, or nothing
abbrev pub scalars_if : Bool → List PlainItem → List Scalar → List (ℕ × Scalar)
scalars_if true items xs = scalars_of_items items xs
scalars_if false items xs = []

-- whether a run ended by itself, and not because it ran out of steps or memory
abbrev pub is_ended : Halt → Bool
is_ended (Failed span) = true
is_ended (Undefined stop span) = true
is_ended Spent = false
is_ended Memory = false

-- no work and no operands are there, and one call is open, which has no variables
pub record IsOutside (tasks : List Task) (operands : List Operand) (calls : List Open) : Type 0 where
  pub function : PlainFunction
  pub depth : Depth
  pub no_tasks : tasks ≡ []
  pub no_operands : operands ≡ []
  pub call : calls ≡ record { function = function; depth = depth; frame = record { held = []; opened = [] }; outer = [] } ∷ []
