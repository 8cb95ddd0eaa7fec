-- What it is that ranges are of the types of what they are known or claimed of.
use Rattle.std.specs.Prelude.{◌≡◌, ℕ, List, length, Option, Some, None, IfSome, slice_get}
use Rattle.std.specs.List.{AllByRecursion}
use Rattle.p10_range.specs.Laws.{IsOfType}
use Rattle.p10_core.specs.Constants.{integer_of}
use Rattle.p10_core.specs.Types.{PlainType}
use Rattle.p10_core.specs.Typed.{PlainVariable, PlainFunction, PlainProgram}
use Rattle.p10_cert.specs.Claims.{Var, Loop, Claims}
use Rattle.p10_absx.specs.Abstract.{Abstract}
use Rattle.p10_absx.specs.Environments.{Environment, known}
use Rattle.p10_absx.specs.Assessing.{call_claimed}
use Rattle.p10_pass.specs.Passing.{Left}

-- ## What is known

-- an environment over a function's variables: it has a place for each of them, and each range that is known of one has a number, and
-- only numbers of its type
pub record AreOfTypes (variables : List PlainVariable) (env : Environment) : Type 0 where
  pub places : length env ≡ length variables
  pub each : (n : ℕ) (v : PlainVariable) (a : Abstract) → slice_get variables n ≡ Some v → known env n ≡ Some a → IsOfType (integer_of v.type) a.range

-- the same where a state may not come
abbrev pub MaybeOfTypes : List PlainVariable → Option Environment → Type 0
MaybeOfTypes variables None = Unit {0}
MaybeOfTypes variables (Some env) = AreOfTypes variables env

-- the same at each end of a statement, and of what it returns in a function with a result of a type
pub record EndsOfTypes (variables : List PlainVariable) (result : PlainType) (a : Left) : Type 0 where
  pub normal : MaybeOfTypes variables a.normal
  pub breaks : MaybeOfTypes variables a.breaks
  pub continues : MaybeOfTypes variables a.continues
  pub returns : MaybeOfTypes variables a.returns
  pub returned : IfSome a.returned (IsOfType (integer_of result))

-- ## What is claimed

-- a line on a variable at the head of a loop: its range has a number, and only numbers of the variable's type
abbrev pub LineOfType : List PlainVariable → Var → Type 0
LineOfType variables line = (v : PlainVariable) → slice_get variables line.var ≡ Some v → IsOfType (integer_of v.type) line.ends

-- each line on a loop is so
abbrev pub LinesOfTypes : List PlainVariable → Loop → Type 0
LinesOfTypes variables l = AllByRecursion (LineOfType variables) l.vars

-- each line on loops, where something is claimed of them
abbrev pub LoopsOfTypes : List PlainVariable → Option (List Loop) → Type 0
LoopsOfTypes variables None = Unit {0}
LoopsOfTypes variables (Some loops) = AllByRecursion (LinesOfTypes variables) loops

-- what is claimed of the result of each function, where something is: a range that has a number, and only numbers of its type
pub record ResultsOfTypes (p : PlainProgram) (calls : Option Claims) : Type 0 where
  pub each : (n : ℕ) (f : PlainFunction) → slice_get p.functions n ≡ Some f → IsOfType (integer_of f.result) (call_claimed calls n (integer_of f.result))
