-- Claims that differ in nothing but the loops of other functions.
use Rattle.std.specs.Prelude.{◌≡◌, ℕ, List, [], map, Option, Some, slice_get, slice_set}
use Rattle.p10_core.specs.Typed.{PlainFunction, PlainProgram}
use Rattle.p10_cert.specs.Claims.{Func, Claims}
use Rattle.p10_absx.specs.Environments.{Environment}
use Rattle.p10_absx.specs.Entering.{entry_at}
use Rattle.p10_pass.specs.Passing.{pass_of}
use Rattle.p10_sums.specs.Sums.{function_sum}
use Rattle.p10_sums.specs.Depths.{effect_of}

-- a claim on a function without what it says of its loops
abbrev pub without_loops : Func → Func
without_loops f = record f { loops = [] }

-- claims on functions without what they say of loops
abbrev pub all_without_loops : List Func → List Func
all_without_loops functions = map without_loops functions

-- claims that are the same but for loops, and the same on the function with a number
pub record AgreeOn (number : ℕ) (these others : List Func) : Type 0 where
  pub alike : all_without_loops these ≡ all_without_loops others
  pub own : slice_get these number ≡ slice_get others number

-- ## Laws

-- the environment at the function's entry is the same
abbrev pub SameEntry : Type 0
SameEntry = (p : PlainProgram) (number : ℕ) (c d : Claims) → AgreeOn number c.funcs d.funcs → entry_at p c number ≡ entry_at p d number

-- what the pass over the function leaves is the same
abbrev pub SamePass : Type 0
SamePass = (p : PlainProgram) (number : ℕ) (c d : Claims) → AgreeOn number c.funcs d.funcs → (e : Environment) → pass_of p c number e ≡ pass_of p d number e

-- what the function costs is the same
abbrev pub SameSums : Type 0
SameSums = (p : PlainProgram) (number : ℕ) (these others : List Func) → AgreeOn number these others → (f : Option PlainFunction) → function_sum p these number f ≡ function_sum p others number f

-- whether a function may allocate or free memory is the same
abbrev pub SameEffects : Type 0
SameEffects = (these others : List Func) → all_without_loops these ≡ all_without_loops others → (f : PlainFunction) → effect_of these f ≡ effect_of others f

-- claims without loops among which one stands whole agree on its function with the whole claims
abbrev pub OneStandsWhole : Type 0
OneStandsWhole = (functions : List Func) (number : ℕ) (claim : Func) → slice_get functions number ≡ Some claim → AgreeOn number (slice_set (all_without_loops functions) number claim) functions
