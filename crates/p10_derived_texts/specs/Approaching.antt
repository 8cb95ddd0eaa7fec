-- The variables of derived certificates that approach each other.
use Rattle.std.specs.Prelude.{◌≡◌, ℕ, ◌<◌, ◌≤◌, ◌^◌, List, Option, Some, None, length, flat_map, slice_get}
use Rattle.std.specs.List.{AllByRecursion}
use Rattle.p10_core.specs.Typed.{PlainVariable, PlainFunction, PlainProgram}
use Rattle.p10_cert.specs.Claims.{Func, Claims}
use Rattle.p10_candidates.specs.Approaches.{Approach}
use Rattle.p10_approach.specs.Offers.{Offers}
use Rattle.p10_finder.specs.Functions.{loops_of}

-- two of a function's variables, if there are two
abbrev pub AreNear : List PlainVariable → Option Approach → Type 0
AreNear variables None = Unit {0}
AreNear variables (Some a) = (a.below < length variables) × (a.above < length variables)

-- the function with a number, its variables and its loops have numbers that a certificate may name
pub record AreFew (o : Offers) (p : PlainProgram) (c : Claims) (n : ℕ) (f : PlainFunction) : Type 0 where
  pub function : n < 2 ^ 32
  pub variables : length f.variables < 2 ^ 32
  pub near : AllByRecursion (AreNear f.variables) (loops_of o p c n f).approaches
  pub each : (g : Func) → slice_get c.funcs n ≡ Some g → length (loops_of o p c n f).approaches ≡ length g.loops

-- the same of all functions; and all loops together are few
pub record AreAllFew (o : Offers) (p : PlainProgram) (c : Claims) : Type 0 where
  pub claims : length c.funcs ≡ length p.functions
  pub functions : (n : ℕ) (f : PlainFunction) → slice_get p.functions n ≡ Some f → AreFew o p c n f
  pub loops : length (flat_map (λ (g : Func). g.loops) c.funcs) < 2 ^ 32
