-- Calls whose arguments lie in the ranges that are claimed of the parameters, and what is claimed of their results.
use Rattle.std.specs.Prelude.{◌≡◌, ℕ, ◌≤◌, List, [], ◌∷◌, slice_get, Option, Some, None, false}
use Rattle.std.specs.Bool.{nat_eq}
use Rattle.p10_range.specs.Ranges.{Interval, IsMember}
use Rattle.p10_core.specs.Constants.{integer_of}
use Rattle.p10_core.specs.Typed.{PlainFunction, PlainProgram}
use Rattle.p10_core.specs.WholePrograms.{parameter_types}
use Rattle.p10_cert.specs.Claims.{Value, Number, Claims}
use Rattle.p10_meaning.specs.declared.pointers.Scalar.{Scalar}
use Rattle.p10_meaning.specs.declared.pointers.Scalar.TheVariants.{Int, Pointer}
use Rattle.p10_meaning.specs.States.{State}
use Rattle.p10_meaning.specs.Values.{Calls}
use Rattle.p10_meaning.specs.Sound.{Kind, Sound, ScalarsFit}
use Rattle.p10_sums.specs.Keeping.{OnGives}
use Rattle.p10_absx.specs.Assessing.{call_claimed}
use Rattle.p10_absx.specs.Entering.{claims_on}

-- an integer lies in a range; of a pointer no range is claimed
abbrev pub ScalarLies : Interval → Scalar → Type 0
ScalarLies r (Int z) = IsMember r z
ScalarLies r (Pointer q) = Unit {0}

-- a result lies in a range, if there is one
abbrev pub ResultLies : Interval → Option Scalar → Type 0
ResultLies r None = Unit {0}
ResultLies r (Some x) = ScalarLies r x

-- arguments lie in the ranges that are claimed of parameters
abbrev pub ArgumentsLie : List Value → List Scalar → Type 0
ArgumentsLie (Number r ∷ claims) (x ∷ xs) = ScalarLies r x × ArgumentsLie claims xs
ArgumentsLie (claim ∷ claims) (x ∷ xs) = ArgumentsLie claims xs
ArgumentsLie claims xs = Unit {0}

-- what is claimed of the parameters of the function with a number: nothing where no certificate stands
abbrev pub parameters_claimed : Option Claims → ℕ → List Value
parameters_claimed None g = []
parameters_claimed (Some c) g = claims_on (slice_get c.funcs g)

-- a call that claims cover: it is of a function other than `main`, its arguments fit the function's parameters in a sound state and
-- lie in the claimed ranges, and no more steps are left than a bound
pub record IsCoveredCall (p : PlainProgram) (c : Option Claims) (bound : ℕ) (g : ℕ) (xs : List Scalar) (w : State) : Type 0 where
  pub callee : PlainFunction
  pub there : slice_get p.functions g ≡ Some callee
  pub other : nat_eq g p.main ≡ false
  pub kinds : List Kind
  pub sound : Sound p kinds w
  pub fit : ScalarsFit p kinds (parameter_types callee) xs
  pub few : w.left ≤ bound
  pub lie : ArgumentsLie (parameters_claimed c g) xs

-- calls that claims cover give results in the claimed ranges
pub record ResultsLie (p : PlainProgram) (c : Option Claims) (bound : ℕ) (calls : Calls) : Type 0 where
  pub lies : (g : ℕ) (xs : List Scalar) (w : State) → (covered : IsCoveredCall p c bound g xs w) →
      OnGives (λ x w. ResultLies (call_claimed c g (integer_of covered.callee.result)) x) (calls g xs w)
