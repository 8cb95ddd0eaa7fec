-- What evaluations are worth under an environment that describes the frame.
use Rattle.std.specs.Prelude.{◌≡◌, ℕ, ◌≤◌, true, false, List, [], slice_get, Option, Some, None}
use Rattle.p10_core.specs.Typed.{PlainValue, PlainPlace, PlainVariable, PlainFunction, PlainProgram}
use Rattle.p10_core.specs.Whole.{IsWholeValue, IsWholePlace}
use Rattle.p10_core.specs.WholePrograms.{around, IsWholeProgram}
use Rattle.p10_cert.specs.Claims.{Claims}
use Rattle.p10_meaning.specs.declared.pointers.Scalar.{Scalar}
use Rattle.p10_meaning.specs.declared.pointers.Scalar.TheVariants.{Int, Pointer}
use Rattle.p10_meaning.specs.States.{State}
use Rattle.p10_meaning.specs.Scalars.{is_true}
use Rattle.p10_meaning.specs.Values.{Held, evaluate, discard}
use Rattle.p10_meaning.specs.Sound.{Kind, Sound, FrameFits, region_at}
use Rattle.p10_meaning.specs.Calling.{Depth, setting_of, call_at}
use Rattle.p10_sums.specs.Keeping.{OnGives, ValueKeeps, PlaceKeeps}
use Rattle.p10_absx.specs.Abstract.{Abstract}
use Rattle.p10_absx.specs.Environments.{Environment}
use Rattle.p10_absx.specs.Assessing.{abstract_value, assume_of}
use Rattle.p10_absx.specs.Describing.{Describes, MaybeDescribes, MaybeHolds}
use Rattle.p10_pass.specs.Arguments.{has_value, failing_in, failing_at}
use Rattle.p10_evaluation.specs.Claimed.{IsCoveredCall, ResultsLie}

-- ## Where a tree is evaluated

-- a state in which a tree is evaluated: it is sound, the frame fits the function's variables and is described by an environment, and
-- no more steps are left than the bound on calls and turns, which then never counts
pub record IsDescribed (p : PlainProgram) (bound : ℕ) (variables : List PlainVariable) (env : Environment) (head held : List Held) (ks : List Kind) (w : State) : Type 0 where
  pub sound : Sound p ks w
  pub fits : FrameFits p ks variables held
  pub describes : Describes variables env head held
  pub few : w.left ≤ bound

-- ## What is found

-- an integer is held by an abstract value; of a pointer none is kept
abbrev pub IsHeldBy : List Held → Option Abstract → Scalar → Type 0
IsHeldBy head a (Int z) = MaybeHolds head a z
IsHeldBy head a (Pointer q) = Unit {0}

-- a scalar is what an environment says of a value: it is held by the abstract value, what is known where the value is as true or
-- false as it is describes the frame, and the value has one
pub record IsFound (c : Option Claims) (v : PlainValue) (variables : List PlainVariable) (env : Environment) (head held : List Held) (x : Scalar) : Type 0 where
  pub held_by : IsHeldBy head (abstract_value c env v) x
  pub known : MaybeDescribes variables (assume_of c v (is_true x) env) head held
  pub has : has_value c v env ≡ true

-- ## The laws: of a function of a whole program, where calls that claims cover give results in the claimed ranges

-- a value that is evaluated gives what the environment says, where no call in it fails to have arguments in the claimed ranges
abbrev pub ValuesAreFound : Type 0
ValuesAreFound =
    (p : PlainProgram) → IsWholeProgram p → (c : Option Claims) (n : ℕ) (depth : Depth) → ResultsLie p c n (call_at n p depth) → (number : ℕ) (f : PlainFunction) → slice_get p.functions number ≡ Some f →
    (scope : List ℕ) (v : PlainValue) → IsWholeValue (around (region_at p number f scope false false)) v →
    (env : Environment) (head held : List Held) (ks : List Kind) (w : State) → IsDescribed p n f.variables env head held ks w → failing_in c v env ≡ [] →
    OnGives (λ x w. IsFound c v f.variables env head held x) (evaluate (setting_of p n (call_at n p) depth f) held v w)

-- a value that isn't used has one where its evaluation goes on
abbrev pub DiscardedValuesAreFound : Type 0
DiscardedValuesAreFound =
    (p : PlainProgram) → IsWholeProgram p → (c : Option Claims) (n : ℕ) (depth : Depth) → ResultsLie p c n (call_at n p depth) → (number : ℕ) (f : PlainFunction) → slice_get p.functions number ≡ Some f →
    (scope : List ℕ) (v : PlainValue) → IsWholeValue (around (region_at p number f scope false false)) v →
    (env : Environment) (head held : List Held) (ks : List Kind) (w : State) → IsDescribed p n f.variables env head held ks w → failing_in c v env ≡ [] →
    OnGives (λ x w. has_value c v env ≡ true) (discard (setting_of p n (call_at n p) depth f) held v w)

-- an evaluation comes only to calls that claims cover
abbrev pub ValuesMakeCoveredCalls : Type 0
ValuesMakeCoveredCalls =
    (p : PlainProgram) → IsWholeProgram p → (c : Option Claims) (n : ℕ) (depth : Depth) → ResultsLie p c n (call_at n p depth) → (number : ℕ) (f : PlainFunction) → slice_get p.functions number ≡ Some f →
    (scope : List ℕ) (v : PlainValue) → IsWholeValue (around (region_at p number f scope false false)) v →
    (env : Environment) (head held : List Held) (ks : List Kind) (w : State) → IsDescribed p n f.variables env head held ks w → failing_in c v env ≡ [] →
    ValueKeeps (setting_of p n (call_at n p) depth f) (IsCoveredCall p c n) held v w

-- so does the evaluation of a place
abbrev pub PlacesMakeCoveredCalls : Type 0
PlacesMakeCoveredCalls =
    (p : PlainProgram) → IsWholeProgram p → (c : Option Claims) (n : ℕ) (depth : Depth) → ResultsLie p c n (call_at n p depth) → (number : ℕ) (f : PlainFunction) → slice_get p.functions number ≡ Some f →
    (scope : List ℕ) (q : PlainPlace) → IsWholePlace (around (region_at p number f scope false false)) q →
    (env : Environment) (head held : List Held) (ks : List Kind) (w : State) → IsDescribed p n f.variables env head held ks w → failing_at c q env ≡ [] →
    PlaceKeeps (setting_of p n (call_at n p) depth f) (IsCoveredCall p c n) held q w

-- where no certificate stands, every call that is covered gives a result of its function's type
abbrev pub ResultsOfTypesLie : Type 0
ResultsOfTypesLie = (p : PlainProgram) → IsWholeProgram p → (n : ℕ) (depth : Depth) → ResultsLie p None n (call_at n p depth)
