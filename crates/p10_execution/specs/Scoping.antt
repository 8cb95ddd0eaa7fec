-- Which variables an environment may know where a statement stands.
use Rattle.std.specs.Prelude.{◌≡◌, ℕ, true, false, is_some, List, [], ◌∷◌, Some, slice_get}
use Rattle.p10_core.specs.Rows.{is_integer}
use Rattle.p10_core.specs.Typed.{PlainVariable}
use Rattle.p10_core.specs.WholePrograms.{is_among}
use Rattle.p10_absx.specs.Environments.{Environment, known}

-- each number of a list stands in it once
abbrev pub AreOnce : List ℕ → Type 0
AreOnce [] = Unit {0}
AreOnce (n ∷ ns) = (is_among n ns ≡ false) × AreOnce ns

-- a variable of a function that has an integer type and is held in the frame
pub record IsNumber (variables : List PlainVariable) (n : ℕ) : Type 0 where
  pub variable : PlainVariable
  pub there : slice_get variables n ≡ Some variable
  pub frame_is : variable.frame ≡ true
  pub integer_is : is_integer variable.type ≡ true

-- an environment knows integer frame variables alone
pub record KnowsNumbers (variables : List PlainVariable) (env : Environment) : Type 0 where
  pub each : (n : ℕ) → is_some (known env n) ≡ true → IsNumber variables n

-- an environment as it is before statements that declare variables with these numbers, each once: none of them is in scope yet
pub record IsBefore (variables : List PlainVariable) (numbers : List ℕ) (env : Environment) : Type 0 where
  pub knows : KnowsNumbers variables env
  pub once : AreOnce numbers
  pub fresh : (n : ℕ) → is_among n numbers ≡ true → is_some (known env n) ≡ false
