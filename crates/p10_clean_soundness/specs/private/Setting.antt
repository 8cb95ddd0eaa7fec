-- What stands for the variables in scope, where it is said which of them are set.
use Rattle.std.specs.Prelude.{◌≡◌, ℕ, Bool, true, false, List, slice_get, Option, Some, None}
use Rattle.p10_core.specs.Typed.{PlainVariable}
use Rattle.p10_core.specs.WholePrograms.{is_among}
use Rattle.p10_pass.specs.Marks.{is_marked}
use Rattle.p10_meaning.specs.declared.pointers.Scalar.{Scalar}
use Rattle.p10_meaning.specs.declared.pointers.Cell.{Cell}
use Rattle.p10_meaning.specs.Values.{Held, holds, stands, absent}
use Rattle.p10_meaning.specs.Statements.{Flow, normal, broken, continued, returned}
use Rattle.p10_clean.specs.Settings.{Settings, Ways}

-- a cell holds something
pub record IsFilled (cell : Cell) : Type 0 where
  pub scalar : Scalar
  pub is : cell.value ≡ Some scalar

-- what stands for a variable that is declared: for one of the frame a cell, which holds something where it is marked as set, and else an object
abbrev pub StandsFor : Bool → Bool → Option Held → Type 0
StandsFor frame marked (Some (holds cell)) = (frame ≡ true) × (marked ≡ true → IsFilled cell)
StandsFor frame marked (Some (stands object)) = frame ≡ false
StandsFor frame marked (Some absent) = ⊥
StandsFor frame marked None = ⊥

-- so it is for each variable in scope
pub record IsSetUp (variables : List PlainVariable) (scope : List ℕ) (marks : List Bool) (held : List Held) : Type 0 where
  pub each : (n : ℕ) (v : PlainVariable) → is_among n scope ≡ true → slice_get variables n ≡ Some v → StandsFor v.frame (is_marked marks n) (slice_get held n)

-- no variable in scope has one of these numbers
pub record AreApart (scope numbers : List ℕ) : Type 0 where
  pub each : (n : ℕ) → is_among n scope ≡ true → is_among n numbers ≡ false

-- what stands for the variables in scope, where no path may come
abbrev pub SetUp : List PlainVariable → List ℕ → Settings → List Held → Type 0
SetUp variables scope None held = ⊥
SetUp variables scope (Some marks) held = IsSetUp variables scope marks held

-- after statements, by how execution goes on: after their end other variables are in scope than before it
abbrev pub SetsAs : List PlainVariable → List ℕ → List ℕ → Ways → Flow → List Held → Type 0
SetsAs variables after scope ways normal held = SetUp variables after ways.normal held
SetsAs variables after scope ways broken held = SetUp variables scope ways.breaks held
SetsAs variables after scope ways continued held = SetUp variables scope ways.continues held
SetsAs variables after scope ways (returned x) held = Unit {0}
