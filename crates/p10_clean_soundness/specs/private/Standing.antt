-- Where a statement of a function stands in a clean run, and what calls leave there.
use Rattle.std.specs.Prelude.{◌≡◌, ℕ, false, List, Option}
use Rattle.p10_core.specs.Rows.{is_void}
use Rattle.p10_core.specs.Typed.{PlainVariable, PlainProgram}
use Rattle.p10_cert.specs.Claims.{Claims}
use Rattle.p10_meaning.specs.declared.pointers.Scalar.{Scalar}
use Rattle.p10_meaning.specs.States.{State}
use Rattle.p10_meaning.specs.Values.{Calls}
use Rattle.p10_meaning.specs.Statements.{Frame}
use Rattle.p10_clean.specs.Settings.{Settings}
use Rattle.p10_evaluation.specs.Claimed.{IsCoveredCall}
use Rattle.p10_execution.specs.Standing.{StandsSoundly}
use Rattle.p10_clean_soundness.specs.private.Stays.{Stays, HasValue}
use Rattle.p10_clean_soundness.specs.private.Setting.{SetUp}
use Rattle.p10_clean_soundness.specs.private.Objects.{Settled, AreLive, LeavesClean}

-- a sound state and a frame with some variables in scope, of which some are set, while the objects with some numbers are being initialised
pub record StandsClean (p : PlainProgram) (variables : List PlainVariable) (n : ℕ) (scope opening : List ℕ) (settings : Settings) (frame : Frame) (w : State) : Type 0 where
  pub soundly : StandsSoundly p variables n frame w
  pub set_up : SetUp variables scope settings frame.held
  pub live : AreLive opening scope frame.held w.objects
  pub settled : Settled p opening w.objects

-- calls that claims cover don't end in an undefined operation, and give a value where their function has a result
pub record CallsStayClean (p : PlainProgram) (c : Option Claims) (bound : ℕ) (calls : Calls) : Type 0 where
  pub stay : (g : ℕ) (xs : List Scalar) (w : State) → (covered : IsCoveredCall p c bound g xs w) → (opening : List ℕ) → Settled p opening w.objects →
      Stays (λ x u. LeavesClean p opening w.objects u × (is_void covered.callee.result ≡ false → HasValue x)) (calls g xs w)
