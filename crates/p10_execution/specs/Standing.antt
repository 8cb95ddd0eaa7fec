-- Where a statement of a function stands in a run: a sound state, and a frame of its function.
use Rattle.std.specs.Prelude.{◌≡◌, ℕ, ◌≤◌, true, List, Some, slice_get}
use Rattle.p10_core.specs.Typed.{PlainVariable, PlainProgram}
use Rattle.p10_meaning.specs.States.{State}
use Rattle.p10_meaning.specs.Values.{Held, stands}
use Rattle.p10_meaning.specs.Statements.{Frame}
use Rattle.p10_meaning.specs.Sound.{Kind, Sound, FrameFits}

-- no object stands for a frame variable: its value is in the frame, or it isn't declared yet
pub record AreInFrame (variables : List PlainVariable) (held : List Held) : Type 0 where
  pub no_object : (n : ℕ) (v : PlainVariable) (object : ℕ) → slice_get variables n ≡ Some v → v.frame ≡ true → slice_get held n ≡ Some (stands object) → ⊥

-- a sound state with at most n steps left, and a frame that fits a function's variables
pub record StandsSoundly (p : PlainProgram) (variables : List PlainVariable) (n : ℕ) (frame : Frame) (w : State) : Type 0 where
  pub kinds : List Kind
  pub sound : Sound p kinds w
  pub fits : FrameFits p kinds variables frame.held
  pub in_frame : AreInFrame variables frame.held
  pub left : w.left ≤ n
