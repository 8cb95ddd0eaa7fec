-- What is set after the statements of a function, from each frame that fits it.
use Rattle.std.proofs.Common.{◌≡◌, ℕ, Bool, List, refl, Some}
use Rattle.std.specs.Prelude.{slice_get}
use Rattle.p10_core.specs.Typed.{PlainStatement, PlainStatements, PlainVariable, PlainFunction, PlainProgram}
use Rattle.p10_core.specs.WholePrograms.{declared_in, declared_of, IsWholeVariable, IsWholeStatement, AreWholeStatements, IsWholeFunction, IsWholeProgram}
use Rattle.p10_meaning.specs.States.{State}
use Rattle.p10_meaning.specs.Values.{Calls, Setting, Held}
use Rattle.p10_meaning.specs.Statements.{Frame, execute, execute_from}
use Rattle.p10_meaning.specs.Calling.{Depth, setting_of}
use Rattle.p10_meaning.specs.Sound.{Kind, FrameFits, region_at}
use Rattle.p10_meaning.proofs.LaidOut.{all_at}
use Rattle.p10_meaning.proofs.SoundStatements.{scope_after, scope_after_all}
use Rattle.p10_sums.specs.Keeping.{HoldsOf}
use Rattle.p10_execution.specs.Scoping.{AreOnce}
use Rattle.p10_execution.proofs.Giving.{holds_weaker}
use Rattle.p10_execution.proofs.Frames.{held_there}
use Rattle.p10_clean.specs.Settings.{Settings, ways_of, ways_of_all}
use Rattle.p10_clean_soundness.specs.private.Setting.{SetUp, SetsAs, AreApart}
use Rattle.p10_clean_soundness.proofs.SettingUp.{HasRoom}
use Rattle.p10_clean_soundness.proofs.SettingFlows.{Sets}
use Rattle.p10_clean_soundness.proofs.SettingStatements.{IsOf, statement_sets, statements_set}

-- ## Frames that fit

pub fits_room : (p : PlainProgram) (ks : List Kind) (variables : List PlainVariable) (held : List Held) → FrameFits p ks variables held → HasRoom variables held
fits_room p ks variables held fits = record { room = λ n v e. held_there p ks variables held n v fits e }

-- ## Statements of a function

module _ (p : PlainProgram) (whole : IsWholeProgram p) (n : ℕ) (call : Depth → Calls) (depth : Depth) (number : ℕ) (f : PlainFunction) (there : slice_get p.functions number ≡ Some f) where
  abbrev pub s : Setting
  s = setting_of p n call depth f

  pub of_function : (scope : List ℕ) (l b : Bool) → IsOf s (region_at p number f scope l b)
  of_function scope l b =
      let function : IsWholeFunction p number f = whole.functions number f there in
      record { variables = refl; scalars = λ k v e frame. (all_at (λ v. IsWholeVariable p.structures v) f.variables k v function.variables e).frame_scalar frame }

  -- what is set after a statement
  pub sets_in_function : (x : PlainStatement) (scope : List ℕ) (l b : Bool) → IsWholeStatement (region_at p number f scope l b) x → AreOnce (declared_in x) → AreApart scope (declared_in x) → (settings : Settings) (ks : List Kind) (frame : Frame) (w : State) → FrameFits p ks f.variables frame.held →
      SetUp f.variables scope settings frame.held → HoldsOf (λ d w. SetsAs f.variables (scope_after x scope) scope (ways_of x settings) d.flow d.frame.held) (execute s x frame w)
  sets_in_function x scope l b i once apart settings ks frame w fits u =
      holds_weaker (Sets f.variables (scope_after x scope) scope (ways_of x settings)) (λ d w. SetsAs f.variables (scope_after x scope) scope (ways_of x settings) d.flow d.frame.held) (execute s x frame w)
      (statement_sets s x (region_at p number f scope l b) (of_function scope l b) i scope once apart settings frame w u (fits_room p ks f.variables frame.held fits)) (λ d w h. h.0)

  -- ... and after statements
  pub all_set_in_function : (xs : PlainStatements) (scope : List ℕ) (l b : Bool) → AreWholeStatements (region_at p number f scope l b) xs → AreOnce (declared_of xs) → AreApart scope (declared_of xs) → (settings : Settings) (ks : List Kind) (frame : Frame) (w : State) → FrameFits p ks f.variables frame.held →
      SetUp f.variables scope settings frame.held → HoldsOf (λ d w. SetsAs f.variables (scope_after_all xs scope) scope (ways_of_all xs settings) d.flow d.frame.held) (execute_from s 0 xs frame w)
  all_set_in_function xs scope l b i once apart settings ks frame w fits u =
      holds_weaker (Sets f.variables (scope_after_all xs scope) scope (ways_of_all xs settings)) (λ d w. SetsAs f.variables (scope_after_all xs scope) scope (ways_of_all xs settings) d.flow d.frame.held) (execute_from s 0 xs frame w)
      (statements_set s xs (region_at p number f scope l b) (of_function scope l b) i scope once apart settings frame w u (fits_room p ks f.variables frame.held fits)) (λ d w h. h.0)
