-- Evidence over any domain: a rank that is positive where a loop's body is entered, and falls on each way back, bounds the loop's turns.
use Rattle.std.specs.Prelude.{ℕ, Bool, List, ℤ, pos, ◌-ℤ◌, ◌≤ℤ◌}
use Rattle.p10_core.specs.Typed.{PlainFunction, PlainProgram}
use Rattle.p10_core.specs.WholePrograms.{declared_in, IsWholeStatementForm}
use Rattle.p10_meaning.specs.States.{State}
use Rattle.p10_meaning.specs.Values.{Setting, Held}
use Rattle.p10_meaning.specs.Statements.{Frame, test, round}
use Rattle.p10_meaning.specs.Calling.{Depth, setting_of, call_at}
use Rattle.p10_meaning.specs.Sound.{region_at}
use Rattle.p10_execution.specs.Scoping.{AreOnce}
use Rattle.p10_execution.specs.Standing.{StandsSoundly}
use Rattle.p10_turns.specs.Entrances.{EntersAtMost}
use Rattle.p10_turns.specs.LoopParts.{LoopParts, form_of}
use Rattle.p10_walk.specs.Operations.{Operations}
use Rattle.p10_walk.specs.Walking.{Round, round_of}
use Rattle.p10_walk.specs.Soundness.{Maybe}

-- the round of a loop from something that is known at its head
abbrev pub round_from : {K : Type 0} → Operations K → LoopParts → K → Round K
round_from o t h = round_of o t.head.keyword t.tested t.third t.body h

-- what is known at the head describes each frame that comes back to it, as the head's; a rank, of what the variables hold, is at least 1
-- where the body is entered, and has fallen on each way back (Turing, "Checking a large routine", 1949)
pub record Ranks (K : Type 0) (o : Operations K) (D : K → List Held → List Held → Type 0) (t : LoopParts) (h : K) (rank : List Held → ℤ) : Type 0 where
  pub again : (head held : List Held) → Maybe D (round_from o t h).back head held → D h held held
  pub positive : (head : List Held) → Maybe D (round_from o t h).enters head head → pos 1 ≤ℤ rank head
  pub falls : (head held : List Held) → Maybe D (round_from o t h).back head held → rank held ≤ℤ (rank head -ℤ pos 1)

-- the law of evidence over a domain: from each frame that is described at the head the loop enters its body at most as often as the rank says
abbrev pub RanksBoundTurns : PlainProgram → ℕ → Depth → ℕ → PlainFunction → (K : Type 0) → Operations K → (K → List Held → List Held → Type 0) → Type 0
RanksBoundTurns p n depth number f K o D =
    (scope : List ℕ) (l b : Bool) (t : LoopParts) → IsWholeStatementForm (region_at p number f scope l b) (form_of t) → AreOnce (declared_in t.body) →
    (h : K) (rank : List Held → ℤ) → Ranks K o D t h rank →
    (k : ℕ) (frame : Frame) (w : State) → StandsSoundly p f.variables n frame w → D h frame.held frame.held → rank frame.held ≤ℤ pos k →
    let s : Setting = setting_of p n (call_at n p) depth f in EntersAtMost t.head.keyword k (test s t.tested) (round s t.third t.body) frame w
