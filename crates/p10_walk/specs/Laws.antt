-- What the walk and its evidence are worth, over ranges; other domains have the same laws by the same lemmas.
use Rattle.std.specs.Prelude.{◌≡◌, ℕ, Bool, List, slice_get, Some}
use Rattle.p10_core.specs.Typed.{PlainStatement, PlainFunction, PlainProgram}
use Rattle.p10_core.specs.WholePrograms.{declared_in, IsWholeStatement, IsWholeProgram}
use Rattle.p10_meaning.specs.States.{State}
use Rattle.p10_meaning.specs.Values.{Held}
use Rattle.p10_meaning.specs.Statements.{Frame, Done, execute}
use Rattle.p10_meaning.specs.Calling.{Depth, setting_of, call_at}
use Rattle.p10_meaning.specs.Sound.{region_at}
use Rattle.p10_sums.specs.Keeping.{OnGives}
use Rattle.p10_absx.specs.Environments.{Environment}
use Rattle.p10_execution.specs.Scoping.{AreOnce}
use Rattle.p10_execution.specs.Standing.{StandsSoundly}
use Rattle.p10_walk.specs.Operations.{Operations}
use Rattle.p10_walk.specs.Walking.{walk}
use Rattle.p10_walk.specs.Soundness.{LeavesAs, IsSound}
use Rattle.p10_walk.specs.Turns.{RanksBoundTurns}
use Rattle.p10_walk.specs.Ranges.{ranges_of, DescribesNumbers}

-- a walk is sound: a whole statement whose declarations have a number each leaves a frame as the walk says
abbrev pub WalksAreSound : PlainProgram → ℕ → Depth → ℕ → PlainFunction → (K : Type 0) → Operations K → (K → List Held → List Held → Type 0) → Type 0
WalksAreSound p n depth number f K o D =
    (scope : List ℕ) (l b : Bool) (x : PlainStatement) → IsWholeStatement (region_at p number f scope l b) x → AreOnce (declared_in x) →
    (e : K) (head : List Held) (frame : Frame) (w : State) → StandsSoundly p f.variables n frame w → D e head frame.held →
    OnGives (λ (done : Done) w. LeavesAs D (walk o x e) head done.flow done.frame.held) (execute (setting_of p n (call_at n p) depth f) x frame w)

-- ranges are a sound domain
abbrev pub RangesAreSound : Type 0
RangesAreSound =
    (p : PlainProgram) → IsWholeProgram p → (n : ℕ) (depth : Depth) (number : ℕ) (f : PlainFunction) → slice_get p.functions number ≡ Some f →
    IsSound p n depth number f Environment (ranges_of f.variables) (DescribesNumbers f.variables)

-- so the walk over them is sound
abbrev pub RangesOfWalksHold : Type 0
RangesOfWalksHold =
    (p : PlainProgram) → IsWholeProgram p → (n : ℕ) (depth : Depth) (number : ℕ) (f : PlainFunction) → slice_get p.functions number ≡ Some f →
    WalksAreSound p n depth number f Environment (ranges_of f.variables) (DescribesNumbers f.variables)

-- and ranks over them bound turns
abbrev pub RanksOverRangesBoundTurns : Type 0
RanksOverRangesBoundTurns =
    (p : PlainProgram) → IsWholeProgram p → (n : ℕ) (depth : Depth) (number : ℕ) (f : PlainFunction) → slice_get p.functions number ≡ Some f →
    RanksBoundTurns p n depth number f Environment (ranges_of f.variables) (DescribesNumbers f.variables)
