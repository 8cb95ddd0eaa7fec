-- What a rank and evidence are worth: a loop enters its body no more often than is claimed.
use Rattle.std.specs.Prelude.{◌≡◌, ℕ, Bool, true, List, slice_get, Option, Some}
use Rattle.p10_core.specs.Typed.{PlainFunction, PlainProgram}
use Rattle.p10_core.specs.WholePrograms.{declared_in, IsWholeStatementForm, IsWholeProgram}
use Rattle.p10_cert.specs.Claims.{Value, Loop, Claims}
use Rattle.p10_meaning.specs.States.{State}
use Rattle.p10_meaning.specs.Values.{Setting}
use Rattle.p10_meaning.specs.Statements.{Frame, test, round}
use Rattle.p10_meaning.specs.Calling.{Depth, setting_of, call_at}
use Rattle.p10_meaning.specs.Sound.{region_at}
use Rattle.p10_absx.specs.Environments.{Environment}
use Rattle.p10_pass.specs.Passing.{manner_in}
use Rattle.p10_evaluation.specs.Claimed.{ResultsLie}
use Rattle.p10_execution.specs.Scoping.{IsBefore}
use Rattle.p10_execution.specs.Standing.{StandsSoundly}
use Rattle.p10_turns.specs.Entrances.{EntersAtMost}
use Rattle.p10_turns.specs.LoopParts.{LoopParts, form_of, loops_among}
use Rattle.p10_turns.specs.Ranked.{RangesDescribe, StandsByRank}
use Rattle.p10_turns.specs.Evidence.{stands_by_ranges}

-- a loop of a function enters its body at most as often as is claimed, after its first clause, from each sound state and each frame that
-- the ranges of its entry environment describe, at each bound on the steps that are left
abbrev pub KeepsTurns : PlainProgram → PlainFunction → LoopParts → Environment → Loop → ℕ → Depth → Type 0
KeepsTurns p f l entry claim n depth =
    (frame : Frame) (w : State) → StandsSoundly p f.variables n frame w → RangesDescribe f.variables entry frame.held →
    let s : Setting = setting_of p n (call_at n p) depth f in EntersAtMost l.head.keyword claim.turns (test s l.tested) (round s l.third l.body) frame w

-- a whole loop whose claim stands by its rank in a pass keeps its turns, where calls that claims cover give results in the claimed ranges
abbrev pub RanksBoundTurns : Type 0
RanksBoundTurns =
    (p : PlainProgram) → IsWholeProgram p → (n : ℕ) (depth : Depth) (number : ℕ) (f : PlainFunction) → slice_get p.functions number ≡ Some f →
    (calls : Option Claims) (loops : Option (List Loop)) (result : Option Value) → ResultsLie p calls n (call_at n p depth) →
    (scope : List ℕ) (in_loop in_switch : Bool) (l : LoopParts) → IsWholeStatementForm (region_at p number f scope in_loop in_switch) (form_of l) →
    (claim : Loop) (entry : Environment) → IsBefore f.variables (declared_in l.body) entry → StandsByRank (manner_in f calls loops result) claim l entry →
    KeepsTurns p f l entry claim n depth

-- what is asked of evidence: where it stands for a loop of a function, by their numbers, with an entry environment as it may be there and
-- a claim, the loop keeps the claim's turns
abbrev pub IsLawful : PlainProgram → (ℕ → ℕ → Environment → Loop → Bool) → Type 0
IsLawful p stands =
    (number : ℕ) (f : PlainFunction) → slice_get p.functions number ≡ Some f → (k : ℕ) (l : LoopParts) → slice_get (loops_among f.body) k ≡ Some l →
    (entry : Environment) → IsBefore f.variables (declared_in l.body) entry → (claim : Loop) → stands number k entry claim ≡ true →
    (n : ℕ) (depth : Depth) → KeepsTurns p f l entry claim n depth

-- the evidence of ranges is lawful
abbrev pub RangesAreLawful : Type 0
RangesAreLawful = (p : PlainProgram) → IsWholeProgram p → IsLawful p (stands_by_ranges p)

-- the loops of a whole function have the numbers of their places in text order
abbrev pub LoopsAreNumbered : Type 0
LoopsAreNumbered =
    (p : PlainProgram) → IsWholeProgram p → (number : ℕ) (f : PlainFunction) → slice_get p.functions number ≡ Some f →
    (k : ℕ) (l : LoopParts) → slice_get (loops_among f.body) k ≡ Some l → l.head.number ≡ k
