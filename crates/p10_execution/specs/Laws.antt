-- What the pass says of a statement holds of its executions.
use Rattle.std.specs.Prelude.{◌≡◌, ℕ, Bool, List, Option, Some, slice_get}
use Rattle.p10_cert.specs.Claims.{Func}
use Rattle.p10_sums.specs.Laws.{counting_in}
use Rattle.p10_evaluation.specs.Claimed.{IsCoveredCall}
use Rattle.p10_execution.specs.Bounding.{loop_trees, AreCounted, AreMadeUp}
use Rattle.p10_core.specs.Typed.{PlainStatement, PlainFunction, PlainProgram}
use Rattle.p10_core.specs.WholePrograms.{declared_in, IsWholeStatement, IsWholeProgram}
use Rattle.p10_cert.specs.Claims.{Value, Loop, Claims}
use Rattle.p10_meaning.specs.States.{State}
use Rattle.p10_meaning.specs.Values.{Setting, Held}
use Rattle.p10_meaning.specs.Statements.{Frame, execute}
use Rattle.p10_meaning.specs.Calling.{Depth, setting_of, call_at}
use Rattle.p10_meaning.specs.Sound.{region_at}
use Rattle.p10_sums.specs.Keeping.{OnGives, StatementKeeps}
use Rattle.p10_absx.specs.Environments.{Environment}
use Rattle.p10_absx.specs.Describing.{Describes}
use Rattle.p10_pass.specs.Passing.{manner_in, pass_statement}
use Rattle.p10_evaluation.specs.Claimed.{ResultsLie}
use Rattle.p10_execution.specs.Scoping.{IsBefore}
use Rattle.p10_execution.specs.Standing.{StandsSoundly}
use Rattle.p10_execution.specs.Leaving.{NoneFails, Leaves}

-- a whole statement of a function of a whole program, executed in a sound state and a frame that an environment describes, where calls
-- that claims allow give results in the claimed ranges and none of K3, K5, K6 and K7 fails: what it gives is as the pass says
abbrev pub StatementsLeaveWhatIsSaid : Type 0
StatementsLeaveWhatIsSaid =
    (p : PlainProgram) → IsWholeProgram p → (n : ℕ) (depth : Depth) (number : ℕ) (f : PlainFunction) → slice_get p.functions number ≡ Some f →
    (calls : Option Claims) (loops : Option (List Loop)) (result : Option Value) →
    ResultsLie p calls n (call_at n p depth) →
    (scope : List ℕ) (in_loop in_switch : Bool) (x : PlainStatement) → IsWholeStatement (region_at p number f scope in_loop in_switch) x →
    (env : Environment) → IsBefore f.variables (declared_in x) env → NoneFails (pass_statement (manner_in f calls loops result) x env) →
    (head : List Held) (frame : Frame) (w : State) → StandsSoundly p f.variables n frame w → Describes f.variables env head frame.held →
    OnGives (Leaves f.variables (manner_in f calls loops result) (pass_statement (manner_in f calls loops result) x env) head)
    (execute (setting_of p n (call_at n p) depth f) x frame w)

-- in such an execution, where each loop of which the pass says that its rank doesn't stand is bounded all the same and none is the task
-- loop: it comes to calls that claims cover alone, and each loop enters its body at most as often as is claimed
abbrev pub StatementsKeepTheirClaims : Type 0
StatementsKeepTheirClaims =
    (p : PlainProgram) → IsWholeProgram p → (n : ℕ) (depth : Depth) (number : ℕ) (f : PlainFunction) → slice_get p.functions number ≡ Some f →
    (calls : Option Claims) (loops : List Loop) (result : Option Value) (functions : List Func) →
    ResultsLie p calls n (call_at n p depth) →
    (scope : List ℕ) (in_loop in_switch : Bool) (x : PlainStatement) → IsWholeStatement (region_at p number f scope in_loop in_switch) x →
    (env : Environment) → IsBefore f.variables (declared_in x) env → NoneFails (pass_statement (manner_in f calls (Some loops) result) x env) →
    AreMadeUp p n depth number f loops (pass_statement (manner_in f calls (Some loops) result) x env).weak → AreCounted f loops (loop_trees x) →
    (head : List Held) (frame : Frame) (w : State) → StandsSoundly p f.variables n frame w → Describes f.variables env head frame.held →
    let s : Setting = setting_of p n (call_at n p) depth f in StatementKeeps (counting_in s functions loops) s (IsCoveredCall p calls n) x frame w
