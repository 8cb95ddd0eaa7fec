-- What holds of all that a pass knows.
use Rattle.std.specs.Prelude.{ℕ, Bool, List, Option}
use Rattle.p10_core.specs.Typed.{PlainStatement, PlainFunction, PlainProgram}
use Rattle.p10_core.specs.WholePrograms.{IsWholeStatement}
use Rattle.p10_cert.specs.Claims.{Value, Loop, Claims}
use Rattle.p10_meaning.specs.Sound.{region_at}
use Rattle.p10_absx.specs.Environments.{Environment}
use Rattle.p10_pass.specs.Passing.{manner_in, pass_statement}
use Rattle.p10_known.specs.Typing.{AreOfTypes, EndsOfTypes, LoopsOfTypes, ResultsOfTypes}

-- a pass over a whole statement of a function: where each range that is known before it, and each that is claimed of results and at
-- loops, has a number and only numbers of its type, so has each that is known at an end of the statement, and what it returns
abbrev pub PassesKeepTypes : Type 0
PassesKeepTypes =
    (p : PlainProgram) (number : ℕ) (f : PlainFunction) (calls : Option Claims) (loops : Option (List Loop)) (result : Option Value) →
    ResultsOfTypes p calls → LoopsOfTypes f.variables loops →
    (scope : List ℕ) (in_loop in_switch : Bool) (x : PlainStatement) → IsWholeStatement (region_at p number f scope in_loop in_switch) x →
    (env : Environment) → AreOfTypes f.variables env → EndsOfTypes f.variables f.result (pass_statement (manner_in f calls loops result) x env)
