-- What is known where, exactly.
use Rattle.std.specs.Prelude.{ℕ, Bool, List, Option}
use Rattle.p10_core.specs.Typed.{PlainStatement, PlainFunction, PlainProgram}
use Rattle.p10_core.specs.WholePrograms.{numbers_from, declared_in, IsWholeStatement}
use Rattle.p10_cert.specs.Claims.{Value, Loop, Func, Claims}
use Rattle.p10_meaning.specs.Sound.{region_at}
use Rattle.p10_absx.specs.Environments.{Environment}
use Rattle.p10_absx.specs.Entering.{entry_of_function}
use Rattle.p10_pass.specs.Passing.{manner_in, pass_statement}
use Rattle.p10_known.specs.Typing.{AreOfTypes, LoopsOfTypes, ResultsOfTypes}
use Rattle.p10_scopes.specs.Knowing.{KnowsScope, EndsInScope, AreNew}

-- where a function begins exactly its integer frame parameters are known, whatever is claimed of it
abbrev pub FunctionsBeginWithParameters : Type 0
FunctionsBeginWithParameters = (f : PlainFunction) (claim : Option Func) → KnowsScope f (numbers_from 0 f.parameters) (entry_of_function claim f)

-- a pass over a whole statement of a function, whose own variables are new: where exactly the integer frame variables in scope are known
-- before it, with ranges of their types, they are at each of its ends
abbrev pub PassesKnowTheirScope : Type 0
PassesKnowTheirScope =
    (p : PlainProgram) (number : ℕ) (f : PlainFunction) (calls : Option Claims) (loops : Option (List Loop)) (result : Option Value) →
    ResultsOfTypes p calls → LoopsOfTypes f.variables loops →
    (scope : List ℕ) (in_loop in_switch : Bool) (x : PlainStatement) → IsWholeStatement (region_at p number f scope in_loop in_switch) x → AreNew scope (declared_in x) →
    (env : Environment) → AreOfTypes f.variables env → KnowsScope f scope env → EndsInScope f scope x (pass_statement (manner_in f calls loops result) x env)
