-- What expressions become as statements and as tests is whole.
use Rattle.std.specs.Prelude.{◌≡◌, false, Some, Ok}
use Rattle.p10_base.specs.declared.at.At.{At}
use Rattle.p10_int.specs.declared.types.IntType.{IntType}
use Rattle.p10_int.specs.Types.{promoted}
use Rattle.p10_syn.specs.Trees.{Expression}
use Rattle.p10_core.specs.Types.{PlainType, integer}
use Rattle.p10_core.specs.Typed.{PlainValue, type_of, PlainStatementForm, set, update, copy, evaluate}
use Rattle.p10_core.specs.Rows.{is_void}
use Rattle.p10_core.specs.Whole.{Surroundings, IsWholeValue}
use Rattle.p10_core.specs.WholePrograms.{Sets, Updates, Copies, IsTest, Returns}
use Rattle.p10_elabx.specs.First.{every, on}
use Rattle.p10_elabx.specs.Scopes.{PlainScope}
use Rattle.p10_elabx.specs.Operands.{as_value}
use Rattle.p10_elabx.specs.Judging.{judge}
use Rattle.p10_elabx.specs.Wholeness.{Stands, AreAllowed}
use Rattle.p10_elabs.specs.Expressions.{form_found, tested, switched}
use Rattle.p10_elabs.specs.Statements.{returned}

-- an assignment, a step or a value that isn't void is whole; of `assert` nothing is said here, nor of a value that is void
abbrev pub IsWholeExpression : Surroundings → PlainStatementForm → Type 0
IsWholeExpression c (set p v) = Sets c p v
IsWholeExpression c (update kind op t p v) = Updates c kind op t p v
IsWholeExpression c (copy p q) = Copies c p q
IsWholeExpression c (evaluate v) = is_void (type_of v) ≡ false → IsWholeValue c v
IsWholeExpression c f = Unit {0}

-- what an expression becomes as a statement is, where the scope's names stand for what is there
abbrev pub ExpressionsAreWhole : Type 0
ExpressionsAreWhole = (c : Surroundings) (s : PlainScope) (e : Expression At) (f : PlainStatementForm) → Stands c s → AreAllowed s e →
    form_found every s e ≡ Ok f → IsWholeExpression c f

-- a value of an integer type that is promoted
pub record IsSwitched (c : Surroundings) (v : PlainValue) : Type 0 where
  pub whole : IsWholeValue c v
  pub kind : IntType
  pub type_is : type_of v ≡ integer false kind
  pub promoted_is : promoted kind ≡ kind

-- a test is a scalar, the value of a `switch` an integer, and what a `return` gives has the type of the result
pub record TestsAreWhole : Type 0 where
  pub tests : (c : Surroundings) (s : PlainScope) (e : Expression At) (v : PlainValue) → Stands c s → AreAllowed s e →
      on (as_value s.structures (judge every s e)).found tested ≡ Ok v → IsTest c v
  pub switches : (c : Surroundings) (s : PlainScope) (e : Expression At) (v : PlainValue) → Stands c s → AreAllowed s e →
      on (as_value s.structures (judge every s e)).found switched ≡ Ok v → IsSwitched c v
  pub results : (c : Surroundings) (s : PlainScope) (e : Expression At) (v : PlainValue) (at : At) (t : PlainType) → Stands c s → AreAllowed s e →
      on (as_value s.structures (judge every s e)).found (returned at t) ≡ Ok v → Returns c t (Some v)
