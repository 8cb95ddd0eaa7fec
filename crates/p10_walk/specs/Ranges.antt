-- The domain of ranges: what a trial pass knows of a function's integer variables.
use Rattle.std.specs.Prelude.{ℕ, List, None}
use Rattle.p10_core.specs.Typed.{PlainStatementForm, declare, PlainVariable}
use Rattle.p10_meaning.specs.Values.{Held}
use Rattle.p10_absx.specs.Environments.{Environment, out_of_scope, hull_environment}
use Rattle.p10_absx.specs.Assessing.{assume_of}
use Rattle.p10_absx.specs.Describing.{Describes}
use Rattle.p10_pass.specs.Scopes.{left_scope, assigned_forgotten}
use Rattle.p10_pass.specs.Arguments.{has_value}
use Rattle.p10_pass.specs.Passing.{pass_form, trial_manner}
use Rattle.p10_execution.specs.Scoping.{KnowsNumbers}
use Rattle.p10_walk.specs.Operations.{Operations}

-- before a statement: of a variable that it declares nothing is known
abbrev pub before : PlainStatementForm → Environment → Environment
before (declare n initializer) env = out_of_scope env n
before form env = env

-- the operations are those of the trial pass
abbrev pub ranges_of : List PlainVariable → Operations Environment
ranges_of variables = record {
  after = λ form env. (pass_form (trial_manner variables) form (before form env)).normal;
  assume = λ truth v env. assume_of None v truth env;
  has_value = λ v env. has_value None v env;
  hull = hull_environment;
  left_scope = left_scope;
  forget = λ marks env. assigned_forgotten marks variables env;
}

-- an environment describes a frame, and knows integer frame variables alone
pub record DescribesNumbers (variables : List PlainVariable) (env : Environment) (head held : List Held) : Type 0 where
  pub describes : Describes variables env head held
  pub knows : KnowsNumbers variables env
