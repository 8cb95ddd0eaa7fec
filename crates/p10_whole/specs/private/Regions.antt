-- What stands round a statement of the code, and what the tests of statements show.
use Rattle.std.specs.Prelude.{◌≡◌, ℕ, false, List, [], ◌∷◌, ◌++◌, Option, Some, None}
use Rattle.p10_core.specs.Views.{plain_program, plain_function}
use Rattle.p10_core.specs.Typed.{PlainStatement, statement, PlainStatementForm, declare, PlainStatements, no_statements, more_statements}
use Rattle.p10_core.specs.WholePrograms.{Region, is_declaration, IsWholeStatement, IsWholeStatementForm, AreWholeStatements}
use Rattle.p10_whole.specs.declared.context.Context.{Context}
use Rattle.p10_whole.specs.private.Surroundings.{scope_of}

-- the region of a statement, by its context and the numbers of the variables that are in scope besides the parameters
abbrev pub region_in : Context → List ℕ → Region
region_in c numbers = record {
  program = plain_program c.program.now;
  number = c.number;
  function = plain_function c.function.now;
  scope = scope_of c.function.now.params numbers;
  in_loop = c.in_loop;
  in_switch = c.in_switch;
}

-- the number that a form of statement puts in the scope in which it stands: that of a variable that it declares
abbrev pub declared_by : PlainStatementForm → List ℕ
declared_by (declare n i) = n ∷ []
declared_by f = []

-- the same for a statement
abbrev pub declared_here : PlainStatement → List ℕ
declared_here (statement at f) = declared_by f

-- the same for statements, one after the other
abbrev pub all_declared_here : PlainStatements → List ℕ
all_declared_here no_statements = []
all_declared_here (more_statements s rest) = declared_here s ++ all_declared_here rest

-- a form of statement is whole where the numbers `before` are in scope, and `after` it the variable that it declares is too
pub record PassesForm (c : Context) (before : List ℕ) (f : PlainStatementForm) (after : List ℕ) : Type 0 where
  pub whole : IsWholeStatementForm (region_in c before) f
  pub scope : after ≡ before ++ declared_by f

-- the same for a statement
pub record PassesStatement (c : Context) (before : List ℕ) (s : PlainStatement) (after : List ℕ) : Type 0 where
  pub whole : IsWholeStatement (region_in c before) s
  pub scope : after ≡ before ++ declared_here s

-- the same for statements, one after the other
pub record PassesStatements (c : Context) (before : List ℕ) (ss : PlainStatements) (after : List ℕ) : Type 0 where
  pub whole : AreWholeStatements (region_in c before) ss
  pub scope : after ≡ before ++ all_declared_here ss

-- a statement that is a part of another one is whole, declares nothing, and leaves the scope as it was
pub record PassesPart (c : Context) (before : List ℕ) (s : PlainStatement) (after : List ℕ) : Type 0 where
  pub whole : IsWholeStatement (region_in c before) s
  pub no_declaration : is_declaration s ≡ false
  pub scope : after ≡ before

-- the same for the second branch of an `if`, if there is one
abbrev pub PassesBranch : Context → List ℕ → Option PlainStatement → List ℕ → Type 0
PassesBranch c before None after = after ≡ before
PassesBranch c before (Some s) after = PassesPart c before s after

-- a form of statement without statements in it that declares no variable
pub record IsSimple (c : Context) (numbers : List ℕ) (f : PlainStatementForm) : Type 0 where
  pub whole : IsWholeStatementForm (region_in c numbers) f
  pub declares_none : declared_by f ≡ []
