-- How large trees are.
use Rattle.std.proofs.Common.{ℕ, ◌+◌, List, [], ◌∷◌, Option, Some, None}
use Rattle.p10_syn.specs.Trees.{Bare, Initializer, Value, Braced, Initializers, NoInitializers, MoreInitializers, InitDeclarator, Declaration, Statement, Empty, Evaluate, Block, If, IfElse, Switch, While, Do, For, Case, Default, Label, Goto, Break, Continue, Return, Declare, Pragma, Statements, NoStatements, MoreStatements, External, Outer, Defines}
use Rattle.p10_pexpr.proofs.Sizes.{size, optional_size, specifiers_size, declarator_size}

abbrev mutual
  pub initializer_size : Initializer Bare → ℕ
  initializer_size (Value t) = 1 + size t
  initializer_size (Braced p is comma) = 1 + initializers_size is

  pub initializers_size : Initializers Bare → ℕ
  initializers_size NoInitializers = 0
  initializers_size (MoreInitializers i is) = 1 + (initializer_size i + initializers_size is)

abbrev pub initial_size : Option (Initializer Bare) → ℕ
initial_size None = 0
initial_size (Some i) = 1 + initializer_size i

abbrev pub init_declarator_size : InitDeclarator Bare → ℕ
init_declarator_size d = 1 + (declarator_size d.declarator + initial_size d.initial)

abbrev pub declarators_size : List (InitDeclarator Bare) → ℕ
declarators_size [] = 0
declarators_size (d ∷ ds) = 1 + (init_declarator_size d + declarators_size ds)

abbrev pub declaration_size : Declaration Bare → ℕ
declaration_size d = 1 + (specifiers_size d.specifiers + declarators_size d.declarators)

abbrev mutual
  pub statement_size : Statement Bare → ℕ
  statement_size (Empty p) = 1
  statement_size (Evaluate p t) = 1 + size t
  statement_size (Block p ss) = 1 + statements_size ss
  statement_size (If p t s) = 1 + (size t + statement_size s)
  statement_size (IfElse p t s u) = 1 + (size t + (statement_size s + statement_size u))
  statement_size (Switch p k t s) = 1 + (size t + statement_size s)
  statement_size (While p k t s) = 1 + (size t + statement_size s)
  statement_size (Do p k s t) = 1 + (statement_size s + size t)
  statement_size (For p k start test step s) = 1 + (statement_size start + (optional_size test + (optional_size step + statement_size s)))
  statement_size (Case p t s) = 1 + (size t + statement_size s)
  statement_size (Default p s) = 1 + statement_size s
  statement_size (Label p x s) = 1 + statement_size s
  statement_size (Goto p x) = 1
  statement_size (Break p) = 1
  statement_size (Continue p) = 1
  statement_size (Return p k t) = 1 + optional_size t
  statement_size (Declare d) = 1 + declaration_size d
  statement_size (Pragma p x) = 1

  pub statements_size : Statements Bare → ℕ
  statements_size NoStatements = 0
  statements_size (MoreStatements s ss) = 1 + (statement_size s + statements_size ss)

abbrev pub external_size : External Bare → ℕ
external_size (Outer p d) = declaration_size d
external_size (Defines d) = 1 + (specifiers_size d.specifiers + (declarator_size d.declarator + statements_size d.body))
