-- How much is to be done before the next step is taken: each act takes a step, or leaves less.
use Rattle.std.specs.Prelude.{ℕ, suc, ◌+◌, List, [], ◌∷◌, Option, Some, None, length}
use Rattle.p10_core.specs.Typed.{PlainStatement, statement, PlainStatementForm, block, PlainStatements, no_statements, more_statements}
use Rattle.p10_interp.specs.private.Tasks.{Task, evaluate_items, decide, choose, execute_statement, execute_statements, branch, begin_loop, enter_turn, end_turn, select}

abbrev mutual
  -- a block's statements are met without a step; any other statement that pushes tasks takes one
  pub weight_of_statement : PlainStatement → ℕ
  weight_of_statement (statement at form) = weight_of_form form

  pub weight_of_form : PlainStatementForm → ℕ
  weight_of_form (block xs) = weight_of_statements xs + 2
  weight_of_form form = 1

  pub weight_of_statements : PlainStatements → ℕ
  weight_of_statements no_statements = 1
  weight_of_statements (more_statements x xs) = weight_of_statement x + weight_of_statements xs

abbrev pub weight_of_branch : Option PlainStatement → ℕ
weight_of_branch None = 0
weight_of_branch (Some b) = weight_of_statement b

-- what a task may push before the next step, and one for itself
abbrev pub weight : Task → ℕ
weight (evaluate_items items) = suc (length items)
weight (decide op v) = 3
weight (choose a b) = 2
weight (execute_statement x) = weight_of_statement x
weight (execute_statements xs) = weight_of_statements xs
weight (branch a b) = weight_of_statement a + weight_of_branch b + 1
weight (begin_loop keyword loop) = weight_of_statement loop.body + weight_of_statements loop.third + 4
weight (enter_turn loop) = weight_of_statement loop.body + weight_of_statements loop.third + 4
weight (end_turn loop) = weight_of_statements loop.third + 2
weight (select labels body) = weight_of_statement body + 1
weight task = 1

abbrev pub weights : List Task → ℕ
weights [] = 0
weights (t ∷ k) = weight t + weights k
