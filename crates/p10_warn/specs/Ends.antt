-- Whether the end of a statement can be reached, by syntax (C99 6.8.6, 6.9.1p12; row 8 of rule 10).
use Rattle.std.specs.Prelude.{ℕ, nat_eq, not, Bool, true, false, ◌&&◌, ◌||◌, if◌then◌else◌, Option, Some, None}
use Rattle.p10_core.specs.Rows.{is_void}
use Rattle.p10_core.specs.Typed.{PlainFunction, PlainValue, PlainStatement, statement, PlainStatementForm, block, if_then, if_else, loop, break, continue, return, PlainStatements, no_statements, more_statements}
use Rattle.p10_core.specs.WholePrograms.{is_true_test}

abbrev mutual
  -- whether a statement has a `break` that leaves what stands round it: none in another loop or in a `switch` (C99 6.8.6.3)
  pub has_break : PlainStatement → Bool
  has_break (statement at f) = has_break_form f

  -- the same for a form of statement
  pub has_break_form : PlainStatementForm → Bool
  has_break_form break = true
  has_break_form (block ss) = have_break ss
  has_break_form (if_then v s) = has_break s
  has_break_form (if_else v s t) = has_break s || has_break t
  has_break_form f = false

  -- whether one of the statements has one
  pub have_break : PlainStatements → Bool
  have_break no_statements = false
  have_break (more_statements s rest) = has_break s || have_break rest

-- whether a loop has no condition, or a constant one other than 0
abbrev pub is_endless : Option PlainValue → Bool
is_endless None = true
is_endless (Some v) = is_true_test v

abbrev mutual
  -- whether the end of a statement can be reached. A jump doesn't reach its end; an `if` without `else` and a `switch` do; a loop
  -- without a condition, or with a constant one other than 0, does only by a `break`
  pub reaches_end : PlainStatement → Bool
  reaches_end (statement at f) = reaches_end_form f

  -- the same for a form of statement
  pub reaches_end_form : PlainStatementForm → Bool
  reaches_end_form break = false
  reaches_end_form continue = false
  reaches_end_form (return span v) = false
  reaches_end_form (block ss) = reach_end ss
  reaches_end_form (if_else v s t) = reaches_end s || reaches_end t
  reaches_end_form (loop head first test third body) = if is_endless test then has_break body else true
  reaches_end_form f = true

  -- whether that of each statement of a block can be
  pub reach_end : PlainStatements → Bool
  reach_end no_statements = true
  reach_end (more_statements s rest) = reaches_end s && reach_end rest

-- whether a function that isn't `main` has a result and an end that is reached
abbrev pub lacks_return : ℕ → ℕ → PlainFunction → Bool
lacks_return main n f = not (nat_eq n main) && (not (is_void f.result) && reach_end f.body)
