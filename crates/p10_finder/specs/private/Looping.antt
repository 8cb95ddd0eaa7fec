-- Whether statements have loops.
use Rattle.std.specs.Prelude.{◌||◌, Bool, true, false}
use Rattle.p10_core.specs.Typed.{PlainStatement, statement, PlainStatementForm, block, if_then, if_else, loop, switch, PlainStatements, no_statements, more_statements}

abbrev mutual
  -- whether a statement is a loop, or one stands in it
  pub has_loop : PlainStatement → Bool
  has_loop (statement at form) = has_loop_form form

  -- the same for a form of statement
  pub has_loop_form : PlainStatementForm → Bool
  has_loop_form (block xs) = have_loop xs
  has_loop_form (if_then v x) = has_loop x
  has_loop_form (if_else v x y) = has_loop x || has_loop y
  has_loop_form (loop head first tested third body) = true
  has_loop_form (switch keyword v labels body) = has_loop body
  has_loop_form form = false

  -- the same for one of several statements
  pub have_loop : PlainStatements → Bool
  have_loop no_statements = false
  have_loop (more_statements x rest) = has_loop x || have_loop rest
