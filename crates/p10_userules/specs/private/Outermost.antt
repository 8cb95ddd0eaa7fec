-- The outermost blocks in statements that are reached without entering a loop.
use Rattle.std.specs.Prelude.{List, [], ◌∷◌, ◌++◌}
use Rattle.p10_core.specs.Typed.{PlainStatement, statement, PlainStatementForm, block, if_then, if_else, switch, PlainStatements, no_statements, more_statements}

abbrev mutual
  -- those in a statement
  pub outermost_in : PlainStatement → List PlainStatements
  outermost_in (statement at f) = outermost_in_form f

  -- those in a form of statement
  pub outermost_in_form : PlainStatementForm → List PlainStatements
  outermost_in_form (block ss) = ss ∷ []
  outermost_in_form (if_then v s) = outermost_in s
  outermost_in_form (if_else v s t) = outermost_in s ++ outermost_in t
  outermost_in_form (switch span v labels body) = outermost_in body
  outermost_in_form f = []

  -- those in statements
  pub outermost_among : PlainStatements → List PlainStatements
  outermost_among no_statements = []
  outermost_among (more_statements s rest) = outermost_in s ++ outermost_among rest
