-- Marks that a walk over statements leaves of the variables that they assign or declare.
use Rattle.std.specs.Prelude.{Bool, true, List, slice_set}
use Rattle.p10_core.specs.Typed.{PlainPlace, place, variable, PlainStatement, statement, PlainStatementForm, set, update, declare, block, if_then, if_else, loop, switch, PlainStatements, no_statements, more_statements}

-- marks after a place is assigned
abbrev pub marks_place : PlainPlace → List Bool → List Bool
marks_place (place at t (variable n)) marks = slice_set marks n true
marks_place p marks = marks

abbrev mutual
  -- marks after a statement
  pub marks_statement : PlainStatement → List Bool → List Bool
  marks_statement (statement at form) marks = marks_form form marks

  -- the same of a form of statement
  pub marks_form : PlainStatementForm → List Bool → List Bool
  marks_form (set p v) marks = marks_place p marks
  marks_form (update kind op t p v) marks = marks_place p marks
  marks_form (declare n initializer) marks = slice_set marks n true
  marks_form (block ss) marks = marks_all ss marks
  marks_form (if_then v s) marks = marks_statement s marks
  marks_form (if_else v s t) marks = marks_statement t (marks_statement s marks)
  marks_form (loop head first test third body) marks = marks_statement body (marks_all third (marks_all first marks))
  marks_form (switch keyword v labels body) marks = marks_statement body marks
  marks_form form marks = marks

  -- the same of statements, one after the other
  pub marks_all : PlainStatements → List Bool → List Bool
  marks_all no_statements marks = marks
  marks_all (more_statements s rest) marks = marks_all rest (marks_statement s marks)
