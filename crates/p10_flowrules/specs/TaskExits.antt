-- Where the task loop is left, which must not end (Holzmann, "The Power of Ten", 2006, rule 2).
use Rattle.std.specs.Prelude.{ℕ, List, [], ◌∷◌, ◌++◌, Option, Some, None, slice_get}
use Rattle.p10_base.specs.declared.at.At.{At}
use Rattle.p10_core.specs.Typed.{PlainStatement, statement, PlainStatementForm, block, if_then, if_else, loop, switch, break, return, PlainStatements, no_statements, more_statements, PlainFunction, PlainProgram}
use Rattle.p10_core.specs.WholePrograms.{main_items, task_item}
use Rattle.p10_flowrules.specs.declared.exits.Breaks.{Breaks}
use Rattle.p10_flowrules.specs.declared.exits.Breaks.TheVariants.{Leave, Stay}

-- a `break` at a place, where it leaves the loop
abbrev pub exit_by_break : Breaks → At → List At
exit_by_break Leave at = at ∷ []
exit_by_break Stay at = []

abbrev mutual
  -- the statements in a statement that leave a loop in whose body it stands, in text order: each `return`, and each `break`
  -- that no loop or `switch` within this statement holds, if one here leaves the loop (C99 6.8.6.3, 6.8.6.4)
  pub exits_in : Breaks → PlainStatement → List At
  exits_in breaks (statement at f) = exits_in_form breaks at f

  -- the same for a form of statement
  pub exits_in_form : Breaks → At → PlainStatementForm → List At
  exits_in_form breaks at (block ss) = exits_of breaks ss
  exits_in_form breaks at (if_then v s) = exits_in breaks s
  exits_in_form breaks at (if_else v s t) = exits_in breaks s ++ exits_in breaks t
  exits_in_form breaks at (loop head first test third body) = exits_in Stay body
  exits_in_form breaks at (switch span v labels body) = exits_in Stay body
  exits_in_form breaks at break = exit_by_break breaks at
  exits_in_form breaks at (return span v) = at ∷ []
  exits_in_form breaks at f = []

  -- the same for statements, one after the other
  pub exits_of : Breaks → PlainStatements → List At
  exits_of breaks no_statements = []
  exits_of breaks (more_statements s rest) = exits_in breaks s ++ exits_of breaks rest

-- the statements that leave a loop
abbrev pub exits_of_loop : Option PlainStatement → List At
exits_of_loop (Some (statement at (loop head first test third body))) = exits_in Leave body
exits_of_loop s = []

-- the items of the body of `main`, if it is there
abbrev pub items_of_main : Option PlainFunction → List PlainStatement
items_of_main None = []
items_of_main (Some f) = main_items f

-- the statements that leave the loop at a place among items
abbrev pub exits_at : Option ℕ → List PlainStatement → List At
exits_at task items = exits_of_loop (task_item task items)

-- the statements that leave the task loop of a program, in text order; none where it has no task loop
abbrev pub task_exits : PlainProgram → List At
task_exits p = exits_at p.task (items_of_main (slice_get p.functions p.main))
