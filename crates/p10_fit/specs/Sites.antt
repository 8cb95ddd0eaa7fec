-- The loops of a function, with what is in scope at each.
use Rattle.std.specs.Prelude.{ℕ, ◌+◌, nat_eq, List, [], ◌∷◌, ◌++◌, Option, Some, None, if◌then◌else◌}
use Rattle.p10_core.specs.declared.statements.LoopHead.{LoopHead}
use Rattle.p10_core.specs.Typed.{PlainStatement, statement, PlainStatementForm, declare, block, if_then, if_else, loop, switch, PlainStatements, no_statements, more_statements, PlainFunction, PlainProgram}
use Rattle.p10_core.specs.WholePrograms.{numbers_from, main_items, task_item}

-- a loop: how many loops of its function it stands in, what it begins with, and the numbers of the variables that are in scope at
-- it, which for `for` are those of its first clause too (C99 6.2.1p4, 6.8.5p5)
pub record LoopSite : Type 0 where
  pub depth : ℕ
  pub head : LoopHead
  pub scope : List ℕ

-- the variables in scope after a statement: a declaration adds its own
abbrev pub in_scope_after : List ℕ → PlainStatement → List ℕ
in_scope_after scope (statement at (declare n i)) = scope ++ (n ∷ [])
in_scope_after scope s = scope

-- the variables in scope after statements
abbrev pub in_scope_after_all : List ℕ → PlainStatements → List ℕ
in_scope_after_all scope no_statements = scope
in_scope_after_all scope (more_statements s rest) = in_scope_after_all (in_scope_after scope s) rest

abbrev mutual
  -- the loops in a statement that stands in a number of loops, in text order
  pub loop_sites_in : ℕ → List ℕ → PlainStatement → List LoopSite
  loop_sites_in depth scope (statement at f) = loop_sites_in_form depth scope f

  -- the same for a form of statement
  pub loop_sites_in_form : ℕ → List ℕ → PlainStatementForm → List LoopSite
  loop_sites_in_form depth scope (block ss) = loop_sites_of depth scope ss
  loop_sites_in_form depth scope (if_then v s) = loop_sites_in depth scope s
  loop_sites_in_form depth scope (if_else v s t) = loop_sites_in depth scope s ++ loop_sites_in depth scope t
  loop_sites_in_form depth scope (loop head first test third body) =
      record { depth = depth; head = head; scope = in_scope_after_all scope first } ∷ loop_sites_in (depth + 1) (in_scope_after_all scope first) body
  loop_sites_in_form depth scope (switch span v labels body) = loop_sites_in depth scope body
  loop_sites_in_form depth scope f = []

  -- the same for statements, one after the other: each sees what those before it declare
  pub loop_sites_of : ℕ → List ℕ → PlainStatements → List LoopSite
  loop_sites_of depth scope no_statements = []
  loop_sites_of depth scope (more_statements s rest) = loop_sites_in depth scope s ++ loop_sites_of depth (in_scope_after scope s) rest

-- the loops of a function, in text order
abbrev pub loop_sites : PlainFunction → List LoopSite
loop_sites f = loop_sites_of 0 (numbers_from 0 f.parameters) f.body

-- the number of the loop that an item is, if it is one
abbrev pub loop_number : Option PlainStatement → Option ℕ
loop_number (Some (statement at (loop head first test third body))) = Some head.number
loop_number s = None

-- the number of the loop that stands at a place among items
abbrev pub loop_number_at : List PlainStatement → Option ℕ → Option ℕ
loop_number_at items task = loop_number (task_item task items)

-- the number of the task loop among the loops of the function with a number, if it has the task
abbrev pub task_loop_number : PlainProgram → ℕ → PlainFunction → Option ℕ
task_loop_number p n f = if nat_eq n p.main then loop_number_at (main_items f) p.task else None
