-- The blocks of functions (C99 6.8.2): what each declares, and which lie in which.
use Rattle.std.specs.Prelude.{List, [], ◌∷◌, ◌++◌}
use Rattle.p10_core.specs.declared.statements.LoopKeyword.{LoopKeyword}
use Rattle.p10_core.specs.declared.statements.LoopKeyword.TheVariants.{While, Do, For}
use Rattle.p10_core.specs.Typed.{PlainStatement, statement, PlainStatementForm, declare, declare_static, block, if_then, if_else, loop, switch, PlainStatements, no_statements, more_statements, PlainFunction}
use Rattle.p10_userules.specs.declared.occurrences.Referent.{Referent}
use Rattle.p10_userules.specs.declared.occurrences.Referent.TheVariants.{Variable, Object}

-- what a statement that is an item of a block declares
abbrev pub declared_by : PlainStatement → List Referent
declared_by (statement at (declare n i)) = Variable n ∷ []
declared_by (statement at (declare_static n)) = Object n ∷ []
declared_by s = []

-- what the items of a block declare in it, and not in blocks in it (C99 6.2.1p4)
abbrev pub declared_among : PlainStatements → List Referent
declared_among no_statements = []
declared_among (more_statements s rest) = declared_by s ++ declared_among rest

-- the blocks of the parts of a loop, in text order
abbrev pub blocks_in_order : LoopKeyword → List PlainStatements → List PlainStatements → List PlainStatements → List PlainStatements
blocks_in_order While first third body = first ++ (third ++ body)
blocks_in_order For first third body = first ++ (third ++ body)
blocks_in_order Do first third body = first ++ (body ++ third)

abbrev mutual
  -- the blocks in a statement, each by its items, after those in it
  pub blocks_in : PlainStatement → List PlainStatements
  blocks_in (statement at f) = blocks_in_form f

  -- the same for a form of statement
  pub blocks_in_form : PlainStatementForm → List PlainStatements
  blocks_in_form (block ss) = blocks_among ss ++ ss ∷ []
  blocks_in_form (if_then v s) = blocks_in s
  blocks_in_form (if_else v s t) = blocks_in s ++ blocks_in t
  blocks_in_form (loop head first test third body) = blocks_in_order head.keyword (blocks_among first) (blocks_among third) (blocks_in body)
  blocks_in_form (switch span v labels body) = blocks_in body
  blocks_in_form f = []

  -- the same for statements, one after the other
  pub blocks_among : PlainStatements → List PlainStatements
  blocks_among no_statements = []
  blocks_among (more_statements s rest) = blocks_in s ++ blocks_among rest

-- the blocks of a function: those in its body, and its body
abbrev pub blocks_of : PlainFunction → List PlainStatements
blocks_of f = blocks_among f.body ++ f.body ∷ []

abbrev mutual
  -- the blocks in a statement that are reached without entering a loop, each before those in it
  pub reached_in : PlainStatement → List PlainStatements
  reached_in (statement at f) = reached_in_form f

  -- the same for a form of statement: a loop is entered for what lies in it
  pub reached_in_form : PlainStatementForm → List PlainStatements
  reached_in_form (block ss) = ss ∷ reached_among ss
  reached_in_form (if_then v s) = reached_in s
  reached_in_form (if_else v s t) = reached_in s ++ reached_in t
  reached_in_form (switch span v labels body) = reached_in body
  reached_in_form f = []

  -- the same for statements, one after the other
  pub reached_among : PlainStatements → List PlainStatements
  reached_among no_statements = []
  reached_among (more_statements s rest) = reached_in s ++ reached_among rest
