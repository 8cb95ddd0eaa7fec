-- The loops of a function by their numbers, and a round of one in a pass.
use Rattle.std.specs.Prelude.{List, [], ◌∷◌, ◌++◌, Option, Some, None}
use Rattle.p10_core.specs.declared.statements.LoopHead.{LoopHead}
use Rattle.p10_core.specs.Typed.{PlainValue, PlainStatement, statement, PlainStatementForm, block, if_then, if_else, loop, switch, PlainStatements, no_statements, more_statements}
use Rattle.p10_cert.specs.Claims.{Loop}
use Rattle.p10_absx.specs.Environments.{Environment}
use Rattle.p10_pass.specs.Claiming.{head_of}
use Rattle.p10_pass.specs.Passing.{Manner, Round, round_of, pass_statement, pass_statements}

-- what a loop consists of
pub record LoopParts : Type 0 where
  pub head : LoopHead
  pub first : PlainStatements
  pub tested : Option PlainValue
  pub third : PlainStatements
  pub body : PlainStatement

-- the form of statement that the parts make
abbrev pub form_of : LoopParts → PlainStatementForm
form_of l = loop l.head l.first l.tested l.third l.body

-- what a statement consists of, if it is a loop
abbrev pub parts_of : PlainStatement → Option LoopParts
parts_of (statement at (loop head first tested third body)) = Some (record { head = head; first = first; tested = tested; third = third; body = body })
parts_of s = None

abbrev mutual
  -- the loops in a statement, in text order of their keywords, which is that of their numbers
  pub loops_within : PlainStatement → List LoopParts
  loops_within (statement at form) = loops_within_form form

  -- the same for a form of statement
  pub loops_within_form : PlainStatementForm → List LoopParts
  loops_within_form (block ss) = loops_among ss
  loops_within_form (if_then v s) = loops_within s
  loops_within_form (if_else v s t) = loops_within s ++ loops_within t
  loops_within_form (loop head first tested third body) = record { head = head; first = first; tested = tested; third = third; body = body } ∷ loops_within body
  loops_within_form (switch keyword v labels body) = loops_within body
  loops_within_form form = []

  -- the same for statements, one after the other
  pub loops_among : PlainStatements → List LoopParts
  loops_among no_statements = []
  loops_among (more_statements s rest) = loops_within s ++ loops_among rest

-- one round of a loop in a pass, from the head that its claim gives it at an entry environment
abbrev pub round_under : Manner → Loop → LoopParts → Environment → Round
round_under m claim l entry =
    round_of m l.head.keyword l.tested (λ env. pass_statements m l.third env) (λ env. pass_statement m l.body env) (head_of claim m.variables entry)
