-- Reading statements (C99 6.8).
use Rattle.std.specs.Prelude.{ℕ, List, [], ◌∷◌, ◌++◌, drop, Some, option_map, option_and_then, cond}
use Rattle.p10_base.specs.Words.{Text}
use Rattle.p10_syn.specs.declared.sign.Sign.{Sign}
use Rattle.p10_syn.specs.declared.sign.Sign.TheVariants as sign
use Rattle.p10_syn.specs.Symbols.{Symbol}
use Rattle.p10_syn.specs.Symbols as symbol
use Rattle.p10_syn.specs.Scopes.{Scope}
use Rattle.p10_syn.specs.Declaring.{after_statement}
use Rattle.p10_syn.specs.Trees.{Bare, Expression, Optional, Absent, Present, Statement, Empty, Evaluate, Block, If, IfElse, Switch, While, Do, For, Case, Default, Label, Goto, Break, Continue, Return, Declare, Pragma, statement_row}
use Rattle.p10_pexpr.specs.Heads.{Read, heads, expected, closed_by, name_at}
use Rattle.p10_pexpr.specs.Tables.{begins_specifiers}
use Rattle.p10_pexpr.specs.Readers.{Readers}
use Rattle.p10_pexpr.specs.DeclaratorReading.{plain_name}
use Rattle.p10_parse.specs.declared.way.Way.{Way}
use Rattle.p10_parse.specs.declared.way.Way.TheVariants.{Ends, Braces, Ifs, Switches, Whiles, Dos, Fors, Cases, Defaults, Labels, Gotos, Breaks, Continues, Returns, Values}
use Rattle.p10_parse.specs.Ways.{way_at, begins_declaration}
use Rattle.p10_parse.specs.DeclarationReading.{Builders, declaration_at}

module _ (e : Readers) (r : Builders) where
  -- ## Parts of statements

  -- an expression of this level at least and the sign after it
  abbrev pub value_then : Scope → ℕ → Sign → List Symbol → Read (Expression Bare)
  value_then names level s symbols = option_and_then (λ t. closed_by s t.0 t.1) (e.expression names level symbols)

  -- the same, where the expression may be left out
  abbrev pub optional_then : Scope → Sign → List Symbol → Read (Optional Bare)
  optional_then names s symbols = cond (heads s symbols) (Some (Absent, drop 1 symbols)) (option_map (λ t. (Present t.0, t.1)) (value_then names 1 s symbols))

  -- an expression in parentheses
  abbrev pub test_at : Scope → List Symbol → Read (Expression Bare)
  test_at names symbols = option_and_then (value_then names 1 sign.Close) (expected sign.Open symbols)

  -- ## Statements, after their first word

  -- after a `{`: items up to the `}` (C99 6.8.2)
  abbrev pub block_at : Scope → List Symbol → Read (Statement Bare)
  block_at names rest = option_map (λ ss. (Block tt (statement_row ss.0), ss.1)) (r.items names [] rest)

  -- after the first part of an `if`
  abbrev pub else_at : Scope → Expression Bare → Statement Bare → List Symbol → Read (Statement Bare)
  else_at names t s rest = cond (heads sign.Else rest) (option_map (λ u. (IfElse tt t s u.0, u.1)) (r.statement names (drop 1 rest))) (Some (If tt t s, rest))

  -- after the test of an `if`
  abbrev pub if_then_at : Scope → Expression Bare → List Symbol → Read (Statement Bare)
  if_then_at names t rest = option_and_then (λ s. else_at names t s.0 s.1) (r.statement names rest)

  -- after `if`: its test, its first part, and its second part after an `else` (C99 6.8.4.1)
  abbrev pub if_at : Scope → List Symbol → Read (Statement Bare)
  if_at names rest = option_and_then (λ t. if_then_at names t.0 t.1) (test_at names rest)

  -- after `switch`: an expression in parentheses, and a statement (C99 6.8.4.2)
  abbrev pub switch_at : Scope → List Symbol → Read (Statement Bare)
  switch_at names rest = option_and_then (λ t. option_map (λ s. (Switch tt tt t.0 s.0, s.1)) (r.statement names t.1)) (test_at names rest)

  -- after `while`: a test in parentheses, and the body (C99 6.8.5.1)
  abbrev pub while_at : Scope → List Symbol → Read (Statement Bare)
  while_at names rest = option_and_then (λ t. option_map (λ s. (While tt tt t.0 s.0, s.1)) (r.statement names t.1)) (test_at names rest)

  -- after the body of a `do`
  abbrev pub do_while_at : Scope → Statement Bare → List Symbol → Read (Statement Bare)
  do_while_at names s rest =
      option_and_then (λ more. option_and_then (λ t. closed_by sign.Semicolon (Do tt tt s t.0) t.1) (test_at names more)) (expected sign.While rest)

  -- after `do`: the body, and then `while`, a test in parentheses and the `;` (C99 6.8.5.2)
  abbrev pub do_at : Scope → List Symbol → Read (Statement Bare)
  do_at names rest = option_and_then (λ s. do_while_at names s.0 s.1) (r.statement names rest)

  -- the first part of a `for`
  abbrev pub start_at : Scope → List Symbol → Read (Statement Bare)
  start_at names symbols =
      cond (begins_specifiers names symbols) (option_map (λ d. (Declare d.0, d.1)) (declaration_at e r names symbols))
      (cond (heads sign.Semicolon symbols) (Some (Empty tt, drop 1 symbols))
      (option_map (λ t. (Evaluate tt t.0, t.1)) (value_then names 1 sign.Semicolon symbols)))

  -- after the three parts of a `for`
  abbrev pub for_body_at : Scope → Statement Bare → Optional Bare → Optional Bare → List Symbol → Read (Statement Bare)
  for_body_at names start test step rest = option_map (λ s. (For tt tt start test step s.0, s.1)) (r.statement names rest)

  -- after its test
  abbrev pub for_step_at : Scope → Statement Bare → Optional Bare → List Symbol → Read (Statement Bare)
  for_step_at names start test rest = option_and_then (λ step. for_body_at names start test step.0 step.1) (optional_then names sign.Close rest)

  -- after its first part, whose names are in scope
  abbrev pub for_test_at : Scope → Statement Bare → List Symbol → Read (Statement Bare)
  for_test_at names start rest = option_and_then (λ test. for_step_at names start test.0 test.1) (optional_then names sign.Semicolon rest)

  -- after the `(` of a `for`: its first part and, in the scope after it, all that is after it
  abbrev pub for_start_at : Scope → List Symbol → Read (Statement Bare)
  for_start_at names rest = option_and_then (λ start. for_test_at (after_statement names start.0) start.0 start.1) (start_at names rest)

  -- after `for`: its three parts in parentheses, and the body (C99 6.8.5.3)
  abbrev pub for_at : Scope → List Symbol → Read (Statement Bare)
  for_at names rest = option_and_then (for_start_at names) (expected sign.Open rest)

  -- after `case`: a constant expression, the `:` and a statement (C99 6.8.1)
  abbrev pub case_at : Scope → List Symbol → Read (Statement Bare)
  case_at names rest = option_and_then (λ t. option_map (λ s. (Case tt t.0 s.0, s.1)) (r.statement names t.1)) (value_then names 3 sign.Colon rest)

  -- after `default`: the `:` and a statement (C99 6.8.1)
  abbrev pub default_at : Scope → List Symbol → Read (Statement Bare)
  default_at names rest = option_and_then (λ more. option_map (λ s. (Default tt s.0, s.1)) (r.statement names more)) (expected sign.Colon rest)

  -- after a name
  abbrev pub labelled_at : Scope → Text → List Symbol → Read (Statement Bare)
  labelled_at names x rest = option_and_then (λ more. option_map (λ s. (Label tt (plain_name x) s.0, s.1)) (r.statement names more)) (expected sign.Colon rest)

  -- a name, the `:` and a statement (C99 6.8.1)
  abbrev pub label_at : Scope → List Symbol → Read (Statement Bare)
  label_at names symbols = option_and_then (λ x. labelled_at names x.0 x.1) (name_at symbols)

  -- after `goto`: the name of a label and the `;` (C99 6.8.6.1)
  abbrev pub goto_at : List Symbol → Read (Statement Bare)
  goto_at rest = option_and_then (λ x. closed_by sign.Semicolon (Goto tt (plain_name x.0)) x.1) (name_at rest)

  -- after `return`: an expression, unless it is left out, and the `;` (C99 6.8.6.4)
  abbrev pub return_at : Scope → List Symbol → Read (Statement Bare)
  return_at names rest = option_map (λ t. (Return tt tt t.0, t.1)) (optional_then names sign.Semicolon rest)

  -- an expression and its `;` (C99 6.8.3)
  abbrev pub evaluate_at : Scope → List Symbol → Read (Statement Bare)
  evaluate_at names symbols = option_map (λ t. (Evaluate tt t.0, t.1)) (value_then names 1 sign.Semicolon symbols)

  -- the statement that begins in this way
  abbrev pub statement_by : Scope → Way → List Symbol → Read (Statement Bare)
  statement_by names Ends symbols = Some (Empty tt, drop 1 symbols)
  statement_by names Braces symbols = block_at names (drop 1 symbols)
  statement_by names Ifs symbols = if_at names (drop 1 symbols)
  statement_by names Switches symbols = switch_at names (drop 1 symbols)
  statement_by names Whiles symbols = while_at names (drop 1 symbols)
  statement_by names Dos symbols = do_at names (drop 1 symbols)
  statement_by names Fors symbols = for_at names (drop 1 symbols)
  statement_by names Cases symbols = case_at names (drop 1 symbols)
  statement_by names Defaults symbols = default_at names (drop 1 symbols)
  statement_by names Labels symbols = label_at names symbols
  statement_by names Gotos symbols = goto_at (drop 1 symbols)
  statement_by names Breaks symbols = closed_by sign.Semicolon (Break tt) (drop 1 symbols)
  statement_by names Continues symbols = closed_by sign.Semicolon (Continue tt) (drop 1 symbols)
  statement_by names Returns symbols = return_at names (drop 1 symbols)
  statement_by names Values symbols = evaluate_at names symbols

  -- a statement, in the way that its first words decide (C99 6.8)
  abbrev pub statement_once : Scope → List Symbol → Read (Statement Bare)
  statement_once names symbols = statement_by names (way_at symbols) symbols

  -- ## Blocks

  -- a declaration that is an item of a block
  abbrev pub declared_at : Scope → List Symbol → Read (Statement Bare)
  declared_at names symbols = option_map (λ d. (Declare d.0, d.1)) (declaration_at e r names symbols)

  -- a p10 pragma, a declaration or a statement (C99 6.8.2)
  abbrev pub item_at : Scope → List Symbol → Read (Statement Bare)
  item_at names (symbol.Pragma x ∷ rest) = Some (Pragma tt x, rest)
  item_at names symbols = cond (begins_declaration names symbols) (declared_at names symbols) (r.statement names symbols)

  -- one item of a block and, in the scope after it, those after it, up to the `}`
  abbrev pub items_once : Scope → List (Statement Bare) → List Symbol → Read (List (Statement Bare))
  items_once names done symbols =
      cond (heads sign.CloseBrace symbols) (Some (done, drop 1 symbols)) (option_and_then (λ s. r.items (after_statement names s.0) (done ++ s.0 ∷ []) s.1) (item_at names symbols))
