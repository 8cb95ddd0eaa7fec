-- Reading expressions (C99 6.5).
use Rattle.std.specs.Prelude.{ℕ, suc, nat_le, ◌+◌, List, [], ◌∷◌, ◌++◌, drop, ◌&&◌, Some, None, option_map, option_and_then, cond}
use Rattle.p10_base.specs.Words.{Text}
use Rattle.p10_syn.specs.declared.sign.Sign.{Sign}
use Rattle.p10_syn.specs.declared.sign.Sign.TheVariants as sign
use Rattle.p10_syn.specs.declared.place.Side.TheVariants.{Before, After}
use Rattle.p10_syn.specs.Symbols.{Symbol, Fixed}
use Rattle.p10_syn.specs.Symbols as symbol
use Rattle.p10_syn.specs.Scopes.{Scope, is_type}
use Rattle.p10_syn.specs.Precedence.{binary_level, level_of}
use Rattle.p10_syn.specs.Trees.{Bare, Expression, expression, Form, Name, Number, Character, Strings, Unary, Step, Binary, Assign, Conditional, Call, Index, Member, Arrow, Cast, SizeofExpression, SizeofType, Comma, NoExpressions, MoreExpressions, expression_row, TypeName}
use Rattle.p10_pexpr.specs.declared.next.Next.{Next}
use Rattle.p10_pexpr.specs.declared.next.Next.TheVariants.{Joins, Sets, Asks, Lists, Indexes, Calls, Selects, Points, Counts, Quotes, Ends}
use Rattle.p10_pexpr.specs.declared.next.Start.{Start}
use Rattle.p10_pexpr.specs.declared.next.Start.TheVariants.{Groups, Operates, Steps, Measures, Nothing}
use Rattle.p10_pexpr.specs.Heads.{Read, heads, expected, closed_by, name_at}
use Rattle.p10_pexpr.specs.Tables.{next_at, goes_on, start_of, begins_specifiers}
use Rattle.p10_pexpr.specs.Readers.{Readers}
use Rattle.p10_pexpr.specs.DeclaratorReading.{plain_name, type_name_at}

-- an expression without parentheses round it
abbrev pub plain : Form Bare → Expression Bare
plain f = expression tt 0 f

-- with one more pair of parentheses
abbrev pub wrapped : Expression Bare → Expression Bare
wrapped (expression p n f) = expression p (suc n) f

-- strings after those that were read before
abbrev pub strings_from : List Text → List Symbol → List Text × List Symbol
strings_from done [] = (done, [])
strings_from done (symbol.String x ∷ rest) = strings_from (done ++ x ∷ []) rest
strings_from done (x ∷ rest) = (done, x ∷ rest)

-- adjacent strings, of which the first is this
abbrev pub strings_at : Text → List Symbol → Expression Bare × List Symbol
strings_at x rest = (plain (Strings (strings_from (x ∷ []) rest).0), (strings_from (x ∷ []) rest).1)

-- a name that is no typedef name
abbrev pub variable_at : Scope → Text → List Symbol → Read (Expression Bare)
variable_at names x rest = cond (is_type names x) None (Some (plain (Name (plain_name x)), rest))

module _ (r : Readers) where
  -- ## Operands

  -- after the name of a type in a cast
  abbrev pub cast_of : Scope → TypeName Bare → List Symbol → Read (Expression Bare)
  cast_of names k rest = option_map (λ t. (plain (Cast k t.0), t.1)) (r.expression names 14 rest)

  -- after the `(` of a cast
  abbrev pub cast_at : Scope → List Symbol → Read (Expression Bare)
  cast_at names rest = option_and_then (λ k. option_and_then (cast_of names k.0) (expected sign.Close k.1)) (type_name_at r names rest)

  -- after a `(`
  abbrev pub parenthesised_at : Scope → List Symbol → Read (Expression Bare)
  parenthesised_at names rest = option_and_then (λ t. closed_by sign.Close (wrapped t.0) t.1) (r.expression names 1 rest)

  -- after a `(`: a cast where specifiers begin (C99 6.5.4), or else an expression in parentheses (C99 6.5.1)
  abbrev pub group_at : Scope → List Symbol → Read (Expression Bare)
  group_at names rest = cond (begins_specifiers names rest) (cast_at names rest) (parenthesised_at names rest)

  -- after the `(` of a `sizeof`
  abbrev pub sizeof_type_at : Scope → List Symbol → Read (Expression Bare)
  sizeof_type_at names rest = option_and_then (λ k. closed_by sign.Close (plain (SizeofType k.0)) k.1) (type_name_at r names rest)

  -- after `sizeof`: a unary expression (C99 6.5.3.4)
  abbrev pub sizeof_expression_at : Scope → List Symbol → Read (Expression Bare)
  sizeof_expression_at names rest = option_map (λ t. (plain (SizeofExpression t.0), t.1)) (r.expression names 15 rest)

  -- after `sizeof`
  abbrev pub sizeof_at : Scope → List Symbol → Read (Expression Bare)
  sizeof_at names rest =
      cond (heads sign.Open rest && begins_specifiers names (drop 1 rest)) (sizeof_type_at names (drop 1 rest)) (sizeof_expression_at names rest)

  -- after an operator before its one operand, which is a cast expression (C99 6.5.3)
  abbrev pub unary_at : Scope → Sign → List Symbol → Read (Expression Bare)
  unary_at names s rest = option_map (λ t. (plain (Unary s t.0), t.1)) (r.expression names 14 rest)

  -- after a `++` or `--` before its operand, which is a unary expression (C99 6.5.3.1)
  abbrev pub step_at : Scope → Sign → List Symbol → Read (Expression Bare)
  step_at names s rest = option_map (λ t. (plain (Step Before s t.0), t.1)) (r.expression names 15 rest)

  -- after a keyword or punctuator that begins this
  abbrev pub operand_by : Scope → Start → List Symbol → Read (Expression Bare)
  operand_by names Groups rest = group_at names rest
  operand_by names (Operates s) rest = unary_at names s rest
  operand_by names (Steps s) rest = step_at names s rest
  operand_by names Measures rest = sizeof_at names rest
  operand_by names Nothing rest = None

  -- a name, a constant, strings, parentheses, or an operator before its operand (C99 6.5.1, 6.5.3, 6.5.4)
  abbrev pub operand_at : Scope → List Symbol → Read (Expression Bare)
  operand_at names (symbol.Name x ∷ rest) = variable_at names x rest
  operand_at names (symbol.Number x ∷ rest) = Some (plain (Number x), rest)
  operand_at names (symbol.Character x ∷ rest) = Some (plain (Character x), rest)
  operand_at names (symbol.String x ∷ rest) = Some (strings_at x rest)
  operand_at names (Fixed s ∷ rest) = operand_by names (start_of s) rest
  operand_at names _ = None

  -- ## Further parts

  -- after an operator between two operands: the right one, which holds more tightly than it (C99 6.5.5 to 6.5.14)
  abbrev pub join_at : Scope → Expression Bare → Sign → List Symbol → Read (Expression Bare)
  join_at names left s rest = option_map (λ t. (plain (Binary s left t.0), t.1)) (r.expression names (binary_level s + 1) rest)

  -- after an assignment operator: an assignment expression (C99 6.5.16)
  abbrev pub assign_at : Scope → Expression Bare → Sign → List Symbol → Read (Expression Bare)
  assign_at names left s rest = option_map (λ t. (plain (Assign s left t.0), t.1)) (r.expression names 2 rest)

  -- after the `:`
  abbrev pub otherwise_at : Scope → Expression Bare → Expression Bare → List Symbol → Read (Expression Bare)
  otherwise_at names left a rest = option_map (λ b. (plain (Conditional left a b.0), b.1)) (r.expression names 3 rest)

  -- after the `?`
  abbrev pub conditional_at : Scope → Expression Bare → List Symbol → Read (Expression Bare)
  conditional_at names left rest =
      option_and_then (λ a. option_and_then (otherwise_at names left a.0) (expected sign.Colon a.1)) (r.expression names 1 rest)

  -- after the first `,` of a comma operator: all further operands (C99 6.5.17)
  abbrev pub comma_at : Scope → Expression Bare → List Symbol → Read (Expression Bare)
  comma_at names left rest = option_map (λ ts. (plain (Comma (MoreExpressions left (expression_row ts.0))), ts.1)) (r.list names [] rest)

  -- after a `[`: an expression and the `]` (C99 6.5.2.1)
  abbrev pub index_at : Scope → Expression Bare → List Symbol → Read (Expression Bare)
  index_at names left rest = option_and_then (λ t. closed_by sign.CloseSquare (plain (Index left t.0)) t.1) (r.expression names 1 rest)

  -- at least one argument and the `)` (C99 6.5.2.2)
  abbrev pub arguments_at : Scope → Expression Bare → List Symbol → Read (Expression Bare)
  arguments_at names left rest = option_and_then (λ ts. closed_by sign.Close (plain (Call left (expression_row ts.0))) ts.1) (r.list names [] rest)

  -- after the `(` of a call: its arguments, if there are any, and the `)` (C99 6.5.2.2)
  abbrev pub call_at : Scope → Expression Bare → List Symbol → Read (Expression Bare)
  call_at names left rest = cond (heads sign.Close rest) (Some (plain (Call left NoExpressions), drop 1 rest)) (arguments_at names left rest)

  -- after a `.`: the name of a member (C99 6.5.2.3)
  abbrev pub member_of : Expression Bare → List Symbol → Read (Expression Bare)
  member_of left rest = option_map (λ x. (plain (Member left (plain_name x.0)), x.1)) (name_at rest)

  -- after a `->`: the name of a member (C99 6.5.2.3)
  abbrev pub arrow_of : Expression Bare → List Symbol → Read (Expression Bare)
  arrow_of left rest = option_map (λ x. (plain (Arrow left (plain_name x.0)), x.1)) (name_at rest)

  -- after the word that goes on with an expression in this way
  abbrev pub part_by : Scope → Expression Bare → Next → List Symbol → Read (Expression Bare)
  part_by names left (Joins s) rest = join_at names left s rest
  part_by names left (Sets s) rest = assign_at names left s rest
  part_by names left Asks rest = conditional_at names left rest
  part_by names left Lists rest = comma_at names left rest
  part_by names left Indexes rest = index_at names left rest
  part_by names left Calls rest = call_at names left rest
  part_by names left Selects rest = member_of left rest
  part_by names left Points rest = arrow_of left rest
  part_by names left (Counts s) rest = Some (plain (Step After s left), rest)
  part_by names left Quotes rest = None
  part_by names left Ends rest = None

  -- one further part of an expression, and then what goes on with both
  abbrev pub chain_on : Scope → ℕ → Expression Bare → List Symbol → Read (Expression Bare)
  chain_on names level left symbols = option_and_then (λ t. r.chain names level t.0 t.1) (part_by names left (next_at symbols) (drop 1 symbols))

  -- further parts as long as the next word goes on with the expression, and then the expression ends
  abbrev pub chain_once : Scope → ℕ → Expression Bare → List Symbol → Read (Expression Bare)
  chain_once names level left symbols =
      cond (goes_on level (level_of left) (next_at symbols)) (chain_on names level left symbols) (Some (left, symbols))

  -- an operand that holds less tightly than what is read is none
  abbrev pub chain_of : Scope → ℕ → Expression Bare → List Symbol → Read (Expression Bare)
  chain_of names level left rest = cond (nat_le level (level_of left)) (r.chain names level left rest) None

  -- an operand and what goes on with it, where an expression of this level at least is read
  abbrev pub expression_once : Scope → ℕ → List Symbol → Read (Expression Bare)
  expression_once names level symbols = option_and_then (λ t. chain_of names level t.0 t.1) (operand_at names symbols)

  -- ## Lists

  -- after an expression: a `,` and what is after it, or the end of the list
  abbrev pub list_more : Scope → List (Expression Bare) → List Symbol → Read (List (Expression Bare))
  list_more names done rest = cond (heads sign.Comma rest) (r.list names done (drop 1 rest)) (Some (done, rest))

  -- an assignment expression and those after it, with commas between them
  abbrev pub list_once : Scope → List (Expression Bare) → List Symbol → Read (List (Expression Bare))
  list_once names done symbols = option_and_then (λ t. list_more names (done ++ t.0 ∷ []) t.1) (r.expression names 2 symbols)
