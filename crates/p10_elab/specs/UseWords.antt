-- Where a use of a name is told that nothing defines: at its word, also where that stands in parentheses.
use Rattle.std.specs.Prelude.{ℕ, ◌+◌, ◌-◌, ◌/◌, nat_eq, if◌then◌else◌, List, [], ◌∷◌, Option, Some, None}
use Rattle.std.specs.Option.{unwrap_or}
use Rattle.p10_base.specs.declared.at.At.{At}
use Rattle.p10_elabx.specs.declared.problem.Problem.{Problem}
use Rattle.p10_syn.specs.Trees.{Expression, expression, Name, Number, Character, Strings, Unary, Step, Binary, Assign, Conditional, Call, Index, Member, Arrow, Cast, SizeofExpression, SizeofType, Comma, Expressions, NoExpressions, MoreExpressions, Optional, Absent, Present, Initializer, Value, Braced, Initializers, NoInitializers, MoreInitializers, InitDeclarator, Statement, Empty, Evaluate, Block, If, IfElse, Switch, While, Do, For, Case, Default, Label, Goto, Break, Continue, Return, Declare, Pragma, Statements, NoStatements, MoreStatements, External, Outer, Defines}

-- ## The name whose word has a number

-- what was found before, or else a name's place, if its word has the number
abbrev pub found_here : ℕ → Option At → At → Option At
found_here n (Some word) at = Some word
found_here n None at = if nat_eq at.first n then Some at else None

abbrev mutual
  -- the place of the name in an expression whose word has a number, or what was found before: in an operand of `sizeof` and in a type
  -- nothing is used
  pub word_in : ℕ → Option At → Expression At → Option At
  word_in n found (expression at k (Name x)) = found_here n found x.place
  word_in n found (expression at k (Number text)) = found
  word_in n found (expression at k (Character text)) = found
  word_in n found (expression at k (Strings texts)) = found
  word_in n found (expression at k (Unary word e)) = word_in n found e
  word_in n found (expression at k (Step side word e)) = word_in n found e
  word_in n found (expression at k (Binary word a b)) = word_in n (word_in n found a) b
  word_in n found (expression at k (Assign word a b)) = word_in n (word_in n found a) b
  word_in n found (expression at k (Conditional c a b)) = word_in n (word_in n (word_in n found c) a) b
  word_in n found (expression at k (Call e all)) = word_in_all n (word_in n found e) all
  word_in n found (expression at k (Index a i)) = word_in n (word_in n found a) i
  word_in n found (expression at k (Member e name)) = word_in n found e
  word_in n found (expression at k (Arrow e name)) = word_in n found e
  word_in n found (expression at k (Cast t e)) = word_in n found e
  word_in n found (expression at k (SizeofExpression e)) = found
  word_in n found (expression at k (SizeofType t)) = found
  word_in n found (expression at k (Comma all)) = word_in_all n found all

  -- the same of expressions in a row
  pub word_in_all : ℕ → Option At → Expressions At → Option At
  word_in_all n found NoExpressions = found
  word_in_all n found (MoreExpressions e rest) = word_in_all n (word_in n found e) rest

-- the same of an expression that may be left out
abbrev pub word_in_optional : ℕ → Option At → Optional At → Option At
word_in_optional n found Absent = found
word_in_optional n found (Present e) = word_in n found e

abbrev mutual
  -- the same of an initialiser
  pub word_in_initializer : ℕ → Option At → Initializer At → Option At
  word_in_initializer n found (Value e) = word_in n found e
  word_in_initializer n found (Braced at items comma) = word_in_items n found items

  -- the same of the items of a list
  pub word_in_items : ℕ → Option At → Initializers At → Option At
  word_in_items n found NoInitializers = found
  word_in_items n found (MoreInitializers i rest) = word_in_items n (word_in_initializer n found i) rest

-- the same of an initialiser that may be left out
abbrev pub word_in_initial : ℕ → Option At → Option (Initializer At) → Option At
word_in_initial n found None = found
word_in_initial n found (Some i) = word_in_initializer n found i

-- the same of the initialisers of declarators
abbrev pub word_in_declarators : ℕ → Option At → List (InitDeclarator At) → Option At
word_in_declarators n found [] = found
word_in_declarators n found (d ∷ rest) = word_in_declarators n (word_in_initial n found d.initial) rest

abbrev mutual
  -- the same of a statement
  pub word_in_statement : ℕ → Option At → Statement At → Option At
  word_in_statement n found (Empty at) = found
  word_in_statement n found (Evaluate at e) = word_in n found e
  word_in_statement n found (Block at ss) = word_in_statements n found ss
  word_in_statement n found (If at e s) = word_in_statement n (word_in n found e) s
  word_in_statement n found (IfElse at e s t) = word_in_statement n (word_in_statement n (word_in n found e) s) t
  word_in_statement n found (Switch at k e s) = word_in_statement n (word_in n found e) s
  word_in_statement n found (While at k e s) = word_in_statement n (word_in n found e) s
  word_in_statement n found (Do at k s e) = word_in n (word_in_statement n found s) e
  word_in_statement n found (For at k start test step s) =
      word_in_statement n (word_in_optional n (word_in_optional n (word_in_statement n found start) test) step) s
  word_in_statement n found (Case at e s) = word_in_statement n (word_in n found e) s
  word_in_statement n found (Default at s) = word_in_statement n found s
  word_in_statement n found (Label at name s) = word_in_statement n found s
  word_in_statement n found (Goto at name) = found
  word_in_statement n found (Break at) = found
  word_in_statement n found (Continue at) = found
  word_in_statement n found (Return at k e) = word_in_optional n found e
  word_in_statement n found (Declare d) = word_in_declarators n found d.declarators
  word_in_statement n found (Pragma at text) = found

  -- the same of statements in a row
  pub word_in_statements : ℕ → Option At → Statements At → Option At
  word_in_statements n found NoStatements = found
  word_in_statements n found (MoreStatements s rest) = word_in_statements n (word_in_statement n found s) rest

-- the same of a declaration or function
abbrev pub word_in_external : ℕ → Option At → External At → Option At
word_in_external n found (Outer p d) = word_in_declarators n found d.declarators
word_in_external n found (Defines d) = word_in_statements n found d.body

-- the same of declarations and functions in a row
abbrev pub word_in_externals : ℕ → Option At → List (External At) → Option At
word_in_externals n found [] = found
word_in_externals n found (e ∷ rest) = word_in_externals n (word_in_external n found e) rest

-- ## A use in parentheses

-- the number of the word in the middle of a tree: before the name in a tree of parentheses stand as many words as after it
abbrev pub middle_of : At → ℕ
middle_of at = at.first + (at.past - at.first) / 2

-- a use of a name at its word
abbrev pub use_at_word : List (External At) → Problem → Problem
use_at_word all r = record { code = r.code; at = unwrap_or (word_in_externals (middle_of r.at) None all) r.at }
