-- The trees of declarations, statements and functions of the code as the definitions see them.
use Rattle.std.specs.Prelude.{map, Option, Some, None}
use Rattle.p10_base.specs.declared.at.At.{At}
use Rattle.p10_syn.specs.declared.tree.Expr as expr
use Rattle.p10_syn.specs.declared.statement.Init as init
use Rattle.p10_syn.specs.declared.statement.InitDeclarator as declared
use Rattle.p10_syn.specs.declared.statement.Decl as declaration
use Rattle.p10_syn.specs.declared.statement.Stmt as statement
use Rattle.p10_syn.specs.declared.statement.Landmarks as landmarks
use Rattle.p10_syn.specs.declared.statement.Function as function
use Rattle.p10_syn.specs.declared.statement.Unit as whole
use Rattle.p10_syn.specs.declared.statement.Unit.TheVariants as unit
use Rattle.p10_syn.specs.Bare.{bare_initializer, bare_init_declarator, bare_declaration, bare_statement, bare_external}
use Rattle.p10_syn.specs.Built.{identifier_of, expression_of, specifiers_in, declarator_of}
use Rattle.p10_syn.specs.Trees.{Bare, statement_row, Optional, Absent, Present, Initializer, Value, Braced, Initializers, NoInitializers, MoreInitializers, InitDeclarator, Declaration, Statement, Empty, Evaluate, Block, If, IfElse, Switch, While, Do, For, Case, Default, Label, Goto, Break, Continue, Return, Declare, Pragma, Statements, NoStatements, MoreStatements, Landmarks, Definition, External, Outer, Defines}

-- an expression that may be left out
abbrev pub optional_expression : Option expr.Expr → Optional At
optional_expression None = Absent
optional_expression (Some e) = Present (expression_of e)

abbrev mutual
  -- the initialiser of the grammar that one of the code stands for
  pub initializer_of : init.Init → Initializer At
  initializer_of (init.Value e) = Value (expression_of e)
  initializer_of (init.Braced' at shape all comma) = Braced at (initializers_of all) comma

  -- the initialisers between braces of the code, in their order
  pub initializers_of : {m : _} → init.Row_of-Init m → Initializers At
  initializers_of init.end_of-Init = NoInitializers
  initializers_of (init.more_of-Init i rest) = MoreInitializers (initializer_of i) (initializers_of rest)

-- the initialiser of a declarator of the code, if it has one
abbrev pub initial_of : Option init.Init → Option (Initializer At)
initial_of None = None
initial_of (Some i) = Some (initializer_of i)

-- a declarator of a declaration of the code, with its initialiser
abbrev pub init_declarator_of : declared.InitDeclarator → InitDeclarator At
init_declarator_of d = record { place = d.at; declarator = declarator_of d.declarator; initial = initial_of d.init }

-- a declaration of the code: its specifiers and what they declare
abbrev pub declaration_of : declaration.Decl → Declaration At
declaration_of d = record { place = d.at; specifiers = specifiers_in d.specs; declarators = map init_declarator_of d.declarators.items }

abbrev mutual
  -- the statement of the grammar that one of the code stands for
  pub statement_of : statement.Stmt → Statement At
  statement_of (statement.Empty at) = Empty at
  statement_of (statement.Expr at e) = Evaluate at (expression_of e)
  statement_of (statement.Block' at shape all) = Block at (statements_of all)
  statement_of (statement.If' at e p s) = If at (expression_of e) (statement_of s)
  statement_of (statement.IfElse' at e p s q u) = IfElse at (expression_of e) (statement_of s) (statement_of u)
  statement_of (statement.Switch' at k e p s) = Switch at k (expression_of e) (statement_of s)
  statement_of (statement.While' at k e p s) = While at k (expression_of e) (statement_of s)
  statement_of (statement.Do' at k p s e) = Do at k (statement_of s) (expression_of e)
  statement_of (statement.For' at k p start test step q s) = For at k (statement_of start) (optional_expression test) (optional_expression step) (statement_of s)
  statement_of (statement.Case' at e p s) = Case at (expression_of e) (statement_of s)
  statement_of (statement.Default' at p s) = Default at (statement_of s)
  statement_of (statement.Label' at x p s) = Label at (identifier_of x) (statement_of s)
  statement_of (statement.Goto at x) = Goto at (identifier_of x)
  statement_of (statement.Break at) = Break at
  statement_of (statement.Continue at) = Continue at
  statement_of (statement.Return at k e) = Return at k (optional_expression e)
  statement_of (statement.Decl d) = Declare (declaration_of d)
  statement_of (statement.Mark at text) = Pragma at text.now

  -- the items of a block of the code, in their order
  pub statements_of : {m : _} → statement.Row_of-Stmt m → Statements At
  statements_of statement.end_of-Stmt = NoStatements
  statements_of (statement.more_of-Stmt s rest) = MoreStatements (statement_of s) (statements_of rest)

-- where the words of a function of the code stand that rules on functions ask for
abbrev pub landmarks_of : landmarks.Landmarks → Landmarks At
landmarks_of l = record { whole = l.whole; first_word = l.first_word; brace = l.brace; last_word = l.last_word }

-- a function of the code: its specifiers, its declarator and its body
abbrev pub definition_of : function.Function → Definition At
definition_of f = record { place = f.at; landmarks = landmarks_of f.landmarks; specifiers = specifiers_in f.specs; declarator = declarator_of f.declarator; body_place = f.body_at; body = statement_row (map statement_of f.body.items) }

-- a declaration outside of functions of the code, or a function of it
abbrev pub external_of : whole.Unit → External At
external_of (unit.Decl at d) = Outer at (declaration_of d)
external_of (unit.Function f) = Defines (definition_of f)

-- ## Trees of the code without their places

-- an initialiser of the code without its places
unfoldable pub bare_initializer_of : init.Init → Initializer Bare
bare_initializer_of i = bare_initializer (initializer_of i)

-- the initialiser of a declarator of the code without its places, if it has one
abbrev pub bare_initial_of : Option init.Init → Option (Initializer Bare)
bare_initial_of None = None
bare_initial_of (Some i) = Some (bare_initializer_of i)

-- a declarator of a declaration of the code, and its initialiser, without their places
unfoldable pub bare_init_declarator_of : declared.InitDeclarator → InitDeclarator Bare
bare_init_declarator_of d = bare_init_declarator (init_declarator_of d)

-- a declaration of the code without its places
unfoldable pub bare_declaration_of : declaration.Decl → Declaration Bare
bare_declaration_of d = bare_declaration (declaration_of d)

-- a statement of the code without its places
unfoldable pub bare_statement_of : statement.Stmt → Statement Bare
bare_statement_of s = bare_statement (statement_of s)

-- a declaration outside of functions of the code, or a function of it, without their places
unfoldable pub bare_external_of : whole.Unit → External Bare
bare_external_of u = bare_external (external_of u)
