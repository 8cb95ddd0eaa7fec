-- The parts of trees, with what rules ask of where they stand (C99 6.5 to 6.9).
use Rattle.std.specs.Prelude.{List, [], ◌∷◌, ◌++◌, Bool, true, false, Option, Some, None}
use Rattle.std.specs.List.{flat_map}
use Rattle.p10_base.specs.declared.at.At.{At}
use Rattle.p10_syn.specs.Declaring.{makes_types}
use Rattle.p10_syn.specs.Trees.{Identifier, Expression, expression, Form, Name, Number, Character, Strings, Unary, Step, Binary, Assign, Conditional, Call, Index, Member, Arrow, Cast, SizeofExpression, SizeofType, Comma, Expressions, NoExpressions, MoreExpressions, Optional, Absent, Present, TypeName, type_name, Specifiers, NoSpecifiers, MoreSpecifiers, Specifier, Keyword, Typedef, Structure, Enumeration, Members, NoMembers, MoreMembers, MemberDeclaration, member_declaration, Fields, NoFields, MoreFields, Field, field, Enumerators, NoEnumerators, MoreEnumerators, Enumerator, enumerator, Declarator, Named, Unnamed, Pointer, Parenthesised, Array, Function, Parameters, NoParameters, MoreParameters, Parameter, parameter}
use Rattle.p10_syn.specs.Trees.{Initializer, Value, Braced, Initializers, NoInitializers, MoreInitializers, InitDeclarator, Declaration, Statement, Empty, Evaluate, Block, If, IfElse, Switch, While, Do, For, Case, Default, Label, Goto, Break, Continue, Return, Declare, Pragma, Statements, NoStatements, MoreStatements, Definition, External, Outer, Defines}

-- a part of a tree that rules look at
pub data Part : Type 0 where
  -- an expression (C99 6.5), and whether it stands in the condition of an `if` (C99 6.8.4.1)
  ExpressionPart : Bool → Expression At → Part
  -- a whole declarator (C99 6.7.5, 6.7.6), and whether it makes its name a typedef name (C99 6.7.7)
  DeclaratorPart : Bool → Declarator At → Part
  -- a statement (C99 6.8), or a declaration in a block or at the head of a `for`
  StatementPart : Statement At → Part
  -- a word that is a name, in any use: of an object, a function, a type, a member, a tag or a label (C99 6.2.3)
  NamePart : Identifier At → Part

-- ## Expressions, types and declarators

-- the name of a structure, union or enumeration, if it has one
abbrev pub tag_parts : Option (Identifier At) → List Part
tag_parts None = []
tag_parts (Some x) = NamePart x ∷ []

abbrev mutual
  -- the parts of an expression, the whole one first; each stands in the condition of an `if` where the whole does
  pub expression_parts : Bool → Expression At → List Part
  expression_parts within (expression p n f) = ExpressionPart within (expression p n f) ∷ form_parts within f

  -- those of its operands and names
  pub form_parts : Bool → Form At → List Part
  form_parts within (Name x) = NamePart x ∷ []
  form_parts within (Number x) = []
  form_parts within (Character x) = []
  form_parts within (Strings xs) = []
  form_parts within (Unary word t) = expression_parts within t
  form_parts within (Step side word t) = expression_parts within t
  form_parts within (Binary word l r) = expression_parts within l ++ expression_parts within r
  form_parts within (Assign word l r) = expression_parts within l ++ expression_parts within r
  form_parts within (Conditional a b c) = expression_parts within a ++ expression_parts within b ++ expression_parts within c
  form_parts within (Call f ts) = expression_parts within f ++ list_parts within ts
  form_parts within (Index l r) = expression_parts within l ++ expression_parts within r
  form_parts within (Member t x) = expression_parts within t ++ NamePart x ∷ []
  form_parts within (Arrow t x) = expression_parts within t ++ NamePart x ∷ []
  form_parts within (Cast k t) = type_parts within k ++ expression_parts within t
  form_parts within (SizeofExpression t) = expression_parts within t
  form_parts within (SizeofType k) = type_parts within k
  form_parts within (Comma ts) = list_parts within ts

  -- those of arguments, or of the operands of the comma operator
  pub list_parts : Bool → Expressions At → List Part
  list_parts within NoExpressions = []
  list_parts within (MoreExpressions t ts) = expression_parts within t ++ list_parts within ts

  -- those of an expression that may be left out
  pub optional_parts : Bool → Optional At → List Part
  optional_parts within Absent = []
  optional_parts within (Present t) = expression_parts within t

  -- those of the name of a type
  pub type_parts : Bool → TypeName At → List Part
  type_parts within (type_name p ss d) = specifiers_parts within ss ++ (DeclaratorPart false d ∷ declarator_parts within d)

  -- those of specifiers
  pub specifiers_parts : Bool → Specifiers At → List Part
  specifiers_parts within NoSpecifiers = []
  specifiers_parts within (MoreSpecifiers s ss) = specifier_parts within s ++ specifiers_parts within ss

  -- those of one specifier: a typedef name, or the name and the body of a structure, union or enumeration
  pub specifier_parts : Bool → Specifier At → List Part
  specifier_parts within (Keyword p word) = []
  specifier_parts within (Typedef x) = NamePart x ∷ []
  specifier_parts within (Structure p word tag ms) = tag_parts tag ++ members_parts within ms
  specifier_parts within (Enumeration p tag es comma) = tag_parts tag ++ enumerators_parts within es

  -- those of the members of a structure
  pub members_parts : Bool → Members At → List Part
  members_parts within NoMembers = []
  members_parts within (MoreMembers m ms) = member_parts within m ++ members_parts within ms

  -- those of one declaration of members
  pub member_parts : Bool → MemberDeclaration At → List Part
  member_parts within (member_declaration p ss fs) = specifiers_parts within ss ++ fields_parts within fs

  -- those of what one declaration of members declares
  pub fields_parts : Bool → Fields At → List Part
  fields_parts within NoFields = []
  fields_parts within (MoreFields f fs) = field_parts within f ++ fields_parts within fs

  -- those of the declarator of a member, and of its width
  pub field_parts : Bool → Field At → List Part
  field_parts within (field p d width) = (DeclaratorPart false d ∷ declarator_parts within d) ++ optional_parts within width

  -- those of the constants of an enumeration
  pub enumerators_parts : Bool → Enumerators At → List Part
  enumerators_parts within NoEnumerators = []
  enumerators_parts within (MoreEnumerators e es) = enumerator_parts within e ++ enumerators_parts within es

  -- those of one constant: its name, and its value if one is written
  pub enumerator_parts : Bool → Enumerator At → List Part
  enumerator_parts within (enumerator p x value) = NamePart x ∷ optional_parts within value

  -- those within a declarator: its name, its lengths and its parameters
  pub declarator_parts : Bool → Declarator At → List Part
  declarator_parts within (Named x) = NamePart x ∷ []
  declarator_parts within (Unnamed p) = []
  declarator_parts within (Pointer p qs d) = declarator_parts within d
  declarator_parts within (Parenthesised p d) = declarator_parts within d
  declarator_parts within (Array p d b size) = declarator_parts within d ++ optional_parts within size
  declarator_parts within (Function p d b ps ellipsis) = declarator_parts within d ++ parameters_parts within ps

  -- those of parameters
  pub parameters_parts : Bool → Parameters At → List Part
  parameters_parts within NoParameters = []
  parameters_parts within (MoreParameters x xs) = parameter_parts within x ++ parameters_parts within xs

  -- those of one parameter
  pub parameter_parts : Bool → Parameter At → List Part
  parameter_parts within (parameter p ss d) = specifiers_parts within ss ++ (DeclaratorPart (makes_types ss) d ∷ declarator_parts within d)

-- a declarator and the parts within it
abbrev pub declared_parts : Bool → Bool → Declarator At → List Part
declared_parts typedef within d = DeclaratorPart typedef d ∷ declarator_parts within d

-- ## Declarations

abbrev mutual
  -- the parts of an initialiser
  pub initializer_parts : Initializer At → List Part
  initializer_parts (Value t) = expression_parts false t
  initializer_parts (Braced p is comma) = initializers_parts is

  -- those of the initialisers between braces
  pub initializers_parts : Initializers At → List Part
  initializers_parts NoInitializers = []
  initializers_parts (MoreInitializers i is) = initializer_parts i ++ initializers_parts is

-- those of an initialiser that may be left out
abbrev pub initial_parts : Option (Initializer At) → List Part
initial_parts None = []
initial_parts (Some i) = initializer_parts i

-- those of a declarator of a declaration, and of its initialiser
abbrev pub init_declarator_parts : Bool → InitDeclarator At → List Part
init_declarator_parts typedef d = declared_parts typedef false d.declarator ++ initial_parts d.initial

-- those of a declaration
abbrev pub declaration_parts : Declaration At → List Part
declaration_parts d = specifiers_parts false d.specifiers ++ flat_map (init_declarator_parts (makes_types d.specifiers)) d.declarators

-- ## Statements

-- the first part of a `for` is a part of its own only if it is a declaration: an expression there is no statement (C99 6.8.5.3)
abbrev pub head_part : Statement At → List Part
head_part (Declare d) = StatementPart (Declare d) ∷ []
head_part _ = []

abbrev mutual
  -- the parts within a statement
  pub statement_parts : Statement At → List Part
  statement_parts (Empty p) = []
  statement_parts (Evaluate p t) = expression_parts false t
  statement_parts (Block p ss) = statements_parts ss
  statement_parts (If p t s) = expression_parts true t ++ (StatementPart s ∷ statement_parts s)
  statement_parts (IfElse p t s u) = expression_parts true t ++ (StatementPart s ∷ statement_parts s) ++ (StatementPart u ∷ statement_parts u)
  statement_parts (Switch p k t s) = expression_parts false t ++ (StatementPart s ∷ statement_parts s)
  statement_parts (While p k t s) = expression_parts false t ++ (StatementPart s ∷ statement_parts s)
  statement_parts (Do p k s t) = (StatementPart s ∷ statement_parts s) ++ expression_parts false t
  statement_parts (For p k start test step s) =
      (head_part start ++ statement_parts start) ++ optional_parts false test ++ optional_parts false step ++ (StatementPart s ∷ statement_parts s)
  statement_parts (Case p t s) = expression_parts false t ++ (StatementPart s ∷ statement_parts s)
  statement_parts (Default p s) = StatementPart s ∷ statement_parts s
  statement_parts (Label p x s) = NamePart x ∷ (StatementPart s ∷ statement_parts s)
  statement_parts (Goto p x) = NamePart x ∷ []
  statement_parts (Break p) = []
  statement_parts (Continue p) = []
  statement_parts (Return p k t) = optional_parts false t
  statement_parts (Declare d) = declaration_parts d
  statement_parts (Pragma p x) = []

  -- the statements of a block, each with the parts within it
  pub statements_parts : Statements At → List Part
  statements_parts NoStatements = []
  statements_parts (MoreStatements s ss) = (StatementPart s ∷ statement_parts s) ++ statements_parts ss

-- ## Declarations and functions outside of functions

-- the parts of a function
abbrev pub definition_parts : Definition At → List Part
definition_parts d = specifiers_parts false d.specifiers ++ declared_parts (makes_types d.specifiers) false d.declarator ++ statements_parts d.body

-- the parts of a declaration outside of functions, or of a function
abbrev pub external_parts : External At → List Part
external_parts (Outer p d) = declaration_parts d
external_parts (Defines d) = definition_parts d

-- the parts of all declarations and functions of the roots, in their order
abbrev pub unit_parts : List (External At) → List Part
unit_parts units = flat_map external_parts units
