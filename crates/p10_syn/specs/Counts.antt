-- How many words a tree spells.
use Rattle.std.specs.Prelude.{ℕ, ◌+◌, ◌*◌, length, List, [], ◌∷◌, Bool, true, false, Option, Some, None}
use Rattle.p10_syn.specs.Trees.{Bare, Identifier, Expression, expression, Form, Name, Number, Character, Strings, Unary, Step, Binary, Assign, Conditional, Call, Index, Member, Arrow, Cast, SizeofExpression, SizeofType, Comma, Expressions, NoExpressions, MoreExpressions, Optional, Absent, Present, TypeName, type_name, Specifiers, NoSpecifiers, MoreSpecifiers, Specifier, Keyword, Typedef, Structure, Enumeration, Members, NoMembers, MoreMembers, MemberDeclaration, member_declaration, Fields, NoFields, MoreFields, Field, field, Enumerators, NoEnumerators, MoreEnumerators, Enumerator, enumerator, Declarator, Named, Unnamed, Pointer, Parenthesised, Array, Function, Parameters, NoParameters, MoreParameters, Parameter, parameter}
use Rattle.p10_syn.specs.Trees.{Initializer, Value, Braced, Initializers, NoInitializers, MoreInitializers, InitDeclarator, Declaration, Statement, Empty, Evaluate, Block, If, IfElse, Switch, While, Do, For, Case, Default, Label, Goto, Break, Continue, Return, Declare, Pragma, Statements, NoStatements, MoreStatements, Definition, External, Outer, Defines}

-- 1 for what is there, and 0 for what isn't
abbrev pub count_bool : Bool → ℕ
count_bool false = 0
count_bool true = 1

-- 1 for the own name of a structure or enumeration, and 0 where it has none
abbrev pub count_tag : Option (Identifier Bare) → ℕ
count_tag None = 0
count_tag (Some x) = 1

abbrev mutual
  -- the words of an expression with the parentheses round it
  pub count : Expression Bare → ℕ
  count (expression p n f) = 2 * n + count_form f

  -- the words of an expression inside its parentheses
  pub count_form : Form Bare → ℕ
  count_form (Name x) = 1
  count_form (Number x) = 1
  count_form (Character x) = 1
  count_form (Strings xs) = length xs
  count_form (Unary s t) = 1 + count t
  count_form (Step side s t) = 1 + count t
  count_form (Binary s l r) = count l + 1 + count r
  count_form (Assign s l r) = count l + 1 + count r
  count_form (Conditional a b c) = count a + 1 + count b + 1 + count c
  count_form (Call f ts) = count f + 1 + count_list ts + 1
  count_form (Index l r) = count l + 1 + count r + 1
  count_form (Member t x) = count t + 2
  count_form (Arrow t x) = count t + 2
  count_form (Cast k t) = 1 + count_type k + 1 + count t
  count_form (SizeofExpression t) = 1 + count t
  count_form (SizeofType k) = 2 + count_type k + 1
  count_form (Comma ts) = count_list ts

  -- with commas between them
  pub count_list : Expressions Bare → ℕ
  count_list NoExpressions = 0
  count_list (MoreExpressions t ts) = count t + count_more ts

  -- each with the comma before it
  pub count_more : Expressions Bare → ℕ
  count_more NoExpressions = 0
  count_more (MoreExpressions t ts) = 1 + count t + count_more ts

  -- the words of an expression, and 0 where it is left out
  pub count_optional : Optional Bare → ℕ
  count_optional Absent = 0
  count_optional (Present t) = count t

  -- with the sign before it
  pub count_valued : Optional Bare → ℕ
  count_valued Absent = 0
  count_valued (Present t) = 1 + count t

  -- the words of the name of a type: specifiers and a declarator without a name
  pub count_type : TypeName Bare → ℕ
  count_type (type_name p ss d) = count_specifiers ss + count_declarator d

  -- the words of specifiers one after the other
  pub count_specifiers : Specifiers Bare → ℕ
  count_specifiers NoSpecifiers = 0
  count_specifiers (MoreSpecifiers s ss) = count_specifier s + count_specifiers ss

  -- 1 for a keyword or typedef name; a structure or enumeration counts with its own name and its body
  pub count_specifier : Specifier Bare → ℕ
  count_specifier (Keyword p s) = 1
  count_specifier (Typedef x) = 1
  count_specifier (Structure p s tag ms) = 1 + count_tag tag + count_members ms
  count_specifier (Enumeration p tag es comma) = 1 + count_tag tag + count_enumerators es comma

  -- with their braces
  pub count_members : Members Bare → ℕ
  count_members NoMembers = 0
  count_members (MoreMembers m ms) = 1 + count_member m + count_more_members ms

  -- with the `}`
  pub count_more_members : Members Bare → ℕ
  count_more_members NoMembers = 1
  count_more_members (MoreMembers m ms) = count_member m + count_more_members ms

  -- the words of a declaration of members with its `;`
  pub count_member : MemberDeclaration Bare → ℕ
  count_member (member_declaration p ss fs) = count_specifiers ss + count_fields fs

  -- with the `;`
  pub count_fields : Fields Bare → ℕ
  count_fields NoFields = 1
  count_fields (MoreFields f fs) = count_field f + count_more_fields fs

  -- the words of the declarators of members after the first, each with the comma before it, and the `;`
  pub count_more_fields : Fields Bare → ℕ
  count_more_fields NoFields = 1
  count_more_fields (MoreFields f fs) = 1 + count_field f + count_more_fields fs

  -- the words of a declarator of a member, with the `:` and the width of a bit-field
  pub count_field : Field Bare → ℕ
  count_field (field p d width) = count_declarator d + count_valued width

  -- with their braces
  pub count_enumerators : Enumerators Bare → Bool → ℕ
  count_enumerators NoEnumerators comma = 0
  count_enumerators (MoreEnumerators e es) comma = 1 + count_enumerator e + count_more_enumerators es + count_bool comma + 1

  -- the words of the constants of an enumeration after the first, each with the comma before it
  pub count_more_enumerators : Enumerators Bare → ℕ
  count_more_enumerators NoEnumerators = 0
  count_more_enumerators (MoreEnumerators e es) = 1 + count_enumerator e + count_more_enumerators es

  -- 1 for the name of a constant, and its value with the `=` if one is written
  pub count_enumerator : Enumerator Bare → ℕ
  count_enumerator (enumerator p x value) = 1 + count_valued value

  -- the words of a declarator; where its name is left out, there is no word for it
  pub count_declarator : Declarator Bare → ℕ
  count_declarator (Named x) = 1
  count_declarator (Unnamed p) = 0
  count_declarator (Pointer p qs d) = 1 + length qs + count_declarator d
  count_declarator (Parenthesised p d) = 1 + count_declarator d + 1
  count_declarator (Array p d b length) = count_declarator d + 1 + count_optional length + 1
  count_declarator (Function p d b ps ellipsis) = count_declarator d + 1 + count_parameters ps + 2 * count_bool ellipsis + 1

  -- with commas between them
  pub count_parameters : Parameters Bare → ℕ
  count_parameters NoParameters = 0
  count_parameters (MoreParameters x xs) = count_parameter x + count_more_parameters xs

  -- the words of the parameters after the first, each with the comma before it
  pub count_more_parameters : Parameters Bare → ℕ
  count_more_parameters NoParameters = 0
  count_more_parameters (MoreParameters x xs) = 1 + count_parameter x + count_more_parameters xs

  -- the words of specifiers and of the declarator after them
  pub count_parameter : Parameter Bare → ℕ
  count_parameter (parameter p ss d) = count_specifiers ss + count_declarator d

abbrev mutual
  -- the words of a value, or of a list with its braces and its last comma
  pub count_initializer : Initializer Bare → ℕ
  count_initializer (Value t) = count t
  count_initializer (Braced p is comma) = 1 + count_initializers is + count_bool comma + 1

  -- with commas between them
  pub count_initializers : Initializers Bare → ℕ
  count_initializers NoInitializers = 0
  count_initializers (MoreInitializers i is) = count_initializer i + count_more_initializers is

  -- the words of the initialisers of a list after the first, each with the comma before it
  pub count_more_initializers : Initializers Bare → ℕ
  count_more_initializers NoInitializers = 0
  count_more_initializers (MoreInitializers i is) = 1 + count_initializer i + count_more_initializers is

-- with the `=`
abbrev pub count_initial : Option (Initializer Bare) → ℕ
count_initial None = 0
count_initial (Some i) = 1 + count_initializer i

-- the words of a declarator of a declaration with its initialiser
abbrev pub count_init_declarator : InitDeclarator Bare → ℕ
count_init_declarator d = count_declarator d.declarator + count_initial d.initial

-- with the `;`
abbrev pub count_more_declarators : List (InitDeclarator Bare) → ℕ
count_more_declarators [] = 1
count_more_declarators (d ∷ ds) = 1 + count_init_declarator d + count_more_declarators ds

-- the words of what a declaration declares, with commas between them and the `;`
abbrev pub count_declarators : List (InitDeclarator Bare) → ℕ
count_declarators [] = 1
count_declarators (d ∷ ds) = count_init_declarator d + count_more_declarators ds

-- the words of a declaration from its first specifier to its `;`
abbrev pub count_declaration : Declaration Bare → ℕ
count_declaration d = count_specifiers d.specifiers + count_declarators d.declarators

abbrev mutual
  -- the words of a statement up to the `;` or `}` that ends it; a p10 pragma is one word
  pub count_statement : Statement Bare → ℕ
  count_statement (Empty p) = 1
  count_statement (Evaluate p t) = count t + 1
  count_statement (Block p ss) = 1 + count_statements ss + 1
  count_statement (If p t s) = 2 + count t + 1 + count_statement s
  count_statement (IfElse p t s u) = 2 + count t + 1 + count_statement s + 1 + count_statement u
  count_statement (Switch p k t s) = 2 + count t + 1 + count_statement s
  count_statement (While p k t s) = 2 + count t + 1 + count_statement s
  count_statement (Do p k s t) = 1 + count_statement s + 2 + count t + 2
  count_statement (For p k start test step s) = 2 + count_statement start + count_optional test + 1 + count_optional step + 1 + count_statement s
  count_statement (Case p t s) = 1 + count t + 1 + count_statement s
  count_statement (Default p s) = 2 + count_statement s
  count_statement (Label p x s) = 2 + count_statement s
  count_statement (Goto p x) = 3
  count_statement (Break p) = 2
  count_statement (Continue p) = 2
  count_statement (Return p k t) = 1 + count_optional t + 1
  count_statement (Declare d) = count_declaration d
  count_statement (Pragma p x) = 1

  -- the words of the items of a block without its braces
  pub count_statements : Statements Bare → ℕ
  count_statements NoStatements = 0
  count_statements (MoreStatements s ss) = count_statement s + count_statements ss

-- the words before the body of a function
abbrev pub count_head : Definition Bare → ℕ
count_head d = count_specifiers d.specifiers + count_declarator d.declarator

-- the words of a function from its first specifier to the `}` of its body
abbrev pub count_definition : Definition Bare → ℕ
count_definition d = count_head d + 1 + count_statements d.body + 1

-- the words of a declaration outside of functions, or of a function
abbrev pub count_external : External Bare → ℕ
count_external (Outer p d) = count_declaration d
count_external (Defines d) = count_definition d
