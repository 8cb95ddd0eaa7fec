-- A tree without its places: its form.
use Rattle.std.specs.Prelude.{List, [], ◌∷◌, Option, Some, None}
use Rattle.p10_syn.specs.Trees.{Bare, Identifier, Qualifier, Expression, expression, Form, Name, Number, Character, Strings, Unary, Step, Binary, Assign, Conditional, Call, Index, Member, Arrow, Cast, SizeofExpression, SizeofType, Comma, Expressions, NoExpressions, MoreExpressions, Optional, Absent, Present, TypeName, type_name, Specifiers, NoSpecifiers, MoreSpecifiers, Specifier, Keyword, Typedef, Structure, Enumeration, Members, NoMembers, MoreMembers, MemberDeclaration, member_declaration, Fields, NoFields, MoreFields, Field, field, Enumerators, NoEnumerators, MoreEnumerators, Enumerator, enumerator, Declarator, Named, Unnamed, Pointer, Parenthesised, Array, Function, Parameters, NoParameters, MoreParameters, Parameter, parameter}
use Rattle.p10_syn.specs.Trees.{Initializer, Value, Braced, Initializers, NoInitializers, MoreInitializers, InitDeclarator, Declaration, Statement, Empty, Evaluate, Block, If, IfElse, Switch, While, Do, For, Case, Default, Label, Goto, Break, Continue, Return, Declare, Pragma, Statements, NoStatements, MoreStatements, Landmarks, Definition, External, Outer, Defines}

-- a name without its place: how it is written
abbrev pub bare_name : {P : Type 0} → Identifier P → Identifier Bare
bare_name x = record { place = tt; name = x.name }

-- the own name of a structure or enumeration without its place, if it has one
abbrev pub bare_tag : {P : Type 0} → Option (Identifier P) → Option (Identifier Bare)
bare_tag None = None
bare_tag (Some x) = Some (bare_name x)

-- a qualifier without its place
abbrev pub bare_qualifier : {P : Type 0} → Qualifier P → Qualifier Bare
bare_qualifier q = record { place = tt; word = q.word }

-- each of these qualifiers without its place
abbrev pub bare_qualifiers : {P : Type 0} → List (Qualifier P) → List (Qualifier Bare)
bare_qualifiers [] = []
bare_qualifiers (q ∷ qs) = bare_qualifier q ∷ bare_qualifiers qs

abbrev mutual
  -- an expression without its places; the pairs of parentheses round it still count
  pub bare : {P : Type 0} → Expression P → Expression Bare
  bare (expression p n f) = expression tt n (bare_form f)

  -- the same operator, name or constant, and each operand without its places
  pub bare_form : {P : Type 0} → Form P → Form Bare
  bare_form (Name x) = Name (bare_name x)
  bare_form (Number x) = Number x
  bare_form (Character x) = Character x
  bare_form (Strings xs) = Strings xs
  bare_form (Unary s t) = Unary s (bare t)
  bare_form (Step side s t) = Step side s (bare t)
  bare_form (Binary s l r) = Binary s (bare l) (bare r)
  bare_form (Assign s l r) = Assign s (bare l) (bare r)
  bare_form (Conditional a b c) = Conditional (bare a) (bare b) (bare c)
  bare_form (Call f ts) = Call (bare f) (bare_list ts)
  bare_form (Index l r) = Index (bare l) (bare r)
  bare_form (Member t x) = Member (bare t) (bare_name x)
  bare_form (Arrow t x) = Arrow (bare t) (bare_name x)
  bare_form (Cast k t) = Cast (bare_type k) (bare t)
  bare_form (SizeofExpression t) = SizeofExpression (bare t)
  bare_form (SizeofType k) = SizeofType (bare_type k)
  bare_form (Comma ts) = Comma (bare_list ts)

  -- each argument, or each operand of the comma operator, without its places
  pub bare_list : {P : Type 0} → Expressions P → Expressions Bare
  bare_list NoExpressions = NoExpressions
  bare_list (MoreExpressions t ts) = MoreExpressions (bare t) (bare_list ts)

  -- an expression without its places, unless it is left out
  pub bare_optional : {P : Type 0} → Optional P → Optional Bare
  bare_optional Absent = Absent
  bare_optional (Present t) = Present (bare t)

  -- the name of a type without its places
  pub bare_type : {P : Type 0} → TypeName P → TypeName Bare
  bare_type (type_name p ss d) = type_name tt (bare_specifiers ss) (bare_declarator d)

  -- each specifier of a declaration without its places
  pub bare_specifiers : {P : Type 0} → Specifiers P → Specifiers Bare
  bare_specifiers NoSpecifiers = NoSpecifiers
  bare_specifiers (MoreSpecifiers s ss) = MoreSpecifiers (bare_specifier s) (bare_specifiers ss)

  -- a specifier without its place; a structure or enumeration also without the places in its body
  pub bare_specifier : {P : Type 0} → Specifier P → Specifier Bare
  bare_specifier (Keyword p s) = Keyword tt s
  bare_specifier (Typedef x) = Typedef (bare_name x)
  bare_specifier (Structure p s tag ms) = Structure tt s (bare_tag tag) (bare_members ms)
  bare_specifier (Enumeration p tag es comma) = Enumeration tt (bare_tag tag) (bare_enumerators es) comma

  -- each declaration in the body of a structure without its places
  pub bare_members : {P : Type 0} → Members P → Members Bare
  bare_members NoMembers = NoMembers
  bare_members (MoreMembers m ms) = MoreMembers (bare_member m) (bare_members ms)

  -- one declaration of members without its places
  pub bare_member : {P : Type 0} → MemberDeclaration P → MemberDeclaration Bare
  bare_member (member_declaration p ss fs) = member_declaration tt (bare_specifiers ss) (bare_fields fs)

  -- each declarator of one declaration of members without its places
  pub bare_fields : {P : Type 0} → Fields P → Fields Bare
  bare_fields NoFields = NoFields
  bare_fields (MoreFields f fs) = MoreFields (bare_field f) (bare_fields fs)

  -- a declarator of a member, and the width of a bit-field, without their places
  pub bare_field : {P : Type 0} → Field P → Field Bare
  bare_field (field p d width) = field tt (bare_declarator d) (bare_optional width)

  -- each constant of an enumeration without its places
  pub bare_enumerators : {P : Type 0} → Enumerators P → Enumerators Bare
  bare_enumerators NoEnumerators = NoEnumerators
  bare_enumerators (MoreEnumerators e es) = MoreEnumerators (bare_enumerator e) (bare_enumerators es)

  -- a constant of an enumeration, and its value, without their places
  pub bare_enumerator : {P : Type 0} → Enumerator P → Enumerator Bare
  bare_enumerator (enumerator p x value) = enumerator tt (bare_name x) (bare_optional value)

  -- a declarator without its places; its qualifiers and whether `...` stands in it still count
  pub bare_declarator : {P : Type 0} → Declarator P → Declarator Bare
  bare_declarator (Named x) = Named (bare_name x)
  bare_declarator (Unnamed p) = Unnamed tt
  bare_declarator (Pointer p qs d) = Pointer tt (bare_qualifiers qs) (bare_declarator d)
  bare_declarator (Parenthesised p d) = Parenthesised tt (bare_declarator d)
  bare_declarator (Array p d b size) = Array tt (bare_declarator d) tt (bare_optional size)
  bare_declarator (Function p d b ps ellipsis) = Function tt (bare_declarator d) tt (bare_parameters ps) ellipsis

  -- each parameter of a function's declarator without its places
  pub bare_parameters : {P : Type 0} → Parameters P → Parameters Bare
  bare_parameters NoParameters = NoParameters
  bare_parameters (MoreParameters x xs) = MoreParameters (bare_parameter x) (bare_parameters xs)

  -- the specifiers and the declarator of a parameter without their places
  pub bare_parameter : {P : Type 0} → Parameter P → Parameter Bare
  bare_parameter (parameter p ss d) = parameter tt (bare_specifiers ss) (bare_declarator d)

abbrev mutual
  -- a value or a list in braces without its places; whether the list ends with a comma still counts
  pub bare_initializer : {P : Type 0} → Initializer P → Initializer Bare
  bare_initializer (Value t) = Value (bare t)
  bare_initializer (Braced p is comma) = Braced tt (bare_initializers is) comma

  -- each initialiser between braces without its places
  pub bare_initializers : {P : Type 0} → Initializers P → Initializers Bare
  bare_initializers NoInitializers = NoInitializers
  bare_initializers (MoreInitializers i is) = MoreInitializers (bare_initializer i) (bare_initializers is)

-- an initialiser without its places, if there is one
abbrev pub bare_initial : {P : Type 0} → Option (Initializer P) → Option (Initializer Bare)
bare_initial None = None
bare_initial (Some i) = Some (bare_initializer i)

-- a declarator of a declaration, and its initialiser, without their places
abbrev pub bare_init_declarator : {P : Type 0} → InitDeclarator P → InitDeclarator Bare
bare_init_declarator d = record { place = tt; declarator = bare_declarator d.declarator; initial = bare_initial d.initial }

-- each declarator of a declaration without its places
abbrev pub bare_init_declarators : {P : Type 0} → List (InitDeclarator P) → List (InitDeclarator Bare)
bare_init_declarators [] = []
bare_init_declarators (d ∷ ds) = bare_init_declarator d ∷ bare_init_declarators ds

-- the specifiers of a declaration, and what they declare, without their places
abbrev pub bare_declaration : {P : Type 0} → Declaration P → Declaration Bare
bare_declaration d = record { place = tt; specifiers = bare_specifiers d.specifiers; declarators = bare_init_declarators d.declarators }

abbrev mutual
  -- a statement without its places, also those of its keyword and its parts
  pub bare_statement : {P : Type 0} → Statement P → Statement Bare
  bare_statement (Empty p) = Empty tt
  bare_statement (Evaluate p t) = Evaluate tt (bare t)
  bare_statement (Block p ss) = Block tt (bare_statements ss)
  bare_statement (If p t s) = If tt (bare t) (bare_statement s)
  bare_statement (IfElse p t s u) = IfElse tt (bare t) (bare_statement s) (bare_statement u)
  bare_statement (Switch p k t s) = Switch tt tt (bare t) (bare_statement s)
  bare_statement (While p k t s) = While tt tt (bare t) (bare_statement s)
  bare_statement (Do p k s t) = Do tt tt (bare_statement s) (bare t)
  bare_statement (For p k start test step s) = For tt tt (bare_statement start) (bare_optional test) (bare_optional step) (bare_statement s)
  bare_statement (Case p t s) = Case tt (bare t) (bare_statement s)
  bare_statement (Default p s) = Default tt (bare_statement s)
  bare_statement (Label p x s) = Label tt (bare_name x) (bare_statement s)
  bare_statement (Goto p x) = Goto tt (bare_name x)
  bare_statement (Break p) = Break tt
  bare_statement (Continue p) = Continue tt
  bare_statement (Return p k t) = Return tt tt (bare_optional t)
  bare_statement (Declare d) = Declare (bare_declaration d)
  bare_statement (Pragma p x) = Pragma tt x

  -- each item of a block without its places
  pub bare_statements : {P : Type 0} → Statements P → Statements Bare
  bare_statements NoStatements = NoStatements
  bare_statements (MoreStatements s ss) = MoreStatements (bare_statement s) (bare_statements ss)

-- nothing of where the words of a function stand
abbrev pub no_landmarks : Landmarks Bare
no_landmarks = record { whole = tt; first_word = tt; brace = tt; last_word = tt }

-- the specifiers, the declarator and the body of a function without their places
abbrev pub bare_definition : {P : Type 0} → Definition P → Definition Bare
bare_definition d = record { place = tt; landmarks = no_landmarks; specifiers = bare_specifiers d.specifiers; declarator = bare_declarator d.declarator; body_place = tt; body = bare_statements d.body }

-- a declaration outside of functions, or a function, without its places
abbrev pub bare_external : {P : Type 0} → External P → External Bare
bare_external (Outer p d) = Outer tt (bare_declaration d)
bare_external (Defines d) = Defines (bare_definition d)

-- each of these declarations and functions without its places
abbrev pub bare_externals : {P : Type 0} → List (External P) → List (External Bare)
bare_externals [] = []
bare_externals (e ∷ es) = bare_external e ∷ bare_externals es
