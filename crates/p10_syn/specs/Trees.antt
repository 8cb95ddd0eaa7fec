-- The trees of C's grammar (C99 6.5 to 6.9). A tree holds at each node something of the type P: its place, or nothing
-- where only its form counts.
use Rattle.std.specs.Prelude.{ℕ, List, [], ◌∷◌, Bool, Option}
use Rattle.p10_base.specs.Words.{Text}
use Rattle.p10_syn.specs.declared.sign.Sign.{Sign}
use Rattle.p10_syn.specs.declared.place.Side.{Side}

-- nothing: where only the form of a tree counts
abbrev pub Bare : Type 0
Bare = Unit {0}

-- a name and where it stands (C99 6.4.2)
pub record Identifier (P : Type 0) : Type 0 where
  pub place : P
  pub name : Text

-- a qualifier of a pointer and where it stands (C99 6.7.5.1)
pub record Qualifier (P : Type 0) : Type 0 where
  pub place : P
  pub word : Sign

-- ## Expressions, types and declarators

mutual
  -- an expression (C99 6.5): where it stands with its parentheses, how many pairs of them stand round it, and its form
  pub data Expression (P : Type 0) : Type 0 where
    expression : P → ℕ → Form P → Expression P

  -- what an expression is inside its parentheses: a name, a constant, strings, or an operator with its operands (C99 6.5.1
  -- to 6.5.17)
  pub data Form (P : Type 0) : Type 0 where
    -- a name; its place is that of its word, without parentheses
    Name : Identifier P → Form P
    Number : Text → Form P
    Character : Text → Form P
    -- adjacent strings are one
    Strings : List Text → Form P
    -- & * + - ~ !
    Unary : Sign → Expression P → Form P
    -- ++ --
    Step : Side → Sign → Expression P → Form P
    Binary : Sign → Expression P → Expression P → Form P
    Assign : Sign → Expression P → Expression P → Form P
    Conditional : Expression P → Expression P → Expression P → Form P
    Call : Expression P → Expressions P → Form P
    Index : Expression P → Expression P → Form P
    Member : Expression P → Identifier P → Form P
    Arrow : Expression P → Identifier P → Form P
    Cast : TypeName P → Expression P → Form P
    SizeofExpression : Expression P → Form P
    SizeofType : TypeName P → Form P
    -- the comma operator, all of its operands
    Comma : Expressions P → Form P

  -- expressions in a row: the arguments of a call (C99 6.5.2.2) or the operands of the comma operator (C99 6.5.17)
  pub data Expressions (P : Type 0) : Type 0 where
    NoExpressions : Expressions P
    MoreExpressions : Expression P → Expressions P → Expressions P

  -- an expression that may be left out
  pub data Optional (P : Type 0) : Type 0 where
    Absent : Optional P
    Present : Expression P → Optional P

  -- the name of a type (C99 6.7.6): specifiers and a declarator without a name
  pub data TypeName (P : Type 0) : Type 0 where
    type_name : P → Specifiers P → Declarator P → TypeName P

  -- specifiers of a declaration (C99 6.7)
  pub data Specifiers (P : Type 0) : Type 0 where
    NoSpecifiers : Specifiers P
    MoreSpecifiers : Specifier P → Specifiers P → Specifiers P

  -- a storage class, a word of a type, a typedef name, a structure, a union, an enumeration, a qualifier or `inline` (C99
  -- 6.7.1 to 6.7.4)
  pub data Specifier (P : Type 0) : Type 0 where
    -- a storage class, a qualifier, `inline` or a word of a type
    Keyword : P → Sign → Specifier P
    -- a typedef name (C99 6.7.7)
    Typedef : Identifier P → Specifier P
    -- a structure or union (C99 6.7.2.1): its first word, its name if it has one, and its members if it has a body
    Structure : P → Sign → Option (Identifier P) → Members P → Specifier P
    -- an enumeration (C99 6.7.2.2): its name if it has one, its constants if it has a body, and whether a comma stands
    -- after the last
    Enumeration : P → Option (Identifier P) → Enumerators P → Bool → Specifier P

  -- the members of a structure; none: it has no body
  pub data Members (P : Type 0) : Type 0 where
    NoMembers : Members P
    MoreMembers : MemberDeclaration P → Members P → Members P

  -- one declaration of members
  pub data MemberDeclaration (P : Type 0) : Type 0 where
    member_declaration : P → Specifiers P → Fields P → MemberDeclaration P

  -- what one declaration of members declares, in its order (C99 6.7.2.1)
  pub data Fields (P : Type 0) : Type 0 where
    NoFields : Fields P
    MoreFields : Field P → Fields P → Fields P

  -- a declarator of a member, and its width if it is a bit-field
  pub data Field (P : Type 0) : Type 0 where
    field : P → Declarator P → Optional P → Field P

  -- the constants of an enumeration; none: it has no body
  pub data Enumerators (P : Type 0) : Type 0 where
    NoEnumerators : Enumerators P
    MoreEnumerators : Enumerator P → Enumerators P → Enumerators P

  -- a constant of an enumeration, and its value if one is written
  pub data Enumerator (P : Type 0) : Type 0 where
    enumerator : P → Identifier P → Optional P → Enumerator P

  -- a declarator (C99 6.7.5)
  pub data Declarator (P : Type 0) : Type 0 where
    Named : Identifier P → Declarator P
    Unnamed : P → Declarator P
    -- with its qualifiers
    Pointer : P → List (Qualifier P) → Declarator P → Declarator P
    Parenthesised : P → Declarator P → Declarator P
    -- with where its brackets stand
    Array : P → Declarator P → P → Optional P → Declarator P
    -- with where its parentheses stand, its parameters, and whether `...` stands after the last
    Function : P → Declarator P → P → Parameters P → Bool → Declarator P

  -- what stands between the parentheses of a function's declarator, in its order (C99 6.7.5.3)
  pub data Parameters (P : Type 0) : Type 0 where
    NoParameters : Parameters P
    MoreParameters : Parameter P → Parameters P → Parameters P

  -- specifiers and a declarator that may lack its name (C99 6.7.5.3)
  pub data Parameter (P : Type 0) : Type 0 where
    parameter : P → Specifiers P → Declarator P → Parameter P

-- ## Declarations

mutual
  -- an initialiser (C99 6.7.8): a value, or a list in braces with whether it ends with a comma
  pub data Initializer (P : Type 0) : Type 0 where
    Value : Expression P → Initializer P
    Braced : P → Initializers P → Bool → Initializer P

  -- what stands between the braces of an initialiser, in its order (C99 6.7.8)
  pub data Initializers (P : Type 0) : Type 0 where
    NoInitializers : Initializers P
    MoreInitializers : Initializer P → Initializers P → Initializers P

-- a declarator of a declaration, and its initialiser if it has one
pub record InitDeclarator (P : Type 0) : Type 0 where
  pub place : P
  pub declarator : Declarator P
  pub initial : Option (Initializer P)

-- a declaration (C99 6.7)
pub record Declaration (P : Type 0) : Type 0 where
  pub place : P
  pub specifiers : Specifiers P
  pub declarators : List (InitDeclarator P)

-- ## Statements

mutual
  -- a statement (C99 6.8), a declaration or a p10 pragma; loops, `switch` and `return` keep where their keyword stands
  pub data Statement (P : Type 0) : Type 0 where
    Empty : P → Statement P
    -- an expression with its `;`
    Evaluate : P → Expression P → Statement P
    Block : P → Statements P → Statement P
    If : P → Expression P → Statement P → Statement P
    IfElse : P → Expression P → Statement P → Statement P → Statement P
    Switch : P → P → Expression P → Statement P → Statement P
    While : P → P → Expression P → Statement P → Statement P
    Do : P → P → Statement P → Expression P → Statement P
    -- its first part is a declaration, an expression with its `;`, or `;` alone
    For : P → P → Statement P → Optional P → Optional P → Statement P → Statement P
    Case : P → Expression P → Statement P → Statement P
    Default : P → Statement P → Statement P
    Label : P → Identifier P → Statement P → Statement P
    Goto : P → Identifier P → Statement P
    Break : P → Statement P
    Continue : P → Statement P
    Return : P → P → Optional P → Statement P
    -- in a block or at the head of a `for`
    Declare : Declaration P → Statement P
    -- in a block
    Pragma : P → Text → Statement P

  -- the items of a block, in their order (C99 6.8.2)
  pub data Statements (P : Type 0) : Type 0 where
    NoStatements : Statements P
    MoreStatements : Statement P → Statements P → Statements P

-- ## Declarations and functions outside of functions

-- where the words of a function stand that rules on functions ask for, with their numbers counted in its root
pub record Landmarks (P : Type 0) : Type 0 where
  -- all of its words
  pub whole : P
  pub first_word : P
  -- the `{` of its body
  pub brace : P
  pub last_word : P

-- a function with its body (C99 6.9.1)
pub record Definition (P : Type 0) : Type 0 where
  pub place : P
  pub landmarks : Landmarks P
  pub specifiers : Specifiers P
  pub declarator : Declarator P
  pub body_place : P
  pub body : Statements P

-- a declaration outside of functions, with where it stands in its root, whose words are counted by themselves; or a function
-- (C99 6.9)
pub data External (P : Type 0) : Type 0 where
  Outer : P → Declaration P → External P
  Defines : Definition P → External P

-- ## Rows as lists

-- the expressions of a list, in the same order, as arguments or operands of the comma operator
abbrev pub expression_row : {P : Type 0} → List (Expression P) → Expressions P
expression_row [] = NoExpressions
expression_row (t ∷ ts) = MoreExpressions t (expression_row ts)

-- the specifiers of a list, in the same order, as those of a declaration
abbrev pub specifier_row : {P : Type 0} → List (Specifier P) → Specifiers P
specifier_row [] = NoSpecifiers
specifier_row (t ∷ ts) = MoreSpecifiers t (specifier_row ts)

-- the declarations of a list, in the same order, as the body of a structure; of none: it has no body
abbrev pub member_row : {P : Type 0} → List (MemberDeclaration P) → Members P
member_row [] = NoMembers
member_row (t ∷ ts) = MoreMembers t (member_row ts)

-- the declarators of a list, in the same order, as those of one declaration of members
abbrev pub field_row : {P : Type 0} → List (Field P) → Fields P
field_row [] = NoFields
field_row (t ∷ ts) = MoreFields t (field_row ts)

-- the constants of a list, in the same order, as the body of an enumeration; of none: it has no body
abbrev pub enumerator_row : {P : Type 0} → List (Enumerator P) → Enumerators P
enumerator_row [] = NoEnumerators
enumerator_row (t ∷ ts) = MoreEnumerators t (enumerator_row ts)

-- the parameters of a list, in the same order, as those of a function's declarator
abbrev pub parameter_row : {P : Type 0} → List (Parameter P) → Parameters P
parameter_row [] = NoParameters
parameter_row (t ∷ ts) = MoreParameters t (parameter_row ts)

-- the initialisers of a list, in the same order, as those between braces
abbrev pub initializer_row : {P : Type 0} → List (Initializer P) → Initializers P
initializer_row [] = NoInitializers
initializer_row (t ∷ ts) = MoreInitializers t (initializer_row ts)

-- the statements of a list, in the same order, as the items of a block
abbrev pub statement_row : {P : Type 0} → List (Statement P) → Statements P
statement_row [] = NoStatements
statement_row (t ∷ ts) = MoreStatements t (statement_row ts)
