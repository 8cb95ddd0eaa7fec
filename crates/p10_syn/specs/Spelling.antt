-- The words that a tree spells, in the order of the grammar (C99 6.5 to 6.9), and then the words `rest` that stand
-- after it.
use Rattle.std.specs.Prelude.{ℕ, zero, suc, List, [], ◌∷◌, Bool, true, false, Option, Some, None}
use Rattle.p10_base.specs.Words.{Text}
use Rattle.p10_syn.specs.declared.sign.Sign.{Sign}
use Rattle.p10_syn.specs.declared.sign.Sign.TheVariants as sign
use Rattle.p10_syn.specs.declared.place.Side.TheVariants.{Before, After}
use Rattle.p10_syn.specs.Symbols.{Symbol, Fixed}
use Rattle.p10_syn.specs.Symbols as symbol
use Rattle.p10_syn.specs.Trees.{Bare, Identifier, Qualifier, Expression, expression, Form, Name, Number, Character, Strings, Unary, Step, Binary, Assign, Conditional, Call, Index, Member, Arrow, Cast, SizeofExpression, SizeofType, Comma, Expressions, NoExpressions, MoreExpressions, Optional, Absent, Present, TypeName, type_name, Specifiers, NoSpecifiers, MoreSpecifiers, Specifier, Keyword, Typedef, Structure, Enumeration, Members, NoMembers, MoreMembers, MemberDeclaration, member_declaration, Fields, NoFields, MoreFields, Field, field, Enumerators, NoEnumerators, MoreEnumerators, Enumerator, enumerator, Declarator, Named, Unnamed, Pointer, Parenthesised, Array, Function, Parameters, NoParameters, MoreParameters, Parameter, parameter}
use Rattle.p10_syn.specs.Trees.{Initializer, Value, Braced, Initializers, NoInitializers, MoreInitializers, InitDeclarator, Declaration, Statement, Empty, Evaluate, Block, If, IfElse, Switch, While, Do, For, Case, Default, Label, Goto, Break, Continue, Return, Declare, Pragma, Statements, NoStatements, MoreStatements, Definition, External, Outer, Defines}

-- ## Expressions, types and declarators

-- pairs of parentheses: the opening ones
abbrev pub open_all : ℕ → List Symbol → List Symbol
open_all zero rest = rest
open_all (suc n) rest = Fixed sign.Open ∷ open_all n rest

-- pairs of parentheses: the closing ones
abbrev pub close_all : ℕ → List Symbol → List Symbol
close_all zero rest = rest
close_all (suc n) rest = close_all n (Fixed sign.Close ∷ rest)

-- adjacent strings, each a word by itself (C99 6.4.5)
abbrev pub spell_strings : List Text → List Symbol → List Symbol
spell_strings [] rest = rest
spell_strings (text ∷ texts) rest = symbol.String text ∷ spell_strings texts rest

-- the qualifiers of a pointer, one after the other (C99 6.7.5.1)
abbrev pub spell_qualifiers : List (Qualifier Bare) → List Symbol → List Symbol
spell_qualifiers [] rest = rest
spell_qualifiers (q ∷ qs) rest = Fixed q.word ∷ spell_qualifiers qs rest

-- the own name of a structure or enumeration, if it has one
abbrev pub spell_tag : Option (Identifier Bare) → List Symbol → List Symbol
spell_tag None rest = rest
spell_tag (Some x) rest = symbol.Name x.name ∷ rest

-- a comma, if it is there
abbrev pub spell_last_comma : Bool → List Symbol → List Symbol
spell_last_comma false rest = rest
spell_last_comma true rest = Fixed sign.Comma ∷ rest

-- `, ...`, if it is there
abbrev pub spell_ellipsis : Bool → List Symbol → List Symbol
spell_ellipsis false rest = rest
spell_ellipsis true rest = Fixed sign.Comma ∷ (Fixed sign.Ellipsis ∷ rest)

abbrev mutual
  -- an expression between its pairs of parentheses (C99 6.5)
  pub spell : Expression Bare → List Symbol → List Symbol
  spell (expression p n f) rest = open_all n (spell_form f (close_all n rest))

  -- what stands inside the parentheses: operators and operands in the order in which they are written (C99 6.5.1 to 6.5.17)
  pub spell_form : Form Bare → List Symbol → List Symbol
  spell_form (Name x) rest = symbol.Name x.name ∷ rest
  spell_form (Number x) rest = symbol.Number x ∷ rest
  spell_form (Character x) rest = symbol.Character x ∷ rest
  spell_form (Strings xs) rest = spell_strings xs rest
  spell_form (Unary s t) rest = Fixed s ∷ spell t rest
  spell_form (Step Before s t) rest = Fixed s ∷ spell t rest
  spell_form (Step After s t) rest = spell t (Fixed s ∷ rest)
  spell_form (Binary s l r) rest = spell l (Fixed s ∷ spell r rest)
  spell_form (Assign s l r) rest = spell l (Fixed s ∷ spell r rest)
  spell_form (Conditional a b c) rest = spell a (Fixed sign.Question ∷ spell b (Fixed sign.Colon ∷ spell c rest))
  spell_form (Call f ts) rest = spell f (Fixed sign.Open ∷ spell_list ts (Fixed sign.Close ∷ rest))
  spell_form (Index l r) rest = spell l (Fixed sign.OpenSquare ∷ spell r (Fixed sign.CloseSquare ∷ rest))
  spell_form (Member t x) rest = spell t (Fixed sign.Dot ∷ (symbol.Name x.name ∷ rest))
  spell_form (Arrow t x) rest = spell t (Fixed sign.Arrow ∷ (symbol.Name x.name ∷ rest))
  spell_form (Cast k t) rest = Fixed sign.Open ∷ spell_type k (Fixed sign.Close ∷ spell t rest)
  spell_form (SizeofExpression t) rest = Fixed sign.Sizeof ∷ spell t rest
  spell_form (SizeofType k) rest = Fixed sign.Sizeof ∷ (Fixed sign.Open ∷ spell_type k (Fixed sign.Close ∷ rest))
  spell_form (Comma ts) rest = spell_list ts rest

  -- with commas between them
  pub spell_list : Expressions Bare → List Symbol → List Symbol
  spell_list NoExpressions rest = rest
  spell_list (MoreExpressions t ts) rest = spell t (spell_more ts rest)

  -- each after a comma
  pub spell_more : Expressions Bare → List Symbol → List Symbol
  spell_more NoExpressions rest = rest
  spell_more (MoreExpressions t ts) rest = Fixed sign.Comma ∷ spell t (spell_more ts rest)

  -- the expression, or no word where it is left out
  pub spell_optional : Optional Bare → List Symbol → List Symbol
  spell_optional Absent rest = rest
  spell_optional (Present t) rest = spell t rest

  -- after this sign, if it is there
  pub spell_valued : Sign → Optional Bare → List Symbol → List Symbol
  spell_valued s Absent rest = rest
  spell_valued s (Present t) rest = Fixed s ∷ spell t rest

  -- specifiers, and then a declarator without a name (C99 6.7.6)
  pub spell_type : TypeName Bare → List Symbol → List Symbol
  spell_type (type_name p ss d) rest = spell_specifiers ss (spell_declarator d rest)

  -- specifiers one after the other
  pub spell_specifiers : Specifiers Bare → List Symbol → List Symbol
  spell_specifiers NoSpecifiers rest = rest
  spell_specifiers (MoreSpecifiers s ss) rest = spell_specifier s (spell_specifiers ss rest)

  -- a keyword, a typedef name, or the first word of a structure, union or enumeration with its own name and its body (C99
  -- 6.7.2)
  pub spell_specifier : Specifier Bare → List Symbol → List Symbol
  spell_specifier (Keyword p s) rest = Fixed s ∷ rest
  spell_specifier (Typedef x) rest = symbol.Name x.name ∷ rest
  spell_specifier (Structure p s tag ms) rest = Fixed s ∷ spell_tag tag (spell_members ms rest)
  spell_specifier (Enumeration p tag es comma) rest = Fixed sign.Enum ∷ spell_tag tag (spell_enumerators es comma rest)

  -- in braces, if there are any
  pub spell_members : Members Bare → List Symbol → List Symbol
  spell_members NoMembers rest = rest
  spell_members (MoreMembers m ms) rest = Fixed sign.OpenBrace ∷ spell_member m (spell_more_members ms rest)

  -- with the `}`
  pub spell_more_members : Members Bare → List Symbol → List Symbol
  spell_more_members NoMembers rest = Fixed sign.CloseBrace ∷ rest
  spell_more_members (MoreMembers m ms) rest = spell_member m (spell_more_members ms rest)

  -- specifiers, and then what they declare up to the `;` (C99 6.7.2.1)
  pub spell_member : MemberDeclaration Bare → List Symbol → List Symbol
  spell_member (member_declaration p ss fs) rest = spell_specifiers ss (spell_fields fs rest)

  -- with commas between them and the `;`
  pub spell_fields : Fields Bare → List Symbol → List Symbol
  spell_fields NoFields rest = Fixed sign.Semicolon ∷ rest
  spell_fields (MoreFields f fs) rest = spell_field f (spell_more_fields fs rest)

  -- the declarators of members after the first, each after a comma, and the `;`
  pub spell_more_fields : Fields Bare → List Symbol → List Symbol
  spell_more_fields NoFields rest = Fixed sign.Semicolon ∷ rest
  spell_more_fields (MoreFields f fs) rest = Fixed sign.Comma ∷ spell_field f (spell_more_fields fs rest)

  -- a declarator, and the width of a bit-field after `:` (C99 6.7.2.1)
  pub spell_field : Field Bare → List Symbol → List Symbol
  spell_field (field p d width) rest = spell_declarator d (spell_valued sign.Colon width rest)

  -- in braces, if there are any
  pub spell_enumerators : Enumerators Bare → Bool → List Symbol → List Symbol
  spell_enumerators NoEnumerators comma rest = rest
  spell_enumerators (MoreEnumerators e es) comma rest =
      Fixed sign.OpenBrace ∷ spell_enumerator e (spell_more_enumerators es (spell_last_comma comma (Fixed sign.CloseBrace ∷ rest)))

  -- the constants of an enumeration after the first, each after a comma
  pub spell_more_enumerators : Enumerators Bare → List Symbol → List Symbol
  spell_more_enumerators NoEnumerators rest = rest
  spell_more_enumerators (MoreEnumerators e es) rest = Fixed sign.Comma ∷ spell_enumerator e (spell_more_enumerators es rest)

  -- the name of a constant, and its value after `=` if one is written (C99 6.7.2.2)
  pub spell_enumerator : Enumerator Bare → List Symbol → List Symbol
  spell_enumerator (enumerator p x value) rest = symbol.Name x.name ∷ spell_valued sign.Assign value rest

  -- `*` and parentheses before the name, the name, and then brackets and parameters (C99 6.7.5)
  pub spell_declarator : Declarator Bare → List Symbol → List Symbol
  spell_declarator (Named x) rest = symbol.Name x.name ∷ rest
  spell_declarator (Unnamed p) rest = rest
  spell_declarator (Pointer p qs d) rest = Fixed sign.Star ∷ spell_qualifiers qs (spell_declarator d rest)
  spell_declarator (Parenthesised p d) rest = Fixed sign.Open ∷ spell_declarator d (Fixed sign.Close ∷ rest)
  spell_declarator (Array p d b length) rest = spell_declarator d (Fixed sign.OpenSquare ∷ spell_optional length (Fixed sign.CloseSquare ∷ rest))
  spell_declarator (Function p d b ps ellipsis) rest = spell_declarator d (Fixed sign.Open ∷ spell_parameters ps (spell_ellipsis ellipsis (Fixed sign.Close ∷ rest)))

  -- with commas between them
  pub spell_parameters : Parameters Bare → List Symbol → List Symbol
  spell_parameters NoParameters rest = rest
  spell_parameters (MoreParameters x xs) rest = spell_parameter x (spell_more_parameters xs rest)

  -- the parameters after the first, each after a comma
  pub spell_more_parameters : Parameters Bare → List Symbol → List Symbol
  spell_more_parameters NoParameters rest = rest
  spell_more_parameters (MoreParameters x xs) rest = Fixed sign.Comma ∷ spell_parameter x (spell_more_parameters xs rest)

  -- specifiers, and then a declarator that may spell no word (C99 6.7.5.3)
  pub spell_parameter : Parameter Bare → List Symbol → List Symbol
  spell_parameter (parameter p ss d) rest = spell_specifiers ss (spell_declarator d rest)

-- ## Declarations

abbrev mutual
  -- a value, or initialisers in braces with a last comma if there is one (C99 6.7.8)
  pub spell_initializer : Initializer Bare → List Symbol → List Symbol
  spell_initializer (Value t) rest = spell t rest
  spell_initializer (Braced p is comma) rest = Fixed sign.OpenBrace ∷ spell_initializers is (spell_last_comma comma (Fixed sign.CloseBrace ∷ rest))

  -- with commas between them
  pub spell_initializers : Initializers Bare → List Symbol → List Symbol
  spell_initializers NoInitializers rest = rest
  spell_initializers (MoreInitializers i is) rest = spell_initializer i (spell_more_initializers is rest)

  -- the initialisers of a list after the first, each after a comma
  pub spell_more_initializers : Initializers Bare → List Symbol → List Symbol
  spell_more_initializers NoInitializers rest = rest
  spell_more_initializers (MoreInitializers i is) rest = Fixed sign.Comma ∷ spell_initializer i (spell_more_initializers is rest)

-- after `=`, if it is there
abbrev pub spell_initial : Option (Initializer Bare) → List Symbol → List Symbol
spell_initial None rest = rest
spell_initial (Some i) rest = Fixed sign.Assign ∷ spell_initializer i rest

-- a declarator, and its initialiser after `=` if it has one (C99 6.7)
abbrev pub spell_init_declarator : InitDeclarator Bare → List Symbol → List Symbol
spell_init_declarator d rest = spell_declarator d.declarator (spell_initial d.initial rest)

-- with commas between them and the `;`
abbrev pub spell_more_declarators : List (InitDeclarator Bare) → List Symbol → List Symbol
spell_more_declarators [] rest = Fixed sign.Semicolon ∷ rest
spell_more_declarators (d ∷ ds) rest = Fixed sign.Comma ∷ spell_init_declarator d (spell_more_declarators ds rest)

-- with commas between them and the `;`, which stands alone where nothing is declared (C99 6.7)
abbrev pub spell_declarators : List (InitDeclarator Bare) → List Symbol → List Symbol
spell_declarators [] rest = Fixed sign.Semicolon ∷ rest
spell_declarators (d ∷ ds) rest = spell_init_declarator d (spell_more_declarators ds rest)

-- specifiers, and then what they declare up to the `;` (C99 6.7)
abbrev pub spell_declaration : Declaration Bare → List Symbol → List Symbol
spell_declaration d rest = spell_specifiers d.specifiers (spell_declarators d.declarators rest)

-- ## Statements

abbrev mutual
  -- a statement up to the `;` or `}` that ends it (C99 6.8); a p10 pragma is one word
  pub spell_statement : Statement Bare → List Symbol → List Symbol
  spell_statement (Empty p) rest = Fixed sign.Semicolon ∷ rest
  spell_statement (Evaluate p t) rest = spell t (Fixed sign.Semicolon ∷ rest)
  spell_statement (Block p is) rest = Fixed sign.OpenBrace ∷ spell_statements is (Fixed sign.CloseBrace ∷ rest)
  spell_statement (If p t s) rest = Fixed sign.If ∷ (Fixed sign.Open ∷ spell t (Fixed sign.Close ∷ spell_statement s rest))
  spell_statement (IfElse p t s u) rest = Fixed sign.If ∷ (Fixed sign.Open ∷ spell t (Fixed sign.Close ∷ spell_statement s (Fixed sign.Else ∷ spell_statement u rest)))
  spell_statement (Switch p k t s) rest = Fixed sign.Switch ∷ (Fixed sign.Open ∷ spell t (Fixed sign.Close ∷ spell_statement s rest))
  spell_statement (While p k t s) rest = Fixed sign.While ∷ (Fixed sign.Open ∷ spell t (Fixed sign.Close ∷ spell_statement s rest))
  spell_statement (Do p k s t) rest = Fixed sign.Do ∷ spell_statement s (Fixed sign.While ∷ (Fixed sign.Open ∷ spell t (Fixed sign.Close ∷ (Fixed sign.Semicolon ∷ rest))))
  spell_statement (For p k start test step s) rest =
      Fixed sign.For ∷ (Fixed sign.Open ∷ spell_statement start (spell_optional test (Fixed sign.Semicolon ∷ spell_optional step (Fixed sign.Close ∷ spell_statement s rest))))
  spell_statement (Case p t s) rest = Fixed sign.Case ∷ spell t (Fixed sign.Colon ∷ spell_statement s rest)
  spell_statement (Default p s) rest = Fixed sign.Default ∷ (Fixed sign.Colon ∷ spell_statement s rest)
  spell_statement (Label p x s) rest = symbol.Name x.name ∷ (Fixed sign.Colon ∷ spell_statement s rest)
  spell_statement (Goto p x) rest = Fixed sign.Goto ∷ (symbol.Name x.name ∷ (Fixed sign.Semicolon ∷ rest))
  spell_statement (Break p) rest = Fixed sign.Break ∷ (Fixed sign.Semicolon ∷ rest)
  spell_statement (Continue p) rest = Fixed sign.Continue ∷ (Fixed sign.Semicolon ∷ rest)
  spell_statement (Return p k t) rest = Fixed sign.Return ∷ spell_optional t (Fixed sign.Semicolon ∷ rest)
  spell_statement (Declare d) rest = spell_declaration d rest
  spell_statement (Pragma p x) rest = symbol.Pragma x ∷ rest

  -- one after the other
  pub spell_statements : Statements Bare → List Symbol → List Symbol
  spell_statements NoStatements rest = rest
  spell_statements (MoreStatements s ss) rest = spell_statement s (spell_statements ss rest)

-- ## Declarations and functions outside of functions

-- specifiers, a declarator, and a body in braces (C99 6.9.1)
abbrev pub spell_definition : Definition Bare → List Symbol → List Symbol
spell_definition d rest = spell_specifiers d.specifiers (spell_declarator d.declarator (Fixed sign.OpenBrace ∷ spell_statements d.body (Fixed sign.CloseBrace ∷ rest)))

-- a declaration up to its `;`, or a function up to its `}` (C99 6.9)
abbrev pub spell_external : External Bare → List Symbol → List Symbol
spell_external (Outer p d) rest = spell_declaration d rest
spell_external (Defines d) rest = spell_definition d rest

-- one after the other
abbrev pub spell_externals : List (External Bare) → List Symbol → List Symbol
spell_externals [] rest = rest
spell_externals (e ∷ es) rest = spell_external e (spell_externals es rest)
