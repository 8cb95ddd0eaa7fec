-- Declarations and functions with their trees, by hand, one for each point at which the words alone would allow another
-- tree.
use Rattle.std.specs.Prelude.{◌≡◌, List, [], ◌∷◌, ◌++◌, true, false, Some, None}
use Rattle.p10_base.specs.Words.{Text}
use Rattle.p10_syn.specs.declared.sign.Sign.{Sign}
use Rattle.p10_syn.specs.declared.sign.Sign.TheVariants as sign
use Rattle.p10_syn.specs.Symbols.{Symbol, Fixed}
use Rattle.p10_syn.specs.Symbols as symbol
use Rattle.p10_syn.specs.Scopes.{Scope}
use Rattle.p10_syn.specs.Trees.{Bare, Expression, expression, Form, Name, Number, Binary, SizeofExpression, SizeofType, Absent, Present, type_name, Specifiers, NoSpecifiers, MoreSpecifiers, Specifier, Keyword, Typedef, Enumeration, NoEnumerators, MoreEnumerators, enumerator, Declarator, Named, Unnamed, Pointer, Parenthesised, Array, Function, Parameters, NoParameters, MoreParameters, parameter, Value, Declaration, Statement, Empty, Evaluate, Block, If, IfElse, Label, Declare, External, Outer, statement_row}
use Rattle.p10_pexpr.specs.DeclaratorReading.{plain_name}
use Rattle.p10_parse.specs.DeclarationReading.{with_initial, declaring}
use Rattle.p10_parse.specs.ExternalReading.{defining}
use Rattle.p10_parse.specs.Roots.{next_external, externals_from}

-- ## Words

-- the name that is a typedef name in some of the examples
abbrev pub T : Text
T = 84 ∷ []

-- the name that most of the examples declare
abbrev pub x : Text
x = 120 ∷ []

-- one more name, which is never a typedef name
abbrev pub y : Text
y = 121 ∷ []

-- T is a typedef name
abbrev pub with_type : Scope
with_type = (T, true) ∷ []

-- a word in parentheses
abbrev pub in_parentheses : Symbol → List Symbol
in_parentheses s = Fixed sign.Open ∷ s ∷ Fixed sign.Close ∷ []

-- `void x(void)` and a body in braces
abbrev pub function_words : List Symbol → List Symbol
function_words body =
    Fixed sign.Void ∷ symbol.Name x ∷ in_parentheses (Fixed sign.Void) ++ Fixed sign.OpenBrace ∷ body ++ Fixed sign.CloseBrace ∷ []

-- ## Trees

-- an expression without parentheses round it
abbrev pub plain : Form Bare → Expression Bare
plain f = expression tt 0 f

-- one specifier with no other beside it
abbrev pub only : Specifier Bare → Specifiers Bare
only s = MoreSpecifiers s NoSpecifiers

-- a keyword with no other specifier beside it, such as `int`
abbrev pub keyword : Sign → Specifiers Bare
keyword s = only (Keyword tt s)

-- a typedef name with no other specifier beside it
abbrev pub renamed : Text → Specifiers Bare
renamed n = only (Typedef (plain_name n))

-- a declarator that is this name alone
abbrev pub called : Text → Declarator Bare
called n = Named (plain_name n)

-- a declaration of one name, with no initialiser
abbrev pub declares : Specifiers Bare → Declarator Bare → Declaration Bare
declares ss d = declaring ss (with_initial d None ∷ [])

-- a list of this one parameter
abbrev pub one_parameter : Specifiers Bare → Declarator Bare → Parameters Bare
one_parameter ss d = MoreParameters (parameter tt ss d) NoParameters

-- `int x(..)` with one parameter
abbrev pub takes_one : Specifiers Bare → Declarator Bare → External Bare
takes_one ss d = Outer tt (declares (keyword sign.Int) (Function tt (called x) tt (one_parameter ss d) false))

-- `void x(..) {..}`
abbrev pub function_of : Parameters Bare → List (Statement Bare) → External Bare
function_of ps body = defining (keyword sign.Void) (Function tt (called x) tt ps false) (statement_row body)

-- `void x(void)` with this body
abbrev pub plain_function : List (Statement Bare) → External Bare
plain_function body = function_of (one_parameter (keyword sign.Void) (Unnamed tt)) body

-- an expression statement that is a name
abbrev pub value_of_name : Text → Statement Bare
value_of_name n = Evaluate tt (plain (Name (plain_name n)))

-- these words are this declaration or function
abbrev pub IsRead : Scope → List Symbol → External Bare → Type 0
IsRead names symbols e = next_external names symbols ≡ Some (e, [])

-- what the words of each example are read as: their tree, or nothing where they have none
pub record ExamplesAreRead : Type 0 where
  -- `int x(int (T));` where T is a typedef name: the parentheses hold parameters
  pub parameters_of_a_type : IsRead with_type (Fixed sign.Int ∷ symbol.Name x ∷ Fixed sign.Open ∷ Fixed sign.Int ∷ in_parentheses (symbol.Name T) ++ Fixed sign.Close ∷ Fixed sign.Semicolon ∷ [])
      (takes_one (keyword sign.Int) (Function tt (Unnamed tt) tt (one_parameter (renamed T) (Unnamed tt)) false))
  -- `int x(int (T));` where T is none: the parentheses hold its name
  pub name_in_parentheses : IsRead [] (Fixed sign.Int ∷ symbol.Name x ∷ Fixed sign.Open ∷ Fixed sign.Int ∷ in_parentheses (symbol.Name T) ++ Fixed sign.Close ∷ Fixed sign.Semicolon ∷ [])
      (takes_one (keyword sign.Int) (Parenthesised tt (called T)))
  -- `int x(int ());`: a function with no parameters
  pub empty_parentheses : IsRead [] (Fixed sign.Int ∷ symbol.Name x ∷ Fixed sign.Open ∷ Fixed sign.Int ∷ Fixed sign.Open ∷ Fixed sign.Close ∷ Fixed sign.Close ∷ Fixed sign.Semicolon ∷ [])
      (takes_one (keyword sign.Int) (Function tt (Unnamed tt) tt NoParameters false))
  -- `static T;`: T is the type
  pub no_declarator : IsRead with_type (Fixed sign.Static ∷ symbol.Name T ∷ Fixed sign.Semicolon ∷ [])
      (Outer tt (declaring (MoreSpecifiers (Keyword tt sign.Static) (renamed T)) []))
  -- `T T;`: the second T is declared
  pub type_and_name : IsRead with_type (symbol.Name T ∷ symbol.Name T ∷ Fixed sign.Semicolon ∷ []) (Outer tt (declares (renamed T) (called T)))
  -- `int T = sizeof T;`: the name is in scope from the end of its declarator on
  pub own_initializer : IsRead with_type (Fixed sign.Int ∷ symbol.Name T ∷ Fixed sign.Assign ∷ Fixed sign.Sizeof ∷ symbol.Name T ∷ Fixed sign.Semicolon ∷ [])
      (Outer tt (declaring (keyword sign.Int) (with_initial (called T) (Some (Value (plain (SizeofExpression (plain (Name (plain_name T))))))) ∷ [])))
  -- `int T[sizeof(T *)];`: and not before
  pub own_length : IsRead with_type (Fixed sign.Int ∷ symbol.Name T ∷ Fixed sign.OpenSquare ∷ Fixed sign.Sizeof ∷ Fixed sign.Open ∷ symbol.Name T ∷ Fixed sign.Star ∷ Fixed sign.Close ∷ Fixed sign.CloseSquare ∷ Fixed sign.Semicolon ∷ [])
      (Outer tt (declares (keyword sign.Int) (Array tt (called T) tt (Present (plain (SizeofType (type_name tt (renamed T) (Pointer tt [] (Unnamed tt)))))))))
  -- `int x = T - y - 1;`: what stands left is joined first
  pub left_first : IsRead [] (Fixed sign.Int ∷ symbol.Name x ∷ Fixed sign.Assign ∷ symbol.Name T ∷ Fixed sign.Minus ∷ symbol.Name y ∷ Fixed sign.Minus ∷ symbol.Number (49 ∷ []) ∷ Fixed sign.Semicolon ∷ [])
      (Outer tt (declaring (keyword sign.Int) (with_initial (called x) (Some (Value (plain (Binary sign.Minus (plain (Binary sign.Minus (plain (Name (plain_name T))) (plain (Name (plain_name y))))) (plain (Number (49 ∷ []))))))) ∷ [])))
  -- `if (y) if (y) ; else ;`: the `else` is that of the inner `if`
  pub inner_else : IsRead [] (function_words (Fixed sign.If ∷ in_parentheses (symbol.Name y) ++ Fixed sign.If ∷ in_parentheses (symbol.Name y) ++ Fixed sign.Semicolon ∷ Fixed sign.Else ∷ Fixed sign.Semicolon ∷ []))
      (plain_function (If tt (plain (Name (plain_name y))) (IfElse tt (plain (Name (plain_name y))) (Empty tt) (Empty tt)) ∷ []))
  -- `{ T; }` where T is a typedef name: a declaration
  pub type_alone : IsRead with_type (function_words (symbol.Name T ∷ Fixed sign.Semicolon ∷ [])) (plain_function (Declare (declaring (renamed T) []) ∷ []))
  -- `{ T; }` where T is none: an expression
  pub name_alone : IsRead [] (function_words (symbol.Name T ∷ Fixed sign.Semicolon ∷ [])) (plain_function (value_of_name T ∷ []))
  -- `{ T: ; }`: a label, whatever T is
  pub type_as_label : IsRead with_type (function_words (symbol.Name T ∷ Fixed sign.Colon ∷ Fixed sign.Semicolon ∷ [])) (plain_function (Label tt (plain_name T) (Empty tt) ∷ []))
  -- `{ { int T; } T y; }`: T is a typedef name again where its block has ended
  pub end_of_block : IsRead with_type (function_words (Fixed sign.OpenBrace ∷ Fixed sign.Int ∷ symbol.Name T ∷ Fixed sign.Semicolon ∷ Fixed sign.CloseBrace ∷ symbol.Name T ∷ symbol.Name y ∷ Fixed sign.Semicolon ∷ []))
      (plain_function (Block tt (statement_row (Declare (declares (keyword sign.Int) (called T)) ∷ [])) ∷ Declare (declares (renamed T) (called y)) ∷ []))
  -- `void x(int T) { T; }`: a parameter hides the typedef name
  pub parameter_hides : IsRead with_type (Fixed sign.Void ∷ symbol.Name x ∷ Fixed sign.Open ∷ Fixed sign.Int ∷ symbol.Name T ∷ Fixed sign.Close ∷ Fixed sign.OpenBrace ∷ symbol.Name T ∷ Fixed sign.Semicolon ∷ Fixed sign.CloseBrace ∷ [])
      (function_of (one_parameter (keyword sign.Int) (called T)) (value_of_name T ∷ []))
  -- `void x(enum { T } y) { T; }`: so does a constant of an enumeration among the parameters
  pub constant_hides : IsRead with_type (Fixed sign.Void ∷ symbol.Name x ∷ Fixed sign.Open ∷ Fixed sign.Enum ∷ Fixed sign.OpenBrace ∷ symbol.Name T ∷ Fixed sign.CloseBrace ∷ symbol.Name y ∷ Fixed sign.Close ∷ Fixed sign.OpenBrace ∷ symbol.Name T ∷ Fixed sign.Semicolon ∷ Fixed sign.CloseBrace ∷ [])
      (function_of (one_parameter (only (Enumeration tt None (MoreEnumerators (enumerator tt (plain_name T) Absent) NoEnumerators) false)) (called y)) (value_of_name T ∷ []))
  -- `typedef int T; int T; T x;`: the later T counts, so that nothing begins with the last three words
  pub later_name : externals_from 9 [] [] (Fixed sign.Typedef ∷ Fixed sign.Int ∷ symbol.Name T ∷ Fixed sign.Semicolon ∷ Fixed sign.Int ∷ symbol.Name T ∷ Fixed sign.Semicolon ∷ symbol.Name T ∷ symbol.Name x ∷ Fixed sign.Semicolon ∷ [])
      ≡ (Outer tt (declares (MoreSpecifiers (Keyword tt sign.Typedef) (keyword sign.Int)) (called T)) ∷ Outer tt (declares (keyword sign.Int) (called T)) ∷ [], symbol.Name T ∷ symbol.Name x ∷ Fixed sign.Semicolon ∷ [])
  -- `void x(void) { return 0 }`: no `;`, so that nothing begins with the first word
  pub no_semicolon : next_external [] (function_words (Fixed sign.Return ∷ symbol.Number (48 ∷ []) ∷ [])) ≡ None
