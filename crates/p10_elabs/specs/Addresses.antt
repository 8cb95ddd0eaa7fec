-- Which variables of a function have their address taken, in operands that are evaluated: the other scalars are frame variables.
use Rattle.std.specs.Prelude.{ℕ, ◌+◌, Bool, false, if◌then◌else◌, List, [], ◌∷◌, ◌++◌, Option, Some, None}
use Rattle.p10_base.specs.Words.{Text}
use Rattle.p10_base.specs.declared.at.At.{At}
use Rattle.p10_bindings.specs.Lookup.{last_bound}
use Rattle.p10_syn.specs.Trees.{Identifier, Expression, expression, Name, Number, Character, Strings, Unary, Step, Binary, Assign, Conditional, Call, Index, Member, Arrow, Cast, SizeofExpression, SizeofType, Comma, Expressions, NoExpressions, MoreExpressions, Optional, Absent, Present, Specifiers, NoSpecifiers, MoreSpecifiers, Specifier, Keyword, Typedef, Structure, Enumeration, Members, NoMembers, MoreMembers, MemberDeclaration, member_declaration, Enumerators, NoEnumerators, MoreEnumerators, Enumerator, enumerator}
use Rattle.p10_syn.specs.Trees.{Initializer, Value, Braced, Initializers, NoInitializers, MoreInitializers, InitDeclarator, Declaration, Statement, Empty, Evaluate, Block, If, IfElse, Switch, While, Do, For, Case, Default, Label, Goto, Break, Continue, Return, Declare, Pragma, Statements, NoStatements, MoreStatements}
use Rattle.p10_elabx.specs.Judging.{is_and}
use Rattle.p10_elabd.specs.Words.{storage_of}
use Rattle.p10_elabd.specs.declared.site.Storage.{Storage}
use Rattle.p10_elabd.specs.declared.site.Storage.TheVariants as storage_is
use Rattle.p10_elabd.specs.Shapes.{PlainParameter, name_in, declares_function}

-- ## Names

-- names that are declared in a function, in their order: a variable with its number, or something else
abbrev pub LocalNames : Type 0
LocalNames = List (Text × Option ℕ)

-- the variable that a name stands for: its last declaration counts (C99 6.2.1p4)
abbrev pub variable_named : LocalNames → Text → Option ℕ
variable_named names name = variable_in (last_bound name names)
  where
    variable_in : Option (Option ℕ) → Option ℕ
    variable_in None = None
    variable_in (Some number) = number

abbrev mutual
  -- the constants of enumerations that specifiers declare
  pub constants_of : Specifiers At → List (Identifier At)
  constants_of NoSpecifiers = []
  constants_of (MoreSpecifiers one rest) = constants_in one ++ constants_of rest

  -- those of one specifier
  pub constants_in : Specifier At → List (Identifier At)
  constants_in (Keyword at word) = []
  constants_in (Typedef name) = []
  constants_in (Structure at word tag body) = constants_in_members body
  constants_in (Enumeration at tag all comma) = constants_named all

  -- those of members
  pub constants_in_members : Members At → List (Identifier At)
  constants_in_members NoMembers = []
  constants_in_members (MoreMembers m rest) = constants_in_member m ++ constants_in_members rest

  -- those of a declaration of members
  pub constants_in_member : MemberDeclaration At → List (Identifier At)
  constants_in_member (member_declaration at specifiers _) = constants_of specifiers

  -- those of an enumeration
  pub constants_named : Enumerators At → List (Identifier At)
  constants_named NoEnumerators = []
  constants_named (MoreEnumerators e rest) = constant_named e ++ constants_named rest

  -- one of them
  pub constant_named : Enumerator At → List (Identifier At)
  constant_named (enumerator at name value) = name ∷ []

-- names that stand for no variable, after those before
abbrev pub with_others : LocalNames → List (Identifier At) → LocalNames
with_others names [] = names
with_others names (x ∷ rest) = with_others (names ++ (x.name, None) ∷ []) rest

-- ## Expressions

-- the variable of which `&` takes the address
abbrev pub taken_at : LocalNames → Expression At → List ℕ
taken_at names (expression at n (Name x)) = in_list (variable_named names x.name)
  where
    in_list : Option ℕ → List ℕ
    in_list None = []
    in_list (Some n) = n ∷ []
taken_at names e = []

-- the variable of which an operator takes the address: `&` alone does
abbrev pub taken_by : Bool → LocalNames → Expression At → List ℕ
taken_by is_address names e = if is_address then taken_at names e else []

abbrev mutual
  -- the variables whose addresses are taken in an expression; operands of `sizeof` aren't evaluated
  pub taken_in : LocalNames → Expression At → List ℕ
  taken_in names (expression at n (Name x)) = []
  taken_in names (expression at n (Number text)) = []
  taken_in names (expression at n (Character text)) = []
  taken_in names (expression at n (Strings texts)) = []
  taken_in names (expression at n (Unary word e)) = taken_by (is_and word) names e ++ taken_in names e
  taken_in names (expression at n (Step side word e)) = taken_in names e
  taken_in names (expression at n (Binary word a b)) = taken_in names a ++ taken_in names b
  taken_in names (expression at n (Assign word a b)) = taken_in names a ++ taken_in names b
  taken_in names (expression at n (Conditional c a b)) = taken_in names c ++ (taken_in names a ++ taken_in names b)
  taken_in names (expression at n (Call e all)) = taken_in names e ++ taken_in_all names all
  taken_in names (expression at n (Index a i)) = taken_in names a ++ taken_in names i
  taken_in names (expression at n (Member e name)) = taken_in names e
  taken_in names (expression at n (Arrow e name)) = taken_in names e
  taken_in names (expression at n (Cast t e)) = taken_in names e
  taken_in names (expression at n (SizeofExpression e)) = []
  taken_in names (expression at n (SizeofType t)) = []
  taken_in names (expression at n (Comma all)) = taken_in_all names all

  -- the same for expressions in a row
  pub taken_in_all : LocalNames → Expressions At → List ℕ
  taken_in_all names NoExpressions = []
  taken_in_all names (MoreExpressions e rest) = taken_in names e ++ taken_in_all names rest

-- the same for an expression that may be left out
abbrev pub taken_in_optional : LocalNames → Optional At → List ℕ
taken_in_optional names Absent = []
taken_in_optional names (Present e) = taken_in names e

abbrev mutual
  -- the same for an initialiser
  pub taken_in_initializer : LocalNames → Initializer At → List ℕ
  taken_in_initializer names (Value e) = taken_in names e
  taken_in_initializer names (Braced at items comma) = taken_in_items names items

  -- the same for the items of a list
  pub taken_in_items : LocalNames → Initializers At → List ℕ
  taken_in_items names NoInitializers = []
  taken_in_items names (MoreInitializers i rest) = taken_in_initializer names i ++ taken_in_items names rest

-- the same for an initialiser that may be left out
abbrev pub taken_in_initial : LocalNames → Option (Initializer At) → List ℕ
taken_in_initial names None = []
taken_in_initial names (Some i) = taken_in_initializer names i

-- ## Statements

-- what a walk over a function knows: the names in scope, how many variables there were, and whose addresses were taken
pub record Walk : Type 0 where
  pub names : LocalNames
  pub variables : ℕ
  pub taken : List ℕ

-- addresses more
abbrev pub taking : Walk → List ℕ → Walk
taking w ns = record w { taken = w.taken ++ ns }

-- a declarator in a block: without a storage word it declares the next variable
abbrev pub walked_name : Walk → Storage → Bool → Text → Walk
walked_name w storage_is.Unnamed false name = record w { names = w.names ++ (name, Some w.variables) ∷ []; variables = w.variables + 1 }
walked_name w s function name = record w { names = w.names ++ (name, None) ∷ [] }

-- a declarator by the name that it declares
abbrev pub walked_declarator : Walk → Storage → InitDeclarator At → Option (Identifier At) → Walk
walked_declarator w s d None = w
walked_declarator w s d (Some name) = walked_name w s (declares_function d.declarator) name.name

-- declarators in a block: each name is in scope in its own initialiser (C99 6.2.1p7)
abbrev pub walked_declarators : Walk → Storage → List (InitDeclarator At) → Walk
walked_declarators w s [] = w
walked_declarators w s (d ∷ rest) =
    let v : Walk = walked_declarator w s d (name_in d.declarator) in
    walked_declarators (taking v (taken_in_initial v.names d.initial)) s rest

-- a declaration in a block
abbrev pub walked_declaration : Walk → Declaration At → Walk
walked_declaration w d = walked_declarators (record w { names = with_others w.names (constants_of d.specifiers) }) (storage_of d.specifiers) d.declarators

-- a block ends with its names
abbrev pub walked_out : Walk → Walk → Walk
walked_out before w = record w { names = before.names }

abbrev mutual
  -- a walk over a statement
  pub walked : Walk → Statement At → Walk
  walked w (Empty at) = w
  walked w (Evaluate at e) = taking w (taken_in w.names e)
  walked w (Block at ss) = walked_out w (walked_all w ss)
  walked w (If at e s) = walked (taking w (taken_in w.names e)) s
  walked w (IfElse at e s t) = walked (walked (taking w (taken_in w.names e)) s) t
  walked w (Switch at k e s) = walked (taking w (taken_in w.names e)) s
  walked w (While at k e s) = walked (taking w (taken_in w.names e)) s
  walked w (Do at k s e) = walked (taking w (taken_in w.names e)) s
  walked w (For at k start test step s) =
      let v : Walk = walked w start in
      walked_out w (walked (taking v (taken_in_optional v.names test ++ taken_in_optional v.names step)) s)
  walked w (Case at e s) = walked w s
  walked w (Default at s) = walked w s
  walked w (Label at name s) = walked w s
  walked w (Goto at name) = w
  walked w (Break at) = w
  walked w (Continue at) = w
  walked w (Return at k e) = taking w (taken_in_optional w.names e)
  walked w (Declare d) = walked_declaration w d
  walked w (Pragma at text) = w

  -- a walk over the items of a block
  pub walked_all : Walk → Statements At → Walk
  walked_all w NoStatements = w
  walked_all w (MoreStatements s rest) = walked_all (walked w s) rest

-- a parameter, which is the next variable, perhaps without a name
abbrev pub walked_parameter : Walk → Option (Identifier At) → Walk
walked_parameter w None = record w { variables = w.variables + 1 }
walked_parameter w (Some name) = walked_name w storage_is.Unnamed false name.name

-- the names of parameters, which are the first variables
abbrev pub with_parameters : Walk → List PlainParameter → Walk
with_parameters w [] = w
with_parameters w (p ∷ rest) = with_parameters (walked_parameter w p.name) rest

-- the variables whose addresses are taken in the body of a function
abbrev pub addresses_taken : List PlainParameter → Statements At → List ℕ
addresses_taken parameters body =
    (walked_all (with_parameters (record { names = []; variables = 0; taken = [] }) parameters) body).taken
