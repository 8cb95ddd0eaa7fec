-- Which names the parts of declarations declare, and the scope after them (C99 6.2.1).
use Rattle.std.specs.Prelude.{List, [], ◌∷◌, Bool, true, false, ◌||◌, Option, Some, None, cond}
use Rattle.p10_base.specs.Words.{Text}
use Rattle.p10_syn.specs.declared.sign.Sign.{Sign}
use Rattle.p10_syn.specs.declared.sign.Sign.TheVariants as sign
use Rattle.p10_syn.specs.Scopes.{Scope, with_name, with_optional}
use Rattle.p10_syn.specs.Trees.{Identifier, Specifiers, NoSpecifiers, MoreSpecifiers, Specifier, Keyword, Typedef, Structure, Enumeration, Members, NoMembers, MoreMembers, MemberDeclaration, member_declaration, Enumerators, NoEnumerators, MoreEnumerators, Enumerator, enumerator, Declarator, Named, Unnamed, Pointer, Parenthesised, Array, Function, Parameters, NoParameters, MoreParameters, Parameter, parameter, InitDeclarator, Declaration, Statement, Declare, External, Outer, Defines}

-- the name that a declarator declares
abbrev pub identifier_in : {P : Type 0} → Declarator P → Option (Identifier P)
identifier_in (Named x) = Some x
identifier_in (Unnamed p) = None
identifier_in (Pointer p qs d) = identifier_in d
identifier_in (Parenthesised p d) = identifier_in d
identifier_in (Array p d b length) = identifier_in d
identifier_in (Function p d b ps ellipsis) = identifier_in d

-- how the name is written that a declarator declares, if it has one
abbrev pub name_in : {P : Type 0} → Declarator P → Option Text
name_in (Named x) = Some x.name
name_in (Unnamed p) = None
name_in (Pointer p qs d) = name_in d
name_in (Parenthesised p d) = name_in d
name_in (Array p d b length) = name_in d
name_in (Function p d b ps ellipsis) = name_in d

-- whether a keyword makes declared names typedef names (C99 6.7.1, 6.7.7)
abbrev pub is_typedef_sign : Sign → Bool
is_typedef_sign sign.Typedef = true
is_typedef_sign _ = false

-- whether a specifier makes declared names typedef names (C99 6.7.7)
abbrev pub is_typedef : {P : Type 0} → Specifier P → Bool
is_typedef (Keyword p s) = is_typedef_sign s
is_typedef _ = false

-- whether declarators after these specifiers declare typedef names (C99 6.7.7)
abbrev pub makes_types : {P : Type 0} → Specifiers P → Bool
makes_types NoSpecifiers = false
makes_types (MoreSpecifiers s ss) = is_typedef s || makes_types ss

-- the constants of an enumeration are in scope from after each one on
abbrev pub after_enumerator : {P : Type 0} → Scope → Enumerator P → Scope
after_enumerator names (enumerator p x value) = with_name names false x.name

-- the scope after all constants of an enumeration
abbrev pub after_enumerators : {P : Type 0} → Scope → Enumerators P → Scope
after_enumerators names NoEnumerators = names
after_enumerators names (MoreEnumerators e es) = after_enumerators (after_enumerator names e) es

-- specifiers declare the constants of their enumerations, also of those in a structure; members and tags aren't in
-- the scope
abbrev mutual
  pub after_specifiers : {P : Type 0} → Scope → Specifiers P → Scope
  after_specifiers names NoSpecifiers = names
  after_specifiers names (MoreSpecifiers s ss) = after_specifiers (after_specifier names s) ss

  -- the scope after one specifier: only the bodies of structures, unions and enumerations declare names
  pub after_specifier : {P : Type 0} → Scope → Specifier P → Scope
  after_specifier names (Keyword p s) = names
  after_specifier names (Typedef x) = names
  after_specifier names (Structure p s tag ms) = after_members names ms
  after_specifier names (Enumeration p tag es comma) = after_enumerators names es

  -- the scope after the body of a structure
  pub after_members : {P : Type 0} → Scope → Members P → Scope
  after_members names NoMembers = names
  after_members names (MoreMembers m ms) = after_members (after_member names m) ms

  -- the scope after a declaration of members: its specifiers count, the names of the members don't
  pub after_member : {P : Type 0} → Scope → MemberDeclaration P → Scope
  after_member names (member_declaration p ss fs) = after_specifiers names ss

-- after specifiers with a declarator: directly after the whole declarator its name is in scope
abbrev pub after_declarator : {P : Type 0} → Scope → Specifiers P → Declarator P → Scope
after_declarator names ss d = with_optional names (makes_types ss) (name_in d)

-- the scope after a parameter: its specifiers and then its name, if it has one
abbrev pub after_parameter : {P : Type 0} → Scope → Parameter P → Scope
after_parameter names (parameter p ss d) = after_declarator (after_specifiers names ss) ss d

-- the scope of a list of parameters at its end
abbrev pub after_parameters : {P : Type 0} → Scope → Parameters P → Scope
after_parameters names NoParameters = names
after_parameters names (MoreParameters x xs) = after_parameters (after_parameter names x) xs

-- the scope after all declarators of a declaration with these specifiers
abbrev pub after_init_declarators : {P : Type 0} → Scope → Specifiers P → List (InitDeclarator P) → Scope
after_init_declarators names ss [] = names
after_init_declarators names ss (d ∷ ds) = after_init_declarators (after_declarator names ss d.declarator) ss ds

-- the scope after a declaration: its specifiers and then each name that it declares
abbrev pub after_declaration : {P : Type 0} → Scope → Declaration P → Scope
after_declaration names d = after_init_declarators (after_specifiers names d.specifiers) d.specifiers d.declarators

-- of the statements only a declaration declares for those after it
abbrev pub after_statement : {P : Type 0} → Scope → Statement P → Scope
after_statement names (Declare d) = after_declaration names d
after_statement names _ = names

-- whether a declarator is a name alone, also in parentheses
abbrev pub is_only_name : {P : Type 0} → Declarator P → Bool
is_only_name (Named x) = true
is_only_name (Parenthesised p d) = is_only_name d
is_only_name _ = false

-- the list of parameters that is said first of the declared name, read outward, if a list is
abbrev pub first_parameters : {P : Type 0} → Declarator P → Option (Parameters P)
first_parameters (Named x) = None
first_parameters (Unnamed p) = None
first_parameters (Pointer p qs d) = first_parameters d
first_parameters (Parenthesised p d) = first_parameters d
first_parameters (Array p d b length) = first_parameters d
first_parameters (Function p d b ps ellipsis) = cond (is_only_name d) (Some ps) (first_parameters d)

-- the scope after a list of parameters, if there is one
abbrev pub with_parameters : {P : Type 0} → Scope → Option (Parameters P) → Scope
with_parameters names None = names
with_parameters names (Some ps) = after_parameters names ps

-- the scope of a function's body: that around it and the parameters that are said first of its name (C99 6.9.1)
abbrev pub in_body : {P : Type 0} → Scope → Declarator P → Scope
in_body names d = with_parameters names (first_parameters d)

-- the scope after a declaration or a function; the parameters of a function aren't in it
abbrev pub after_external : {P : Type 0} → Scope → External P → Scope
after_external names (Outer p d) = after_declaration names d
after_external names (Defines d) = after_declarator (after_specifiers names d.specifiers) d.specifiers d.declarator
