-- A tree that is put into its place is the same tree.
use Rattle.std.proofs.Common.{◌≡◌, ℕ, ◌+◌, length, List, [], ◌∷◌, Option, Some, None, refl, ap}
use Rattle.p10_syn.specs.declared.place.Side.TheVariants.{Before, After}
use Rattle.p10_syn.specs.Counts.{count_tag, count, count_optional, count_type, count_specifiers, count_specifier, count_member, count_field, count_enumerator, count_declarator, count_parameter, count_initializer, count_init_declarator, count_head, count_statement, count_external}
use Rattle.p10_syn.specs.Trees.{Bare, Identifier, Qualifier, Expression, expression, Form, Name, Number, Character, Strings, Unary, Step, Binary, Assign, Conditional, Call, Index, Member, Arrow, Cast, SizeofExpression, SizeofType, Comma, Expressions, NoExpressions, MoreExpressions, Optional, Absent, Present, TypeName, type_name, Specifiers, NoSpecifiers, MoreSpecifiers, Specifier, Keyword, Typedef, Structure, Enumeration, Members, NoMembers, MoreMembers, MemberDeclaration, member_declaration, Fields, NoFields, MoreFields, Field, field, Enumerators, NoEnumerators, MoreEnumerators, Enumerator, enumerator, Declarator, Named, Unnamed, Pointer, Parenthesised, Array, Function, Parameters, NoParameters, MoreParameters, Parameter, parameter}
use Rattle.p10_syn.specs.Trees.{Initializer, Value, Braced, Initializers, NoInitializers, MoreInitializers, InitDeclarator, Declaration, Statement, Empty, Evaluate, Block, If, IfElse, Switch, While, Do, For, Case, Default, Label, Goto, Break, Continue, Return, Declare, Pragma, Statements, NoStatements, MoreStatements, Definition, External, Outer, Defines}
use Rattle.p10_syn.specs.Bare.{bare_tag, bare_qualifiers, bare, bare_form, bare_list, bare_optional, bare_type, bare_specifiers, bare_specifier, bare_members, bare_member, bare_fields, bare_field, bare_enumerators, bare_enumerator, bare_declarator, bare_parameters, bare_parameter, bare_initializer, bare_initializers, bare_initial, bare_init_declarator, bare_init_declarators, bare_declaration, bare_statement, bare_statements, bare_definition, bare_external, bare_externals}
use Rattle.p10_syn.specs.Places.{Source, locate_tag, locate_qualifiers, locate, locate_form, locate_list, locate_optional, locate_type, locate_specifiers, locate_specifier, locate_members, locate_member, locate_fields, locate_field, locate_enumerators, locate_enumerator, locate_declarator, locate_parameters, locate_parameter, locate_initializer, locate_initializers, locate_initial, locate_init_declarator, locate_init_declarators, locate_declaration, locate_statement, locate_statements, locate_definition, locate_external, locate_externals}

pub same_tag : (s : Source) (n : ℕ) (tag : Option (Identifier Bare)) → bare_tag (locate_tag s n tag) ≡ tag
same_tag s n None = refl
same_tag s n (Some x) = refl

pub same_qualifiers : (s : Source) (n : ℕ) (qs : List (Qualifier Bare)) → bare_qualifiers (locate_qualifiers s n qs) ≡ qs
same_qualifiers s n [] = refl
same_qualifiers s n (q ∷ qs) = ap (λ rest. q ∷ rest) (same_qualifiers s (n + 1) qs)

mutual
  pub same : (s : Source) (n : ℕ) (t : Expression Bare) → bare (locate s n t) ≡ t
  same s n (expression p k f) = rw (same_form s (n + k) f)

  pub same_form : (s : Source) (n : ℕ) (f : Form Bare) → bare_form (locate_form s n f) ≡ f
  same_form s n (Name x) = refl
  same_form s n (Number x) = refl
  same_form s n (Character x) = refl
  same_form s n (Strings xs) = refl
  same_form s n (Unary op t) = rw (same s (n + 1) t)
  same_form s n (Step Before op t) = rw (same s (n + 1) t)
  same_form s n (Step After op t) = rw (same s n t)
  same_form s n (Binary op l r) = rw (same s n l, same s (n + count l + 1) r)
  same_form s n (Assign op l r) = rw (same s n l, same s (n + count l + 1) r)
  same_form s n (Conditional a b c) = rw (same s n a, same s (n + count a + 1) b, same s (n + count a + 1 + count b + 1) c)
  same_form s n (Call f ts) = rw (same s n f, same_list s (n + count f + 1) ts)
  same_form s n (Index l r) = rw (same s n l, same s (n + count l + 1) r)
  same_form s n (Member t x) = rw (same s n t)
  same_form s n (Arrow t x) = rw (same s n t)
  same_form s n (Cast k t) = rw (same_type s (n + 1) k, same s (n + 1 + count_type k + 1) t)
  same_form s n (SizeofExpression t) = rw (same s (n + 1) t)
  same_form s n (SizeofType k) = rw (same_type s (n + 2) k)
  same_form s n (Comma ts) = rw (same_list s n ts)

  pub same_list : (s : Source) (n : ℕ) (ts : Expressions Bare) → bare_list (locate_list s n ts) ≡ ts
  same_list s n NoExpressions = refl
  same_list s n (MoreExpressions t ts) = rw (same s n t, same_list s (n + count t + 1) ts)

  pub same_optional : (s : Source) (n : ℕ) (t : Optional Bare) → bare_optional (locate_optional s n t) ≡ t
  same_optional s n Absent = refl
  same_optional s n (Present t) = rw (same s n t)

  pub same_type : (s : Source) (n : ℕ) (k : TypeName Bare) → bare_type (locate_type s n k) ≡ k
  same_type s n (type_name p ss d) = rw (same_specifiers s n ss, same_declarator s (n + count_specifiers ss) d)

  pub same_specifiers : (s : Source) (n : ℕ) (ss : Specifiers Bare) → bare_specifiers (locate_specifiers s n ss) ≡ ss
  same_specifiers s n NoSpecifiers = refl
  same_specifiers s n (MoreSpecifiers x xs) = rw (same_specifier s n x, same_specifiers s (n + count_specifier x) xs)

  pub same_specifier : (s : Source) (n : ℕ) (x : Specifier Bare) → bare_specifier (locate_specifier s n x) ≡ x
  same_specifier s n (Keyword p word) = refl
  same_specifier s n (Typedef x) = refl
  same_specifier s n (Structure p word tag ms) = rw (same_tag s (n + 1) tag, same_members s (n + 1 + count_tag tag + 1) ms)
  same_specifier s n (Enumeration p tag es comma) = rw (same_tag s (n + 1) tag, same_enumerators s (n + 1 + count_tag tag + 1) es)

  pub same_members : (s : Source) (n : ℕ) (ms : Members Bare) → bare_members (locate_members s n ms) ≡ ms
  same_members s n NoMembers = refl
  same_members s n (MoreMembers m ms) = rw (same_member s n m, same_members s (n + count_member m) ms)

  pub same_member : (s : Source) (n : ℕ) (m : MemberDeclaration Bare) → bare_member (locate_member s n m) ≡ m
  same_member s n (member_declaration p ss fs) = rw (same_specifiers s n ss, same_fields s (n + count_specifiers ss) fs)

  pub same_fields : (s : Source) (n : ℕ) (fs : Fields Bare) → bare_fields (locate_fields s n fs) ≡ fs
  same_fields s n NoFields = refl
  same_fields s n (MoreFields f fs) = rw (same_field s n f, same_fields s (n + count_field f + 1) fs)

  pub same_field : (s : Source) (n : ℕ) (f : Field Bare) → bare_field (locate_field s n f) ≡ f
  same_field s n (field p d width) = rw (same_declarator s n d, same_optional s (n + count_declarator d + 1) width)

  pub same_enumerators : (s : Source) (n : ℕ) (es : Enumerators Bare) → bare_enumerators (locate_enumerators s n es) ≡ es
  same_enumerators s n NoEnumerators = refl
  same_enumerators s n (MoreEnumerators e es) = rw (same_enumerator s n e, same_enumerators s (n + count_enumerator e + 1) es)

  pub same_enumerator : (s : Source) (n : ℕ) (e : Enumerator Bare) → bare_enumerator (locate_enumerator s n e) ≡ e
  same_enumerator s n (enumerator p x value) = rw (same_optional s (n + 2) value)

  pub same_declarator : (s : Source) (n : ℕ) (d : Declarator Bare) → bare_declarator (locate_declarator s n d) ≡ d
  same_declarator s n (Named x) = refl
  same_declarator s n (Unnamed p) = refl
  same_declarator s n (Pointer p qs d) = rw (same_qualifiers s (n + 1) qs, same_declarator s (n + 1 + length qs) d)
  same_declarator s n (Parenthesised p d) = rw (same_declarator s (n + 1) d)
  same_declarator s n (Array p d b size) = rw (same_declarator s n d, same_optional s (n + count_declarator d + 1) size)
  same_declarator s n (Function p d b ps ellipsis) = rw (same_declarator s n d, same_parameters s (n + count_declarator d + 1) ps)

  pub same_parameters : (s : Source) (n : ℕ) (xs : Parameters Bare) → bare_parameters (locate_parameters s n xs) ≡ xs
  same_parameters s n NoParameters = refl
  same_parameters s n (MoreParameters x xs) = rw (same_parameter s n x, same_parameters s (n + count_parameter x + 1) xs)

  pub same_parameter : (s : Source) (n : ℕ) (x : Parameter Bare) → bare_parameter (locate_parameter s n x) ≡ x
  same_parameter s n (parameter p ss d) = rw (same_specifiers s n ss, same_declarator s (n + count_specifiers ss) d)

mutual
  pub same_initializer : (s : Source) (n : ℕ) (i : Initializer Bare) → bare_initializer (locate_initializer s n i) ≡ i
  same_initializer s n (Value t) = rw (same s n t)
  same_initializer s n (Braced p is comma) = rw (same_initializers s (n + 1) is)

  pub same_initializers : (s : Source) (n : ℕ) (is : Initializers Bare) → bare_initializers (locate_initializers s n is) ≡ is
  same_initializers s n NoInitializers = refl
  same_initializers s n (MoreInitializers i is) = rw (same_initializer s n i, same_initializers s (n + count_initializer i + 1) is)

pub same_initial : (s : Source) (n : ℕ) (i : Option (Initializer Bare)) → bare_initial (locate_initial s n i) ≡ i
same_initial s n None = refl
same_initial s n (Some i) = rw (same_initializer s n i)

pub same_init_declarator : (s : Source) (n : ℕ) (d : InitDeclarator Bare) → bare_init_declarator (locate_init_declarator s n d) ≡ d
same_init_declarator s n d = rw (same_declarator s n d.declarator, same_initial s (n + count_declarator d.declarator + 1) d.initial)

pub same_init_declarators : (s : Source) (n : ℕ) (ds : List (InitDeclarator Bare)) → bare_init_declarators (locate_init_declarators s n ds) ≡ ds
same_init_declarators s n [] = refl
same_init_declarators s n (d ∷ ds) = cc (same_init_declarator s n d, same_init_declarators s (n + count_init_declarator d + 1) ds)

pub same_declaration : (s : Source) (n : ℕ) (d : Declaration Bare) → bare_declaration (locate_declaration s n d) ≡ d
same_declaration s n d = rw (same_specifiers s n d.specifiers, same_init_declarators s (n + count_specifiers d.specifiers) d.declarators)

mutual
  pub same_statement : (s : Source) (n : ℕ) (u : Statement Bare) → bare_statement (locate_statement s n u) ≡ u
  same_statement s n (Empty p) = refl
  same_statement s n (Evaluate p t) = rw (same s n t)
  same_statement s n (Block p us) = rw (same_statements s (n + 1) us)
  same_statement s n (If p t u) = rw (same s (n + 2) t, same_statement s (n + 2 + count t + 1) u)
  same_statement s n (IfElse p t u v) = rw (same s (n + 2) t, same_statement s (n + 2 + count t + 1) u, same_statement s (n + 2 + count t + 1 + count_statement u + 1) v)
  same_statement s n (Switch p k t u) = rw (same s (n + 2) t, same_statement s (n + 2 + count t + 1) u)
  same_statement s n (While p k t u) = rw (same s (n + 2) t, same_statement s (n + 2 + count t + 1) u)
  same_statement s n (Do p k u t) = rw (same_statement s (n + 1) u, same s (n + 1 + count_statement u + 2) t)
  same_statement s n (For p k start test step u) =
      rw (
        same_statement s (n + 2) start,
        same_optional s (n + 2 + count_statement start) test,
        same_optional s (n + 2 + count_statement start + count_optional test + 1) step,
        same_statement s (n + 2 + count_statement start + count_optional test + 1 + count_optional step + 1) u,
      )
  same_statement s n (Case p t u) = rw (same s (n + 1) t, same_statement s (n + 1 + count t + 1) u)
  same_statement s n (Default p u) = rw (same_statement s (n + 2) u)
  same_statement s n (Label p x u) = rw (same_statement s (n + 2) u)
  same_statement s n (Goto p x) = refl
  same_statement s n (Break p) = refl
  same_statement s n (Continue p) = refl
  same_statement s n (Return p k t) = rw (same_optional s (n + 1) t)
  same_statement s n (Declare d) = rw (same_declaration s n d)
  same_statement s n (Pragma p x) = refl

  pub same_statements : (s : Source) (n : ℕ) (us : Statements Bare) → bare_statements (locate_statements s n us) ≡ us
  same_statements s n NoStatements = refl
  same_statements s n (MoreStatements u us) = rw (same_statement s n u, same_statements s (n + count_statement u) us)

pub same_definition : (s : Source) (n : ℕ) (d : Definition Bare) → bare_definition (locate_definition s n d) ≡ d
same_definition s n d = rw (same_specifiers s n d.specifiers, same_declarator s (n + count_specifiers d.specifiers) d.declarator, same_statements s (n + count_head d + 1) d.body)

pub same_external : (s : Source) (n : ℕ) (e : External Bare) → bare_external (locate_external s n e) ≡ e
same_external s n (Outer p d) = rw (same_declaration s n d)
same_external s n (Defines d) = rw (same_definition s n d)

pub same_externals : (s : Source) (n : ℕ) (es : List (External Bare)) → bare_externals (locate_externals s n es) ≡ es
same_externals s n [] = refl
same_externals s n (e ∷ es) = rw (same_external s n e, same_externals s (n + count_external e) es)
