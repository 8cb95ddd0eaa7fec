-- The trees of the code as the definitions see them.
use Rattle.std.specs.Prelude.{suc, map, Option, Some, None, Vec}
use Rattle.std.specs.declared.alloc.Global.{Global}
use Rattle.p10_base.specs.Words.{Text}
use Rattle.p10_base.specs.declared.at.At.{At}
use Rattle.p10_syn.specs.declared.tree.Identifier as name
use Rattle.p10_syn.specs.declared.tree.Qualifier as qualifying
use Rattle.p10_syn.specs.declared.tree.Expr as expr
use Rattle.p10_syn.specs.declared.tree.Form as form
use Rattle.p10_syn.specs.declared.tree.TypeName as kind
use Rattle.p10_syn.specs.declared.tree.Spec as spec
use Rattle.p10_syn.specs.declared.tree.Structure as structure
use Rattle.p10_syn.specs.declared.tree.Member as declaration
use Rattle.p10_syn.specs.declared.tree.Field as part
use Rattle.p10_syn.specs.declared.tree.Enumeration as enumeration
use Rattle.p10_syn.specs.declared.tree.Enumerator as constant
use Rattle.p10_syn.specs.declared.tree.Declarator as declarator
use Rattle.p10_syn.specs.declared.tree.Parameter as given
use Rattle.p10_syn.specs.Bare.{bare_qualifier, bare, bare_type, bare_specifier, bare_member, bare_field, bare_enumerator, bare_declarator, bare_parameter}
use Rattle.p10_syn.specs.Trees.{Bare, specifier_row, Identifier, Qualifier, Expression, expression, Form, Name, Number, Character, Strings, Unary, Step, Binary, Assign, Conditional, Call, Index, Member, Arrow, Cast, SizeofExpression, SizeofType, Comma, Expressions, NoExpressions, MoreExpressions, Optional, Absent, Present, TypeName, type_name, Specifiers, NoSpecifiers, MoreSpecifiers, Specifier, Keyword, Typedef, Structure, Enumeration, Members, NoMembers, MoreMembers, MemberDeclaration, member_declaration, Fields, NoFields, MoreFields, Field, field, Enumerators, NoEnumerators, MoreEnumerators, Enumerator, enumerator, Declarator, Named, Unnamed, Pointer, Parenthesised, Array, Function, Parameters, NoParameters, MoreParameters, Parameter, parameter}

-- how a name of the code is written, and where it stands
abbrev pub identifier_of : name.Identifier → Identifier At
identifier_of x = record { place = x.at; name = x.text.now }

-- the own name of a structure or enumeration of the code, if it has one
abbrev pub tag_of : Option name.Identifier → Option (Identifier At)
tag_of None = None
tag_of (Some x) = Some (identifier_of x)

-- a qualifier of a pointer of the code
abbrev pub qualifier_of : qualifying.Qualifier → Qualifier At
qualifier_of q = record { place = q.at; word = q.sign }

abbrev mutual
  -- what an expression of the code is inside its parentheses, each of its operands with its place
  pub form_of : form.Form → Form At
  form_of (form.Name x) = Name (identifier_of x)
  form_of (form.Number text) = Number text.now
  form_of (form.Char text) = Character text.now
  form_of (form.Str texts) = Strings (map (λ text. text.now) texts.items)
  form_of (form.Unary' s p at n f) = Unary s (expression at n (form_of f))
  form_of (form.Step' side s p at n f) = Step side s (expression at n (form_of f))
  form_of (form.Binary' s p at n f q bt m g) = Binary s (expression at n (form_of f)) (expression bt m (form_of g))
  form_of (form.Assign' s p at n f q bt m g) = Assign s (expression at n (form_of f)) (expression bt m (form_of g))
  form_of (form.Cond' p at n f q bt m g r ct k h) = Conditional (expression at n (form_of f)) (expression bt m (form_of g)) (expression ct k (form_of h))
  form_of (form.Call' p at n f shape all) = Call (expression at n (form_of f)) (expressions_of all)
  form_of (form.Index' p at n f q bt m g) = Index (expression at n (form_of f)) (expression bt m (form_of g))
  form_of (form.Member' p at n f x) = Member (expression at n (form_of f)) (identifier_of x)
  form_of (form.Arrow' p at n f x) = Arrow (expression at n (form_of f)) (identifier_of x)
  form_of (form.Cast' p kt shape specs d q at n f) = Cast (type_name kt (specifiers_of specs) (declarator_of d)) (expression at n (form_of f))
  form_of (form.SizeofExpr' p at n f) = SizeofExpression (expression at n (form_of f))
  form_of (form.SizeofType' p kt shape specs d) = SizeofType (type_name kt (specifiers_of specs) (declarator_of d))
  form_of (form.Comma' shape all) = Comma (expressions_of all)

  -- the arguments of a call of the code, or the operands of its comma operator, in their order
  pub expressions_of : {m : _} → form.Row_of-Expr m → Expressions At
  expressions_of form.end_of-Expr = NoExpressions
  expressions_of (form.more_of-Expr at n f rest) = MoreExpressions (expression at n (form_of f)) (expressions_of rest)

  -- an expression of the code that may be left out: a length, a width or the value of a constant
  pub optional_of : declarator.Held-Declarator-Array-3 → Optional At
  optional_of declarator.None' = Absent
  optional_of (declarator.Some' p at n f) = Present (expression at n (form_of f))

  -- the specifiers of a parameter, a member or the name of a type of the code, in their order
  pub specifiers_of : {m : _} → form.Row_of-Spec m → Specifiers At
  specifiers_of form.end_of-Spec = NoSpecifiers
  specifiers_of (form.more_of-Spec s rest) = MoreSpecifiers (specifier_of s) (specifiers_of rest)

  -- the specifier of the grammar that one of the code stands for
  pub specifier_of : spec.Spec → Specifier At
  specifier_of (spec.Keyword at s) = Keyword at s
  specifier_of (spec.Typedef x) = Typedef (identifier_of x)
  specifier_of (spec.Structure s) = structure_of s
  specifier_of (spec.Enumeration e) = enumeration_of e

  -- a structure or union of the code: its first word, its own name and its members
  pub structure_of : structure.Structure → Specifier At
  structure_of (structure.Structure' at s tag shape all) = Structure at s (tag_of tag) (members_of all)

  -- the declarations in the body of a structure of the code, in their order
  pub members_of : {m : _} → structure.Row_of-Member m → Members At
  members_of structure.end_of-Member = NoMembers
  members_of (structure.more_of-Member m rest) = MoreMembers (member_of m) (members_of rest)

  -- a declaration of members of the code: its specifiers and what they declare
  pub member_of : declaration.Member → MemberDeclaration At
  member_of (declaration.Member' at shape specs shape' fields) = member_declaration at (specifiers_of specs) (fields_of fields)

  -- the declarators of one declaration of members of the code, in their order
  pub fields_of : {m : _} → declaration.Row_of-Field m → Fields At
  fields_of declaration.end_of-Field = NoFields
  fields_of (declaration.more_of-Field f rest) = MoreFields (field_of f) (fields_of rest)

  -- a declarator of a member of the code, and its width if it is a bit-field
  pub field_of : part.Field → Field At
  field_of (part.Field' at d width) = field at (declarator_of d) (optional_of width)

  -- an enumeration of the code: its own name, its constants and whether a comma stands after the last
  pub enumeration_of : enumeration.Enumeration → Specifier At
  enumeration_of (enumeration.Enumeration' at tag shape all comma) = Enumeration at (tag_of tag) (enumerators_of all) comma

  -- the constants of an enumeration of the code, in their order
  pub enumerators_of : {m : _} → enumeration.Row_of-Enumerator m → Enumerators At
  enumerators_of enumeration.end_of-Enumerator = NoEnumerators
  enumerators_of (enumeration.more_of-Enumerator e rest) = MoreEnumerators (enumerator_of e) (enumerators_of rest)

  -- a constant of an enumeration of the code, and its value if one is written
  pub enumerator_of : constant.Enumerator → Enumerator At
  enumerator_of (constant.Enumerator' at x value) = enumerator at (identifier_of x) (optional_of value)

  -- the declarator of the grammar that one of the code stands for
  pub declarator_of : declarator.Declarator → Declarator At
  declarator_of (declarator.Named x) = Named (identifier_of x)
  declarator_of (declarator.Unnamed at) = Unnamed at
  declarator_of (declarator.Pointer' at qualifiers p d) = Pointer at (map qualifier_of qualifiers.items) (declarator_of d)
  declarator_of (declarator.Parenthesised' at p d) = Parenthesised at (declarator_of d)
  declarator_of (declarator.Array' at p d brackets size) = Array at (declarator_of d) brackets (optional_of size)
  declarator_of (declarator.Function' at p d parentheses shape all ellipsis) = Function at (declarator_of d) parentheses (parameters_of all) ellipsis

  -- the parameters of a function's declarator of the code, in their order
  pub parameters_of : {m : _} → declarator.Row_of-Parameter m → Parameters At
  parameters_of declarator.end_of-Parameter = NoParameters
  parameters_of (declarator.more_of-Parameter at shape specs d rest) = MoreParameters (parameter at (specifiers_of specs) (declarator_of d)) (parameters_of rest)

-- the expression of the grammar that one of the code stands for, with its place and its pairs of parentheses
abbrev pub expression_of : expr.Expr → Expression At
expression_of e = expression e.at e.parens (form_of e.form)

-- a qualifier of a pointer of the code without its place
abbrev pub bare_qualifier_of : qualifying.Qualifier → Qualifier Bare
bare_qualifier_of q = bare_qualifier (qualifier_of q)

-- lists of specifiers
abbrev pub specifiers_in : Vec spec.Spec Global → Specifiers At
specifiers_in specs = specifier_row (map specifier_of specs.items)

-- the name of a type of the code: its place, its specifiers and its declarator
abbrev pub kind_of : kind.TypeName → TypeName At
kind_of k = type_name k.at (specifiers_in k.specs) (declarator_of k.declarator)

-- the parameter of the grammar that one of the code stands for
abbrev pub parameter_of : given.Parameter → Parameter At
parameter_of x = parameter x.at (specifiers_in x.specs) (declarator_of x.declarator)

-- ## Trees of the code without their places

-- an expression of the code without its places
unfoldable pub bare_of : expr.Expr → Expression Bare
bare_of e = bare (expression_of e)

-- the name of a type of the code without its places
unfoldable pub bare_kind_of : kind.TypeName → TypeName Bare
bare_kind_of k = bare_type (kind_of k)

-- a specifier of the code without its places
unfoldable pub bare_specifier_of : spec.Spec → Specifier Bare
bare_specifier_of s = bare_specifier (specifier_of s)

-- a declaration of members of the code without its places
unfoldable pub bare_member_of : declaration.Member → MemberDeclaration Bare
bare_member_of m = bare_member (member_of m)

-- a declarator of a member of the code, and its width, without their places
unfoldable pub bare_field_of : part.Field → Field Bare
bare_field_of f = bare_field (field_of f)

-- a constant of an enumeration of the code, and its value, without their places
unfoldable pub bare_enumerator_of : constant.Enumerator → Enumerator Bare
bare_enumerator_of e = bare_enumerator (enumerator_of e)

-- a declarator of the code without its places
unfoldable pub bare_declarator_of : declarator.Declarator → Declarator Bare
bare_declarator_of d = bare_declarator (declarator_of d)

-- a parameter of the code without its places
unfoldable pub bare_parameter_of : given.Parameter → Parameter Bare
bare_parameter_of x = bare_parameter (parameter_of x)

-- a name that stands nowhere
abbrev pub named : Text → Identifier Bare
named text = record { place = tt; name = text }

-- the own name of a structure or enumeration that stands nowhere, if it has one
abbrev pub named_tag : Option Text → Option (Identifier Bare)
named_tag None = None
named_tag (Some text) = Some (named text)

-- an expression that may be left out
abbrev pub bare_optional_of : Option expr.Expr → Optional Bare
bare_optional_of None = Absent
bare_optional_of (Some e) = Present (bare_of e)

-- in one more pair of parentheses
abbrev pub grouped : Expression Bare → Expression Bare
grouped (expression p n f) = expression tt (suc n) f
