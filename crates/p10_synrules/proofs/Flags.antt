-- Each part of an expression stands in the condition of an `if` where the whole expression does.
use Rattle.std.proofs.Common.{◌≡◌, List, [], ◌∷◌, ◌++◌, Bool, false, Option, Some, None, refl, subst, inl, inr}
use Rattle.std.specs.List.{Contains}
use Rattle.p10_base.specs.declared.at.At.{At}
use Rattle.p10_syn.specs.Declaring.{makes_types}
use Rattle.p10_syn.specs.Trees.{Identifier, Expression, expression, Form, Name, Number, Character, Strings, Unary, Step, Binary, Assign, Conditional, Call, Index, Member, Arrow, Cast, SizeofExpression, SizeofType, Comma, Expressions, NoExpressions, MoreExpressions, Optional, Absent, Present, TypeName, type_name, Specifiers, NoSpecifiers, MoreSpecifiers, Specifier, Keyword, Typedef, Structure, Enumeration, Members, NoMembers, MoreMembers, MemberDeclaration, member_declaration, Fields, NoFields, MoreFields, Field, field, Enumerators, NoEnumerators, MoreEnumerators, Enumerator, enumerator, Declarator, Named, Unnamed, Pointer, Parenthesised, Array, Function, Parameters, NoParameters, MoreParameters, Parameter, parameter}
use Rattle.p10_synrules.specs.Parts.{Part, ExpressionPart, DeclaratorPart, StatementPart, NamePart, tag_parts, expression_parts, form_parts, list_parts, optional_parts, type_parts, specifiers_parts, specifier_parts, members_parts, member_parts, fields_parts, field_parts, enumerators_parts, enumerator_parts, declarator_parts, parameters_parts, parameter_parts}
use Rattle.p10_synrules.specs.Laws.{PartsStandWithTheWhole}
use Rattle.p10_synrules.proofs.Elements.{none_in, first_or_later}

abbrev Stands : Bool → Part → Type 0
Stands within (ExpressionPart inner t) = inner ≡ within
Stands within (DeclaratorPart typedef d) = Unit {0}
Stands within (StatementPart s) = Unit {0}
Stands within (NamePart x) = Unit {0}

data AllStand (within : Bool) : List Part → Type 0 where
  none : AllStand within []
  more : (part : Part) (parts : List Part) → Stands within part → AllStand within parts → AllStand within (part ∷ parts)

joined : (within : Bool) (xs ys : List Part) → AllStand within xs → AllStand within ys → AllStand within (xs ++ ys)
joined within _ ys none others = others
joined within _ ys (more part parts stands rest) others = more part (parts ++ ys) stands (joined within parts ys rest others)

name_stands : (within : Bool) (x : Identifier At) → AllStand within (NamePart x ∷ [])
name_stands within x = more (NamePart x) [] tt none

tag_stands : (within : Bool) (tag : Option (Identifier At)) → AllStand within (tag_parts tag)
tag_stands within None = none
tag_stands within (Some x) = name_stands within x

mutual
  expression_stands : (within : Bool) (t : Expression At) → AllStand within (expression_parts within t)
  expression_stands within (expression p n f) = more (ExpressionPart within (expression p n f)) (form_parts within f) refl (form_stands within f)

  form_stands : (within : Bool) (f : Form At) → AllStand within (form_parts within f)
  form_stands within (Name x) = name_stands within x
  form_stands within (Number x) = none
  form_stands within (Character x) = none
  form_stands within (Strings xs) = none
  form_stands within (Unary word t) = expression_stands within t
  form_stands within (Step side word t) = expression_stands within t
  form_stands within (Binary word l r) = joined within (expression_parts within l) (expression_parts within r) (expression_stands within l) (expression_stands within r)
  form_stands within (Assign word l r) = joined within (expression_parts within l) (expression_parts within r) (expression_stands within l) (expression_stands within r)
  form_stands within (Conditional a b c) =
      joined within (expression_parts within a ++ expression_parts within b) (expression_parts within c)
      (joined within (expression_parts within a) (expression_parts within b) (expression_stands within a) (expression_stands within b)) (expression_stands within c)
  form_stands within (Call f ts) = joined within (expression_parts within f) (list_parts within ts) (expression_stands within f) (list_stands within ts)
  form_stands within (Index l r) = joined within (expression_parts within l) (expression_parts within r) (expression_stands within l) (expression_stands within r)
  form_stands within (Member t x) = joined within (expression_parts within t) (NamePart x ∷ []) (expression_stands within t) (name_stands within x)
  form_stands within (Arrow t x) = joined within (expression_parts within t) (NamePart x ∷ []) (expression_stands within t) (name_stands within x)
  form_stands within (Cast k t) = joined within (type_parts within k) (expression_parts within t) (type_stands within k) (expression_stands within t)
  form_stands within (SizeofExpression t) = expression_stands within t
  form_stands within (SizeofType k) = type_stands within k
  form_stands within (Comma ts) = list_stands within ts

  list_stands : (within : Bool) (ts : Expressions At) → AllStand within (list_parts within ts)
  list_stands within NoExpressions = none
  list_stands within (MoreExpressions t ts) = joined within (expression_parts within t) (list_parts within ts) (expression_stands within t) (list_stands within ts)

  optional_stands : (within : Bool) (t : Optional At) → AllStand within (optional_parts within t)
  optional_stands within Absent = none
  optional_stands within (Present t) = expression_stands within t

  type_stands : (within : Bool) (k : TypeName At) → AllStand within (type_parts within k)
  type_stands within (type_name p ss d) =
      joined within (specifiers_parts within ss) (DeclaratorPart false d ∷ declarator_parts within d) (specifiers_stand within ss)
      (more (DeclaratorPart false d) (declarator_parts within d) tt (declarator_stands within d))

  specifiers_stand : (within : Bool) (ss : Specifiers At) → AllStand within (specifiers_parts within ss)
  specifiers_stand within NoSpecifiers = none
  specifiers_stand within (MoreSpecifiers s ss) = joined within (specifier_parts within s) (specifiers_parts within ss) (specifier_stands within s) (specifiers_stand within ss)

  specifier_stands : (within : Bool) (s : Specifier At) → AllStand within (specifier_parts within s)
  specifier_stands within (Keyword p word) = none
  specifier_stands within (Typedef x) = name_stands within x
  specifier_stands within (Structure p word tag ms) = joined within (tag_parts tag) (members_parts within ms) (tag_stands within tag) (members_stand within ms)
  specifier_stands within (Enumeration p tag es comma) = joined within (tag_parts tag) (enumerators_parts within es) (tag_stands within tag) (enumerators_stand within es)

  members_stand : (within : Bool) (ms : Members At) → AllStand within (members_parts within ms)
  members_stand within NoMembers = none
  members_stand within (MoreMembers m ms) = joined within (member_parts within m) (members_parts within ms) (member_stands within m) (members_stand within ms)

  member_stands : (within : Bool) (m : MemberDeclaration At) → AllStand within (member_parts within m)
  member_stands within (member_declaration p ss fs) = joined within (specifiers_parts within ss) (fields_parts within fs) (specifiers_stand within ss) (fields_stand within fs)

  fields_stand : (within : Bool) (fs : Fields At) → AllStand within (fields_parts within fs)
  fields_stand within NoFields = none
  fields_stand within (MoreFields f fs) = joined within (field_parts within f) (fields_parts within fs) (field_stands within f) (fields_stand within fs)

  field_stands : (within : Bool) (f : Field At) → AllStand within (field_parts within f)
  field_stands within (field p d width) =
      joined within (DeclaratorPart false d ∷ declarator_parts within d) (optional_parts within width)
      (more (DeclaratorPart false d) (declarator_parts within d) tt (declarator_stands within d)) (optional_stands within width)

  enumerators_stand : (within : Bool) (es : Enumerators At) → AllStand within (enumerators_parts within es)
  enumerators_stand within NoEnumerators = none
  enumerators_stand within (MoreEnumerators e es) = joined within (enumerator_parts within e) (enumerators_parts within es) (enumerator_stands within e) (enumerators_stand within es)

  enumerator_stands : (within : Bool) (e : Enumerator At) → AllStand within (enumerator_parts within e)
  enumerator_stands within (enumerator p x value) = more (NamePart x) (optional_parts within value) tt (optional_stands within value)

  declarator_stands : (within : Bool) (d : Declarator At) → AllStand within (declarator_parts within d)
  declarator_stands within (Named x) = name_stands within x
  declarator_stands within (Unnamed p) = none
  declarator_stands within (Pointer p qs d) = declarator_stands within d
  declarator_stands within (Parenthesised p d) = declarator_stands within d
  declarator_stands within (Array p d b size) = joined within (declarator_parts within d) (optional_parts within size) (declarator_stands within d) (optional_stands within size)
  declarator_stands within (Function p d b ps ellipsis) = joined within (declarator_parts within d) (parameters_parts within ps) (declarator_stands within d) (parameters_stand within ps)

  parameters_stand : (within : Bool) (ps : Parameters At) → AllStand within (parameters_parts within ps)
  parameters_stand within NoParameters = none
  parameters_stand within (MoreParameters x xs) = joined within (parameter_parts within x) (parameters_parts within xs) (parameter_stands within x) (parameters_stand within xs)

  parameter_stands : (within : Bool) (x : Parameter At) → AllStand within (parameter_parts within x)
  parameter_stands within (parameter p ss d) =
      joined within (specifiers_parts within ss) (DeclaratorPart (makes_types ss) d ∷ declarator_parts within d) (specifiers_stand within ss)
      (more (DeclaratorPart (makes_types ss) d) (declarator_parts within d) tt (declarator_stands within d))

stands_of : (within : Bool) (parts : List Part) (part : Part) → AllStand within parts → Contains parts part → Stands within part
stands_of within _ part none held = absurd (none_in part held)
stands_of within _ part (more first rest stands all) held =
    elim (first_or_later first rest part held) [ inl same ↦ subst (Stands within) same stands | inr later ↦ stands_of within rest part all later ]

pub parts_stand : PartsStandWithTheWhole
parts_stand within inner t u held = stands_of within (expression_parts within t) (ExpressionPart inner u) (expression_stands within t) held
