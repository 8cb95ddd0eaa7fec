-- Trees with other places: what stands for the place of each node is changed by a function.
use Rattle.std.specs.Prelude.{map, option_map}
use Rattle.p10_syn.specs.Trees.{Identifier, Qualifier, Expression, expression, Form, Name, Number, Character, Strings, Unary, Step, Binary, Assign, Conditional, Call, Index, Member, Arrow, Cast, SizeofExpression, SizeofType, Comma, Expressions, NoExpressions, MoreExpressions, Optional, Absent, Present, TypeName, type_name, Specifiers, NoSpecifiers, MoreSpecifiers, Specifier, Keyword, Typedef, Structure, Enumeration}
use Rattle.p10_syn.specs.Trees.{Members, NoMembers, MoreMembers, MemberDeclaration, member_declaration, Fields, NoFields, MoreFields, Field, field, Enumerators, NoEnumerators, MoreEnumerators, Enumerator, enumerator, Declarator, Named, Unnamed, Pointer, Parenthesised, Array, Function, Parameters, NoParameters, MoreParameters, Parameter, parameter}

abbrev pub mapped_identifier : {P Q : Type 0} → (P → Q) → Identifier P → Identifier Q
mapped_identifier f x = record { place = f x.place; name = x.name }

abbrev pub mapped_qualifier : {P Q : Type 0} → (P → Q) → Qualifier P → Qualifier Q
mapped_qualifier f x = record { place = f x.place; word = x.word }

abbrev mutual
  pub mapped_expression : {P Q : Type 0} → (P → Q) → Expression P → Expression Q
  mapped_expression f (expression at n form) = expression (f at) n (mapped_form f form)

  pub mapped_form : {P Q : Type 0} → (P → Q) → Form P → Form Q
  mapped_form f (Name x) = Name (mapped_identifier f x)
  mapped_form f (Number text) = Number text
  mapped_form f (Character text) = Character text
  mapped_form f (Strings texts) = Strings texts
  mapped_form f (Unary word e) = Unary word (mapped_expression f e)
  mapped_form f (Step side word e) = Step side word (mapped_expression f e)
  mapped_form f (Binary word a b) = Binary word (mapped_expression f a) (mapped_expression f b)
  mapped_form f (Assign word a b) = Assign word (mapped_expression f a) (mapped_expression f b)
  mapped_form f (Conditional c a b) = Conditional (mapped_expression f c) (mapped_expression f a) (mapped_expression f b)
  mapped_form f (Call e all) = Call (mapped_expression f e) (mapped_expressions f all)
  mapped_form f (Index a i) = Index (mapped_expression f a) (mapped_expression f i)
  mapped_form f (Member e x) = Member (mapped_expression f e) (mapped_identifier f x)
  mapped_form f (Arrow e x) = Arrow (mapped_expression f e) (mapped_identifier f x)
  mapped_form f (Cast t e) = Cast (mapped_type_name f t) (mapped_expression f e)
  mapped_form f (SizeofExpression e) = SizeofExpression (mapped_expression f e)
  mapped_form f (SizeofType t) = SizeofType (mapped_type_name f t)
  mapped_form f (Comma all) = Comma (mapped_expressions f all)

  pub mapped_expressions : {P Q : Type 0} → (P → Q) → Expressions P → Expressions Q
  mapped_expressions f NoExpressions = NoExpressions
  mapped_expressions f (MoreExpressions e rest) = MoreExpressions (mapped_expression f e) (mapped_expressions f rest)

  pub mapped_optional : {P Q : Type 0} → (P → Q) → Optional P → Optional Q
  mapped_optional f Absent = Absent
  mapped_optional f (Present e) = Present (mapped_expression f e)

  pub mapped_type_name : {P Q : Type 0} → (P → Q) → TypeName P → TypeName Q
  mapped_type_name f (type_name at specifiers d) = type_name (f at) (mapped_specifiers f specifiers) (mapped_declarator f d)

  pub mapped_specifiers : {P Q : Type 0} → (P → Q) → Specifiers P → Specifiers Q
  mapped_specifiers f NoSpecifiers = NoSpecifiers
  mapped_specifiers f (MoreSpecifiers one rest) = MoreSpecifiers (mapped_specifier f one) (mapped_specifiers f rest)

  pub mapped_specifier : {P Q : Type 0} → (P → Q) → Specifier P → Specifier Q
  mapped_specifier f (Keyword at word) = Keyword (f at) word
  mapped_specifier f (Typedef x) = Typedef (mapped_identifier f x)
  mapped_specifier f (Structure at word tag members) = Structure (f at) word (option_map (mapped_identifier f) tag) (mapped_members f members)
  mapped_specifier f (Enumeration at tag constants comma) = Enumeration (f at) (option_map (mapped_identifier f) tag) (mapped_enumerators f constants) comma

  pub mapped_members : {P Q : Type 0} → (P → Q) → Members P → Members Q
  mapped_members f NoMembers = NoMembers
  mapped_members f (MoreMembers one rest) = MoreMembers (mapped_member_declaration f one) (mapped_members f rest)

  pub mapped_member_declaration : {P Q : Type 0} → (P → Q) → MemberDeclaration P → MemberDeclaration Q
  mapped_member_declaration f (member_declaration at specifiers fields) = member_declaration (f at) (mapped_specifiers f specifiers) (mapped_fields f fields)

  pub mapped_fields : {P Q : Type 0} → (P → Q) → Fields P → Fields Q
  mapped_fields f NoFields = NoFields
  mapped_fields f (MoreFields one rest) = MoreFields (mapped_field f one) (mapped_fields f rest)

  pub mapped_field : {P Q : Type 0} → (P → Q) → Field P → Field Q
  mapped_field f (field at d width) = field (f at) (mapped_declarator f d) (mapped_optional f width)

  pub mapped_enumerators : {P Q : Type 0} → (P → Q) → Enumerators P → Enumerators Q
  mapped_enumerators f NoEnumerators = NoEnumerators
  mapped_enumerators f (MoreEnumerators one rest) = MoreEnumerators (mapped_enumerator f one) (mapped_enumerators f rest)

  pub mapped_enumerator : {P Q : Type 0} → (P → Q) → Enumerator P → Enumerator Q
  mapped_enumerator f (enumerator at x value) = enumerator (f at) (mapped_identifier f x) (mapped_optional f value)

  pub mapped_declarator : {P Q : Type 0} → (P → Q) → Declarator P → Declarator Q
  mapped_declarator f (Named x) = Named (mapped_identifier f x)
  mapped_declarator f (Unnamed at) = Unnamed (f at)
  mapped_declarator f (Pointer at qualifiers d) = Pointer (f at) (map (mapped_qualifier f) qualifiers) (mapped_declarator f d)
  mapped_declarator f (Parenthesised at d) = Parenthesised (f at) (mapped_declarator f d)
  mapped_declarator f (Array at d brackets length) = Array (f at) (mapped_declarator f d) (f brackets) (mapped_optional f length)
  mapped_declarator f (Function at d parentheses all dots) = Function (f at) (mapped_declarator f d) (f parentheses) (mapped_parameters f all) dots

  pub mapped_parameters : {P Q : Type 0} → (P → Q) → Parameters P → Parameters Q
  mapped_parameters f NoParameters = NoParameters
  mapped_parameters f (MoreParameters one rest) = MoreParameters (mapped_parameter f one) (mapped_parameters f rest)

  pub mapped_parameter : {P Q : Type 0} → (P → Q) → Parameter P → Parameter Q
  mapped_parameter f (parameter at specifiers d) = parameter (f at) (mapped_specifiers f specifiers) (mapped_declarator f d)
