-- What is spelled is read, whatever words follow that don't go on with it.
use Rattle.std.proofs.Common.{◌≡◌, ℕ, List, [], ◌∷◌, true, false}
use Rattle.std.proofs.lemmas.Bool.{true≢false}
use Rattle.p10_syn.specs.declared.place.Side.TheVariants.{Before, After}
use Rattle.p10_syn.specs.declared.setting.Naming.{Naming}
use Rattle.p10_syn.specs.declared.setting.Naming.TheVariants.{Required, Allowed, Forbidden}
use Rattle.p10_syn.specs.declared.setting.Setting.{Setting}
use Rattle.p10_syn.specs.declared.setting.Setting.TheVariants as setting
use Rattle.p10_syn.specs.declared.setting.Said.{Said}
use Rattle.p10_syn.specs.declared.setting.Said.TheVariants.{Nothing}
use Rattle.p10_syn.specs.Symbols.{Symbol}
use Rattle.p10_syn.specs.Scopes.{Scope}
use Rattle.p10_syn.specs.Declaring.{after_specifier, after_specifiers, after_member, after_enumerator, after_parameter}
use Rattle.p10_syn.specs.Spelling.{spell_type}
use Rattle.p10_syn.specs.Forms.{after_saying, IsExpression, IsForm, AreExpressions, IsOptional, IsTypeName, AreSpecifiers, IsSpecifier, AreMembers, IsMember, AreFields, IsField, AreEnumerators, IsEnumerator, IsDeclarator, AreParameters, IsParameter}
use Rattle.p10_syn.specs.Trees.{Bare, Expression, expression, Form, Name, Number, Character, Strings, Unary, Step, Binary, Assign, Conditional, Call, Index, Member, Arrow, Cast, SizeofExpression, SizeofType, Comma, Expressions, NoExpressions, MoreExpressions, Optional, Absent, Present, TypeName, type_name, Specifiers, NoSpecifiers, MoreSpecifiers, Specifier, Keyword, Typedef, Structure, Enumeration, Members, NoMembers, MoreMembers, MemberDeclaration, member_declaration, Fields, NoFields, MoreFields, Field, field, Enumerators, NoEnumerators, MoreEnumerators, Enumerator, enumerator, Declarator, Named, Unnamed, Pointer, Parenthesised, Array, Function, Parameters, NoParameters, MoreParameters, Parameter, parameter}
use Rattle.p10_pexpr.specs.Tables.{begins_specifiers}
use Rattle.p10_pexpr.specs.ExpressionReading.{plain}
use Rattle.p10_pexpr.proofs.FirstWords.{specifiers_begin}
use Rattle.p10_pexpr.proofs.ExpressionAgain.{Left, Full, Laws, Listed, TypeRead, wraps, name_left, number_left, character_left, strings_left, unary_left, step_left, sizeof_left, cast_left, sizeof_type_left, binary_left, assign_left, conditional_left, comma_left, index_left, call_none_left, call_some_left, member_left, arrow_left, after_left, nil_listed, cons_listed}
use Rattle.p10_pexpr.proofs.DeclaratorAgain.{SpecifiersRead, DeclaratorFull, DeclaratorLaws, declarator_laws_of, named_left, unnamed_left, parenthesised_left, pointer_full, array_left, sized_left, function_none_left, function_some_left, AllRead, ParameterRead, parameter_read, parameters_last, parameters_next, type_read}
use Rattle.p10_pexpr.proofs.SpecifierAgain.{OptionalFull, FieldRead, field_read, AllFieldsRead, fields_last, fields_next, MemberRead, member_read, AllMembersRead, members_last, members_next, EnumeratorRead, enumerator_read, AllEnumeratorsRead, enumerators_last, enumerators_next, SpecifierRead, keyword_read, typedef_read, structure_read, enumeration_read, no_specifiers_read, more_specifiers_read}

type_begins : (names : Scope) (k : TypeName Bare) → IsTypeName names k → (rest : List Symbol) → begins_specifiers names (spell_type k rest) ≡ true
type_begins names (type_name p ss d) h rest = specifiers_begin names setting.Type Nothing ss _ h.0 h.1

mutual
  pub laws : (t : Expression Bare) (names : Scope) → IsExpression names t → Laws names t
  laws (expression p n f) names h = wraps names p n f h (form_left f names h)

  form_left : (f : Form Bare) (names : Scope) → IsForm names f → Left names (plain f)
  form_left (Name x) names h = name_left names x h
  form_left (Number x) names h = number_left names x
  form_left (Character x) names h = character_left names x
  form_left (Strings []) names h = absurd h
  form_left (Strings (x ∷ xs)) names h = strings_left names x xs
  form_left (Unary s t) names h = unary_left names s t h.0 (laws t names h.1).full h.2
  form_left (Step Before s t) names h = step_left names s t h.0 (laws t names h.1).full h.2
  form_left (Step After s t) names h = after_left names s t h.0 (laws t names h.1).left h.2
  form_left (Binary s l r) names h = binary_left names s l r h.0 (laws l names h.1).left (laws r names h.2).full h.3 h.4
  form_left (Assign s l r) names h = assign_left names s l r h.0 (laws l names h.1).left (laws r names h.2).full h.3 h.4
  form_left (Conditional a b c) names h = conditional_left names a b c (laws a names h.0).left (laws b names h.1).full (laws c names h.2).full h.1 h.3 h.4
  form_left (Call f NoExpressions) names h = call_none_left names f (laws f names h.0).left h.1
  form_left (Call f (MoreExpressions u us)) names h = call_some_left names f u us (laws f names h.0).left (laws u names h.2.0).full h.2.0 (listed us names h.2.2) h.1 h.2.1
  form_left (Index l r) names h = index_left names l r (laws l names h.0).left (laws r names h.1).full h.1 h.2
  form_left (Member t x) names h = member_left names t x (laws t names h.0).left h.1
  form_left (Arrow t x) names h = arrow_left names t x (laws t names h.0).left h.1
  form_left (Cast k t) names h = cast_left names k t (type_begins names k h.0) (type_again k names h.0) (laws t names h.1).full h.2
  form_left (SizeofExpression t) names h = sizeof_left names t h.0 (laws t names h.0).full h.1
  form_left (SizeofType k) names h = sizeof_type_left names k (type_begins names k h) (type_again k names h)
  form_left (Comma NoExpressions) names h = absurd h.1
  form_left (Comma (MoreExpressions t NoExpressions)) names h = absurd h.1
  form_left (Comma (MoreExpressions t (MoreExpressions u us))) names h =
      comma_left names t u us (laws t names h.0.0).left (laws u names h.0.2.0).full (listed us names h.0.2.2) h.0.1 h.0.2.1

  listed : (ts : Expressions Bare) (names : Scope) → AreExpressions names ts → Listed names ts
  listed NoExpressions names h = nil_listed names
  listed (MoreExpressions u us) names h = cons_listed names u us (laws u names h.0).full h.1 (listed us names h.2)

  pub optional_full : (v : Optional Bare) (names : Scope) (level : ℕ) → IsOptional names level v → OptionalFull names v
  optional_full Absent names level h = tt
  optional_full (Present t) names level h = (laws t names h.0).full

  pub type_again : (k : TypeName Bare) (names : Scope) → IsTypeName names k → TypeRead names k
  type_again (type_name p ss d) names h = type_read names p ss d h.1 h.0 h.2 (specifiers_again ss names setting.Type Nothing h.0) (declarator_laws d names setting.Inside Forbidden h.2).full

  pub specifiers_again : (ss : Specifiers Bare) (names : Scope) (setting : Setting) (said : Said) → AreSpecifiers names setting said ss → SpecifiersRead names setting said ss
  specifiers_again NoSpecifiers names setting said h = no_specifiers_read names setting said
  specifiers_again (MoreSpecifiers s ss) names setting said h =
      more_specifiers_read names setting said s ss h.1 (specifier_again s names setting said h.0) (specifiers_again ss (after_specifier names s) setting (after_saying said s) h.1)

  specifier_again : (s : Specifier Bare) (names : Scope) (setting : Setting) (said : Said) → IsSpecifier names setting said s → SpecifierRead names setting said s
  specifier_again (Keyword p s) names setting said h = keyword_read names setting said p s h
  specifier_again (Typedef x) names setting said h = typedef_read names setting said x h.0 h.1
  specifier_again (Structure p s tag ms) names setting said h = structure_read names setting said p s tag ms h.0 h.1 h.2 h.3 (members_again ms names h.4)
  specifier_again (Enumeration p tag es comma) names setting said h = enumeration_read names setting said p tag es comma h.0 h.1 h.2 (enumerators_again es names h.3)

  members_again : (ms : Members Bare) (names : Scope) → AreMembers names ms → AllMembersRead names ms
  members_again NoMembers names h = tt
  members_again (MoreMembers m NoMembers) names h = members_last names m (member_again m names h.0)
  members_again (MoreMembers m (MoreMembers o os)) names h =
      members_next names m o os (member_again m names h.0) h.1.0 (members_again (MoreMembers o os) (after_member names m) h.1)

  member_again : (m : MemberDeclaration Bare) (names : Scope) → IsMember names m → MemberRead names m
  member_again (member_declaration p ss NoFields) names h = absurd h.2
  member_again (member_declaration p ss (MoreFields f fs)) names h =
      member_read names p ss f fs h.1 h.3 (specifiers_again ss names setting.Outside Nothing h.0) (fields_again (MoreFields f fs) (after_specifiers names ss) h.4)

  fields_again : (fs : Fields Bare) (names : Scope) → AreFields names fs → AllFieldsRead names fs
  fields_again NoFields names h = tt
  fields_again (MoreFields f NoFields) names h = fields_last names f (field_again f names h.0)
  fields_again (MoreFields f (MoreFields g gs)) names h = fields_next names f g gs (field_again f names h.0) (fields_again (MoreFields g gs) names h.1)

  field_again : (f : Field Bare) (names : Scope) → IsField names f → FieldRead names f
  field_again (field p d w) names h = field_read names p d w h.1 (declarator_laws d names setting.Outside Required h.0).full (optional_full w names 3 h.1)

  enumerators_again : (es : Enumerators Bare) (names : Scope) → AreEnumerators names es → AllEnumeratorsRead names es
  enumerators_again NoEnumerators names h = tt
  enumerators_again (MoreEnumerators e NoEnumerators) names h = enumerators_last names e (enumerator_again e names h.0)
  enumerators_again (MoreEnumerators e (MoreEnumerators o os)) names h =
      enumerators_next names e o os (enumerator_again e names h.0) (enumerators_again (MoreEnumerators o os) (after_enumerator names e) h.1)

  enumerator_again : (e : Enumerator Bare) (names : Scope) → IsEnumerator names e → EnumeratorRead names e
  enumerator_again (enumerator p x v) names h = enumerator_read names p x v h (optional_full v names 3 h)

  pub declarator_laws : (d : Declarator Bare) (names : Scope) (setting : Setting) (naming : Naming) → IsDeclarator names setting naming d → DeclaratorLaws names setting naming d
  declarator_laws (Named x) names setting naming h = declarator_laws_of names setting naming (Named x) h (named_left names setting naming x h)
  declarator_laws (Unnamed p) names setting naming h = declarator_laws_of names setting naming (Unnamed p) h (unnamed_left names setting naming p)
  declarator_laws (Pointer p qs d) names setting naming h =
      record { left = λ off. absurd off; full = pointer_full names setting naming p qs d h.0 (declarator_laws d names setting naming h.1).full }
  declarator_laws (Parenthesised p d) names setting naming h =
      declarator_laws_of names setting naming (Parenthesised p d) h (parenthesised_left names setting naming p d (declarator_laws d names setting naming h.0).full h.1 h.2)
  declarator_laws (Array p d b Absent) names setting naming h =
      declarator_laws_of names setting naming (Array p d tt Absent) h (array_left names setting naming p d h.0 ((declarator_laws d names setting naming h.0).left h.1))
  declarator_laws (Array p d b (Present t)) names setting naming h =
      declarator_laws_of names setting naming (Array p d tt (Present t)) h
      (sized_left names setting naming p d t h.0 ((declarator_laws d names setting naming h.0).left h.1) h.2.0 (laws t names h.2.0).full h.2.1)
  declarator_laws (Function p d b NoParameters true) names setting naming h = absurd (true≢false h.3)
  declarator_laws (Function p d b NoParameters false) names setting naming h =
      declarator_laws_of names setting naming (Function p d tt NoParameters false) h (function_none_left names setting naming p d h.0 ((declarator_laws d names setting naming h.0).left h.1))
  declarator_laws (Function p d b (MoreParameters x xs) ellipsis) names setting naming h =
      declarator_laws_of names setting naming (Function p d tt (MoreParameters x xs) ellipsis) h
      (function_some_left names setting naming p d x xs ellipsis h.0 ((declarator_laws d names setting naming h.0).left h.1) h.2.0 (parameters_again (MoreParameters x xs) names setting h.2))

  parameters_again : (xs : Parameters Bare) (names : Scope) (setting : Setting) → AreParameters names setting xs → AllRead names setting xs
  parameters_again NoParameters names setting h = tt
  parameters_again (MoreParameters x NoParameters) names setting h = parameters_last names setting x (parameter_again x names setting h.0)
  parameters_again (MoreParameters x (MoreParameters y ys)) names setting h =
      parameters_next names setting x y ys (parameter_again x names setting h.0) h.1.0 (parameters_again (MoreParameters y ys) (after_parameter names x) setting h.1)

  parameter_again : (x : Parameter Bare) (names : Scope) (setting : Setting) → IsParameter names setting x → ParameterRead names setting x
  parameter_again (parameter p ss d) names setting h =
      parameter_read names setting p ss d h.1 h.2 (specifiers_again ss names setting Nothing h.0) (declarator_laws d (after_specifiers names ss) setting Allowed h.3).full

-- an expression
pub again : (t : Expression Bare) (names : Scope) → IsExpression names t → Full names t
again t names h = (laws t names h).full

-- a declarator
pub declarator_again : (d : Declarator Bare) (names : Scope) (setting : Setting) (naming : Naming) → IsDeclarator names setting naming d → DeclaratorFull names setting naming d
declarator_again d names setting naming h = (declarator_laws d names setting naming h).full
