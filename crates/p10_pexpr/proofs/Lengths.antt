-- How large a tree is, by the number of its words.
use Rattle.std.proofs.Common.{◌≡◌, ℕ, zero, suc, ◌+◌, ◌*◌, ◌≤◌, List, [], ◌∷◌, length, Bool, true, false, Option, Some, None, refl, arith}
use Rattle.p10_base.specs.Words.{Text}
use Rattle.p10_syn.specs.declared.sign.Sign.{Sign}
use Rattle.p10_syn.specs.declared.sign.Sign.TheVariants as sign
use Rattle.p10_syn.specs.declared.place.Side.TheVariants.{Before, After}
use Rattle.p10_syn.specs.declared.setting.Naming.{Naming}
use Rattle.p10_syn.specs.declared.setting.Naming.TheVariants.{Required, Allowed, Forbidden}
use Rattle.p10_syn.specs.declared.setting.Setting.{Setting}
use Rattle.p10_syn.specs.declared.setting.Setting.TheVariants as setting
use Rattle.p10_syn.specs.declared.setting.Said.{Said}
use Rattle.p10_syn.specs.declared.setting.Said.TheVariants.{Nothing}
use Rattle.p10_syn.specs.Symbols.{Symbol, Fixed}
use Rattle.p10_syn.specs.Symbols as symbol
use Rattle.p10_syn.specs.Scopes.{Scope}
use Rattle.p10_syn.specs.Declaring.{after_specifier, after_specifiers, after_member, after_enumerator, after_parameter}
use Rattle.p10_syn.specs.Spelling.{open_all, close_all, spell_strings, spell_qualifiers, spell_tag, spell_last_comma, spell_ellipsis, spell, spell_form, spell_more, spell_valued, spell_type, spell_specifiers, spell_specifier, spell_more_members, spell_member, spell_more_fields, spell_field, spell_more_enumerators, spell_enumerator, spell_declarator, spell_more_parameters, spell_parameter}
use Rattle.p10_syn.specs.Forms.{after_saying, IsExpression, IsForm, AreExpressions, IsOptional, IsTypeName, HasSpecifiers, AreSpecifiers, IsSpecifier, AreMembers, IsMember, AreFields, IsField, AreEnumerators, IsEnumerator, IsDeclarator, AreParameters, IsParameter}
use Rattle.p10_syn.specs.Trees.{Bare, Identifier, Qualifier, Expression, expression, Form, Name, Number, Character, Strings, Unary, Step, Binary, Assign, Conditional, Call, Index, Member, Arrow, Cast, SizeofExpression, SizeofType, Comma, Expressions, NoExpressions, MoreExpressions, Optional, Absent, Present, TypeName, type_name, Specifiers, NoSpecifiers, MoreSpecifiers, Specifier, Keyword, Typedef, Structure, Enumeration, Members, NoMembers, MoreMembers, MemberDeclaration, member_declaration, Fields, NoFields, MoreFields, Field, field, Enumerators, NoEnumerators, MoreEnumerators, Enumerator, enumerator, Declarator, Named, Unnamed, Pointer, Parenthesised, Array, Function, Parameters, NoParameters, MoreParameters, Parameter, parameter}
use Rattle.p10_pexpr.proofs.Sizes.{size, form_size, expressions_size, optional_size, type_size, specifiers_size, specifier_size, members_size, member_size, fields_size, field_size, enumerators_size, enumerator_size, declarator_size, parameters_size, parameter_size}

length-open_all : (n : ℕ) (rest : List Symbol) → length (open_all n rest) ≡ n + length rest
length-open_all zero rest = omega arith
length-open_all (suc n) rest = omega (arith, length-open_all n rest)

length-close_all : (n : ℕ) (rest : List Symbol) → length (close_all n rest) ≡ n + length rest
length-close_all zero rest = omega arith
length-close_all (suc n) rest = omega (arith, length-close_all n (Fixed sign.Close ∷ rest))

strings_words : (xs : List Text) (rest : List Symbol) → length rest ≤ length (spell_strings xs rest)
strings_words [] rest = omega arith
strings_words (x ∷ xs) rest = omega (arith, strings_words xs rest)

qualifiers_words : (qs : List (Qualifier Bare)) (rest : List Symbol) → length rest ≤ length (spell_qualifiers qs rest)
qualifiers_words [] rest = omega arith
qualifiers_words (q ∷ qs) rest = omega (arith, qualifiers_words qs rest)

tag_words : (tag : Option (Identifier Bare)) (rest : List Symbol) → length rest ≤ length (spell_tag tag rest)
tag_words None rest = omega arith
tag_words (Some x) rest = omega arith

pub last_comma_words : (comma : Bool) (rest : List Symbol) → length rest ≤ length (spell_last_comma comma rest)
last_comma_words true rest = omega arith
last_comma_words false rest = omega arith

ellipsis_words : (ellipsis : Bool) (rest : List Symbol) → length rest ≤ length (spell_ellipsis ellipsis rest)
ellipsis_words true rest = omega arith
ellipsis_words false rest = omega arith

-- specifiers of which there are some have words to spare
abbrev pub spare : Specifiers Bare → ℕ
spare NoSpecifiers = 0
spare (MoreSpecifiers s ss) = 2

pub spare_some : (ss : Specifiers Bare) → HasSpecifiers ss → spare ss ≡ 2
spare_some NoSpecifiers h = absurd h
spare_some (MoreSpecifiers s ss) h = refl

mutual
  pub words : (t : Expression Bare) (names : Scope) (rest : List Symbol) → IsExpression names t → size t + 4 * length rest ≤ 4 * length (spell t rest)
  words (expression p n f) names rest h = omega (arith, length-open_all n (spell_form f (close_all n rest)), length-close_all n rest, form_words f names (close_all n rest) h)

  form_words : (f : Form Bare) (names : Scope) (rest : List Symbol) → IsForm names f → form_size f + 4 * length rest ≤ 4 * length (spell_form f rest)
  form_words (Name x) names rest h = omega arith
  form_words (Number x) names rest h = omega arith
  form_words (Character x) names rest h = omega arith
  form_words (Strings []) names rest h = absurd h
  form_words (Strings (x ∷ xs)) names rest h = omega (arith, strings_words xs rest)
  form_words (Unary s t) names rest h = omega (arith, words t names rest h.1)
  form_words (Step Before s t) names rest h = omega (arith, words t names rest h.1)
  form_words (Step After s t) names rest h = omega (arith, words t names (Fixed s ∷ rest) h.1)
  form_words (Binary s l r) names rest h = omega (arith, words l names (Fixed s ∷ spell r rest) h.1, words r names rest h.2)
  form_words (Assign s l r) names rest h = omega (arith, words l names (Fixed s ∷ spell r rest) h.1, words r names rest h.2)
  form_words (Conditional a b c) names rest h =
      omega (arith, words a names (Fixed sign.Question ∷ spell b (Fixed sign.Colon ∷ spell c rest)) h.0, words b names (Fixed sign.Colon ∷ spell c rest) h.1, words c names rest h.2)
  form_words (Call f NoExpressions) names rest h = omega (arith, words f names (Fixed sign.Open ∷ (Fixed sign.Close ∷ rest)) h.0)
  form_words (Call f (MoreExpressions u us)) names rest h =
      omega (arith, words f names (Fixed sign.Open ∷ spell u (spell_more us (Fixed sign.Close ∷ rest))) h.0, words u names (spell_more us (Fixed sign.Close ∷ rest)) h.2.0, more_words us names (Fixed sign.Close ∷ rest) h.2.2)
  form_words (Index l r) names rest h = omega (arith, words l names (Fixed sign.OpenSquare ∷ spell r (Fixed sign.CloseSquare ∷ rest)) h.0, words r names (Fixed sign.CloseSquare ∷ rest) h.1)
  form_words (Member t x) names rest h = omega (arith, words t names (Fixed sign.Dot ∷ (symbol.Name x.name ∷ rest)) h.0)
  form_words (Arrow t x) names rest h = omega (arith, words t names (Fixed sign.Arrow ∷ (symbol.Name x.name ∷ rest)) h.0)
  form_words (Cast k t) names rest h = omega (arith, type_words k names (Fixed sign.Close ∷ spell t rest) h.0, words t names rest h.1)
  form_words (SizeofExpression t) names rest h = omega (arith, words t names rest h.0)
  form_words (SizeofType k) names rest h = omega (arith, type_words k names (Fixed sign.Close ∷ rest) h)
  form_words (Comma NoExpressions) names rest h = absurd h.1
  form_words (Comma (MoreExpressions t NoExpressions)) names rest h = absurd h.1
  form_words (Comma (MoreExpressions t (MoreExpressions u us))) names rest h =
      omega (arith, words t names (Fixed sign.Comma ∷ spell u (spell_more us rest)) h.0.0, words u names (spell_more us rest) h.0.2.0, more_words us names rest h.0.2.2)

  more_words : (ts : Expressions Bare) (names : Scope) (rest : List Symbol) → AreExpressions names ts → expressions_size ts + 4 * length rest ≤ 4 * length (spell_more ts rest)
  more_words NoExpressions names rest h = omega arith
  more_words (MoreExpressions t ts) names rest h = omega (arith, words t names (spell_more ts rest) h.0, more_words ts names rest h.2)

  valued_words : (v : Optional Bare) (s : Sign) (names : Scope) (level : ℕ) (rest : List Symbol) → IsOptional names level v → optional_size v + 4 * length rest ≤ 4 * length (spell_valued s v rest)
  valued_words Absent s names level rest h = omega arith
  valued_words (Present t) s names level rest h = omega (arith, words t names rest h.0)

  type_words : (k : TypeName Bare) (names : Scope) (rest : List Symbol) → IsTypeName names k → type_size k + 4 * length rest ≤ 4 * length (spell_type k rest)
  type_words (type_name p ss d) names rest h =
      omega (arith, spare_some ss h.1, specifiers_words ss names setting.Type Nothing (spell_declarator d rest) h.0, declarator_words d names setting.Inside Forbidden rest h.2)

  pub specifiers_words : (ss : Specifiers Bare) (names : Scope) (setting : Setting) (said : Said) (rest : List Symbol) → AreSpecifiers names setting said ss →
      spare ss + specifiers_size ss + 4 * length rest ≤ 4 * length (spell_specifiers ss rest)
  specifiers_words NoSpecifiers names setting said rest h = omega arith
  specifiers_words (MoreSpecifiers s ss) names setting said rest h =
      omega (arith, specifier_words s names setting said (spell_specifiers ss rest) h.0, specifiers_words ss (after_specifier names s) setting (after_saying said s) rest h.1)

  specifier_words : (s : Specifier Bare) (names : Scope) (setting : Setting) (said : Said) (rest : List Symbol) → IsSpecifier names setting said s →
      3 + specifier_size s + 4 * length rest ≤ 4 * length (spell_specifier s rest)
  specifier_words (Keyword p s) names setting said rest h = omega arith
  specifier_words (Typedef x) names setting said rest h = omega arith
  specifier_words (Structure p s tag NoMembers) names setting said rest h = omega (arith, tag_words tag rest)
  specifier_words (Structure p s tag (MoreMembers m ms)) names setting said rest h =
      omega (arith, tag_words tag (Fixed sign.OpenBrace ∷ spell_member m (spell_more_members ms rest)), member_words m names (spell_more_members ms rest) h.4.0, members_words ms (after_member names m) rest h.4.1)
  specifier_words (Enumeration p tag NoEnumerators comma) names setting said rest h = omega (arith, tag_words tag rest)
  specifier_words (Enumeration p tag (MoreEnumerators e es) comma) names setting said rest h =
      let last = spell_last_comma comma (Fixed sign.CloseBrace ∷ rest) in
      omega (
        arith,
        tag_words tag (Fixed sign.OpenBrace ∷ spell_enumerator e (spell_more_enumerators es last)),
        enumerator_words e names (spell_more_enumerators es last) h.3.0,
        enumerators_words es (after_enumerator names e) last h.3.1,
        last_comma_words comma (Fixed sign.CloseBrace ∷ rest),
      )

  members_words : (ms : Members Bare) (names : Scope) (rest : List Symbol) → AreMembers names ms → members_size ms + 4 + 4 * length rest ≤ 4 * length (spell_more_members ms rest)
  members_words NoMembers names rest h = omega arith
  members_words (MoreMembers m ms) names rest h = omega (arith, member_words m names (spell_more_members ms rest) h.0, members_words ms (after_member names m) rest h.1)

  member_words : (m : MemberDeclaration Bare) (names : Scope) (rest : List Symbol) → IsMember names m → member_size m + 1 + 4 * length rest ≤ 4 * length (spell_member m rest)
  member_words (member_declaration p ss NoFields) names rest h = absurd h.2
  member_words (member_declaration p ss (MoreFields f fs)) names rest h =
      omega (
        arith,
        spare_some ss h.1,
        specifiers_words ss names setting.Outside Nothing (spell_field f (spell_more_fields fs rest)) h.0,
        field_words f (after_specifiers names ss) (spell_more_fields fs rest) h.4.0,
        fields_words fs (after_specifiers names ss) rest h.4.1,
      )

  fields_words : (fs : Fields Bare) (names : Scope) (rest : List Symbol) → AreFields names fs → fields_size fs + 4 + 4 * length rest ≤ 4 * length (spell_more_fields fs rest)
  fields_words NoFields names rest h = omega arith
  fields_words (MoreFields f fs) names rest h = omega (arith, field_words f names (spell_more_fields fs rest) h.0, fields_words fs names rest h.1)

  field_words : (f : Field Bare) (names : Scope) (rest : List Symbol) → IsField names f → field_size f + 4 * length rest ≤ 4 * length (spell_field f rest) + 2
  field_words (field p d w) names rest h =
      omega (arith, declarator_words d names setting.Outside Required (spell_valued sign.Colon w rest) h.0, valued_words w sign.Colon names 3 rest h.1)

  enumerators_words : (es : Enumerators Bare) (names : Scope) (rest : List Symbol) → AreEnumerators names es → enumerators_size es + 4 * length rest ≤ 4 * length (spell_more_enumerators es rest)
  enumerators_words NoEnumerators names rest h = omega arith
  enumerators_words (MoreEnumerators e es) names rest h = omega (arith, enumerator_words e names (spell_more_enumerators es rest) h.0, enumerators_words es (after_enumerator names e) rest h.1)

  enumerator_words : (e : Enumerator Bare) (names : Scope) (rest : List Symbol) → IsEnumerator names e → enumerator_size e + 2 + 4 * length rest ≤ 4 * length (spell_enumerator e rest)
  enumerator_words (enumerator p x v) names rest h = omega (arith, valued_words v sign.Assign names 3 rest h)

  pub declarator_words : (d : Declarator Bare) (names : Scope) (setting : Setting) (naming : Naming) (rest : List Symbol) → IsDeclarator names setting naming d →
      declarator_size d + 4 * length rest ≤ 4 * length (spell_declarator d rest) + 1
  declarator_words (Named x) names setting naming rest h = omega arith
  declarator_words (Unnamed p) names setting naming rest h = omega arith
  declarator_words (Pointer p qs d) names setting naming rest h = omega (arith, qualifiers_words qs (spell_declarator d rest), declarator_words d names setting naming rest h.1)
  declarator_words (Parenthesised p d) names setting naming rest h = omega (arith, declarator_words d names setting naming (Fixed sign.Close ∷ rest) h.0)
  declarator_words (Array p d b Absent) names setting naming rest h = omega (arith, declarator_words d names setting naming (Fixed sign.OpenSquare ∷ (Fixed sign.CloseSquare ∷ rest)) h.0)
  declarator_words (Array p d b (Present t)) names setting naming rest h =
      omega (arith, declarator_words d names setting naming (Fixed sign.OpenSquare ∷ spell t (Fixed sign.CloseSquare ∷ rest)) h.0, words t names (Fixed sign.CloseSquare ∷ rest) h.2.0)
  declarator_words (Function p d b NoParameters ellipsis) names setting naming rest h =
      let last = spell_ellipsis ellipsis (Fixed sign.Close ∷ rest) in
      omega (arith, declarator_words d names setting naming (Fixed sign.Open ∷ last) h.0, ellipsis_words ellipsis (Fixed sign.Close ∷ rest))
  declarator_words (Function p d b (MoreParameters x xs) ellipsis) names setting naming rest h =
      let last = spell_ellipsis ellipsis (Fixed sign.Close ∷ rest) in
      omega (
        arith,
        declarator_words d names setting naming (Fixed sign.Open ∷ spell_parameter x (spell_more_parameters xs last)) h.0,
        ellipsis_words ellipsis (Fixed sign.Close ∷ rest),
        parameter_words x names setting (spell_more_parameters xs last) h.2.0,
        parameters_words xs (after_parameter names x) setting last h.2.1,
      )

  parameters_words : (xs : Parameters Bare) (names : Scope) (setting : Setting) (rest : List Symbol) → AreParameters names setting xs → parameters_size xs + 4 * length rest ≤ 4 * length (spell_more_parameters xs rest)
  parameters_words NoParameters names setting rest h = omega arith
  parameters_words (MoreParameters x xs) names setting rest h =
      omega (arith, parameter_words x names setting (spell_more_parameters xs rest) h.0, parameters_words xs (after_parameter names x) setting rest h.1)

  parameter_words : (x : Parameter Bare) (names : Scope) (setting : Setting) (rest : List Symbol) → IsParameter names setting x → parameter_size x + 4 * length rest ≤ 4 * length (spell_parameter x rest)
  parameter_words (parameter p ss d) names setting rest h =
      omega (arith, spare_some ss h.1, specifiers_words ss names setting Nothing (spell_declarator d rest) h.0, declarator_words d (after_specifiers names ss) setting Allowed rest h.3)
