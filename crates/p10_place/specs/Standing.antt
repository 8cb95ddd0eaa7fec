-- Where the parts of an expression, specifier or declarator stand, said by the words that are left where a part begins and
-- where it ends. It counts no words of trees.
use Rattle.std.specs.Prelude.{◌≡◌, ◌-◌, length, List, [], ◌∷◌, Option, Some, None}
use Rattle.p10_base.specs.declared.at.At.{At}
use Rattle.p10_syn.specs.declared.sign.Sign.TheVariants as sign
use Rattle.p10_syn.specs.declared.place.Side.TheVariants.{Before, After}
use Rattle.p10_syn.specs.Symbols.{Symbol, Fixed}
use Rattle.p10_syn.specs.Symbols as symbol
use Rattle.p10_syn.specs.Trees.{Identifier, Qualifier, Expression, expression, Form, Name, Number, Character, Strings, Unary, Step, Binary, Assign, Conditional, Call, Index, Member, Arrow, Cast, SizeofExpression, SizeofType, Comma, Expressions, NoExpressions, MoreExpressions, Optional, Absent, Present, TypeName, type_name, Specifiers, NoSpecifiers, MoreSpecifiers, Specifier, Keyword, Typedef, Structure, Enumeration, Members, NoMembers, MoreMembers, MemberDeclaration, member_declaration, Fields, NoFields, MoreFields, Field, field, Enumerators, NoEnumerators, MoreEnumerators, Enumerator, enumerator, Declarator, Named, Unnamed, Pointer, Parenthesised, Array, Function, Parameters, NoParameters, MoreParameters, Parameter, parameter}
use Rattle.p10_syn.specs.Bare.{bare_qualifiers, bare, bare_form, bare_list, bare_optional, bare_type, bare_specifiers, bare_specifier, bare_members, bare_member, bare_fields, bare_field, bare_enumerators, bare_enumerator, bare_declarator, bare_parameters, bare_parameter}
use Rattle.p10_syn.specs.Spelling.{close_all, spell_qualifiers, spell_last_comma, spell_ellipsis, spell, spell_list, spell_more, spell_optional, spell_valued, spell_type, spell_specifiers, spell_specifier, spell_members, spell_more_members, spell_member, spell_fields, spell_more_fields, spell_field, spell_enumerators, spell_more_enumerators, spell_enumerator, spell_declarator, spell_parameters, spell_more_parameters, spell_parameter}
use Rattle.p10_syn.specs.Places.{Source, place_at}

-- the place of the words of a root from where the words `from` are left up to where the words `rest` are
abbrev pub IsBetween : Source → At → List Symbol → List Symbol → Type 0
IsBetween s p from rest = p ≡ place_at s (length s.words - length from) (length from - length rest)

-- a name before these words
abbrev pub NameStands : Source → Identifier At → List Symbol → Type 0
NameStands s x rest = IsBetween s x.place (symbol.Name x.name ∷ rest) rest

-- the own name of a structure or enumeration before these words, if it has one
abbrev pub TagStands : Source → Option (Identifier At) → List Symbol → Type 0
TagStands s None rest = Unit {0}
TagStands s (Some x) rest = NameStands s x rest

-- qualifiers before these words
abbrev pub QualifiersStand : Source → List (Qualifier At) → List Symbol → Type 0
QualifiersStand s [] rest = Unit {0}
QualifiersStand s (q ∷ qs) rest =
    IsBetween s q.place (Fixed q.word ∷ spell_qualifiers (bare_qualifiers qs) rest) (spell_qualifiers (bare_qualifiers qs) rest) × QualifiersStand s qs rest

abbrev mutual
  -- an expression and its parts, before these words
  pub Stands : Source → Expression At → List Symbol → Type 0
  Stands s (expression p k f) rest = IsBetween s p (spell (expression tt k (bare_form f)) rest) rest × FormStands s f (close_all k rest)

  -- the operands of a form, each before what stands after it
  pub FormStands : Source → Form At → List Symbol → Type 0
  FormStands s (Name x) rest = NameStands s x rest
  FormStands s (Number x) rest = Unit {0}
  FormStands s (Character x) rest = Unit {0}
  FormStands s (Strings xs) rest = Unit {0}
  FormStands s (Unary op t) rest = Stands s t rest
  FormStands s (Step Before op t) rest = Stands s t rest
  FormStands s (Step After op t) rest = Stands s t (Fixed op ∷ rest)
  FormStands s (Binary op l r) rest = Stands s l (Fixed op ∷ spell (bare r) rest) × Stands s r rest
  FormStands s (Assign op l r) rest = Stands s l (Fixed op ∷ spell (bare r) rest) × Stands s r rest
  FormStands s (Conditional a b c) rest =
      Stands s a (Fixed sign.Question ∷ spell (bare b) (Fixed sign.Colon ∷ spell (bare c) rest)) × Stands s b (Fixed sign.Colon ∷ spell (bare c) rest) × Stands s c rest
  FormStands s (Call f ts) rest = Stands s f (Fixed sign.Open ∷ spell_list (bare_list ts) (Fixed sign.Close ∷ rest)) × ListStands s ts (Fixed sign.Close ∷ rest)
  FormStands s (Index l r) rest = Stands s l (Fixed sign.OpenSquare ∷ spell (bare r) (Fixed sign.CloseSquare ∷ rest)) × Stands s r (Fixed sign.CloseSquare ∷ rest)
  FormStands s (Member t x) rest = Stands s t (Fixed sign.Dot ∷ (symbol.Name x.name ∷ rest)) × NameStands s x rest
  FormStands s (Arrow t x) rest = Stands s t (Fixed sign.Arrow ∷ (symbol.Name x.name ∷ rest)) × NameStands s x rest
  FormStands s (Cast k t) rest = TypeStands s k (Fixed sign.Close ∷ spell (bare t) rest) × Stands s t rest
  FormStands s (SizeofExpression t) rest = Stands s t rest
  FormStands s (SizeofType k) rest = TypeStands s k (Fixed sign.Close ∷ rest)
  FormStands s (Comma ts) rest = ListStands s ts rest

  -- expressions with commas between them
  pub ListStands : Source → Expressions At → List Symbol → Type 0
  ListStands s NoExpressions rest = Unit {0}
  ListStands s (MoreExpressions t ts) rest = Stands s t (spell_more (bare_list ts) rest) × ListStands s ts rest

  -- an expression that may be left out
  pub OptionalStands : Source → Optional At → List Symbol → Type 0
  OptionalStands s Absent rest = Unit {0}
  OptionalStands s (Present t) rest = Stands s t rest

  -- the name of a type
  pub TypeStands : Source → TypeName At → List Symbol → Type 0
  TypeStands s (type_name p ss d) rest =
      IsBetween s p (spell_type (bare_type (type_name p ss d)) rest) rest × SpecifiersStand s ss (spell_declarator (bare_declarator d) rest) × DeclaratorStands s d rest

  -- specifiers one after the other
  pub SpecifiersStand : Source → Specifiers At → List Symbol → Type 0
  SpecifiersStand s NoSpecifiers rest = Unit {0}
  SpecifiersStand s (MoreSpecifiers x xs) rest = SpecifierStands s x (spell_specifiers (bare_specifiers xs) rest) × SpecifiersStand s xs rest

  -- a specifier
  pub SpecifierStands : Source → Specifier At → List Symbol → Type 0
  SpecifierStands s (Keyword p word) rest = IsBetween s p (Fixed word ∷ rest) rest
  SpecifierStands s (Typedef x) rest = NameStands s x rest
  SpecifierStands s (Structure p word tag ms) rest =
      IsBetween s p (spell_specifier (bare_specifier (Structure p word tag ms)) rest) rest × TagStands s tag (spell_members (bare_members ms) rest) × MembersStand s ms rest
  SpecifierStands s (Enumeration p tag es comma) rest =
      IsBetween s p (spell_specifier (bare_specifier (Enumeration p tag es comma)) rest) rest × TagStands s tag (spell_enumerators (bare_enumerators es) comma rest)
      × EnumeratorsStand s es (spell_last_comma comma (Fixed sign.CloseBrace ∷ rest))

  -- the members of a structure, before these words and the `}`
  pub MembersStand : Source → Members At → List Symbol → Type 0
  MembersStand s NoMembers rest = Unit {0}
  MembersStand s (MoreMembers m ms) rest = MemberStands s m (spell_more_members (bare_members ms) rest) × MembersStand s ms rest

  -- a declaration of members
  pub MemberStands : Source → MemberDeclaration At → List Symbol → Type 0
  MemberStands s (member_declaration p ss fs) rest =
      IsBetween s p (spell_member (bare_member (member_declaration p ss fs)) rest) rest × SpecifiersStand s ss (spell_fields (bare_fields fs) rest) × FieldsStand s fs rest

  -- what a declaration of members declares, before these words and the `;`
  pub FieldsStand : Source → Fields At → List Symbol → Type 0
  FieldsStand s NoFields rest = Unit {0}
  FieldsStand s (MoreFields f fs) rest = FieldStands s f (spell_more_fields (bare_fields fs) rest) × FieldsStand s fs rest

  -- a declarator of a member, and its width
  pub FieldStands : Source → Field At → List Symbol → Type 0
  FieldStands s (field p d width) rest =
      IsBetween s p (spell_field (bare_field (field p d width)) rest) rest × DeclaratorStands s d (spell_valued sign.Colon (bare_optional width) rest) × OptionalStands s width rest

  -- the constants of an enumeration with commas between them
  pub EnumeratorsStand : Source → Enumerators At → List Symbol → Type 0
  EnumeratorsStand s NoEnumerators rest = Unit {0}
  EnumeratorsStand s (MoreEnumerators e es) rest = EnumeratorStands s e (spell_more_enumerators (bare_enumerators es) rest) × EnumeratorsStand s es rest

  -- a constant of an enumeration, and its value
  pub EnumeratorStands : Source → Enumerator At → List Symbol → Type 0
  EnumeratorStands s (enumerator p x value) rest =
      IsBetween s p (spell_enumerator (bare_enumerator (enumerator p x value)) rest) rest × NameStands s x (spell_valued sign.Assign (bare_optional value) rest) × OptionalStands s value rest

  -- a declarator; a name that is left out stands where its words would begin, and has none
  pub DeclaratorStands : Source → Declarator At → List Symbol → Type 0
  DeclaratorStands s (Named x) rest = NameStands s x rest
  DeclaratorStands s (Unnamed p) rest = IsBetween s p rest rest
  DeclaratorStands s (Pointer p qs d) rest =
      IsBetween s p (spell_declarator (bare_declarator (Pointer p qs d)) rest) rest × QualifiersStand s qs (spell_declarator (bare_declarator d) rest) × DeclaratorStands s d rest
  DeclaratorStands s (Parenthesised p d) rest =
      IsBetween s p (spell_declarator (bare_declarator (Parenthesised p d)) rest) rest × DeclaratorStands s d (Fixed sign.Close ∷ rest)
  DeclaratorStands s (Array p d b size) rest =
      IsBetween s p (spell_declarator (bare_declarator (Array p d b size)) rest) rest
      × IsBetween s b (Fixed sign.OpenSquare ∷ spell_optional (bare_optional size) (Fixed sign.CloseSquare ∷ rest)) rest
      × DeclaratorStands s d (Fixed sign.OpenSquare ∷ spell_optional (bare_optional size) (Fixed sign.CloseSquare ∷ rest)) × OptionalStands s size (Fixed sign.CloseSquare ∷ rest)
  DeclaratorStands s (Function p d b ps ellipsis) rest =
      IsBetween s p (spell_declarator (bare_declarator (Function p d b ps ellipsis)) rest) rest
      × IsBetween s b (Fixed sign.Open ∷ spell_parameters (bare_parameters ps) (spell_ellipsis ellipsis (Fixed sign.Close ∷ rest))) rest
      × DeclaratorStands s d (Fixed sign.Open ∷ spell_parameters (bare_parameters ps) (spell_ellipsis ellipsis (Fixed sign.Close ∷ rest)))
      × ParametersStand s ps (spell_ellipsis ellipsis (Fixed sign.Close ∷ rest))

  -- parameters with commas between them
  pub ParametersStand : Source → Parameters At → List Symbol → Type 0
  ParametersStand s NoParameters rest = Unit {0}
  ParametersStand s (MoreParameters x xs) rest = ParameterStands s x (spell_more_parameters (bare_parameters xs) rest) × ParametersStand s xs rest

  -- a parameter
  pub ParameterStands : Source → Parameter At → List Symbol → Type 0
  ParameterStands s (parameter p ss d) rest =
      IsBetween s p (spell_parameter (bare_parameter (parameter p ss d)) rest) rest × SpecifiersStand s ss (spell_declarator (bare_declarator d) rest) × DeclaratorStands s d rest
