-- Each part of a tree of an expression, specifier or declarator stands on the words that it spells.
use Rattle.std.proofs.Common.{◌≡◌, ℕ, ◌+◌, ◌*◌, ◌-◌, length, List, [], ◌∷◌, Option, Some, None, ◌∙◌, ap, arith, Bool}
use Rattle.p10_syn.specs.declared.sign.Sign.{Sign}
use Rattle.p10_syn.specs.declared.sign.Sign.TheVariants as sign
use Rattle.p10_syn.specs.declared.place.Side.TheVariants.{Before, After}
use Rattle.p10_syn.specs.Symbols.{Symbol, Fixed}
use Rattle.p10_syn.specs.Symbols as symbol
use Rattle.p10_syn.specs.Trees.{Bare, Identifier, Qualifier, Expression, expression, Form, Name, Number, Character, Strings, Unary, Step, Binary, Assign, Conditional, Call, Index, Member, Arrow, Cast, SizeofExpression, SizeofType, Comma, Expressions, NoExpressions, MoreExpressions, Optional, Absent, Present, TypeName, type_name, Specifiers, NoSpecifiers, MoreSpecifiers, Specifier, Keyword, Typedef, Structure, Enumeration, Members, NoMembers, MoreMembers, MemberDeclaration, member_declaration, Fields, NoFields, MoreFields, Field, field, Enumerators, NoEnumerators, MoreEnumerators, Enumerator, enumerator, Declarator, Named, Unnamed, Pointer, Parenthesised, Array, Function, Parameters, NoParameters, MoreParameters, Parameter, parameter}
use Rattle.p10_syn.specs.Counts.{count_tag, count_bool, count, count_form, count_optional, count_valued, count_type, count_specifiers, count_specifier, count_members, count_member, count_fields, count_field, count_enumerators, count_enumerator, count_declarator, count_parameters, count_parameter}
use Rattle.p10_syn.specs.Spelling.{close_all, spell_qualifiers, spell_tag, spell_last_comma, spell_ellipsis, spell, spell_form, spell_list, spell_more, spell_optional, spell_valued, spell_type, spell_specifiers, spell_specifier, spell_members, spell_more_members, spell_member, spell_fields, spell_more_fields, spell_field, spell_enumerators, spell_more_enumerators, spell_enumerator, spell_declarator, spell_parameters, spell_more_parameters, spell_parameter}
use Rattle.p10_syn.specs.Places.{Source, place_at, locate_qualifiers, locate_name, locate_tag, locate, locate_form, locate_list, locate_optional, locate_type, locate_specifiers, locate_specifier, locate_members, locate_member, locate_fields, locate_field, locate_enumerators, locate_enumerator, locate_declarator, locate_parameters, locate_parameter}
use Rattle.p10_place.specs.Standing.{QualifiersStand, NameStands, TagStands, Stands, FormStands, ListStands, OptionalStands, TypeStands, SpecifiersStand, SpecifierStands, MembersStand, MemberStands, FieldsStand, FieldStands, EnumeratorsStand, EnumeratorStands, DeclaratorStands, ParametersStand, ParameterStands}
use Rattle.p10_place.proofs.Counting.{length-open_all, length-qualifiers, length-tag, length-ellipsis, counts, counts_optional, counts_parameters, counts_type, counts_specifiers, counts_specifier, counts_member, counts_field, counts_enumerator, counts_declarator, counts_parameter}
use Rattle.p10_place.proofs.Same.{same_tag, same_qualifiers, same, same_form, same_list, same_optional, same_specifiers, same_members, same_fields, same_field, same_enumerators, same_enumerator, same_declarator, same_parameters, same_parameter}

pub between : (s : Source) (n k : ℕ) (from rest : List Symbol) → n + length from ≡ length s.words → length from ≡ k + length rest →
    place_at s n k ≡ place_at s (length s.words - length from) (length from - length rest)
between s n k from rest h e =
    let first : n ≡ length s.words - length from = omega arith in
    let count : k ≡ length from - length rest = omega arith in
    ap (λ n. place_at s n k) first ∙ ap (λ k. place_at s (length s.words - length from) k) count

pub name_stands : (s : Source) (n : ℕ) (x : Identifier Bare) (rest : List Symbol) → n + 1 + length rest ≡ length s.words → NameStands s (locate_name s n x) rest
name_stands s n x rest h = between s n 1 (symbol.Name x.name ∷ rest) rest (omega (arith, h)) (omega arith)

tag_stands : (s : Source) (n : ℕ) (tag : Option (Identifier Bare)) (rest : List Symbol) → n + length (spell_tag tag rest) ≡ length s.words → TagStands s (locate_tag s n tag) rest
tag_stands s n None rest h = tt
tag_stands s n (Some x) rest h = name_stands s n x rest (omega (arith, h))

qualifiers_stand : (s : Source) (n : ℕ) (qs : List (Qualifier Bare)) (rest : List Symbol) → n + length (spell_qualifiers qs rest) ≡ length s.words → QualifiersStand s (locate_qualifiers s n qs) rest
qualifiers_stand s n [] rest h = tt
qualifiers_stand s n (q ∷ qs) rest h =
    rw (same_qualifiers s (n + 1) qs) (
      between s n 1 (Fixed q.word ∷ spell_qualifiers qs rest) (spell_qualifiers qs rest) h (omega arith),
      qualifiers_stand s (n + 1) qs rest (omega (arith, h)),
    )

mutual
  pub stands : (s : Source) (n : ℕ) (t : Expression Bare) (rest : List Symbol) → n + length (spell t rest) ≡ length s.words → Stands s (locate s n t) rest
  stands s n (expression p k f) rest h =
      rw (same_form s (n + k) f) (
        between s n (2 * k + count_form f) (spell (expression tt k f) rest) rest h (counts (expression tt k f) rest),
        form_stands s (n + k) f (close_all k rest) (omega (arith, h, length-open_all k (spell_form f (close_all k rest)))),
      )

  form_stands : (s : Source) (n : ℕ) (f : Form Bare) (rest : List Symbol) → n + length (spell_form f rest) ≡ length s.words → FormStands s (locate_form s n f) rest
  form_stands s n (Name x) rest h = name_stands s n x rest (omega (arith, h))
  form_stands s n (Number x) rest h = tt
  form_stands s n (Character x) rest h = tt
  form_stands s n (Strings xs) rest h = tt
  form_stands s n (Unary op t) rest h = stands s (n + 1) t rest (omega (arith, h))
  form_stands s n (Step Before op t) rest h = stands s (n + 1) t rest (omega (arith, h))
  form_stands s n (Step After op t) rest h = stands s n t (Fixed op ∷ rest) h
  form_stands s n (Binary op l r) rest h =
      rw (same s (n + count l + 1) r) (stands s n l (Fixed op ∷ spell r rest) h, stands s (n + count l + 1) r rest (omega (arith, h, counts l (Fixed op ∷ spell r rest))))
  form_stands s n (Assign op l r) rest h =
      rw (same s (n + count l + 1) r) (stands s n l (Fixed op ∷ spell r rest) h, stands s (n + count l + 1) r rest (omega (arith, h, counts l (Fixed op ∷ spell r rest))))
  form_stands s n (Conditional a b c) rest h =
      let e = counts a (Fixed sign.Question ∷ spell b (Fixed sign.Colon ∷ spell c rest)) in
      rw (same s (n + count a + 1) b, same s (n + count a + 1 + count b + 1) c) (
        stands s n a (Fixed sign.Question ∷ spell b (Fixed sign.Colon ∷ spell c rest)) h,
        stands s (n + count a + 1) b (Fixed sign.Colon ∷ spell c rest) (omega (arith, h, e)),
        stands s (n + count a + 1 + count b + 1) c rest (omega (arith, h, e, counts b (Fixed sign.Colon ∷ spell c rest))),
      )
  form_stands s n (Call f ts) rest h =
      rw (same_list s (n + count f + 1) ts) (
        stands s n f (Fixed sign.Open ∷ spell_list ts (Fixed sign.Close ∷ rest)) h,
        list_stands s (n + count f + 1) ts (Fixed sign.Close ∷ rest) (omega (arith, h, counts f (Fixed sign.Open ∷ spell_list ts (Fixed sign.Close ∷ rest)))),
      )
  form_stands s n (Index l r) rest h =
      rw (same s (n + count l + 1) r) (
        stands s n l (Fixed sign.OpenSquare ∷ spell r (Fixed sign.CloseSquare ∷ rest)) h,
        stands s (n + count l + 1) r (Fixed sign.CloseSquare ∷ rest) (omega (arith, h, counts l (Fixed sign.OpenSquare ∷ spell r (Fixed sign.CloseSquare ∷ rest)))),
      )
  form_stands s n (Member t x) rest h =
      (stands s n t (Fixed sign.Dot ∷ (symbol.Name x.name ∷ rest)) h, name_stands s (n + count t + 1) x rest (omega (arith, h, counts t (Fixed sign.Dot ∷ (symbol.Name x.name ∷ rest)))))
  form_stands s n (Arrow t x) rest h =
      (stands s n t (Fixed sign.Arrow ∷ (symbol.Name x.name ∷ rest)) h, name_stands s (n + count t + 1) x rest (omega (arith, h, counts t (Fixed sign.Arrow ∷ (symbol.Name x.name ∷ rest)))))
  form_stands s n (Cast k t) rest h =
      rw (same s (n + 1 + count_type k + 1) t)
      (type_stands s (n + 1) k (Fixed sign.Close ∷ spell t rest) (omega (arith, h)), stands s (n + 1 + count_type k + 1) t rest (omega (arith, h, counts_type k (Fixed sign.Close ∷ spell t rest))))
  form_stands s n (SizeofExpression t) rest h = stands s (n + 1) t rest (omega (arith, h))
  form_stands s n (SizeofType k) rest h = type_stands s (n + 2) k (Fixed sign.Close ∷ rest) (omega (arith, h))
  form_stands s n (Comma ts) rest h = list_stands s n ts rest h

  list_stands : (s : Source) (n : ℕ) (ts : Expressions Bare) (rest : List Symbol) → n + length (spell_list ts rest) ≡ length s.words → ListStands s (locate_list s n ts) rest
  list_stands s n NoExpressions rest h = tt
  list_stands s n (MoreExpressions t NoExpressions) rest h = (stands s n t rest h, tt)
  list_stands s n (MoreExpressions t (MoreExpressions u us)) rest h = (
    rw (same s (n + count t + 1) u, same_list s (n + count t + 1 + count u + 1) us) (stands s n t (Fixed sign.Comma ∷ spell u (spell_more us rest)) h),
    list_stands s (n + count t + 1) (MoreExpressions u us) rest (omega (arith, h, counts t (Fixed sign.Comma ∷ spell u (spell_more us rest)))),
  )

  pub optional_stands : (s : Source) (n : ℕ) (t : Optional Bare) (rest : List Symbol) → n + length (spell_optional t rest) ≡ length s.words → OptionalStands s (locate_optional s n t) rest
  optional_stands s n Absent rest h = tt
  optional_stands s n (Present t) rest h = stands s n t rest h

  valued_stands : (s : Source) (n : ℕ) (op : Sign) (t : Optional Bare) (rest : List Symbol) → n + length (spell_valued op t rest) ≡ length s.words → OptionalStands s (locate_optional s (n + 1) t) rest
  valued_stands s n op Absent rest h = tt
  valued_stands s n op (Present t) rest h = stands s (n + 1) t rest (omega (arith, h))

  type_stands : (s : Source) (n : ℕ) (k : TypeName Bare) (rest : List Symbol) → n + length (spell_type k rest) ≡ length s.words → TypeStands s (locate_type s n k) rest
  type_stands s n (type_name p ss d) rest h =
      rw (same_specifiers s n ss, same_declarator s (n + count_specifiers ss) d) (
        between s n (count_specifiers ss + count_declarator d) (spell_specifiers ss (spell_declarator d rest)) rest h (counts_type (type_name tt ss d) rest),
        specifiers_stand s n ss (spell_declarator d rest) h,
        declarator_stands s (n + count_specifiers ss) d rest (omega (arith, h, counts_specifiers ss (spell_declarator d rest))),
      )

  pub specifiers_stand : (s : Source) (n : ℕ) (ss : Specifiers Bare) (rest : List Symbol) → n + length (spell_specifiers ss rest) ≡ length s.words → SpecifiersStand s (locate_specifiers s n ss) rest
  specifiers_stand s n NoSpecifiers rest h = tt
  specifiers_stand s n (MoreSpecifiers x xs) rest h =
      rw (same_specifiers s (n + count_specifier x) xs) (
        specifier_stands s n x (spell_specifiers xs rest) h,
        specifiers_stand s (n + count_specifier x) xs rest (omega (arith, h, counts_specifier x (spell_specifiers xs rest))),
      )

  specifier_stands : (s : Source) (n : ℕ) (x : Specifier Bare) (rest : List Symbol) → n + length (spell_specifier x rest) ≡ length s.words → SpecifierStands s (locate_specifier s n x) rest
  specifier_stands s n (Keyword p word) rest h = between s n 1 (Fixed word ∷ rest) rest h (omega arith)
  specifier_stands s n (Typedef x) rest h = name_stands s n x rest (omega (arith, h))
  specifier_stands s n (Structure p word tag ms) rest h =
      rw (same_tag s (n + 1) tag, same_members s (n + 1 + count_tag tag + 1) ms) (
        between s n (1 + count_tag tag + count_members ms) (Fixed word ∷ spell_tag tag (spell_members ms rest)) rest h (counts_specifier (Structure tt word tag ms) rest),
        tag_stands s (n + 1) tag (spell_members ms rest) (omega (arith, h)),
        members_stand s (n + 1 + count_tag tag) ms rest (omega (arith, h, length-tag tag (spell_members ms rest))),
      )
  specifier_stands s n (Enumeration p tag es comma) rest h =
      rw (same_tag s (n + 1) tag, same_enumerators s (n + 1 + count_tag tag + 1) es) (
        between s n (1 + count_tag tag + count_enumerators es comma) (Fixed sign.Enum ∷ spell_tag tag (spell_enumerators es comma rest)) rest h (counts_specifier (Enumeration tt tag es comma) rest),
        tag_stands s (n + 1) tag (spell_enumerators es comma rest) (omega (arith, h)),
        enumerators_stand s (n + 1 + count_tag tag) es comma rest (omega (arith, h, length-tag tag (spell_enumerators es comma rest))),
      )

  -- from the `{` on
  members_stand : (s : Source) (n : ℕ) (ms : Members Bare) (rest : List Symbol) → n + length (spell_members ms rest) ≡ length s.words → MembersStand s (locate_members s (n + 1) ms) rest
  members_stand s n NoMembers rest h = tt
  members_stand s n (MoreMembers m ms) rest h =
      rw (same_members s (n + 1 + count_member m) ms) (
        member_stands s (n + 1) m (spell_more_members ms rest) (omega (arith, h)),
        more_members_stand s (n + 1 + count_member m) ms rest (omega (arith, h, counts_member m (spell_more_members ms rest))),
      )

  more_members_stand : (s : Source) (n : ℕ) (ms : Members Bare) (rest : List Symbol) → n + length (spell_more_members ms rest) ≡ length s.words → MembersStand s (locate_members s n ms) rest
  more_members_stand s n NoMembers rest h = tt
  more_members_stand s n (MoreMembers m ms) rest h =
      rw (same_members s (n + count_member m) ms) (
        member_stands s n m (spell_more_members ms rest) h,
        more_members_stand s (n + count_member m) ms rest (omega (arith, h, counts_member m (spell_more_members ms rest))),
      )

  member_stands : (s : Source) (n : ℕ) (m : MemberDeclaration Bare) (rest : List Symbol) → n + length (spell_member m rest) ≡ length s.words → MemberStands s (locate_member s n m) rest
  member_stands s n (member_declaration p ss fs) rest h =
      rw (same_specifiers s n ss, same_fields s (n + count_specifiers ss) fs) (
        between s n (count_specifiers ss + count_fields fs) (spell_specifiers ss (spell_fields fs rest)) rest h (counts_member (member_declaration tt ss fs) rest),
        specifiers_stand s n ss (spell_fields fs rest) h,
        fields_stand s (n + count_specifiers ss) fs rest (omega (arith, h, counts_specifiers ss (spell_fields fs rest))),
      )

  fields_stand : (s : Source) (n : ℕ) (fs : Fields Bare) (rest : List Symbol) → n + length (spell_fields fs rest) ≡ length s.words → FieldsStand s (locate_fields s n fs) rest
  fields_stand s n NoFields rest h = tt
  fields_stand s n (MoreFields f NoFields) rest h = (field_stands s n f (Fixed sign.Semicolon ∷ rest) h, tt)
  fields_stand s n (MoreFields f (MoreFields g gs)) rest h = (
    rw (same_field s (n + count_field f + 1) g, same_fields s (n + count_field f + 1 + count_field g + 1) gs) (field_stands s n f (Fixed sign.Comma ∷ spell_field g (spell_more_fields gs rest)) h),
    fields_stand s (n + count_field f + 1) (MoreFields g gs) rest (omega (arith, h, counts_field f (Fixed sign.Comma ∷ spell_field g (spell_more_fields gs rest)))),
  )

  field_stands : (s : Source) (n : ℕ) (f : Field Bare) (rest : List Symbol) → n + length (spell_field f rest) ≡ length s.words → FieldStands s (locate_field s n f) rest
  field_stands s n (field p d width) rest h =
      rw (same_declarator s n d, same_optional s (n + count_declarator d + 1) width) (
        between s n (count_declarator d + count_valued width) (spell_declarator d (spell_valued sign.Colon width rest)) rest h (counts_field (field tt d width) rest),
        declarator_stands s n d (spell_valued sign.Colon width rest) h,
        valued_stands s (n + count_declarator d) sign.Colon width rest (omega (arith, h, counts_declarator d (spell_valued sign.Colon width rest))),
      )

  -- from the `{` on
  enumerators_stand : (s : Source) (n : ℕ) (es : Enumerators Bare) (comma : Bool) (rest : List Symbol) → n + length (spell_enumerators es comma rest) ≡ length s.words →
      EnumeratorsStand s (locate_enumerators s (n + 1) es) (spell_last_comma comma (Fixed sign.CloseBrace ∷ rest))
  enumerators_stand s n NoEnumerators comma rest h = tt
  enumerators_stand s n (MoreEnumerators e NoEnumerators) comma rest h = (enumerator_stands s (n + 1) e (spell_last_comma comma (Fixed sign.CloseBrace ∷ rest)) (omega (arith, h)), tt)
  enumerators_stand s n (MoreEnumerators e (MoreEnumerators f fs)) comma rest h =
      let last = spell_last_comma comma (Fixed sign.CloseBrace ∷ rest) in
      let k = counts_enumerator e (Fixed sign.Comma ∷ spell_enumerator f (spell_more_enumerators fs last)) in (
        rw (same_enumerator s (n + 1 + count_enumerator e + 1) f, same_enumerators s (n + 1 + count_enumerator e + 1 + count_enumerator f + 1) fs)
            (enumerator_stands s (n + 1) e (Fixed sign.Comma ∷ spell_enumerator f (spell_more_enumerators fs last)) (omega (arith, h))),
        more_enumerators_stand s (n + 1 + count_enumerator e) (MoreEnumerators f fs) last (omega (arith, h, k)),
      )

  -- from the comma before the first of these on
  more_enumerators_stand : (s : Source) (n : ℕ) (es : Enumerators Bare) (rest : List Symbol) → n + length (spell_more_enumerators es rest) ≡ length s.words →
      EnumeratorsStand s (locate_enumerators s (n + 1) es) rest
  more_enumerators_stand s n NoEnumerators rest h = tt
  more_enumerators_stand s n (MoreEnumerators e es) rest h =
      rw (same_enumerators s (n + 1 + count_enumerator e + 1) es) (
        enumerator_stands s (n + 1) e (spell_more_enumerators es rest) (omega (arith, h)),
        more_enumerators_stand s (n + 1 + count_enumerator e) es rest (omega (arith, h, counts_enumerator e (spell_more_enumerators es rest))),
      )

  enumerator_stands : (s : Source) (n : ℕ) (e : Enumerator Bare) (rest : List Symbol) → n + length (spell_enumerator e rest) ≡ length s.words → EnumeratorStands s (locate_enumerator s n e) rest
  enumerator_stands s n (enumerator p x value) rest h =
      rw (same_optional s (n + 2) value) (
        between s n (1 + count_valued value) (symbol.Name x.name ∷ spell_valued sign.Assign value rest) rest h (counts_enumerator (enumerator tt x value) rest),
        name_stands s n x (spell_valued sign.Assign value rest) (omega (arith, h)),
        enumerator_value_stands s n value rest (omega (arith, h)),
      )

  enumerator_value_stands : (s : Source) (n : ℕ) (value : Optional Bare) (rest : List Symbol) → n + 1 + length (spell_valued sign.Assign value rest) ≡ length s.words → OptionalStands s (locate_optional s (n + 2) value) rest
  enumerator_value_stands s n Absent rest h = tt
  enumerator_value_stands s n (Present t) rest h = stands s (n + 2) t rest (omega (arith, h))

  pub declarator_stands : (s : Source) (n : ℕ) (d : Declarator Bare) (rest : List Symbol) → n + length (spell_declarator d rest) ≡ length s.words → DeclaratorStands s (locate_declarator s n d) rest
  declarator_stands s n (Named x) rest h = name_stands s n x rest (omega (arith, h))
  declarator_stands s n (Unnamed p) rest h = between s n 0 rest rest h (omega arith)
  declarator_stands s n (Pointer p qs d) rest h =
      rw (same_qualifiers s (n + 1) qs, same_declarator s (n + 1 + length qs) d) (
        between s n (1 + length qs + count_declarator d) (Fixed sign.Star ∷ spell_qualifiers qs (spell_declarator d rest)) rest h (counts_declarator (Pointer tt qs d) rest),
        qualifiers_stand s (n + 1) qs (spell_declarator d rest) (omega (arith, h)),
        declarator_stands s (n + 1 + length qs) d rest (omega (arith, h, length-qualifiers qs (spell_declarator d rest))),
      )
  declarator_stands s n (Parenthesised p d) rest h =
      rw (same_declarator s (n + 1) d) (
        between s n (1 + count_declarator d + 1) (Fixed sign.Open ∷ spell_declarator d (Fixed sign.Close ∷ rest)) rest h (counts_declarator (Parenthesised tt d) rest),
        declarator_stands s (n + 1) d (Fixed sign.Close ∷ rest) (omega (arith, h)),
      )
  declarator_stands s n (Array p d b size) rest h =
      rw (same_declarator s n d, same_optional s (n + count_declarator d + 1) size) (
        between s n (count_declarator d + 1 + count_optional size + 1) (spell_declarator d (Fixed sign.OpenSquare ∷ spell_optional size (Fixed sign.CloseSquare ∷ rest))) rest h (counts_declarator (Array tt d tt size) rest),
        between s (n + count_declarator d) (1 + count_optional size + 1) (Fixed sign.OpenSquare ∷ spell_optional size (Fixed sign.CloseSquare ∷ rest)) rest
            (omega (arith, h, counts_declarator d (Fixed sign.OpenSquare ∷ spell_optional size (Fixed sign.CloseSquare ∷ rest)))) (omega (arith, counts_optional size (Fixed sign.CloseSquare ∷ rest))),
        declarator_stands s n d (Fixed sign.OpenSquare ∷ spell_optional size (Fixed sign.CloseSquare ∷ rest)) h,
        optional_stands s (n + count_declarator d + 1) size (Fixed sign.CloseSquare ∷ rest) (omega (arith, h, counts_declarator d (Fixed sign.OpenSquare ∷ spell_optional size (Fixed sign.CloseSquare ∷ rest)))),
      )
  declarator_stands s n (Function p d b ps ellipsis) rest h =
      rw (same_declarator s n d, same_parameters s (n + count_declarator d + 1) ps) (
        between s n (count_declarator d + 1 + count_parameters ps + 2 * count_bool ellipsis + 1) (spell_declarator d (Fixed sign.Open ∷ spell_parameters ps (spell_ellipsis ellipsis (Fixed sign.Close ∷ rest)))) rest h (counts_declarator (Function tt d tt ps ellipsis) rest),
        between s (n + count_declarator d) (1 + count_parameters ps + 2 * count_bool ellipsis + 1) (Fixed sign.Open ∷ spell_parameters ps (spell_ellipsis ellipsis (Fixed sign.Close ∷ rest))) rest
            (omega (arith, h, counts_declarator d (Fixed sign.Open ∷ spell_parameters ps (spell_ellipsis ellipsis (Fixed sign.Close ∷ rest)))))
            (omega (arith, counts_parameters ps (spell_ellipsis ellipsis (Fixed sign.Close ∷ rest)), length-ellipsis ellipsis (Fixed sign.Close ∷ rest))),
        declarator_stands s n d (Fixed sign.Open ∷ spell_parameters ps (spell_ellipsis ellipsis (Fixed sign.Close ∷ rest))) h,
        parameters_stand s (n + count_declarator d + 1) ps (spell_ellipsis ellipsis (Fixed sign.Close ∷ rest))
            (omega (arith, h, counts_declarator d (Fixed sign.Open ∷ spell_parameters ps (spell_ellipsis ellipsis (Fixed sign.Close ∷ rest))))),
      )

  parameters_stand : (s : Source) (n : ℕ) (xs : Parameters Bare) (rest : List Symbol) → n + length (spell_parameters xs rest) ≡ length s.words → ParametersStand s (locate_parameters s n xs) rest
  parameters_stand s n NoParameters rest h = tt
  parameters_stand s n (MoreParameters x NoParameters) rest h = (parameter_stands s n x rest h, tt)
  parameters_stand s n (MoreParameters x (MoreParameters y ys)) rest h = (
    rw (same_parameter s (n + count_parameter x + 1) y, same_parameters s (n + count_parameter x + 1 + count_parameter y + 1) ys) (parameter_stands s n x (Fixed sign.Comma ∷ spell_parameter y (spell_more_parameters ys rest)) h),
    parameters_stand s (n + count_parameter x + 1) (MoreParameters y ys) rest (omega (arith, h, counts_parameter x (Fixed sign.Comma ∷ spell_parameter y (spell_more_parameters ys rest)))),
  )

  parameter_stands : (s : Source) (n : ℕ) (x : Parameter Bare) (rest : List Symbol) → n + length (spell_parameter x rest) ≡ length s.words → ParameterStands s (locate_parameter s n x) rest
  parameter_stands s n (parameter p ss d) rest h =
      rw (same_specifiers s n ss, same_declarator s (n + count_specifiers ss) d) (
        between s n (count_specifiers ss + count_declarator d) (spell_specifiers ss (spell_declarator d rest)) rest h (counts_parameter (parameter tt ss d) rest),
        specifiers_stand s n ss (spell_declarator d rest) h,
        declarator_stands s (n + count_specifiers ss) d rest (omega (arith, h, counts_specifiers ss (spell_declarator d rest))),
      )
