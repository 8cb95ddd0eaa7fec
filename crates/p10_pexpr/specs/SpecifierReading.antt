-- Reading specifiers, structures, unions and enumerations (C99 6.7, 6.7.2.1, 6.7.2.2).
use Rattle.std.specs.Prelude.{List, [], ◌∷◌, ◌++◌, drop, Bool, true, false, ◌&&◌, Option, Some, None, option_map, option_and_then, cond}
use Rattle.p10_syn.specs.declared.sign.Sign.{Sign}
use Rattle.p10_syn.specs.declared.sign.Sign.TheVariants as sign
use Rattle.p10_syn.specs.declared.setting.Naming.TheVariants.{Required}
use Rattle.p10_syn.specs.declared.setting.Setting.{Setting}
use Rattle.p10_syn.specs.declared.setting.Setting.TheVariants as setting
use Rattle.p10_syn.specs.Symbols.{Symbol, Fixed}
use Rattle.p10_syn.specs.Symbols as symbol
use Rattle.p10_syn.specs.Scopes.{Scope}
use Rattle.p10_syn.specs.Declaring.{after_specifier, after_specifiers, after_member, after_enumerator}
use Rattle.p10_syn.specs.declared.setting.Said.{Said}
use Rattle.p10_syn.specs.Forms.{after_saying, may_have_body}
use Rattle.p10_syn.specs.Trees.{Bare, Identifier, Optional, Absent, Present, Specifier, Keyword, Typedef, Structure, Enumeration, NoMembers, MemberDeclaration, member_declaration, Field, field, NoEnumerators, Enumerator, enumerator, member_row, field_row, enumerator_row}
use Rattle.p10_pexpr.specs.declared.next.Specifying.{Specifying}
use Rattle.p10_pexpr.specs.declared.next.Specifying.TheVariants.{Word, Structured, Enumerated, Renamed, Other}
use Rattle.p10_pexpr.specs.Heads.{Read, heads, closed_by, name_at}
use Rattle.p10_pexpr.specs.Tables.{specifying_at, is_other}
use Rattle.p10_pexpr.specs.Readers.{Readers}
use Rattle.p10_pexpr.specs.DeclaratorReading.{plain_name, specifiers_at}

-- the own name of a structure or enumeration, if it has one
abbrev pub tag_at : List Symbol → Option (Identifier Bare) × List Symbol
tag_at (symbol.Name x ∷ rest) = (Some (plain_name x), rest)
tag_at symbols = (None, symbols)

-- a name that stands as a specifier (C99 6.7.7)
abbrev pub typedef_at : List Symbol → Read (Specifier Bare)
typedef_at symbols = option_map (λ x. (Typedef (plain_name x.0), x.1)) (name_at symbols)

-- a structure without a body has a name
abbrev pub tagged_structure : Sign → Option (Identifier Bare) → List Symbol → Read (Specifier Bare)
tagged_structure s None rest = None
tagged_structure s (Some x) rest = Some (Structure tt s (Some x) NoMembers, rest)

-- and so has an enumeration
abbrev pub tagged_enumeration : Option (Identifier Bare) → List Symbol → Read (Specifier Bare)
tagged_enumeration None rest = None
tagged_enumeration (Some x) rest = Some (Enumeration tt (Some x) NoEnumerators false, rest)

module _ (r : Readers) where
  -- an expression of level 3: the width of a bit-field, or the value of a constant (C99 6.7.2.1, 6.7.2.2)
  abbrev pub value_at : Scope → List Symbol → Read (Optional Bare)
  value_at names rest = option_map (λ t. (Present t.0, t.1)) (r.expression names 3 rest)

  -- this sign and the expression after it, or nothing where the next word is another
  abbrev pub valued_at : Scope → Sign → List Symbol → Read (Optional Bare)
  valued_at names s symbols = cond (heads s symbols) (value_at names (drop 1 symbols)) (Some (Absent, symbols))

  -- ## Structures

  -- a declarator with a name, and the width of a bit-field after `:` (C99 6.7.2.1)
  abbrev pub field_at : Scope → List Symbol → Read (Field Bare)
  field_at names symbols =
      option_and_then (λ d. option_map (λ w. (field tt d.0 w.0, w.1)) (valued_at names sign.Colon d.1)) (r.declarator names setting.Outside Required symbols)

  -- after a declarator of a member: a `,` and what is after it, or the `;`
  abbrev pub fields_more : Scope → List (Field Bare) → List Symbol → Read (List (Field Bare))
  fields_more names done rest = cond (heads sign.Comma rest) (r.fields names done (drop 1 rest)) (closed_by sign.Semicolon done rest)

  -- one declarator of a member and those after it
  abbrev pub fields_once : Scope → List (Field Bare) → List Symbol → Read (List (Field Bare))
  fields_once names done symbols = option_and_then (λ f. fields_more names (done ++ f.0 ∷ []) f.1) (field_at names symbols)

  -- specifiers, and then what they declare up to the `;` (C99 6.7.2.1)
  abbrev pub member_at : Scope → List Symbol → Read (MemberDeclaration Bare)
  member_at names symbols =
      option_and_then (λ ss. option_map (λ fs. (member_declaration tt ss.0 (field_row fs.0), fs.1)) (r.fields (after_specifiers names ss.0) [] ss.1)) (specifiers_at r names setting.Outside symbols)

  -- after a declaration of members: the `}`, or a further declaration
  abbrev pub members_more : Scope → List (MemberDeclaration Bare) → List Symbol → Read (List (MemberDeclaration Bare))
  members_more names done rest = cond (heads sign.CloseBrace rest) (Some (done, drop 1 rest)) (r.members names done rest)

  -- one declaration of members and, in the scope after it, those after it
  abbrev pub members_once : Scope → List (MemberDeclaration Bare) → List Symbol → Read (List (MemberDeclaration Bare))
  members_once names done symbols = option_and_then (λ m. members_more (after_member names m.0) (done ++ m.0 ∷ []) m.1) (member_at names symbols)

  -- after a `{`
  abbrev pub structure_with_body : Scope → Sign → Option (Identifier Bare) → List Symbol → Read (Specifier Bare)
  structure_with_body names s tag rest = option_map (λ ms. (Structure tt s tag (member_row ms.0), ms.1)) (r.members names [] rest)

  -- after its own name
  abbrev pub structure_of : Scope → Setting → Sign → Option (Identifier Bare) → List Symbol → Read (Specifier Bare)
  structure_of names setting s tag symbols =
      cond (may_have_body setting && heads sign.OpenBrace symbols) (structure_with_body names s tag (drop 1 symbols)) (tagged_structure s tag symbols)

  -- after its first word
  abbrev pub structure_at : Scope → Setting → Sign → List Symbol → Read (Specifier Bare)
  structure_at names setting s rest = structure_of names setting s (tag_at rest).0 (tag_at rest).1

  -- ## Enumerations

  -- the name of a constant, and its value after `=` if one is written (C99 6.7.2.2)
  abbrev pub enumerator_at : Scope → List Symbol → Read (Enumerator Bare)
  enumerator_at names symbols =
      option_and_then (λ x. option_map (λ v. (enumerator tt (plain_name x.0) v.0, v.1)) (valued_at names sign.Assign x.1)) (name_at symbols)

  -- after a `,`
  abbrev pub enumerators_on : Scope → List (Enumerator Bare) → List Symbol → Read (List (Enumerator Bare) × Bool)
  enumerators_on names done rest = cond (heads sign.CloseBrace rest) (Some ((done, true), drop 1 rest)) (r.enumerators names done rest)

  -- after a constant of an enumeration: a `,` and what is after it, or the `}`
  abbrev pub enumerators_more : Scope → List (Enumerator Bare) → List Symbol → Read (List (Enumerator Bare) × Bool)
  enumerators_more names done rest = cond (heads sign.Comma rest) (enumerators_on names done (drop 1 rest)) (closed_by sign.CloseBrace (done, false) rest)

  -- one constant of an enumeration and, in the scope after it, those after it
  abbrev pub enumerators_once : Scope → List (Enumerator Bare) → List Symbol → Read (List (Enumerator Bare) × Bool)
  enumerators_once names done symbols = option_and_then (λ e. enumerators_more (after_enumerator names e.0) (done ++ e.0 ∷ []) e.1) (enumerator_at names symbols)

  -- after the `{` of an enumeration: its constants up to the `}`
  abbrev pub enumeration_with_body : Scope → Option (Identifier Bare) → List Symbol → Read (Specifier Bare)
  enumeration_with_body names tag rest = option_map (λ es. (Enumeration tt tag (enumerator_row es.0.0) es.0.1, es.1)) (r.enumerators names [] rest)

  -- after the own name of an enumeration, if it has one: the body, where there may be one and a `{` stands
  abbrev pub enumeration_of : Scope → Setting → Option (Identifier Bare) → List Symbol → Read (Specifier Bare)
  enumeration_of names setting tag symbols =
      cond (may_have_body setting && heads sign.OpenBrace symbols) (enumeration_with_body names tag (drop 1 symbols)) (tagged_enumeration tag symbols)

  -- after `enum`: its own name, if it has one, and its body (C99 6.7.2.2)
  abbrev pub enumeration_at : Scope → Setting → List Symbol → Read (Specifier Bare)
  enumeration_at names setting rest = enumeration_of names setting (tag_at rest).0 (tag_at rest).1

  -- ## Specifiers

  -- the specifier that the words begin with, by what their first word is
  abbrev pub specifier_by : Scope → Setting → Specifying → List Symbol → Read (Specifier Bare)
  specifier_by names setting (Word s) symbols = Some (Keyword tt s, drop 1 symbols)
  specifier_by names setting (Structured s) symbols = structure_at names setting s (drop 1 symbols)
  specifier_by names setting Enumerated symbols = enumeration_at names setting (drop 1 symbols)
  specifier_by names setting Renamed symbols = typedef_at symbols
  specifier_by names setting Other symbols = None

  -- one specifier and those after it
  abbrev pub specifiers_on : Scope → Setting → Said → List (Specifier Bare) → List Symbol → Read (List (Specifier Bare))
  specifiers_on names setting said done symbols =
      option_and_then (λ s. r.specifiers (after_specifier names s.0) setting (after_saying said s.0) (done ++ s.0 ∷ []) s.1)
      (specifier_by names setting (specifying_at names setting said symbols) symbols)

  -- one more specifier and those after it, or the end where the next word begins none here
  abbrev pub specifiers_once : Scope → Setting → Said → List (Specifier Bare) → List Symbol → Read (List (Specifier Bare))
  specifiers_once names setting said done symbols =
      cond (is_other (specifying_at names setting said symbols)) (Some (done, symbols)) (specifiers_on names setting said done symbols)
