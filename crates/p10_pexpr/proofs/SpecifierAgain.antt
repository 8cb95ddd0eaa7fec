-- Specifiers, structures and enumerations that are spelled are read: each form, from its parts.
use Rattle.std.proofs.Common.{◌≡◌, ℕ, ◌+◌, ◌-◌, ◌*◌, ◌<◌, ◌≤◌, zero, suc, List, [], ◌∷◌, ◌++◌, drop, Bool, true, false, ◌&&◌, cond, refl, sym, ◌∙◌, ap, arith, Option, Some, None, option_map, option_and_then}
use Rattle.std.proofs.lemmas.Bool.{false≢true}
use Rattle.std.proofs.lemmas.List.{append_assoc, append-nil}
use Rattle.p10_syn.specs.declared.sign.Sign.{Sign}
use Rattle.p10_syn.specs.declared.sign.Sign.TheVariants as sign
use Rattle.p10_syn.specs.declared.setting.Naming.TheVariants.{Required}
use Rattle.p10_syn.specs.declared.setting.Setting.{Setting}
use Rattle.p10_syn.specs.declared.setting.Setting.TheVariants as setting
use Rattle.p10_syn.specs.declared.setting.Said.{Said}
use Rattle.p10_syn.specs.declared.setting.Said.TheVariants.{Nothing}
use Rattle.p10_syn.specs.Signs.{same_sign}
use Rattle.p10_syn.specs.Symbols.{Symbol, Fixed}
use Rattle.p10_syn.specs.Symbols as symbol
use Rattle.p10_syn.specs.Scopes.{Scope, is_type}
use Rattle.p10_syn.specs.Declaring.{after_specifier, after_specifiers, after_member, after_enumerator}
use Rattle.p10_syn.specs.Spelling.{spell, spell_valued, spell_tag, spell_specifiers, spell_specifier, spell_more_members, spell_member, spell_fields, spell_more_fields, spell_field, spell_more_enumerators, spell_last_comma, spell_enumerator}
use Rattle.p10_syn.specs.Forms.{said_by, after_saying, may_have_body, is_structure, is_specifier_word, says_nothing, says_no_name, AreApart, IsOptional, HasSpecifiers, HasTagOrMembers, HasTagOrEnumerators, MayHaveMembers, MayHaveEnumerators, AreSpecifiers, IsMember}
use Rattle.p10_syn.specs.Trees.{Bare, Identifier, Optional, Absent, Present, Specifiers, NoSpecifiers, MoreSpecifiers, Specifier, Keyword, Typedef, Structure, Enumeration, Members, NoMembers, MoreMembers, MemberDeclaration, member_declaration, Fields, NoFields, MoreFields, Field, field, Enumerators, NoEnumerators, MoreEnumerators, Enumerator, enumerator, Declarator, member_row, field_row, enumerator_row}
use Rattle.p10_pexpr.specs.declared.next.Specifying.TheVariants.{Renamed, Other}
use Rattle.p10_pexpr.specs.Heads.{heads}
use Rattle.p10_pexpr.specs.Tables.{next_at, pull, specifying_at, is_other}
use Rattle.p10_pexpr.specs.DeclaratorReading.{plain_name}
use Rattle.p10_pexpr.specs.SpecifierReading.{tag_at, tagged_structure, tagged_enumeration, value_at, valued_at, field_at, fields_more, member_at, members_more, structure_with_body, structure_of, structure_at, enumerator_at, enumerators_more, enumeration_with_body, enumeration_of, enumeration_at, specifier_by, specifiers_on}
use Rattle.p10_pexpr.specs.Reading.{readers}
use Rattle.p10_pexpr.proofs.Tools.{and_false}
use Rattle.p10_pexpr.proofs.Rows.{specifier_list, member_list, member_again, field_list, field_again, enumerator_list, enumerator_again}
use Rattle.p10_pexpr.proofs.Sizes.{optional_size, specifier_size, members_size, member_size, fields_size, field_size, enumerators_size, enumerator_size}
use Rattle.p10_pexpr.proofs.Marks.{word_again, structured_again, enumerated_again, specifiers_apart, ends_declarator, end_is}
use Rattle.p10_pexpr.proofs.FirstWords.{specifiers_begin, specifiers_no_brace, declarator_other, declarator_no_brace, apart_leads}
use Rattle.p10_pexpr.proofs.Steps.{specifiers_suc, members_suc, fields_suc, enumerators_suc}
use Rattle.p10_pexpr.proofs.ExpressionAgain.{Full}
use Rattle.p10_pexpr.proofs.DeclaratorAgain.{SpecifiersRead, specifiers_at_again, DeclaratorFull}

-- ## Values

-- an expression that may be left out is read where it is there
abbrev pub OptionalFull : Scope → Optional Bare → Type 0
OptionalFull names Absent = Unit {0}
OptionalFull names (Present t) = Full names t

valued_again : (names : Scope) (s : Sign) (v : Optional Bare) (n : ℕ) (rest : List Symbol) → same_sign s s ≡ true → IsOptional names 3 v → OptionalFull names v → 2 * optional_size v ≤ n →
    pull (next_at rest) < 3 → heads s rest ≡ false → valued_at (readers n) names s (spell_valued s v rest) ≡ Some (v, rest)
valued_again names s Absent n rest same is full enough stops off = ap (λ b. cond b (value_at (readers n) names (drop 1 rest)) (Some (Absent, rest))) off
valued_again names s (Present t) n rest same is full enough stops off =
    ap (λ b. cond b (value_at (readers n) names (spell t rest)) (Some (Absent, Fixed s ∷ spell t rest))) same
    ∙ ap (option_map (λ x. (Present x.0, x.1))) (full n 3 rest (omega (arith, enough)) is.1 stops)

-- ## Members

abbrev pub FieldRead : Scope → Field Bare → Type 0
FieldRead names f = (n : ℕ) (rest : List Symbol) → 2 * field_size f ≤ n → ends_declarator rest ≡ true → pull (next_at rest) < 3 → heads sign.Colon rest ≡ false →
    field_at (readers n) names (spell_field f rest) ≡ Some (f, rest)

valued_ends : (s : Sign) (v : Optional Bare) (rest : List Symbol) → ends_declarator (Fixed s ∷ []) ≡ true → ends_declarator rest ≡ true → ends_declarator (spell_valued s v rest) ≡ true
valued_ends s Absent rest on ends = ends
valued_ends s (Present t) rest on ends = on

pub field_read : (names : Scope) (p : Bare) (d : Declarator Bare) (w : Optional Bare) → IsOptional names 3 w → DeclaratorFull names setting.Outside Required d → OptionalFull names w → FieldRead names (field p d w)
field_read names p d w is full value n rest enough ends stops off =
    ap (option_and_then (λ x. option_map (λ y. (field tt x.0 y.0, y.1)) (valued_at (readers n) names sign.Colon x.1)))
    (full n (spell_valued sign.Colon w rest) (omega (arith, enough)) (valued_ends sign.Colon w rest refl ends))
    ∙ ap (option_map (λ y. (field tt d y.0, y.1))) (valued_again names sign.Colon w n rest refl is value (omega (arith, enough)) stops off)

abbrev pub FieldsRead : Scope → Field Bare → Fields Bare → Type 0
FieldsRead names f fs = (m : ℕ) (done : List (Field Bare)) (rest : List Symbol) → 2 * (1 + (field_size f + fields_size fs)) ≤ m →
    (readers m).fields names done (spell_field f (spell_more_fields fs rest)) ≡ Some (done ++ f ∷ field_list fs, rest)

abbrev pub AllFieldsRead : Scope → Fields Bare → Type 0
AllFieldsRead names NoFields = Unit {0}
AllFieldsRead names (MoreFields f fs) = FieldsRead names f fs

fields_end : (fs : Fields Bare) (rest : List Symbol) → let more = spell_more_fields fs rest in (ends_declarator more ≡ true) × (pull (next_at more) < 3) × (heads sign.Colon more ≡ false)
fields_end NoFields rest = (refl, omega arith, refl)
fields_end (MoreFields f fs) rest = (refl, omega arith, refl)

fields_first : (names : Scope) (f : Field Bare) (fs : Fields Bare) (m : ℕ) (done : List (Field Bare)) (rest : List Symbol) → FieldRead names f → 2 * (1 + field_size f) ≤ m →
    (readers m).fields names done (spell_field f (spell_more_fields fs rest)) ≡ fields_more (readers (m - 1)) names (done ++ f ∷ []) (spell_more_fields fs rest)
fields_first names f fs zero done rest read enough = absurd (omega (arith, enough))
fields_first names f fs (suc n) done rest read enough =
    let less : n ≡ suc n - 1 = omega arith in
    let more = spell_more_fields fs rest in
    let k = fields_end fs rest in
    fields_suc n names done (spell_field f more)
    ∙ ap (option_and_then (λ y. fields_more (readers n) names (done ++ y.0 ∷ []) y.1)) (read n more (omega (arith, enough)) k.0 k.1 k.2)
    ∙ ap (λ i. fields_more (readers i) names (done ++ f ∷ []) more) less

pub fields_last : (names : Scope) (f : Field Bare) → FieldRead names f → FieldsRead names f NoFields
fields_last names f read m done rest enough = fields_first names f NoFields m done rest read (omega (arith, enough))

pub fields_next : (names : Scope) (f g : Field Bare) (gs : Fields Bare) → FieldRead names f → FieldsRead names g gs → FieldsRead names f (MoreFields g gs)
fields_next names f g gs read all m done rest enough =
    fields_first names f (MoreFields g gs) m done rest read (omega (arith, enough))
    ∙ all (m - 1) (done ++ f ∷ []) rest (omega (arith, enough))
    ∙ ap (λ (xs : List (Field Bare)). Some (xs, rest)) (append_assoc done (f ∷ []) (g ∷ field_list gs))

-- ## Structures

abbrev pub MemberRead : Scope → MemberDeclaration Bare → Type 0
MemberRead names m = (n : ℕ) (rest : List Symbol) → 2 * member_size m ≤ n → member_at (readers n) names (spell_member m rest) ≡ Some (m, rest)

no_brace : (w : Optional Bare) (fs : Fields Bare) (rest : List Symbol) → heads sign.OpenBrace (spell_valued sign.Colon w (spell_more_fields fs rest)) ≡ false
no_brace Absent NoFields rest = refl
no_brace Absent (MoreFields f fs) rest = refl
no_brace (Present t) fs rest = refl

field_other : (names : Scope) (said : Said) (f : Field Bare) (fs : Fields Bare) (rest : List Symbol) → AreApart names said (MoreFields f fs) →
    (is_other (specifying_at names setting.Outside said (spell_field f (spell_more_fields fs rest))) ≡ true) × (heads sign.OpenBrace (spell_field f (spell_more_fields fs rest)) ≡ false)
field_other names said (field p d w) fs rest apart =
    let more = spell_valued sign.Colon w (spell_more_fields fs rest) in
    let ends = valued_ends sign.Colon w (spell_more_fields fs rest) refl (fields_end fs rest).0 in
    (declarator_other names setting.Outside said d more (apart_leads names said d apart) ((end_is names more ends).no_specifier setting.Outside said), declarator_no_brace d more (no_brace w fs rest))

pub member_read : (names : Scope) (p : Bare) (ss : Specifiers Bare) (f : Field Bare) (fs : Fields Bare) → HasSpecifiers ss → AreApart (after_specifiers names ss) (said_by Nothing ss) (MoreFields f fs) →
    SpecifiersRead names setting.Outside Nothing ss → FieldsRead (after_specifiers names ss) f fs → MemberRead names (member_declaration p ss (MoreFields f fs))
member_read names p ss f fs some apart read all n rest enough =
    let within = after_specifiers names ss in
    let k = field_other within (said_by Nothing ss) f fs rest apart in
    ap (option_and_then (λ x. option_map (λ y. (member_declaration tt x.0 (field_row y.0), y.1)) ((readers n).fields (after_specifiers names x.0) [] x.1)))
    (specifiers_at_again names setting.Outside ss n (spell_fields (MoreFields f fs) rest) read some (omega (arith, enough)) k.0 k.1)
    ∙ ap (option_map (λ y. (member_declaration tt ss (field_row y.0), y.1))) (all n [] rest (omega (arith, enough)))
    ∙ ap (λ (xs : Fields Bare). Some (member_declaration tt ss xs, rest)) (field_again (MoreFields f fs))

abbrev pub MembersRead : Scope → MemberDeclaration Bare → Members Bare → Type 0
MembersRead names m ms = (i : ℕ) (done : List (MemberDeclaration Bare)) (rest : List Symbol) → 2 * (1 + (member_size m + members_size ms)) ≤ i →
    (readers i).members names done (spell_member m (spell_more_members ms rest)) ≡ Some (done ++ m ∷ member_list ms, rest)

abbrev pub AllMembersRead : Scope → Members Bare → Type 0
AllMembersRead names NoMembers = Unit {0}
AllMembersRead names (MoreMembers m ms) = MembersRead names m ms

members_first : (names : Scope) (m : MemberDeclaration Bare) (i : ℕ) (done : List (MemberDeclaration Bare)) (more : List Symbol) → MemberRead names m → 2 * (1 + member_size m) ≤ i →
    (readers i).members names done (spell_member m more) ≡ members_more (readers (i - 1)) (after_member names m) (done ++ m ∷ []) more
members_first names m zero done more read enough = absurd (omega (arith, enough))
members_first names m (suc n) done more read enough =
    let less : n ≡ suc n - 1 = omega arith in
    members_suc n names done (spell_member m more)
    ∙ ap (option_and_then (λ y. members_more (readers n) (after_member names y.0) (done ++ y.0 ∷ []) y.1)) (read n more (omega (arith, enough)))
    ∙ ap (λ k. members_more (readers k) (after_member names m) (done ++ m ∷ []) more) less

pub members_last : (names : Scope) (m : MemberDeclaration Bare) → MemberRead names m → MembersRead names m NoMembers
members_last names m read i done rest enough = members_first names m i done (Fixed sign.CloseBrace ∷ rest) read (omega (arith, enough))

member_no_brace : (names : Scope) (m : MemberDeclaration Bare) (rest : List Symbol) → IsMember names m → heads sign.CloseBrace (spell_member m rest) ≡ false
member_no_brace names (member_declaration p ss fs) rest h = (specifiers_apart names _ (specifiers_begin names setting.Outside Nothing ss _ h.0 h.1)).2

pub members_next : (names : Scope) (m o : MemberDeclaration Bare) (os : Members Bare) → MemberRead names m → IsMember (after_member names m) o → MembersRead (after_member names m) o os → MembersRead names m (MoreMembers o os)
members_next names m o os read is all i done rest enough =
    let inner = spell_member o (spell_more_members os rest) in
    let within = after_member names m in
    members_first names m i done inner read (omega (arith, enough))
    ∙ ap (λ b. cond b (Some (done ++ m ∷ [], drop 1 inner)) ((readers (i - 1)).members within (done ++ m ∷ []) inner)) (member_no_brace within o _ is)
    ∙ all (i - 1) (done ++ m ∷ []) rest (omega (arith, enough))
    ∙ ap (λ (xs : List (MemberDeclaration Bare)). Some (xs, rest)) (append_assoc done (m ∷ []) (o ∷ member_list os))

-- ## Enumerations

abbrev pub EnumeratorRead : Scope → Enumerator Bare → Type 0
EnumeratorRead names e = (n : ℕ) (rest : List Symbol) → 2 * enumerator_size e ≤ n → pull (next_at rest) < 3 → heads sign.Assign rest ≡ false → enumerator_at (readers n) names (spell_enumerator e rest) ≡ Some (e, rest)

pub enumerator_read : (names : Scope) (p : Bare) (x : Identifier Bare) (v : Optional Bare) → IsOptional names 3 v → OptionalFull names v → EnumeratorRead names (enumerator p x v)
enumerator_read names p x v is full n rest enough stops off =
    ap (option_map (λ y. (enumerator tt (plain_name x.name) y.0, y.1))) (valued_again names sign.Assign v n rest refl is full (omega (arith, enough)) stops off)

abbrev pub EnumeratorsRead : Scope → Enumerator Bare → Enumerators Bare → Type 0
EnumeratorsRead names e es = (m : ℕ) (done : List (Enumerator Bare)) (comma : Bool) (rest : List Symbol) → 2 * (1 + (enumerator_size e + enumerators_size es)) ≤ m →
    (readers m).enumerators names done (spell_enumerator e (spell_more_enumerators es (spell_last_comma comma (Fixed sign.CloseBrace ∷ rest)))) ≡ Some ((done ++ e ∷ enumerator_list es, comma), rest)

abbrev pub AllEnumeratorsRead : Scope → Enumerators Bare → Type 0
AllEnumeratorsRead names NoEnumerators = Unit {0}
AllEnumeratorsRead names (MoreEnumerators e es) = EnumeratorsRead names e es

enumerators_end : (es : Enumerators Bare) (comma : Bool) (rest : List Symbol) → let more = spell_more_enumerators es (spell_last_comma comma (Fixed sign.CloseBrace ∷ rest)) in (pull (next_at more) < 3) × (heads sign.Assign more ≡ false)
enumerators_end NoEnumerators true rest = (omega arith, refl)
enumerators_end NoEnumerators false rest = (omega arith, refl)
enumerators_end (MoreEnumerators e es) comma rest = (omega arith, refl)

enumerators_first : (names : Scope) (e : Enumerator Bare) (es : Enumerators Bare) (m : ℕ) (done : List (Enumerator Bare)) (comma : Bool) (rest : List Symbol) → EnumeratorRead names e → 2 * (1 + enumerator_size e) ≤ m →
    let more = spell_more_enumerators es (spell_last_comma comma (Fixed sign.CloseBrace ∷ rest)) in
    (readers m).enumerators names done (spell_enumerator e more) ≡ enumerators_more (readers (m - 1)) (after_enumerator names e) (done ++ e ∷ []) more
enumerators_first names e es zero done comma rest read enough = absurd (omega (arith, enough))
enumerators_first names e es (suc n) done comma rest read enough =
    let less : n ≡ suc n - 1 = omega arith in
    let more = spell_more_enumerators es (spell_last_comma comma (Fixed sign.CloseBrace ∷ rest)) in
    let k = enumerators_end es comma rest in
    enumerators_suc n names done (spell_enumerator e more)
    ∙ ap (option_and_then (λ y. enumerators_more (readers n) (after_enumerator names y.0) (done ++ y.0 ∷ []) y.1)) (read n more (omega (arith, enough)) k.0 k.1)
    ∙ ap (λ i. enumerators_more (readers i) (after_enumerator names e) (done ++ e ∷ []) more) less

enumerators_close : (n : ℕ) (names : Scope) (done : List (Enumerator Bare)) (comma : Bool) (rest : List Symbol) →
    enumerators_more (readers n) names done (spell_last_comma comma (Fixed sign.CloseBrace ∷ rest)) ≡ Some ((done, comma), rest)
enumerators_close n names done true rest = refl
enumerators_close n names done false rest = refl

pub enumerators_last : (names : Scope) (e : Enumerator Bare) → EnumeratorRead names e → EnumeratorsRead names e NoEnumerators
enumerators_last names e read m done comma rest enough =
    enumerators_first names e NoEnumerators m done comma rest read (omega (arith, enough)) ∙ enumerators_close (m - 1) (after_enumerator names e) (done ++ e ∷ []) comma rest

-- after a comma a constant stands, and no `}`
enumerators_comma : (n : ℕ) (names : Scope) (done : List (Enumerator Bare)) (o : Enumerator Bare) (more : List Symbol) →
    enumerators_more (readers n) names done (Fixed sign.Comma ∷ spell_enumerator o more) ≡ (readers n).enumerators names done (spell_enumerator o more)
enumerators_comma n names done (enumerator p x v) more = refl

pub enumerators_next : (names : Scope) (e o : Enumerator Bare) (os : Enumerators Bare) → EnumeratorRead names e → EnumeratorsRead (after_enumerator names e) o os → EnumeratorsRead names e (MoreEnumerators o os)
enumerators_next names e o os read all m done comma rest enough =
    let inner = spell_more_enumerators os (spell_last_comma comma (Fixed sign.CloseBrace ∷ rest)) in
    enumerators_first names e (MoreEnumerators o os) m done comma rest read (omega (arith, enough))
    ∙ enumerators_comma (m - 1) (after_enumerator names e) (done ++ e ∷ []) o inner
    ∙ all (m - 1) (done ++ e ∷ []) comma rest (omega (arith, enough))
    ∙ ap (λ (xs : List (Enumerator Bare)). Some ((xs, comma), rest)) (append_assoc done (e ∷ []) (o ∷ enumerator_list os))

-- ## Specifiers

-- a specifier is read where it may stand
pub record SpecifierRead (names : Scope) (setting : Setting) (said : Said) (s : Specifier Bare) : Type 0 where
  pub read : (n : ℕ) (rest : List Symbol) → 2 * specifier_size s ≤ n → heads sign.OpenBrace rest ≡ false →
      specifier_by (readers n) names setting (specifying_at names setting said (spell_specifier s rest)) (spell_specifier s rest) ≡ Some (s, rest)
  pub goes : (rest : List Symbol) → is_other (specifying_at names setting said (spell_specifier s rest)) ≡ false

pub keyword_read : (names : Scope) (setting : Setting) (said : Said) (p : Bare) (s : Sign) → is_specifier_word setting said s ≡ true → SpecifierRead names setting said (Keyword p s)
keyword_read names setting said p s h = record {
  read = λ n rest enough shut. ap (λ how. specifier_by (readers n) names setting how (Fixed s ∷ rest)) (word_again setting said s h);
  goes = λ rest. ap is_other (word_again setting said s h);
}

renamed : (b c : Bool) → b ≡ true → c ≡ true → cond (b && c) Renamed Other ≡ Renamed
renamed true true h may = refl
renamed true false h may = absurd (false≢true may)
renamed false c h may = absurd (false≢true h)

pub typedef_read : (names : Scope) (setting : Setting) (said : Said) (x : Identifier Bare) → is_type names x.name ≡ true → says_nothing said ≡ true → SpecifierRead names setting said (Typedef x)
typedef_read names setting said x h may = record {
  read = λ n rest enough shut. ap (λ how. specifier_by (readers n) names setting how (symbol.Name x.name ∷ rest)) (renamed (is_type names x.name) (says_nothing said) h may);
  goes = λ rest. ap is_other (renamed (is_type names x.name) (says_nothing said) h may);
}

-- its own name
tag_again : (tag : Option (Identifier Bare)) (rest : List Symbol) → tag_at rest ≡ (None, rest) → tag_at (spell_tag tag rest) ≡ (tag, rest)
tag_again None rest h = h
tag_again (Some x) rest h = refl

structure_tagged : (names : Scope) (setting : Setting) (s : Sign) (tag : Option (Identifier Bare)) (n : ℕ) (rest : List Symbol) → HasTagOrMembers tag NoMembers → heads sign.OpenBrace rest ≡ false →
    structure_at (readers n) names setting s (spell_tag tag rest) ≡ Some (Structure tt s tag NoMembers, rest)
structure_tagged names setting s None n rest h shut = absurd h
structure_tagged names setting s (Some x) n rest h shut =
    ap (λ b. cond (may_have_body setting && b) (structure_with_body (readers n) names s (Some x) (drop 1 rest)) (Some (Structure tt s (Some x) NoMembers, rest))) shut
    ∙ ap (λ b. cond b (structure_with_body (readers n) names s (Some x) (drop 1 rest)) (Some (Structure tt s (Some x) NoMembers, rest))) (and_false (may_have_body setting))

pub structure_read : (names : Scope) (setting : Setting) (said : Said) (p : Bare) (s : Sign) (tag : Option (Identifier Bare)) (ms : Members Bare) → is_structure s ≡ true → says_no_name said ≡ true →
    HasTagOrMembers tag ms → MayHaveMembers setting ms → AllMembersRead names ms → SpecifierRead names setting said (Structure p s tag ms)
structure_read names setting said p s tag NoMembers is may some body read = record {
  read = λ n rest enough shut.
      ap (λ how. specifier_by (readers n) names setting how (Fixed s ∷ spell_tag tag rest)) (structured_again setting said s is may) ∙ structure_tagged names setting s tag n rest some shut;
  goes = λ rest. ap is_other (structured_again setting said s is may);
}
structure_read names setting said p s tag (MoreMembers m ms) is may some body read = record {
  read = λ n rest enough shut.
      let inner = spell_member m (spell_more_members ms rest) in
      let words = Fixed sign.OpenBrace ∷ inner in
      ap (λ how. specifier_by (readers n) names setting how (Fixed s ∷ spell_tag tag words)) (structured_again setting said s is may)
      ∙ ap (λ q. structure_of (readers n) names setting s q.0 q.1) (tag_again tag words refl)
      ∙ ap (λ b. cond (b && true) (structure_with_body (readers n) names s tag inner) (tagged_structure s tag words)) body
      ∙ ap (option_map (λ y. (Structure tt s tag (member_row y.0), y.1))) (read n [] rest (omega (arith, enough)))
      ∙ ap (λ (xs : Members Bare). Some (Structure tt s tag xs, rest)) (member_again (MoreMembers m ms));
  goes = λ rest. ap is_other (structured_again setting said s is may);
}

enumeration_tagged : (names : Scope) (setting : Setting) (tag : Option (Identifier Bare)) (n : ℕ) (rest : List Symbol) → HasTagOrEnumerators tag NoEnumerators → heads sign.OpenBrace rest ≡ false →
    enumeration_at (readers n) names setting (spell_tag tag rest) ≡ Some (Enumeration tt tag NoEnumerators false, rest)
enumeration_tagged names setting None n rest h shut = absurd h
enumeration_tagged names setting (Some x) n rest h shut =
    ap (λ b. cond (may_have_body setting && b) (enumeration_with_body (readers n) names (Some x) (drop 1 rest)) (Some (Enumeration tt (Some x) NoEnumerators false, rest))) shut
    ∙ ap (λ b. cond b (enumeration_with_body (readers n) names (Some x) (drop 1 rest)) (Some (Enumeration tt (Some x) NoEnumerators false, rest))) (and_false (may_have_body setting))

pub enumeration_read : (names : Scope) (setting : Setting) (said : Said) (p : Bare) (tag : Option (Identifier Bare)) (es : Enumerators Bare) (comma : Bool) → says_no_name said ≡ true →
    HasTagOrEnumerators tag es → MayHaveEnumerators setting es comma → AllEnumeratorsRead names es → SpecifierRead names setting said (Enumeration p tag es comma)
enumeration_read names setting said p tag NoEnumerators comma may some body read = record {
  read = λ n rest enough shut.
      ap (λ how. specifier_by (readers n) names setting how (Fixed sign.Enum ∷ spell_tag tag rest)) (enumerated_again setting said may)
      ∙ enumeration_tagged names setting tag n rest some shut ∙ ap (λ c. Some (Enumeration tt tag NoEnumerators c, rest)) (sym body);
  goes = λ rest. ap is_other (enumerated_again setting said may);
}
enumeration_read names setting said p tag (MoreEnumerators e es) comma may some body read = record {
  read = λ n rest enough shut.
      let inner = spell_enumerator e (spell_more_enumerators es (spell_last_comma comma (Fixed sign.CloseBrace ∷ rest))) in
      let words = Fixed sign.OpenBrace ∷ inner in
      ap (λ how. specifier_by (readers n) names setting how (Fixed sign.Enum ∷ spell_tag tag words)) (enumerated_again setting said may)
      ∙ ap (λ q. enumeration_of (readers n) names setting q.0 q.1) (tag_again tag words refl)
      ∙ ap (λ b. cond (b && true) (enumeration_with_body (readers n) names tag inner) (tagged_enumeration tag words)) body
      ∙ ap (option_map (λ y. (Enumeration tt tag (enumerator_row y.0.0) y.0.1, y.1))) (read n [] comma rest (omega (arith, enough)))
      ∙ ap (λ (xs : Enumerators Bare). Some (Enumeration tt tag xs comma, rest)) (enumerator_again (MoreEnumerators e es));
  goes = λ rest. ap is_other (enumerated_again setting said may);
}

pub no_specifiers_read : (names : Scope) (setting : Setting) (said : Said) → SpecifiersRead names setting said NoSpecifiers
no_specifiers_read names setting said zero done rest enough stops shut = absurd (omega (arith, enough))
no_specifiers_read names setting said (suc n) done rest enough stops shut =
    specifiers_suc n names setting said done rest
    ∙ ap (λ b. cond b (Some (done, rest)) (specifiers_on (readers n) names setting said done rest)) stops
    ∙ ap (λ (xs : List (Specifier Bare)). Some (xs, rest)) (sym (append-nil done))

pub more_specifiers_read : (names : Scope) (setting : Setting) (said : Said) (s : Specifier Bare) (ss : Specifiers Bare) → AreSpecifiers (after_specifier names s) setting (after_saying said s) ss →
    SpecifierRead names setting said s → SpecifiersRead (after_specifier names s) setting (after_saying said s) ss → SpecifiersRead names setting said (MoreSpecifiers s ss)
more_specifiers_read names setting said s ss are one all zero done rest enough stops shut = absurd (omega (arith, enough))
more_specifiers_read names setting said s ss are one all (suc n) done rest enough stops shut =
    let more = spell_specifiers ss rest in
    let words = spell_specifier s more in
    let within = after_specifier names s in
    specifiers_suc n names setting said done words
    ∙ ap (λ b. cond b (Some (done, words)) (specifiers_on (readers n) names setting said done words)) (one.goes more)
    ∙ ap (option_and_then (λ x. (readers n).specifiers (after_specifier names x.0) setting (after_saying said x.0) (done ++ x.0 ∷ []) x.1))
    (one.read n more (omega (arith, enough)) (specifiers_no_brace within setting (after_saying said s) ss rest are shut))
    ∙ all n (done ++ s ∷ []) rest (omega (arith, enough)) stops shut
    ∙ ap (λ (xs : List (Specifier Bare)). Some (xs, rest)) (append_assoc done (s ∷ []) (specifier_list ss))
