-- Specifiers, structures and enumerations that are read are spelled.
use Rattle.std.proofs.Common.{◌≡◌, List, [], ◌∷◌, ◌++◌, drop, Bool, true, false, ◌&&◌, refl, sym, ◌∙◌, ap, subst, Option, Some, None, option_map}
use Rattle.std.proofs.lemmas.Option.{none-some, same_Some}
use Rattle.std.proofs.lemmas.Bool.{and_parts}
use Rattle.std.proofs.lemmas.List.{append_assoc, append-nil}
use Rattle.p10_syn.specs.declared.sign.Sign.{Sign}
use Rattle.p10_syn.specs.declared.sign.Sign.TheVariants as sign
use Rattle.p10_syn.specs.declared.setting.Naming.TheVariants.{Required}
use Rattle.p10_syn.specs.declared.setting.Setting.{Setting}
use Rattle.p10_syn.specs.declared.setting.Setting.TheVariants as setting
use Rattle.p10_syn.specs.declared.setting.Said.{Said}
use Rattle.p10_syn.specs.declared.setting.Said.TheVariants.{Nothing}
use Rattle.p10_syn.specs.Symbols.{Symbol, Fixed}
use Rattle.p10_syn.specs.Symbols as symbol
use Rattle.p10_syn.specs.Scopes.{Scope}
use Rattle.p10_syn.specs.Declaring.{after_specifier, after_specifiers, after_member, after_enumerator}
use Rattle.p10_syn.specs.Spelling.{spell_valued, spell_tag, spell_specifiers, spell_specifier, spell_member, spell_fields, spell_more_fields, spell_field, spell_last_comma, spell_enumerator, spell_declarator}
use Rattle.p10_syn.specs.Forms.{said_by, after_saying, may_have_body, is_structure, says_nothing, says_no_name, AreApart, HasTagOrMembers, HasTagOrEnumerators, IsEnumerator}
use Rattle.p10_syn.specs.Trees.{Bare, Identifier, Optional, Present, NoSpecifiers, MoreSpecifiers, Specifier, Typedef, Structure, Enumeration, Members, NoMembers, MoreMembers, MemberDeclaration, member_declaration, Fields, NoFields, MoreFields, Field, field, Enumerators, NoEnumerators, MoreEnumerators, Enumerator, enumerator, member_row, field_row, enumerator_row}
use Rattle.p10_pexpr.specs.declared.next.Specifying.{Specifying}
use Rattle.p10_pexpr.specs.declared.next.Specifying.TheVariants.{Word, Structured, Enumerated, Renamed, Other}
use Rattle.p10_pexpr.specs.Heads.{heads, name_at}
use Rattle.p10_pexpr.specs.Tables.{begins_specifiers, specifying_at, is_other}
use Rattle.p10_pexpr.specs.Readers.{Readers}
use Rattle.p10_pexpr.specs.DeclaratorReading.{plain_name, specifiers_at}
use Rattle.p10_pexpr.specs.SpecifierReading.{tag_at, typedef_at, tagged_structure, tagged_enumeration, valued_at, field_at, fields_more, fields_once, member_at, members_more, members_once, structure_of, enumerator_at, enumerators_more, enumerators_once, enumeration_of, specifier_by, specifiers_once}
use Rattle.p10_pexpr.proofs.Tools.{then_some, then_map, either, heads_is, ended, name_takes}
use Rattle.p10_pexpr.proofs.Words.{Specified, specified}
use Rattle.p10_pexpr.proofs.Rows.{specifier_list, member_list, member_again, field_list, field_again, enumerator_list, enumerator_again}
use Rattle.p10_pexpr.proofs.Taken.{TookOptional, TookSpecifiers, TookSpecifier, TookMembers, TookMember, TookFields, TookField, TookEnumerators, TookEnumerator, Takes}
use Rattle.p10_pexpr.proofs.DeclaratorTakes.{apart_is, specifiers_at_takes}

tag_takes : (symbols : List Symbol) → symbols ≡ spell_tag (tag_at symbols).0 (tag_at symbols).1
tag_takes [] = refl
tag_takes (symbol.Name x ∷ rest) = refl
tag_takes (_ ∷ rest) = refl

has_members : (tag : Option (Identifier Bare)) (m : MemberDeclaration Bare) (ms : Members Bare) → HasTagOrMembers tag (MoreMembers m ms)
has_members None m ms = tt
has_members (Some x) m ms = tt

has_enumerators : (tag : Option (Identifier Bare)) (e : Enumerator Bare) (es : Enumerators Bare) → HasTagOrEnumerators tag (MoreEnumerators e es)
has_enumerators None e es = tt
has_enumerators (Some x) e es = tt

module _ (r : Readers) (takes : Takes r) where
  valued_takes : (names : Scope) (s : Sign) (symbols : List Symbol) (p : Optional Bare × List Symbol) → valued_at r names s symbols ≡ Some p → TookOptional names s symbols p
  valued_takes names s symbols p e = either (heads s symbols) _ _ _ e
      (λ on e1. then_map (λ t. (Present t.0, t.1)) (r.expression names 3 (drop 1 symbols)) p e1 (λ t found same.
      let k = takes.expression names 3 (drop 1 symbols) t found in
      subst (λ x. TookOptional names s symbols x) same (record { formed = (k.formed, k.high); spelled = heads_is s symbols on ∙ ap (λ x. Fixed s ∷ x) k.spelled })))
      (λ off same. subst (λ x. TookOptional names s symbols x) (same_Some _ _ same) (record { formed = tt; spelled = refl }))

  -- ## Structures

  field_takes : (names : Scope) (symbols : List Symbol) (p : Field Bare × List Symbol) → field_at r names symbols ≡ Some p → TookField names symbols p
  field_takes names symbols p e =
      then_some (λ d. option_map (λ w. (field tt d.0 w.0, w.1)) (valued_at r names sign.Colon d.1)) (r.declarator names setting.Outside Required symbols) p e (λ d found e1.
      let kd = takes.declarator names setting.Outside Required symbols d found in
      then_map (λ w. (field tt d.0 w.0, w.1)) (valued_at r names sign.Colon d.1) p e1 (λ w read same.
      let kw = valued_takes names sign.Colon d.1 w read in
      subst (λ x. TookField names symbols x) same (record { formed = (kd.formed, kw.formed); spelled = kd.spelled ∙ ap (spell_declarator d.0) kw.spelled })))

  pub fields_take : (names : Scope) (done : List (Field Bare)) (symbols : List Symbol) (p : List (Field Bare) × List Symbol) → fields_once r names done symbols ≡ Some p → TookFields names done symbols p
  fields_take names done symbols p e = then_some (λ f. fields_more r names (done ++ f.0 ∷ []) f.1) (field_at r names symbols) p e (λ f found e1.
      let k = field_takes names symbols f found in
      either (heads sign.Comma f.1) _ _ _ e1
      (λ comma e2.
      let o = takes.fields names (done ++ f.0 ∷ []) (drop 1 f.1) p e2 in
      record {
        first = f.0;
        others = MoreFields o.first o.others;
        formed = (k.formed, o.formed);
        items = o.items ∙ append_assoc done (f.0 ∷ []) (o.first ∷ field_list o.others);
        spelled = k.spelled ∙ ap (spell_field f.0) (heads_is sign.Comma f.1 comma ∙ ap (λ x. Fixed sign.Comma ∷ x) o.spelled);
      })
      (λ off e2. ended sign.Semicolon (done ++ f.0 ∷ []) f.1 p e2 (λ last closes same.
      subst (λ x. TookFields names done symbols x) same
      (record { first = f.0; others = NoFields; formed = (k.formed, tt); items = refl; spelled = k.spelled ∙ ap (spell_field f.0) closes }))))

  -- of fields only the first is told apart from the specifiers
  first_apart : (names : Scope) (said : Said) (f : Field Bare) (fs : Fields Bare) (symbols rest : List Symbol) → is_other (specifying_at names setting.Outside said symbols) ≡ true →
      symbols ≡ spell_fields (MoreFields f fs) rest → AreApart names said (MoreFields f fs)
  first_apart names said (field p d width) fs symbols rest stops spelled = apart_is names setting.Outside said d symbols (spell_valued sign.Colon width (spell_more_fields fs rest)) stops spelled

  member_takes : (names : Scope) (symbols : List Symbol) (p : MemberDeclaration Bare × List Symbol) → member_at r names symbols ≡ Some p → TookMember names symbols p
  member_takes names symbols p e =
      then_some (λ ss. option_map (λ fs. (member_declaration tt ss.0 (field_row fs.0), fs.1)) (r.fields (after_specifiers names ss.0) [] ss.1)) (specifiers_at r names setting.Outside symbols) p e (λ ss found e1.
      let ks = specifiers_at_takes r takes names setting.Outside symbols ss found in
      then_map (λ fs. (member_declaration tt ss.0 (field_row fs.0), fs.1)) (r.fields (after_specifiers names ss.0) [] ss.1) p e1 (λ fs read same.
      let kf = takes.fields (after_specifiers names ss.0) [] ss.1 fs read in
      let all = MoreFields kf.first kf.others in
      let row : field_row fs.0 ≡ all = ap field_row kf.items ∙ field_again all in
      subst (λ x. TookMember names symbols x) (ap (λ (x : Fields Bare). (member_declaration tt ss.0 x, fs.1)) (sym row) ∙ same) (record {
        formed = (ks.formed, ks.some, tt, first_apart (after_specifiers names ss.0) (said_by Nothing ss.0) kf.first kf.others ss.1 fs.1 ks.stops kf.spelled, kf.formed);
        spelled = ks.spelled ∙ ap (spell_specifiers ss.0) kf.spelled;
      })))

  pub members_take : (names : Scope) (done : List (MemberDeclaration Bare)) (symbols : List Symbol) (p : List (MemberDeclaration Bare) × List Symbol) → members_once r names done symbols ≡ Some p → TookMembers names done symbols p
  members_take names done symbols p e = then_some (λ m. members_more r (after_member names m.0) (done ++ m.0 ∷ []) m.1) (member_at r names symbols) p e (λ m found e1.
      let k = member_takes names symbols m found in
      either (heads sign.CloseBrace m.1) _ _ _ e1
      (λ closes same. subst (λ x. TookMembers names done symbols x) (same_Some _ _ same)
      (record { first = m.0; others = NoMembers; formed = (k.formed, tt); items = refl; spelled = k.spelled ∙ ap (spell_member m.0) (heads_is sign.CloseBrace m.1 closes) }))
      (λ off e2.
      let o = takes.members (after_member names m.0) (done ++ m.0 ∷ []) m.1 p e2 in
      record {
        first = m.0;
        others = MoreMembers o.first o.others;
        formed = (k.formed, o.formed);
        items = o.items ∙ append_assoc done (m.0 ∷ []) (o.first ∷ member_list o.others);
        spelled = k.spelled ∙ ap (spell_member m.0) o.spelled;
      }))

  tagged_structure_takes : (names : Scope) (setting : Setting) (said : Said) (s : Sign) (tag : Option (Identifier Bare)) (symbols : List Symbol) (p : Specifier Bare × List Symbol) → is_structure s ≡ true → says_no_name said ≡ true →
      tagged_structure s tag symbols ≡ Some p → TookSpecifier names setting said (Fixed s ∷ spell_tag tag symbols) p
  tagged_structure_takes names setting said s None symbols p is may e = absurd (none-some p e)
  tagged_structure_takes names setting said s (Some x) symbols p is may e =
      subst (λ q. TookSpecifier names setting said (Fixed s ∷ spell_tag (Some x) symbols) q) (same_Some _ _ e) (record { formed = (is, may, tt, tt, tt); spelled = refl })

  structure_takes : (names : Scope) (setting : Setting) (said : Said) (s : Sign) (tag : Option (Identifier Bare)) (symbols : List Symbol) (p : Specifier Bare × List Symbol) → is_structure s ≡ true → says_no_name said ≡ true →
      structure_of r names setting s tag symbols ≡ Some p → TookSpecifier names setting said (Fixed s ∷ spell_tag tag symbols) p
  structure_takes names setting said s tag symbols p is may e = either (may_have_body setting && heads sign.OpenBrace symbols) _ _ _ e
      (λ on e1. then_map (λ ms. (Structure tt s tag (member_row ms.0), ms.1)) (r.members names [] (drop 1 symbols)) p e1 (λ ms found same.
      let k = takes.members names [] (drop 1 symbols) ms found in
      let all = MoreMembers k.first k.others in
      let row : member_row ms.0 ≡ all = ap member_row k.items ∙ member_again all in
      let parts = and_parts _ _ on in
      subst (λ q. TookSpecifier names setting said (Fixed s ∷ spell_tag tag symbols) q) (ap (λ (x : Members Bare). (Structure tt s tag x, ms.1)) (sym row) ∙ same) (record {
        formed = (is, may, has_members tag k.first k.others, parts.0, k.formed);
        spelled = ap (λ x. Fixed s ∷ spell_tag tag x) (heads_is sign.OpenBrace symbols parts.1 ∙ ap (λ x. Fixed sign.OpenBrace ∷ x) k.spelled);
      })))
      (λ off e1. tagged_structure_takes names setting said s tag symbols p is may e1)

  -- ## Enumerations

  enumerator_takes : (names : Scope) (symbols : List Symbol) (p : Enumerator Bare × List Symbol) → enumerator_at r names symbols ≡ Some p → TookEnumerator names symbols p
  enumerator_takes names symbols p e =
      then_some (λ x. option_map (λ v. (enumerator tt (plain_name x.0) v.0, v.1)) (valued_at r names sign.Assign x.1)) (name_at symbols) p e (λ x found e1.
      then_map (λ v. (enumerator tt (plain_name x.0) v.0, v.1)) (valued_at r names sign.Assign x.1) p e1 (λ v read same.
      let k = valued_takes names sign.Assign x.1 v read in
      subst (λ q. TookEnumerator names symbols q) same (record { formed = k.formed; spelled = name_takes symbols x found ∙ ap (λ y. symbol.Name x.0 ∷ y) k.spelled })))

  last_enumerator : (names : Scope) (done : List (Enumerator Bare)) (en : Enumerator Bare) (symbols : List Symbol) (comma : Bool) (last : List Symbol) → IsEnumerator names en →
      symbols ≡ spell_enumerator en (spell_last_comma comma (Fixed sign.CloseBrace ∷ last)) → TookEnumerators names done symbols ((done ++ en ∷ [], comma), last)
  last_enumerator names done en symbols comma last is spelled = record { first = en; others = NoEnumerators; formed = (is, tt); items = refl; spelled = spelled }

  pub enumerators_take : (names : Scope) (done : List (Enumerator Bare)) (symbols : List Symbol) (p : (List (Enumerator Bare) × Bool) × List Symbol) → enumerators_once r names done symbols ≡ Some p → TookEnumerators names done symbols p
  enumerators_take names done symbols p e = then_some (λ x. enumerators_more r (after_enumerator names x.0) (done ++ x.0 ∷ []) x.1) (enumerator_at r names symbols) p e (λ x found e1.
      let k = enumerator_takes names symbols x found in
      either (heads sign.Comma x.1) _ _ _ e1
      (λ comma e2. either (heads sign.CloseBrace (drop 1 x.1)) _ _ _ e2
      (λ closes same. subst (λ q. TookEnumerators names done symbols q) (same_Some _ _ same)
      (last_enumerator names done x.0 symbols true (drop 1 (drop 1 x.1)) k.formed (k.spelled ∙ ap (spell_enumerator x.0) (heads_is sign.Comma x.1 comma ∙ ap (λ s. Fixed sign.Comma ∷ s) (heads_is sign.CloseBrace (drop 1 x.1) closes)))))
      (λ off e3.
      let o = takes.enumerators (after_enumerator names x.0) (done ++ x.0 ∷ []) (drop 1 x.1) p e3 in
      record {
        first = x.0;
        others = MoreEnumerators o.first o.others;
        formed = (k.formed, o.formed);
        items = o.items ∙ append_assoc done (x.0 ∷ []) (o.first ∷ enumerator_list o.others);
        spelled = k.spelled ∙ ap (spell_enumerator x.0) (heads_is sign.Comma x.1 comma ∙ ap (λ s. Fixed sign.Comma ∷ s) o.spelled);
      }))
      (λ off e2. ended sign.CloseBrace (done ++ x.0 ∷ [], false) x.1 p e2 (λ last closes same.
      subst (λ q. TookEnumerators names done symbols q) same
      (last_enumerator names done x.0 symbols false last k.formed (k.spelled ∙ ap (spell_enumerator x.0) closes)))))

  tagged_enumeration_takes : (names : Scope) (setting : Setting) (said : Said) (tag : Option (Identifier Bare)) (symbols : List Symbol) (p : Specifier Bare × List Symbol) → says_no_name said ≡ true →
      tagged_enumeration tag symbols ≡ Some p → TookSpecifier names setting said (Fixed sign.Enum ∷ spell_tag tag symbols) p
  tagged_enumeration_takes names setting said None symbols p may e = absurd (none-some p e)
  tagged_enumeration_takes names setting said (Some x) symbols p may e =
      subst (λ q. TookSpecifier names setting said (Fixed sign.Enum ∷ spell_tag (Some x) symbols) q) (same_Some _ _ e) (record { formed = (may, tt, refl, tt); spelled = refl })

  enumeration_takes : (names : Scope) (setting : Setting) (said : Said) (tag : Option (Identifier Bare)) (symbols : List Symbol) (p : Specifier Bare × List Symbol) → says_no_name said ≡ true →
      enumeration_of r names setting tag symbols ≡ Some p → TookSpecifier names setting said (Fixed sign.Enum ∷ spell_tag tag symbols) p
  enumeration_takes names setting said tag symbols p may e = either (may_have_body setting && heads sign.OpenBrace symbols) _ _ _ e
      (λ on e1. then_map (λ es. (Enumeration tt tag (enumerator_row es.0.0) es.0.1, es.1)) (r.enumerators names [] (drop 1 symbols)) p e1 (λ es found same.
      let k = takes.enumerators names [] (drop 1 symbols) es found in
      let all = MoreEnumerators k.first k.others in
      let row : enumerator_row es.0.0 ≡ all = ap enumerator_row k.items ∙ enumerator_again all in
      let parts = and_parts _ _ on in
      subst (λ q. TookSpecifier names setting said (Fixed sign.Enum ∷ spell_tag tag symbols) q) (ap (λ (x : Enumerators Bare). (Enumeration tt tag x es.0.1, es.1)) (sym row) ∙ same) (record {
        formed = (may, has_enumerators tag k.first k.others, parts.0, k.formed);
        spelled = ap (λ x. Fixed sign.Enum ∷ spell_tag tag x) (heads_is sign.OpenBrace symbols parts.1 ∙ ap (λ x. Fixed sign.OpenBrace ∷ x) k.spelled);
      })))
      (λ off e1. tagged_enumeration_takes names setting said tag symbols p may e1)

  -- ## Specifiers

  typedef_takes : (names : Scope) (setting : Setting) (said : Said) (symbols : List Symbol) (p : Specifier Bare × List Symbol) → begins_specifiers names symbols ≡ true → says_nothing said ≡ true → typedef_at symbols ≡ Some p →
      TookSpecifier names setting said symbols p
  typedef_takes names setting said symbols p begins may e = then_map (λ x. (Typedef (plain_name x.0), x.1)) (name_at symbols) p e (λ x found same.
      let spelled = name_takes symbols x found in
      subst (λ q. TookSpecifier names setting said symbols q) same (record { formed = (sym (ap (begins_specifiers names) spelled) ∙ begins, may); spelled = spelled }))

  specifier_takes : (names : Scope) (setting : Setting) (said : Said) (how : Specifying) (symbols : List Symbol) (p : Specifier Bare × List Symbol) → Specified names setting said symbols how →
      specifier_by r names setting how symbols ≡ Some p → TookSpecifier names setting said symbols p
  specifier_takes names setting said (Word s) symbols p w e = subst (λ q. TookSpecifier names setting said symbols q) (same_Some _ _ e) (record { formed = w.1; spelled = w.0 })
  specifier_takes names setting said (Structured s) symbols p w e =
      subst (λ x. TookSpecifier names setting said x p) (sym (w.0 ∙ ap (λ x. Fixed s ∷ x) (tag_takes (drop 1 symbols))))
      (structure_takes names setting said s (tag_at (drop 1 symbols)).0 (tag_at (drop 1 symbols)).1 p w.1 w.2 e)
  specifier_takes names setting said Enumerated symbols p w e =
      subst (λ x. TookSpecifier names setting said x p) (sym (w.0 ∙ ap (λ x. Fixed sign.Enum ∷ x) (tag_takes (drop 1 symbols))))
      (enumeration_takes names setting said (tag_at (drop 1 symbols)).0 (tag_at (drop 1 symbols)).1 p w.1 e)
  specifier_takes names setting said Renamed symbols p w e = typedef_takes names setting said symbols p w.0 w.1 e
  specifier_takes names setting said Other symbols p w e = absurd (none-some p e)

  pub specifiers_take : (names : Scope) (setting : Setting) (said : Said) (done : List (Specifier Bare)) (symbols : List Symbol) (p : List (Specifier Bare) × List Symbol) → specifiers_once r names setting said done symbols ≡ Some p →
      TookSpecifiers names setting said done symbols p
  specifiers_take names setting said done symbols p e = either (is_other (specifying_at names setting said symbols)) _ _ _ e
      (λ stops same. subst (λ q. TookSpecifiers names setting said done symbols q) (same_Some _ _ same)
      (record { others = NoSpecifiers; formed = tt; items = sym (append-nil done); spelled = refl; stops = stops }))
      (λ off e1. then_some (λ s. r.specifiers (after_specifier names s.0) setting (after_saying said s.0) (done ++ s.0 ∷ []) s.1) (specifier_by r names setting (specifying_at names setting said symbols) symbols) p e1 (λ s found more.
      let k = specifier_takes names setting said (specifying_at names setting said symbols) symbols s (specified names setting said symbols) found in
      let o = takes.specifiers (after_specifier names s.0) setting (after_saying said s.0) (done ++ s.0 ∷ []) s.1 p more in
      record {
        others = MoreSpecifiers s.0 o.others;
        formed = (k.formed, o.formed);
        items = o.items ∙ append_assoc done (s.0 ∷ []) (specifier_list o.others);
        spelled = k.spelled ∙ ap (spell_specifier s.0) o.spelled;
        stops = o.stops;
      }))
