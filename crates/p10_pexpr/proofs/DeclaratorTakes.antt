-- Declarators, parameters and names of types that are read are spelled.
use Rattle.std.proofs.Common.{◌≡◌, List, [], ◌∷◌, ◌++◌, drop, Bool, true, false, ◌&&◌, cond, refl, sym, ◌∙◌, ap, subst, Some, option_map}
use Rattle.std.proofs.lemmas.Option.{none-some, same_Some}
use Rattle.std.proofs.lemmas.Bool.{false≢true, true≢false, and_parts}
use Rattle.std.proofs.lemmas.List.{append_assoc, append-nil}
use Rattle.p10_base.specs.Words.{Text}
use Rattle.p10_syn.specs.declared.sign.Sign.{Sign}
use Rattle.p10_syn.specs.declared.sign.Sign.TheVariants as sign
use Rattle.p10_syn.specs.declared.setting.Naming.{Naming}
use Rattle.p10_syn.specs.declared.setting.Naming.TheVariants.{Allowed, Forbidden}
use Rattle.p10_syn.specs.declared.setting.Setting.{Setting}
use Rattle.p10_syn.specs.declared.setting.Setting.TheVariants as setting
use Rattle.p10_syn.specs.declared.setting.Said.{Said}
use Rattle.p10_syn.specs.declared.setting.Said.TheVariants.{Nothing, Words, TypedefName}
use Rattle.p10_syn.specs.Symbols.{Symbol, Fixed}
use Rattle.p10_syn.specs.Symbols as symbol
use Rattle.p10_syn.specs.Scopes.{Scope, is_type}
use Rattle.p10_syn.specs.Declaring.{after_specifier, after_specifiers, after_parameter}
use Rattle.p10_syn.specs.Spelling.{spell, spell_qualifiers, spell_specifiers, spell_declarator, spell_parameter, spell_ellipsis}
use Rattle.p10_syn.specs.Forms.{said_by, after_saying, is_qualifier, may_be_named, may_be_nameless, leads, IsApart, IsSomething, IsSuffixed, AreQualifiers, AreSpecifiers, IsSpecifier, IsDeclarator, IsParameter}
use Rattle.p10_syn.specs.Trees.{Bare, Qualifier, Present, TypeName, type_name, Specifiers, NoSpecifiers, MoreSpecifiers, Specifier, Keyword, Typedef, Structure, Enumeration, NoMembers, MoreMembers, NoEnumerators, MoreEnumerators, Declarator, Named, Unnamed, Pointer, Parenthesised, Array, Function, Parameters, NoParameters, MoreParameters, Parameter, parameter, specifier_row, parameter_row}
use Rattle.p10_pexpr.specs.Heads.{heads, closed_by}
use Rattle.p10_pexpr.specs.Tables.{begins_specifiers, specifying_at, is_other, opens_parameters}
use Rattle.p10_pexpr.specs.declared.next.Specifying.TheVariants.{Renamed, Other}
use Rattle.p10_pexpr.specs.Readers.{Readers}
use Rattle.p10_pexpr.specs.DeclaratorReading.{plain_qualifier, qualifiers_from, some_specifiers, nameless_at, specifiers_at, type_name_at, pointer_at, wrapped_at, open_at, named_at, atom_at, declarator_once, array_at, function_at, suffixes_once, parameter_at, parameters_more, parameters_once}
use Rattle.p10_pexpr.proofs.Tools.{then_some, then_map, either, or_false, and_second, heads_is, ended}
use Rattle.p10_pexpr.proofs.Rows.{specifier_again, parameter_list, parameter_again}
use Rattle.p10_pexpr.proofs.Taken.{TookTypeName, TookSpecifiers, TookAll, TookDeclarator, TookAtom, TookParameters, TookParameter, Takes}

-- ## What follows specifiers

other_by : (b : Bool) → is_other (cond (b && true) Renamed Other) ≡ true → b ≡ false
other_by true h = absurd (false≢true h)
other_by false h = refl

-- a declarator that is no further specifier doesn't begin with a typedef name
pub no_lead : (names : Scope) (setting : Setting) (d : Declarator Bare) (rest : List Symbol) → is_other (specifying_at names setting Nothing (spell_declarator d rest)) ≡ true → leads names d ≡ false
no_lead names setting (Named x) rest h = other_by (is_type names x.name) h
no_lead names setting (Unnamed p) rest h = refl
no_lead names setting (Pointer p qs d) rest h = refl
no_lead names setting (Parenthesised p d) rest h = refl
no_lead names setting (Array p d b length) rest h = no_lead names setting d _ h
no_lead names setting (Function p d b ps ellipsis) rest h = no_lead names setting d _ h

pub apart_is : (names : Scope) (setting : Setting) (said : Said) (d : Declarator Bare) (symbols rest : List Symbol) → is_other (specifying_at names setting said symbols) ≡ true →
    symbols ≡ spell_declarator d rest → IsApart names said d
apart_is names setting Nothing d symbols rest stops spelled = no_lead names setting d rest (ap (λ x. is_other (specifying_at names setting Nothing x)) (sym spelled) ∙ stops)
apart_is names setting Words d symbols rest stops spelled = tt
apart_is names setting TypedefName d symbols rest stops spelled = tt

-- the same for words that begin no specifiers
pub no_lead_begins : (names : Scope) (d : Declarator Bare) (rest : List Symbol) → begins_specifiers names (spell_declarator d rest) ≡ false → leads names d ≡ false
no_lead_begins names (Named x) rest h = h
no_lead_begins names (Unnamed p) rest h = refl
no_lead_begins names (Pointer p qs d) rest h = refl
no_lead_begins names (Parenthesised p d) rest h = refl
no_lead_begins names (Array p d b length) rest h = no_lead_begins names d _ h
no_lead_begins names (Function p d b ps ellipsis) rest h = no_lead_begins names d _ h

-- specifiers of a type declare nothing
mutual
  pub type_scope : (ss : Specifiers Bare) (names : Scope) (said : Said) → AreSpecifiers names setting.Type said ss → after_specifiers names ss ≡ names
  type_scope NoSpecifiers names said h = refl
  type_scope (MoreSpecifiers s ss) names said h =
      type_scope ss (after_specifier names s) (after_saying said s) h.1 ∙ type_scope_one s names said h.0

  type_scope_one : (s : Specifier Bare) (names : Scope) (said : Said) → IsSpecifier names setting.Type said s → after_specifier names s ≡ names
  type_scope_one (Keyword p s) names said h = refl
  type_scope_one (Typedef x) names said h = refl
  type_scope_one (Structure p s tag NoMembers) names said h = refl
  type_scope_one (Structure p s tag (MoreMembers m ms)) names said h = absurd (false≢true h.3)
  type_scope_one (Enumeration p tag NoEnumerators comma) names said h = refl
  type_scope_one (Enumeration p tag (MoreEnumerators e es) comma) names said h = absurd (false≢true h.2)

-- ## Qualifiers

record TookQualifiers (done : List (Qualifier Bare)) (symbols : List Symbol) (p : List (Qualifier Bare) × List Symbol) : Type 0 where
  others : List (Qualifier Bare)
  formed : AreQualifiers others
  items : p.0 ≡ done ++ others
  spelled : symbols ≡ spell_qualifiers others p.1

qualifiers_end : (done : List (Qualifier Bare)) (symbols : List Symbol) → TookQualifiers done symbols (done, symbols)
qualifiers_end done symbols = record { others = []; formed = tt; items = sym (append-nil done); spelled = refl }

qualifiers_if : (done : List (Qualifier Bare)) (s : Sign) (rest : List Symbol) (b : Bool) → is_qualifier s ≡ b → TookQualifiers (done ++ plain_qualifier s ∷ []) rest (qualifiers_from (done ++ plain_qualifier s ∷ []) rest) →
    TookQualifiers done (Fixed s ∷ rest) (cond b (qualifiers_from (done ++ plain_qualifier s ∷ []) rest) (done, Fixed s ∷ rest))
qualifiers_if done s rest true is t = record { others = plain_qualifier s ∷ t.others; formed = (is, t.formed); items = t.items ∙ append_assoc done (plain_qualifier s ∷ []) t.others; spelled = ap (λ r. Fixed s ∷ r) t.spelled }
qualifiers_if done s rest false is t = qualifiers_end done (Fixed s ∷ rest)

qualifiers_take : (done : List (Qualifier Bare)) (symbols : List Symbol) → TookQualifiers done symbols (qualifiers_from done symbols)
qualifiers_take done [] = qualifiers_end done []
qualifiers_take done (Fixed s ∷ rest) = qualifiers_if done s rest (is_qualifier s) refl (qualifiers_take (done ++ plain_qualifier s ∷ []) rest)
qualifiers_take done (x ∷ rest) = qualifiers_end done (x ∷ rest)

-- ## Names and parentheses

atom_is : (names : Scope) (setting : Setting) (naming : Naming) (symbols : List Symbol) (q p : Declarator Bare × List Symbol) → q ≡ p → TookAtom names setting naming symbols q → TookAtom names setting naming symbols p
atom_is names setting naming symbols q p e t = subst (λ x. TookAtom names setting naming symbols x) e t

nameless_takes : (names : Scope) (setting : Setting) (naming : Naming) (symbols : List Symbol) (p : Declarator Bare × List Symbol) → nameless_at naming symbols ≡ Some p → TookAtom names setting naming symbols p
nameless_takes names setting naming symbols p e = either (may_be_nameless naming) _ _ _ e
    (λ lacks same. atom_is names setting naming symbols _ p (same_Some _ _ same) (record { formed = lacks; suffixed = tt; spelled = refl }))
    (λ off none. absurd (none-some p none))

named_takes : (names : Scope) (setting : Setting) (naming : Naming) (x : Text) (rest : List Symbol) (p : Declarator Bare × List Symbol) → named_at naming x rest ≡ Some p →
    TookAtom names setting naming (symbol.Name x ∷ rest) p
named_takes names setting naming x rest p e = either (may_be_named naming) _ _ _ e
    (λ have same. atom_is names setting naming (symbol.Name x ∷ rest) _ p (same_Some _ _ same) (record { formed = have; suffixed = tt; spelled = refl }))
    (λ off e1. nameless_takes names setting naming _ p e1)

-- what stands between parentheses that open no parameters isn't nothing
something : (names : Scope) (setting : Setting) (naming : Naming) (d : Declarator Bare) (rest : List Symbol) → IsDeclarator names setting naming d →
    may_be_nameless naming && opens_parameters names (spell_declarator d (Fixed sign.Close ∷ rest)) ≡ false → IsSomething d
something names setting naming (Named x) rest is off = tt
something names setting naming (Unnamed p) rest is off = true≢false (sym (ap (λ b. b && true) is) ∙ off)
something names setting naming (Pointer p qs d) rest is off = tt
something names setting naming (Parenthesised p d) rest is off = tt
something names setting naming (Array p d b length) rest is off = tt
something names setting naming (Function p d b ps ellipsis) rest is off = tt

module _ (r : Readers) (takes : Takes r) where
  -- ## Specifiers

  some_take : (names : Scope) (setting : Setting) (said : Said) (symbols : List Symbol) (xs : List (Specifier Bare)) (rest : List Symbol) (p : Specifiers Bare × List Symbol) →
      TookSpecifiers names setting said [] symbols (xs, rest) → some_specifiers xs rest ≡ Some p → TookAll names setting said symbols p
  some_take names setting said symbols [] rest p t e = absurd (none-some p e)
  some_take names setting said symbols (s ∷ ss) rest p t e =
      let row : specifier_row (s ∷ ss) ≡ t.others = ap specifier_row t.items ∙ specifier_again t.others in
      subst (λ x. TookAll names setting said symbols x) (same_Some _ _ e)
      (record {
        formed = subst (AreSpecifiers names setting said) (sym row) t.formed;
        some = tt;
        spelled = t.spelled ∙ ap (λ x. spell_specifiers x rest) (sym row);
        stops = ap (λ x. is_other (specifying_at (after_specifiers names x) setting (said_by said x) rest)) row ∙ t.stops;
      })

  pub specifiers_at_takes : (names : Scope) (setting : Setting) (symbols : List Symbol) (p : Specifiers Bare × List Symbol) → specifiers_at r names setting symbols ≡ Some p → TookAll names setting Nothing symbols p
  specifiers_at_takes names setting symbols p e = then_some (λ ss. some_specifiers ss.0 ss.1) (r.specifiers names setting Nothing [] symbols) p e (λ ss found more.
      some_take names setting Nothing symbols ss.0 ss.1 p (takes.specifiers names setting Nothing [] symbols ss found) more)

  pub type_takes : (names : Scope) (symbols : List Symbol) (p : TypeName Bare × List Symbol) → type_name_at r names symbols ≡ Some p → TookTypeName names symbols p
  type_takes names symbols p e =
      then_some (λ ss. option_map (λ d. (type_name tt ss.0 d.0, d.1)) (r.declarator (after_specifiers names ss.0) setting.Inside Forbidden ss.1)) (specifiers_at r names setting.Type symbols) p e (λ ss found e1.
      let ks = specifiers_at_takes names setting.Type symbols ss found in
      then_map (λ d. (type_name tt ss.0 d.0, d.1)) (r.declarator (after_specifiers names ss.0) setting.Inside Forbidden ss.1) p e1 (λ d read same.
      let kd = takes.declarator (after_specifiers names ss.0) setting.Inside Forbidden ss.1 d read in
      subst (λ x. TookTypeName names symbols x) same (record {
        formed = (ks.formed, ks.some, subst (λ n. IsDeclarator n setting.Inside Forbidden d.0) (type_scope ss.0 names Nothing ks.formed) kd.formed);
        spelled = ks.spelled ∙ ap (spell_specifiers ss.0) kd.spelled;
      })))

  -- ## Declarators

  wrapped_takes : (names : Scope) (setting : Setting) (naming : Naming) (rest : List Symbol) (p : Declarator Bare × List Symbol) → may_be_nameless naming && opens_parameters names rest ≡ false →
      wrapped_at r names setting naming rest ≡ Some p → TookAtom names setting naming (Fixed sign.Open ∷ rest) p
  wrapped_takes names setting naming rest p shut e = then_some (λ d. closed_by sign.Close (Parenthesised tt d.0) d.1) (r.declarator names setting naming rest) p e (λ d found e1.
      let k = takes.declarator names setting naming rest d found in
      ended sign.Close (Parenthesised tt d.0) d.1 p e1 (λ last closes same.
      let spelled : rest ≡ spell_declarator d.0 (Fixed sign.Close ∷ last) = k.spelled ∙ ap (spell_declarator d.0) closes in
      let off : may_be_nameless naming && opens_parameters names (spell_declarator d.0 (Fixed sign.Close ∷ last)) ≡ false = ap (λ x. may_be_nameless naming && opens_parameters names x) (sym spelled) ∙ shut in
      atom_is names setting naming (Fixed sign.Open ∷ rest) _ p same (record {
        formed = (k.formed, something names setting naming d.0 last k.formed off, λ lacks. no_lead_begins names d.0 (Fixed sign.Close ∷ last) (or_false _ _ (and_second _ _ off lacks)).1);
        suffixed = tt;
        spelled = ap (λ x. Fixed sign.Open ∷ x) spelled;
      })))

  open_takes : (names : Scope) (setting : Setting) (naming : Naming) (rest : List Symbol) (p : Declarator Bare × List Symbol) → open_at r names setting naming rest ≡ Some p → TookAtom names setting naming (Fixed sign.Open ∷ rest) p
  open_takes names setting naming rest p e = either (may_be_nameless naming && opens_parameters names rest) _ _ _ e
      (λ on same. atom_is names setting naming (Fixed sign.Open ∷ rest) _ p (same_Some _ _ same) (record { formed = (and_parts _ _ on).0; suffixed = tt; spelled = refl }))
      (λ off e1. wrapped_takes names setting naming rest p off e1)

  sign_takes : (names : Scope) (setting : Setting) (naming : Naming) (s : Sign) (rest : List Symbol) (p : Declarator Bare × List Symbol) → atom_at r names setting naming (Fixed s ∷ rest) ≡ Some p →
      TookAtom names setting naming (Fixed s ∷ rest) p
  sign_takes names setting naming sign.Open rest p e = open_takes names setting naming rest p e
  sign_takes names setting naming _ rest p e = nameless_takes names setting naming _ p e

  atom_takes : (names : Scope) (setting : Setting) (naming : Naming) (symbols : List Symbol) (p : Declarator Bare × List Symbol) → atom_at r names setting naming symbols ≡ Some p → TookAtom names setting naming symbols p
  atom_takes names setting naming [] p e = nameless_takes names setting naming [] p e
  atom_takes names setting naming (symbol.Name x ∷ rest) p e = named_takes names setting naming x rest p e
  atom_takes names setting naming (Fixed s ∷ rest) p e = sign_takes names setting naming s rest p e
  atom_takes names setting naming (_ ∷ rest) p e = nameless_takes names setting naming _ p e

  pointer_takes : (names : Scope) (setting : Setting) (naming : Naming) (rest : List Symbol) (p : Declarator Bare × List Symbol) → pointer_at r names setting naming rest ≡ Some p → TookDeclarator names setting naming (Fixed sign.Star ∷ rest) p
  pointer_takes names setting naming rest p e =
      let q = qualifiers_from [] rest in
      let t = qualifiers_take [] rest in
      then_map (λ d. (Pointer tt q.0 d.0, d.1)) (r.declarator names setting naming q.1) p e (λ d found same.
      let k = takes.declarator names setting naming q.1 d found in
      let qs : q.0 ≡ t.others = t.items in
      subst (λ x. TookDeclarator names setting naming (Fixed sign.Star ∷ rest) x) (ap (λ (x : List (Qualifier Bare)). (Pointer tt x d.0, d.1)) (sym qs) ∙ same)
      (record { formed = (t.formed, k.formed); spelled = ap (λ x. Fixed sign.Star ∷ x) (t.spelled ∙ ap (spell_qualifiers t.others) k.spelled) }))

  pub declarator_takes : (names : Scope) (setting : Setting) (naming : Naming) (symbols : List Symbol) (p : Declarator Bare × List Symbol) → declarator_once r names setting naming symbols ≡ Some p → TookDeclarator names setting naming symbols p
  declarator_takes names setting naming symbols p e = either (heads sign.Star symbols) _ _ _ e
      (λ star e1. subst (λ x. TookDeclarator names setting naming x p) (sym (heads_is sign.Star symbols star)) (pointer_takes names setting naming (drop 1 symbols) p e1))
      (λ off e1. then_some (λ d. r.suffixes names setting d.0 d.1) (atom_at r names setting naming symbols) p e1 (λ d found more.
      let k = atom_takes names setting naming symbols d found in
      let last = takes.suffixes names setting naming d.0 d.1 p k.formed k.suffixed more in
      record { formed = last.formed; spelled = k.spelled ∙ last.spelled }))

  array_takes : (names : Scope) (setting : Setting) (naming : Naming) (d : Declarator Bare) (rest : List Symbol) (p : Declarator Bare × List Symbol) → IsDeclarator names setting naming d → IsSuffixed d →
      array_at r names d rest ≡ Some p → TookAtom names setting naming (spell_declarator d (Fixed sign.OpenSquare ∷ rest)) p
  array_takes names setting naming d rest p is suffixed e = either (heads sign.CloseSquare rest) _ _ _ e
      (λ closes same. atom_is names setting naming _ _ p (same_Some _ _ same) (record {
        formed = (is, suffixed, tt);
        suffixed = tt;
        spelled = ap (λ x. spell_declarator d (Fixed sign.OpenSquare ∷ x)) (heads_is sign.CloseSquare rest closes);
      }))
      (λ off e1. then_some (λ t. closed_by sign.CloseSquare (Array tt d tt (Present t.0)) t.1) (r.expression names 3 rest) p e1 (λ t found e2.
      let k = takes.expression names 3 rest t found in
      ended sign.CloseSquare (Array tt d tt (Present t.0)) t.1 p e2 (λ last closes same.
      atom_is names setting naming _ _ p same (record {
        formed = (is, suffixed, (k.formed, k.high));
        suffixed = tt;
        spelled = ap (λ x. spell_declarator d (Fixed sign.OpenSquare ∷ x)) (k.spelled ∙ ap (spell t.0) closes);
      }))))

  function_takes : (names : Scope) (setting : Setting) (naming : Naming) (d : Declarator Bare) (rest : List Symbol) (p : Declarator Bare × List Symbol) → IsDeclarator names setting naming d → IsSuffixed d →
      function_at r names setting d rest ≡ Some p → TookAtom names setting naming (spell_declarator d (Fixed sign.Open ∷ rest)) p
  function_takes names setting naming d rest p is suffixed e = either (heads sign.Close rest) _ _ _ e
      (λ closes same. atom_is names setting naming _ _ p (same_Some _ _ same) (record {
        formed = (is, suffixed, tt, refl);
        suffixed = tt;
        spelled = ap (λ x. spell_declarator d (Fixed sign.Open ∷ x)) (heads_is sign.Close rest closes);
      }))
      (λ off e1. then_map (λ ps. (Function tt d tt (parameter_row ps.0.0) ps.0.1, ps.1)) (r.parameters names setting [] rest) p e1 (λ ps found same.
      let k = takes.parameters names setting [] rest ps found in
      let all = MoreParameters k.first k.others in
      let row : parameter_row ps.0.0 ≡ all = ap parameter_row k.items ∙ parameter_again all in
      atom_is names setting naming _ (Function tt d tt all ps.0.1, ps.1) p (ap (λ (x : Parameters Bare). (Function tt d tt x ps.0.1, ps.1)) (sym row) ∙ same) (record {
        formed = (is, suffixed, k.formed, tt);
        suffixed = tt;
        spelled = ap (λ x. spell_declarator d (Fixed sign.Open ∷ x)) k.spelled;
      })))

  pub suffixes_take : (names : Scope) (setting : Setting) (naming : Naming) (d : Declarator Bare) (symbols : List Symbol) (p : Declarator Bare × List Symbol) → IsDeclarator names setting naming d → IsSuffixed d →
      suffixes_once r names setting d symbols ≡ Some p → TookDeclarator names setting naming (spell_declarator d symbols) p
  suffixes_take names setting naming d symbols p is suffixed e = either (heads sign.OpenSquare symbols) _ _ _ e
      (λ square e1. then_some (λ x. r.suffixes names setting x.0 x.1) (array_at r names d (drop 1 symbols)) p e1 (λ x found more.
      let k = array_takes names setting naming d (drop 1 symbols) x is suffixed found in
      let last = takes.suffixes names setting naming x.0 x.1 p k.formed k.suffixed more in
      record { formed = last.formed; spelled = ap (spell_declarator d) (heads_is sign.OpenSquare symbols square) ∙ k.spelled ∙ last.spelled }))
      (λ off e1. either (heads sign.Open symbols) _ _ _ e1
      (λ opens e2. then_some (λ x. r.suffixes names setting x.0 x.1) (function_at r names setting d (drop 1 symbols)) p e2 (λ x found more.
      let k = function_takes names setting naming d (drop 1 symbols) x is suffixed found in
      let last = takes.suffixes names setting naming x.0 x.1 p k.formed k.suffixed more in
      record { formed = last.formed; spelled = ap (spell_declarator d) (heads_is sign.Open symbols opens) ∙ k.spelled ∙ last.spelled }))
      (λ off2 same. subst (λ x. TookDeclarator names setting naming (spell_declarator d symbols) x) (same_Some _ _ same) (record { formed = is; spelled = refl })))

  -- ## Parameters

  parameter_takes : (names : Scope) (setting : Setting) (symbols : List Symbol) (p : Parameter Bare × List Symbol) → parameter_at r names setting symbols ≡ Some p → TookParameter names setting symbols p
  parameter_takes names setting symbols p e =
      then_some (λ ss. option_map (λ d. (parameter tt ss.0 d.0, d.1)) (r.declarator (after_specifiers names ss.0) setting Allowed ss.1)) (specifiers_at r names setting symbols) p e (λ ss found e1.
      let ks = specifiers_at_takes names setting symbols ss found in
      then_map (λ d. (parameter tt ss.0 d.0, d.1)) (r.declarator (after_specifiers names ss.0) setting Allowed ss.1) p e1 (λ d read same.
      let kd = takes.declarator (after_specifiers names ss.0) setting Allowed ss.1 d read in
      subst (λ x. TookParameter names setting symbols x) same (record {
        formed = (ks.formed, ks.some, apart_is (after_specifiers names ss.0) setting (said_by Nothing ss.0) d.0 ss.1 d.1 ks.stops kd.spelled, kd.formed);
        spelled = ks.spelled ∙ ap (spell_specifiers ss.0) kd.spelled;
      })))

  last_parameter : (names : Scope) (setting : Setting) (done : List (Parameter Bare)) (x : Parameter Bare) (symbols : List Symbol) (ellipsis : Bool) (last : List Symbol) → IsParameter names setting x →
      symbols ≡ spell_parameter x (spell_ellipsis ellipsis (Fixed sign.Close ∷ last)) → TookParameters names setting done symbols ((done ++ x ∷ [], ellipsis), last)
  last_parameter names setting done x symbols ellipsis last is spelled = record { first = x; others = NoParameters; formed = (is, tt); items = refl; spelled = spelled }

  pub parameters_take : (names : Scope) (setting : Setting) (done : List (Parameter Bare)) (symbols : List Symbol) (p : (List (Parameter Bare) × Bool) × List Symbol) → parameters_once r names setting done symbols ≡ Some p →
      TookParameters names setting done symbols p
  parameters_take names setting done symbols p e =
      then_some (λ x. parameters_more r (after_parameter names x.0) setting (done ++ x.0 ∷ []) x.1) (parameter_at r names setting symbols) p e (λ x read e1.
      let k = parameter_takes names setting symbols x read in
      either (heads sign.Comma x.1) _ _ _ e1
      (λ comma e2. either (heads sign.Ellipsis (drop 1 x.1)) _ _ _ e2
      (λ dots e3. ended sign.Close (done ++ x.0 ∷ [], true) (drop 1 (drop 1 x.1)) p e3 (λ last closes same.
      subst (λ q. TookParameters names setting done symbols q) same
      (last_parameter names setting done x.0 symbols true last k.formed (k.spelled ∙ ap (spell_parameter x.0) (heads_is sign.Comma x.1 comma
      ∙ ap (λ s. Fixed sign.Comma ∷ s) (heads_is sign.Ellipsis (drop 1 x.1) dots ∙ ap (λ s. Fixed sign.Ellipsis ∷ s) closes))))))
      (λ off e3.
      let o = takes.parameters (after_parameter names x.0) setting (done ++ x.0 ∷ []) (drop 1 x.1) p e3 in
      record {
        first = x.0;
        others = MoreParameters o.first o.others;
        formed = (k.formed, o.formed);
        items = o.items ∙ append_assoc done (x.0 ∷ []) (o.first ∷ parameter_list o.others);
        spelled = k.spelled ∙ ap (spell_parameter x.0) (heads_is sign.Comma x.1 comma ∙ ap (λ s. Fixed sign.Comma ∷ s) o.spelled);
      }))
      (λ off e2. ended sign.Close (done ++ x.0 ∷ [], false) x.1 p e2 (λ last closes same.
      subst (λ q. TookParameters names setting done symbols q) same
      (last_parameter names setting done x.0 symbols false last k.formed (k.spelled ∙ ap (spell_parameter x.0) closes)))))
