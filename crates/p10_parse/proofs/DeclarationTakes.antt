-- Initialisers and declarations that are read are spelled.
use Rattle.std.proofs.Common.{◌≡◌, List, [], ◌∷◌, ◌++◌, drop, Bool, true, false, refl, sym, ◌∙◌, ap, subst, Some, option_map}
use Rattle.std.proofs.lemmas.Option.{same_Some}
use Rattle.std.proofs.lemmas.List.{append_assoc, append-nil}
use Rattle.p10_syn.specs.declared.sign.Sign.TheVariants as sign
use Rattle.p10_syn.specs.declared.setting.Naming.TheVariants.{Required}
use Rattle.p10_syn.specs.declared.setting.Setting.TheVariants.{Outside}
use Rattle.p10_syn.specs.declared.setting.Said.{Said}
use Rattle.p10_syn.specs.declared.setting.Said.TheVariants.{Nothing}
use Rattle.p10_syn.specs.Symbols.{Symbol, Fixed}
use Rattle.p10_syn.specs.Scopes.{Scope}
use Rattle.p10_syn.specs.Declaring.{after_specifiers, after_declarator}
use Rattle.p10_syn.specs.Spelling.{spell_specifiers, spell_declarator, spell_initializer, spell_last_comma, spell_initial, spell_init_declarator, spell_more_declarators, spell_declarators, spell_declaration}
use Rattle.p10_syn.specs.Forms.{said_by, IsDeclarator}
use Rattle.p10_syn.specs.StatementForms.{IsInitializer, IsInitDeclarator, AreInitDeclarators, IsFirstApart, IsDeclaration}
use Rattle.p10_syn.specs.Trees.{Bare, Specifiers, Declarator, Initializer, Value, Braced, Initializers, NoInitializers, MoreInitializers, InitDeclarator, Declaration, initializer_row}
use Rattle.p10_pexpr.specs.Heads.{heads}
use Rattle.p10_pexpr.specs.Tables.{specifying_at, is_other}
use Rattle.p10_pexpr.specs.Readers.{Readers}
use Rattle.p10_pexpr.specs.DeclaratorReading.{specifiers_at}
use Rattle.p10_pexpr.proofs.Tools.{then_some, then_map, either, heads_is, ended}
use Rattle.p10_pexpr.proofs.Taken.{TookAll, Takes}
use Rattle.p10_pexpr.proofs.DeclaratorTakes.{apart_is, specifiers_at_takes}
use Rattle.p10_parse.specs.DeclarationReading.{Builders, with_initial, declaring, initializer_once, initializers_more, initializers_once, initial_at, init_declarator_at, declarators_after, declarators_once, declarators_at, declaration_at}
use Rattle.p10_parse.proofs.Rows.{initializer_list, initializer_again}
use Rattle.p10_parse.proofs.Taken.{TookInitializer, TookInitializers, TookDeclarators, TakesAll}

pub record TookInitDeclarator (names : Scope) (ss : Specifiers Bare) (symbols : List Symbol) (p : InitDeclarator Bare × List Symbol) : Type 0 where
  pub formed : IsInitDeclarator names ss p.0
  pub spelled : symbols ≡ spell_init_declarator p.0 p.1

-- an initialiser, or none, after a declarator
pub record TookInitial (names : Scope) (ss : Specifiers Bare) (d : Declarator Bare) (rest : List Symbol) (p : InitDeclarator Bare × List Symbol) : Type 0 where
  pub formed : IsInitDeclarator names ss p.0
  pub same : p.0.declarator ≡ d
  pub spelled : spell_declarator d rest ≡ spell_init_declarator p.0 p.1

pub record TookDeclared (names : Scope) (ss : Specifiers Bare) (symbols : List Symbol) (p : List (InitDeclarator Bare) × List Symbol) : Type 0 where
  pub formed : AreInitDeclarators names ss p.0
  pub spelled : symbols ≡ spell_declarators p.0 p.1

pub record TookDeclaration (names : Scope) (symbols : List Symbol) (p : Declaration Bare × List Symbol) : Type 0 where
  pub formed : IsDeclaration names p.0
  pub spelled : symbols ≡ spell_declaration p.0 p.1

first_apart : (names : Scope) (said : Said) (ds : List (InitDeclarator Bare)) (symbols rest : List Symbol) → is_other (specifying_at names Outside said symbols) ≡ true → symbols ≡ spell_declarators ds rest → IsFirstApart names said ds
first_apart names said [] symbols rest stops spelled = tt
first_apart names said (d ∷ ds) symbols rest stops spelled = apart_is names Outside said d.declarator symbols (spell_initial d.initial (spell_more_declarators ds rest)) stops spelled

-- specifiers, and all that stands after them
pub declaration_took : (names : Scope) (ss : Specifiers Bare) (ds : List (InitDeclarator Bare)) (symbols after rest : List Symbol) → TookAll names Outside Nothing symbols (ss, after) →
    TookDeclared (after_specifiers names ss) ss after (ds, rest) → TookDeclaration names symbols (declaring ss ds, rest)
declaration_took names ss ds symbols after rest k o = record {
  formed = (k.formed, k.some, first_apart (after_specifiers names ss) (said_by Nothing ss) ds after rest k.stops o.spelled, o.formed);
  spelled = k.spelled ∙ ap (spell_specifiers ss) o.spelled;
}

-- a first declarator, and further ones
pub joined : (names : Scope) (ss : Specifiers Bare) (symbols rest : List Symbol) (d : InitDeclarator Bare) (p : List (InitDeclarator Bare) × List Symbol) → IsInitDeclarator names ss d → symbols ≡ spell_init_declarator d rest →
    TookDeclarators (after_declarator names ss d.declarator) ss (d ∷ []) rest p → TookDeclared names ss symbols p
joined names ss symbols rest d p is spelled o =
    subst (λ (xs : List (InitDeclarator Bare)). TookDeclared names ss symbols (xs, p.1)) (sym o.items) (record { formed = (is, o.formed); spelled = spelled ∙ ap (spell_init_declarator d) o.spelled })

module _ (e : Readers) (reads : Takes e) (r : Builders) (takes : TakesAll r) where
  -- ## Initialisers

  pub initializer_takes : (names : Scope) (symbols : List Symbol) (p : Initializer Bare × List Symbol) → initializer_once e r names symbols ≡ Some p → TookInitializer names symbols p
  initializer_takes names symbols p o = either (heads sign.OpenBrace symbols) _ _ _ o
      (λ brace e1. then_map (λ is. (Braced tt (initializer_row is.0.0) is.0.1, is.1)) (r.initializers names [] (drop 1 symbols)) p e1 (λ is found same.
      let k = takes.initializers names [] (drop 1 symbols) is found in
      let all = MoreInitializers k.first k.others in
      let row : initializer_row is.0.0 ≡ all = ap initializer_row k.items ∙ initializer_again all in
      subst (λ q. TookInitializer names symbols q) (ap (λ (x : Initializers Bare). (Braced tt x is.0.1, is.1)) (sym row) ∙ same)
      (record { formed = (k.formed, tt); spelled = heads_is sign.OpenBrace symbols brace ∙ ap (λ x. Fixed sign.OpenBrace ∷ x) k.spelled })))
      (λ off e1. then_map (λ t. (Value t.0, t.1)) (e.expression names 2 symbols) p e1 (λ t found same.
      let k = reads.expression names 2 symbols t found in
      subst (λ q. TookInitializer names symbols q) same (record { formed = (k.formed, k.high); spelled = k.spelled })))

  last_initializer : (names : Scope) (done : List (Initializer Bare)) (i : Initializer Bare) (symbols : List Symbol) (comma : Bool) (last : List Symbol) → IsInitializer names i →
      symbols ≡ spell_initializer i (spell_last_comma comma (Fixed sign.CloseBrace ∷ last)) → TookInitializers names done symbols ((done ++ i ∷ [], comma), last)
  last_initializer names done i symbols comma last is spelled = record { first = i; others = NoInitializers; formed = (is, tt); items = refl; spelled = spelled }

  pub initializers_take : (names : Scope) (done : List (Initializer Bare)) (symbols : List Symbol) (p : (List (Initializer Bare) × Bool) × List Symbol) → initializers_once e r names done symbols ≡ Some p → TookInitializers names done symbols p
  initializers_take names done symbols p o = then_some (λ i. initializers_more e r names (done ++ i.0 ∷ []) i.1) (r.initializer names symbols) p o (λ x found e1.
      let k = takes.initializer names symbols x found in
      either (heads sign.Comma x.1) _ _ _ e1
      (λ comma e2. either (heads sign.CloseBrace (drop 1 x.1)) _ _ _ e2
      (λ closes same. subst (λ q. TookInitializers names done symbols q) (same_Some _ _ same)
      (last_initializer names done x.0 symbols true (drop 1 (drop 1 x.1)) k.formed (k.spelled ∙ ap (spell_initializer x.0) (heads_is sign.Comma x.1 comma ∙ ap (λ s. Fixed sign.Comma ∷ s) (heads_is sign.CloseBrace (drop 1 x.1) closes)))))
      (λ off e3.
      let m = takes.initializers names (done ++ x.0 ∷ []) (drop 1 x.1) p e3 in
      record {
        first = x.0;
        others = MoreInitializers m.first m.others;
        formed = (k.formed, m.formed);
        items = m.items ∙ append_assoc done (x.0 ∷ []) (m.first ∷ initializer_list m.others);
        spelled = k.spelled ∙ ap (spell_initializer x.0) (heads_is sign.Comma x.1 comma ∙ ap (λ s. Fixed sign.Comma ∷ s) m.spelled);
      }))
      (λ off e2. ended sign.CloseBrace (done ++ x.0 ∷ [], false) x.1 p e2 (λ last closes same.
      subst (λ q. TookInitializers names done symbols q) same
      (last_initializer names done x.0 symbols false last k.formed (k.spelled ∙ ap (spell_initializer x.0) closes)))))

  -- ## Declarations

  pub initial_takes : (names : Scope) (ss : Specifiers Bare) (d : Declarator Bare) (rest : List Symbol) (p : InitDeclarator Bare × List Symbol) → IsDeclarator names Outside Required d →
      initial_at e r (after_declarator names ss d) d rest ≡ Some p → TookInitial names ss d rest p
  initial_takes names ss d rest p is o = either (heads sign.Assign rest) _ _ _ o
      (λ assign e1. then_map (λ i. (with_initial d (Some i.0), i.1)) (r.initializer (after_declarator names ss d) (drop 1 rest)) p e1 (λ i found same.
      let k = takes.initializer (after_declarator names ss d) (drop 1 rest) i found in
      subst (λ q. TookInitial names ss d rest q) same
      (record { formed = (is, k.formed); same = refl; spelled = ap (spell_declarator d) (heads_is sign.Assign rest assign ∙ ap (λ x. Fixed sign.Assign ∷ x) k.spelled) })))
      (λ off same. subst (λ q. TookInitial names ss d rest q) (same_Some _ _ same) (record { formed = (is, tt); same = refl; spelled = refl }))

  init_declarator_takes : (names : Scope) (ss : Specifiers Bare) (symbols : List Symbol) (p : InitDeclarator Bare × List Symbol) → init_declarator_at e r names ss symbols ≡ Some p → TookInitDeclarator names ss symbols p
  init_declarator_takes names ss symbols p o = then_some (λ d. initial_at e r (after_declarator names ss d.0) d.0 d.1) (e.declarator names Outside Required symbols) p o (λ d found e1.
      let k = reads.declarator names Outside Required symbols d found in
      let v = initial_takes names ss d.0 d.1 p k.formed e1 in
      record { formed = v.formed; spelled = k.spelled ∙ v.spelled })

  pub declarators_take : (names : Scope) (ss : Specifiers Bare) (done : List (InitDeclarator Bare)) (symbols : List Symbol) (p : List (InitDeclarator Bare) × List Symbol) → declarators_once e r names ss done symbols ≡ Some p →
      TookDeclarators names ss done symbols p
  declarators_take names ss done symbols p o = either (heads sign.Comma symbols) _ _ _ o
      (λ comma e1. then_some (λ d. declarators_after e r names ss done d.0 d.1) (init_declarator_at e r names ss (drop 1 symbols)) p e1 (λ d found e2.
      let k = init_declarator_takes names ss (drop 1 symbols) d found in
      let m = takes.declarators (after_declarator names ss d.0.declarator) ss (done ++ d.0 ∷ []) d.1 p e2 in
      record {
        others = d.0 ∷ m.others;
        formed = (k.formed, m.formed);
        items = m.items ∙ append_assoc done (d.0 ∷ []) m.others;
        spelled = heads_is sign.Comma symbols comma ∙ ap (λ x. Fixed sign.Comma ∷ x) (k.spelled ∙ ap (spell_init_declarator d.0) m.spelled);
      }))
      (λ off e1. ended sign.Semicolon done symbols p e1 (λ last closes same.
      subst (λ q. TookDeclarators names ss done symbols q) same (record { others = []; formed = tt; items = sym (append-nil done); spelled = closes })))

  declarators_at_take : (names : Scope) (ss : Specifiers Bare) (symbols : List Symbol) (p : List (InitDeclarator Bare) × List Symbol) → declarators_at e r names ss symbols ≡ Some p → TookDeclared names ss symbols p
  declarators_at_take names ss symbols p o = either (heads sign.Semicolon symbols) _ _ _ o
      (λ closes same. subst (λ q. TookDeclared names ss symbols q) (same_Some _ _ same) (record { formed = tt; spelled = heads_is sign.Semicolon symbols closes }))
      (λ off e1. then_some (λ d. declarators_after e r names ss [] d.0 d.1) (init_declarator_at e r names ss symbols) p e1 (λ d found e2.
      let k = init_declarator_takes names ss symbols d found in
      joined names ss symbols d.1 d.0 p k.formed k.spelled (takes.declarators (after_declarator names ss d.0.declarator) ss (d.0 ∷ []) d.1 p e2)))

  pub declaration_takes : (names : Scope) (symbols : List Symbol) (p : Declaration Bare × List Symbol) → declaration_at e r names symbols ≡ Some p → TookDeclaration names symbols p
  declaration_takes names symbols p o =
      then_some (λ ss. option_map (λ ds. (declaring ss.0 ds.0, ds.1)) (declarators_at e r (after_specifiers names ss.0) ss.0 ss.1)) (specifiers_at e names Outside symbols) p o (λ ss found e1.
      let ks = specifiers_at_takes e reads names Outside symbols ss found in
      then_map (λ ds. (declaring ss.0 ds.0, ds.1)) (declarators_at e r (after_specifiers names ss.0) ss.0 ss.1) p e1 (λ ds read same.
      subst (λ q. TookDeclaration names symbols q) same (declaration_took names ss.0 ds.0 symbols ss.1 ds.1 ks (declarators_at_take (after_specifiers names ss.0) ss.0 ss.1 ds read))))
