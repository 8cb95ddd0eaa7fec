-- What is read is spelled.
use Rattle.std.proofs.Common.{◌≡◌, ℕ, zero, suc, List, [], ◌∷◌, drop, sym, ◌∙◌, ap, subst, Some, option_map}
use Rattle.std.proofs.lemmas.Option.{none-some, same_Some}
use Rattle.p10_syn.specs.declared.sign.Sign.TheVariants as sign
use Rattle.p10_syn.specs.declared.setting.Naming.TheVariants.{Required}
use Rattle.p10_syn.specs.declared.setting.Setting.TheVariants.{Outside}
use Rattle.p10_syn.specs.declared.setting.Said.TheVariants.{Nothing}
use Rattle.p10_syn.specs.Symbols.{Symbol, Fixed}
use Rattle.p10_syn.specs.Scopes.{Scope}
use Rattle.p10_syn.specs.Declaring.{after_specifiers, after_declarator, in_body}
use Rattle.p10_syn.specs.Spelling.{spell_specifiers, spell_declarator, spell_external}
use Rattle.p10_syn.specs.Forms.{said_by, IsDeclarator}
use Rattle.p10_syn.specs.StatementForms.{IsExternal}
use Rattle.p10_syn.specs.Trees.{Bare, Specifiers, Declarator, Declaration, Statements, External, Outer, statement_row}
use Rattle.p10_pexpr.specs.Heads.{heads}
use Rattle.p10_pexpr.specs.DeclaratorReading.{specifiers_at}
use Rattle.p10_pexpr.specs.Reading.{readers}
use Rattle.p10_pexpr.proofs.Tools.{then_some, then_map, either, heads_is}
use Rattle.p10_pexpr.proofs.Taken.{TookAll}
use Rattle.p10_pexpr.proofs.DeclaratorTakes.{apart_is, specifiers_at_takes}
use Rattle.p10_pexpr.proofs.Takes.{takes}
use Rattle.p10_parse.specs.DeclarationReading.{declaring, initial_at, declarators_after}
use Rattle.p10_parse.specs.ExternalReading.{builders, defining, external_with, external_after, external_at}
use Rattle.p10_parse.proofs.Rows.{statement_again}
use Rattle.p10_parse.proofs.Taken.{TakesAll}
use Rattle.p10_parse.proofs.DeclarationTakes.{TookDeclaration, declaration_took, joined, initial_takes, initializer_takes, initializers_take, declarators_take}
use Rattle.p10_parse.proofs.StatementTakes.{statement_takes, items_take}

pub takes_all : (n : ℕ) → TakesAll (builders n)
unfolding builders
takes_all zero = record {
  initializer = λ names symbols p o. absurd (none-some p o);
  initializers = λ names done symbols p o. absurd (none-some p o);
  declarators = λ names ss done symbols p o. absurd (none-some p o);
  statement = λ names symbols p o. absurd (none-some p o);
  items = λ names done symbols p o. absurd (none-some p o);
}
takes_all (suc n) = record {
  initializer = initializer_takes (readers n) (takes n) (builders n) (takes_all n);
  initializers = initializers_take (readers n) (takes n) (builders n) (takes_all n);
  declarators = declarators_take (readers n) (takes n) (builders n) (takes_all n);
  statement = statement_takes (readers n) (takes n) (builders n) (takes_all n);
  items = items_take (readers n) (takes n) (builders n) (takes_all n);
}

-- ## Declarations and functions outside of functions

pub record TookExternal (names : Scope) (symbols : List Symbol) (p : External Bare × List Symbol) : Type 0 where
  pub formed : IsExternal names p.0
  pub spelled : symbols ≡ spell_external p.0 p.1

outer_took : (names : Scope) (symbols : List Symbol) (d : Declaration Bare) (rest : List Symbol) (p : External Bare × List Symbol) → (Outer tt d, rest) ≡ p → TookDeclaration names symbols (d, rest) → TookExternal names symbols p
outer_took names symbols d rest p same k = subst (λ x. TookExternal names symbols x) same (record { formed = k.formed; spelled = k.spelled })

with_takes : (n : ℕ) (names : Scope) (ss : Specifiers Bare) (d : Declarator Bare) (symbols after rest : List Symbol) (p : External Bare × List Symbol) → TookAll names Outside Nothing symbols (ss, after) →
    IsDeclarator (after_specifiers names ss) Outside Required d → after ≡ spell_declarator d rest → external_with (readers n) (builders n) (after_specifiers names ss) ss d rest ≡ Some p → TookExternal names symbols p
with_takes n names ss d symbols after rest p k is spelled o =
    let within = after_specifiers names ss in
    let then = after_declarator within ss d in
    either (heads sign.OpenBrace rest) _ _ _ o
    (λ brace e1. then_map (λ body. (defining ss d (statement_row body.0), body.1)) ((builders n).items (in_body then d) [] (drop 1 rest)) p e1 (λ body read same.
    let m = (takes_all n).items (in_body then d) [] (drop 1 rest) body read in
    let row : statement_row body.0 ≡ m.others = ap statement_row m.items ∙ statement_again m.others in
    subst (λ x. TookExternal names symbols x) (ap (λ (x : Statements Bare). (defining ss d x, body.1)) (sym row) ∙ same) (record {
      formed = (k.formed, k.some, apart_is within Outside (said_by Nothing ss) d after rest k.stops spelled, is, m.formed);
      spelled = k.spelled ∙ ap (spell_specifiers ss) (spelled ∙ ap (spell_declarator d) (heads_is sign.OpenBrace rest brace ∙ ap (λ x. Fixed sign.OpenBrace ∷ x) m.spelled));
    })))
    (λ off e1. then_some (λ v. option_map (λ ds. (Outer tt (declaring ss ds.0), ds.1)) (declarators_after (readers n) (builders n) within ss [] v.0 v.1)) (initial_at (readers n) (builders n) then d rest) p e1 (λ v found e2.
    let kv = initial_takes (readers n) (takes n) (builders n) (takes_all n) within ss d rest v is found in
    then_map (λ ds. (Outer tt (declaring ss ds.0), ds.1)) (declarators_after (readers n) (builders n) within ss [] v.0 v.1) p e2 (λ ds read same.
    let m = (takes_all n).declarators (after_declarator within ss v.0.declarator) ss (v.0 ∷ []) v.1 ds read in
    outer_took names symbols (declaring ss ds.0) ds.1 p same (declaration_took names ss ds.0 symbols after ds.1 k (joined within ss after v.1 v.0 ds kv.formed (spelled ∙ kv.spelled) m)))))

pub external_takes : (n : ℕ) (names : Scope) (symbols : List Symbol) (p : External Bare × List Symbol) → external_at (readers n) (builders n) names symbols ≡ Some p → TookExternal names symbols p
external_takes n names symbols p o = then_some (λ ss. external_after (readers n) (builders n) (after_specifiers names ss.0) ss.0 ss.1) (specifiers_at (readers n) names Outside symbols) p o (λ ss found e1.
    let k = specifiers_at_takes (readers n) (takes n) names Outside symbols ss found in
    let within = after_specifiers names ss.0 in
    either (heads sign.Semicolon ss.1) _ _ _ e1
    (λ closes same. outer_took names symbols (declaring ss.0 []) (drop 1 ss.1) p (same_Some _ _ same)
    (declaration_took names ss.0 [] symbols ss.1 (drop 1 ss.1) k (record { formed = tt; spelled = heads_is sign.Semicolon ss.1 closes })))
    (λ off e2. then_some (λ d. external_with (readers n) (builders n) within ss.0 d.0 d.1) ((readers n).declarator within Outside Required ss.1) p e2 (λ d read e3.
    let kd = (takes n).declarator within Outside Required ss.1 d read in
    with_takes n names ss.0 d.0 symbols ss.1 d.1 p k kd.formed kd.spelled e3)))
