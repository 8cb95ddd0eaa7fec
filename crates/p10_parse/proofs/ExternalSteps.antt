-- The names in scope after a declaration or a function.
use Rattle.std.proofs.Common.{◌≡◌, List, sym, ◌∙◌, ap}
use Rattle.p10_syn.specs.Scopes.{Scope}
use Rattle.p10_syn.specs.Declaring.{after_specifiers, after_declarator, after_init_declarators, after_external}
use Rattle.p10_syn.specs.Trees.{Bare, Specifiers, Declarator, InitDeclarator, Outer, Statements}
use Rattle.p10_parse.specs.DeclarationReading.{declaring}
use Rattle.p10_parse.specs.ExternalReading.{defining}

pub outer_scope : (names old mid now : Scope) (ss ts us : Specifiers Bare) (d e : Declarator Bare) (ds : List (InitDeclarator Bare)) → ts ≡ ss → us ≡ ss → old ≡ after_specifiers names ss → mid ≡ after_declarator old ts d → e ≡ d →
    ((n : Scope) → mid ≡ after_declarator n us e → now ≡ after_init_declarators n us ds) → now ≡ after_external names (Outer tt (declaring ss ds))
outer_scope names old mid now ss ts us d e ds first second at declared same go =
    go old (declared ∙ ap (λ ts. after_declarator old ts d) (first ∙ sym second) ∙ ap (after_declarator old us) (sym same)) ∙ ap (λ n. after_init_declarators n us ds) at ∙ ap (λ us. after_init_declarators (after_specifiers names ss) us ds) second

pub definition_scope : (names old now : Scope) (ss : Specifiers Bare) (d : Declarator Bare) (body : Statements Bare) → old ≡ after_specifiers names ss → now ≡ after_declarator old ss d → now ≡ after_external names (defining ss d body)
definition_scope names old now ss d body at declared = declared ∙ ap (λ n. after_declarator n ss d) at
