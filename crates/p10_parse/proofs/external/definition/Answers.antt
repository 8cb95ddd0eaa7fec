use Rattle.std.proofs.Common.{◌≡◌, map, sym, ◌∙◌, ap}
use Rattle.p10_syn.specs.Trees.{specifier_row, statement_row}
use Rattle.p10_syn.specs.Declaring.{after_declarator, after_external}
use Rattle.p10_syn.specs.Built.{bare_specifier_of, bare_declarator_of}
use Rattle.p10_syn.specs.BuiltStatements.{bare_statement_of}
use Rattle.p10_parse.proofs.ExternalSteps.{definition_scope}
use Rattle.p10_parse.proofs.external.definition.Goals as goal

pub returns-in-Ok-clause-scope : goal.returns-in-Ok-clause-scope
returns-in-Ok-clause-scope c = λ names at.
    definition_scope names _ _ (specifier_row (map bare_specifier_of c.args.specs.items)) (bare_declarator_of c.args.declarator) (statement_row (map bare_statement_of c.in-Ok.body.items)) at
    (c.in-Ok.ensures.scope ∙ ap (λ ss. after_declarator c.args.scope.now (specifier_row (map bare_specifier_of ss)) (bare_declarator_of c.args.declarator)) c.as_slice.ensures.value)
    ∙ ap (after_external names) (sym c.definition.ensures)
