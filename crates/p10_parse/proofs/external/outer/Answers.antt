use Rattle.std.proofs.Common.{◌≡◌, map, sym, ◌∙◌, ap}
use Rattle.p10_syn.specs.Trees.{Outer, specifier_row}
use Rattle.p10_syn.specs.Built.{bare_specifier_of, bare_declarator_of}
use Rattle.p10_syn.specs.BuiltStatements.{bare_init_declarator_of}
use Rattle.p10_syn.specs.Declaring.{after_external}
use Rattle.p10_parse.proofs.ExternalSteps.{outer_scope}
use Rattle.p10_parse.proofs.external.outer.Goals as goal

pub returns-in-Ok-further-clause-scope : goal.returns-in-Ok-further-clause-scope
returns-in-Ok-further-clause-scope c = λ names at.
    outer_scope names _ _ _ (specifier_row (map bare_specifier_of c.args.specs.items)) (specifier_row (map bare_specifier_of c.as_slice.result.now)) (specifier_row (map bare_specifier_of c.as_slice-2.result.now))
    (bare_declarator_of c.args.declarator) (bare_init_declarator_of c.in-Ok.first).declarator (map bare_init_declarator_of c.in-Ok-further.all.items)
    (ap (λ ss. specifier_row (map bare_specifier_of ss)) c.as_slice.ensures.value) (ap (λ ss. specifier_row (map bare_specifier_of ss)) c.as_slice-2.ensures.value) at c.in-Ok.ensures.scope c.in-Ok.ensures.same c.in-Ok-further.ensures.scope
    ∙ ap (after_external names) (sym (c.outer.ensures ∙ ap (Outer tt) c.declaration.ensures))
