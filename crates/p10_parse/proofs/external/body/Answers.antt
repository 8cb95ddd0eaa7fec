use Rattle.std.proofs.Common.{◌≡◌, ◌∙◌}
use Rattle.p10_syn.specs.Built.{bare_declarator_of}
use Rattle.p10_parse.proofs.Extending.{forgotten_body}
use Rattle.p10_parse.proofs.external.body.Goals as goal

pub returns-clause-scope : goal.returns-clause-scope
returns-clause-scope c =
    c.forget.ensures ∙ forgotten_body _ _ (bare_declarator_of c.args.declarator.now) _ c.count-count.ensures (c.in_ok-all.ensures.scope ∙ c.in_ok-declare_parameters.ensures) ∙ c.in_ok-declare.ensures.ok
