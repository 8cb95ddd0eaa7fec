use Rattle.std.proofs.Common.{◌≡◌, ◌∙◌, ap₂, sym, subst, rules, codes}
use Rattle.clap.specs.Walk.{rule_of}
use Rattle.clap.specs.Simple.{App, app_of, with_rule}
use Rattle.p10_words.specs.Commands.{recheck_options}
use Rattle.p10_words.specs.private.Parsing.{bare, option_asked, IsAsked}
use Rattle.p10_words.proofs.Asked.{recheck_app, recheck_asked}
use Rattle.p10_words.proofs.parse.recheck_command.Goals as goal

pub returns : goal.returns
returns c =
    let start : app_of c.bare.result ≡ bare (codes "recheck") = search rules in
    let include : rule_of c.option.result ≡ option_asked (codes "include") = search rules in
    let since : rule_of c.option-2.result ≡ option_asked (codes "since") = search rules in
    let cert : rule_of c.option-3.result ≡ option_asked (codes "cert") = search rules in
    let is : app_of c.in_ok-command.command ≡ recheck_app =
    c.in_ok-command.ensures.shape c.files.ensures.local
    ∙ ap₂ with_rule
    (c.in_ok-arg-3.ensures.shape c.option-3.ensures.local
    ∙ ap₂ with_rule (c.in_ok-arg-2.ensures.shape c.option-2.ensures.local ∙ ap₂ with_rule (c.in_ok-arg.ensures.shape c.option.ensures.local ∙ ap₂ with_rule start include) since) cert)
    c.files.ensures.rule in
    subst (λ (a : App). IsAsked a recheck_options) (sym is) recheck_asked
