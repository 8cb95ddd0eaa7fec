use Rattle.std.proofs.Common.{◌≡◌, ◌∙◌, ap₂, sym, subst, rules, codes}
use Rattle.clap.specs.Walk.{rule_of}
use Rattle.clap.specs.Simple.{App, app_of, with_rule}
use Rattle.p10_words.specs.Commands.{derive_options}
use Rattle.p10_words.specs.private.Parsing.{bare, option_asked, flag_asked, IsAsked}
use Rattle.p10_words.proofs.Asked.{derive_app, derive_asked}
use Rattle.p10_words.proofs.parse.derive_command.Goals as goal

pub returns : goal.returns
returns c =
    let start : app_of c.bare.result ≡ bare (codes "derive") = search rules in
    let include : rule_of c.option.result ≡ option_asked (codes "include") = search rules in
    let version : rule_of c.option-2.result ≡ option_asked (codes "cert-version") = search rules in
    let diff : rule_of c.flag.result ≡ flag_asked (codes "diff") = search rules in
    let is : app_of c.in_ok-command.command ≡ derive_app =
    c.in_ok-command.ensures.shape c.files.ensures.local
    ∙ ap₂ with_rule
    (c.in_ok-arg-3.ensures.shape c.flag.ensures.local
    ∙ ap₂ with_rule (c.in_ok-arg-2.ensures.shape c.option-2.ensures.local ∙ ap₂ with_rule (c.in_ok-arg.ensures.shape c.option.ensures.local ∙ ap₂ with_rule start include) version) diff)
    c.files.ensures.rule in
    subst (λ (a : App). IsAsked a derive_options) (sym is) derive_asked
