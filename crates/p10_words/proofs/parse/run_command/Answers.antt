use Rattle.std.proofs.Common.{◌≡◌, ◌∙◌, ap₂, sym, subst, rules, codes}
use Rattle.clap.specs.Walk.{rule_of}
use Rattle.clap.specs.Simple.{App, app_of, with_rule}
use Rattle.p10_words.specs.Commands.{run_options}
use Rattle.p10_words.specs.private.Parsing.{bare, option_asked, IsAsked}
use Rattle.p10_words.proofs.Asked.{run_app, run_asked}
use Rattle.p10_words.proofs.parse.run_command.Goals as goal

pub returns : goal.returns
returns c =
    let start : app_of c.bare.result ≡ bare (codes "run") = search rules in
    let include : rule_of c.option.result ≡ option_asked (codes "include") = search rules in
    let steps : rule_of c.option-2.result ≡ option_asked (codes "steps") = search rules in
    let turns : rule_of c.option-3.result ≡ option_asked (codes "turns") = search rules in
    let deny : rule_of c.option-4.result ≡ option_asked (codes "deny") = search rules in
    let cert : rule_of c.option-5.result ≡ option_asked (codes "cert") = search rules in
    let sensors : rule_of c.option-6.result ≡ option_asked (codes "sensors") = search rules in
    let is : app_of c.in_ok-command.command ≡ run_app =
    c.in_ok-command.ensures.shape c.files.ensures.local
    ∙ ap₂ with_rule
    (c.in_ok-arg-6.ensures.shape c.option-6.ensures.local
    ∙ ap₂ with_rule
    (c.in_ok-arg-5.ensures.shape c.option-5.ensures.local
    ∙ ap₂ with_rule
    (c.in_ok-arg-4.ensures.shape c.option-4.ensures.local
    ∙ ap₂ with_rule
    (c.in_ok-arg-3.ensures.shape c.option-3.ensures.local
    ∙ ap₂ with_rule (c.in_ok-arg-2.ensures.shape c.option-2.ensures.local ∙ ap₂ with_rule (c.in_ok-arg.ensures.shape c.option.ensures.local ∙ ap₂ with_rule start include) steps) turns)
    deny)
    cert)
    sensors)
    c.files.ensures.rule in
    subst (λ (a : App). IsAsked a run_options) (sym is) run_asked
