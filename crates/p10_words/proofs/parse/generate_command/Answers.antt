use Rattle.std.proofs.Common.{◌≡◌, ◌∙◌, ap₂, sym, subst, rules, codes, []}
use Rattle.clap.specs.Simple.{App, app_of, with_rule}
use Rattle.p10_words.specs.private.Parsing.{bare, IsAsked}
use Rattle.p10_words.proofs.Asked.{generate_app, generate_asked}
use Rattle.p10_words.proofs.parse.generate_command.Goals as goal

pub returns : goal.returns
returns c =
    let start : app_of c.bare.result ≡ bare (codes "gen") = search rules in
    let is : app_of c.in_ok-command.command ≡ generate_app = c.in_ok-command.ensures.shape c.files.ensures.local ∙ ap₂ with_rule start c.files.ensures.rule in
    subst (λ (a : App). IsAsked a []) (sym is) generate_asked
