use Rattle.std.proofs.Common.{◌∙◌, ap}
use Rattle.p10_syn.specs.BuiltStatements.{initializer_of}
use Rattle.p10_core.specs.Types.{plain_type}
use Rattle.p10_core.specs.Typed.{PlainInitializer}
use Rattle.p10_elabx.specs.First.{only_first}
use Rattle.p10_elabx.specs.Scopes.{left}
use Rattle.p10_elabd.specs.Initializers.{initialized}
use Rattle.p10_elabd.specs.Standing.{Passed}
use Rattle.p10_elabd.specs.Views.{plain_standing}
use Rattle.p10_elabd.specs.declared.lifetime.Lifetime.TheVariants as life_is
use Rattle.p10_elabs.proofs.locals.awaited.Goals as goal

pub returns : goal.returns
returns c =
    let all = c.in_ok-initialized.ensures ∙ ap (λ s. initialized only_first life_is.Automatic (plain_type c.args.whole.now) s (initializer_of c.args.i.now)) c.in_ok-awaiting.ensures in
    (λ i. record (plain_standing c.initialized.new.standing) { scope = c.leave.ensures i }) ∙ ap (λ (p : Passed PlainInitializer). record p.after { scope = left p.after.scope }) all
