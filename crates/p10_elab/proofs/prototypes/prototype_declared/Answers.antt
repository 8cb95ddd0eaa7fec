use Rattle.std.proofs.Common.{ap, ◌∙◌}
use Rattle.p10_syn.specs.BuiltStatements.{initial_of}
use Rattle.p10_elabx.specs.First.{only_first}
use Rattle.p10_elabs.specs.Locals.{no_initializer}
use Rattle.p10_elab.specs.Knowledge.{Known, with_standing}
use Rattle.p10_elab.specs.KnownViews.{plain_known}
use Rattle.p10_elab.proofs.prototypes.prototype_declared.Goals as goal

pub returns : goal.returns
returns c =
    let i = initial_of c.args.initial.now in
    ap (with_standing (plain_known c.declare_name.new.known)) c.in_ok-no_initializer.ensures
    ∙ ap (λ (m : Known). with_standing m (no_initializer only_first i m.standing))
    c.in_ok-declare_name.ensures
