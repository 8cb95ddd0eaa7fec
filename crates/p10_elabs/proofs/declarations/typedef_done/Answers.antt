use Rattle.std.proofs.Common.{◌∙◌, ap}
use Rattle.p10_syn.specs.BuiltStatements.{initial_of}
use Rattle.p10_elabx.specs.First.{only_first}
use Rattle.p10_elabs.specs.LocalViews.{plain_local}
use Rattle.p10_elabs.specs.Locals.{no_initializer, with_standing}
use Rattle.p10_elabs.proofs.declarations.typedef_done.Goals as goal

pub returns : goal.returns
returns c =
    let all = c.in_ok-no_initializer.ensures ∙ ap (no_initializer only_first (initial_of c.args.d.now.init)) c.in_ok-typedef_passed.ensures in
    λ i. with_standing (plain_local c.args.local.now) (all i)
