use Rattle.std.proofs.Common.{ap, ◌∙◌}
use Rattle.p10_syn.specs.BuiltStatements.{initial_of}
use Rattle.p10_elabx.specs.First.{only_first}
use Rattle.p10_elabs.specs.Locals.{no_initializer}
use Rattle.p10_elab.specs.Knowledge.{Known}
use Rattle.p10_elab.specs.KnownViews.{plain_known}
use Rattle.p10_elab.proofs.outer_declarations.typedef_outside.Goals as goal

pub returns : goal.returns
returns c =
    let k : Known = plain_known c.args.known.now in
    let standing = c.in_ok-no_initializer.ensures ∙ ap (no_initializer only_first (initial_of c.args.d.now.init)) c.in_ok-typedef_passed.ensures in
    λ i. record k { standing = standing i; mains = c.in_ok-note_main.ensures i }
