use Rattle.std.proofs.Common.{map, ◌∙◌}
use Rattle.p10_syn.specs.BuiltStatements.{external_of}
use Rattle.p10_elabx.specs.First.{only_first}
use Rattle.p10_elabd.specs.Views.{plain_standing}
use Rattle.p10_heads.specs.PlainHeads.{plain_heads}
use Rattle.p10_heads.specs.Roots.{roots_of}
use Rattle.p10_linkage.specs.Between.{taken_together}
use Rattle.p10_elab.specs.KnownViews.{plain_known}
use Rattle.p10_elab.proofs.KnownTogether.{together}
use Rattle.p10_elab.proofs.elaboration.known_of_units.Goals as goal

pub returns : goal.returns
returns c =
    together (plain_heads c.args.heads.now) (roots_of (map external_of c.args.units.now)) (plain_known c.roots_passed.new.known) (plain_known c.nothing_known-known.result)
    (plain_standing c.taken_together.new.standing) c.in_ok-roots_passed.ensures c.nothing_known-known.ensures
    (c.in_ok-taken_together.ensures
    ∙ (λ i. taken_together only_first (record { functions = c.functions.ensures i; objects = c.objects.ensures i }) (c.rows.ensures i) (plain_known c.roots_passed.new.known).standing))
