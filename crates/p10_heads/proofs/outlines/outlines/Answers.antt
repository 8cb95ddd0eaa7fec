use Rattle.std.proofs.Common.{map, ap}
use Rattle.p10_syn.specs.BuiltStatements.{external_of}
use Rattle.p10_heads.specs.Heads.{outlines}
use Rattle.p10_heads.proofs.ListRows.{cut_list, more_put}
use Rattle.p10_heads.proofs.outlines.outlines.Goals as goal

pub loop-unit-preserved : goal.loop-unit-preserved
loop-unit-preserved c =
    more_put _ _ _ _ _ _ c.in_ok-put_outlines_in.ensures
    (ap (λ xs. outlines (map external_of xs)) (cut_list c.args.root.now c.loop-unit.unit-index c.unit-item.result c.loop-unit-test.true c.unit-item.is))
    c.loop-unit.invariant
