use Rattle.std.proofs.Common.{map, ap}
use Rattle.p10_syn.specs.BuiltStatements.{init_declarator_of}
use Rattle.p10_heads.specs.Heads.{outlines_of}
use Rattle.p10_heads.proofs.ListRows.{cut_list, more_put}
use Rattle.p10_heads.proofs.outlines.put_outlines.Goals as goal

pub loop-d-preserved : goal.loop-d-preserved
loop-d-preserved c =
    more_put _ _ _ _ _ _ c.in_ok-put_outline.ensures
    (ap (λ xs. outlines_of c.args.storage (map init_declarator_of xs)) (cut_list c.args.all.now c.loop-d.d-index c.d-item.result c.loop-d-test.true c.d-item.is))
    c.loop-d.invariant
