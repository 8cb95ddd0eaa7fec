use Rattle.std.proofs.Common.{map, ap}
use Rattle.p10_syn.specs.BuiltStatements.{external_of}
use Rattle.p10_heads.specs.private.Sites.{plain_sites, objects_among}
use Rattle.p10_heads.proofs.ListRows.{cut_list, more_put}
use Rattle.p10_heads.proofs.root_heads.put_objects.Goals as goal

pub loop-unit-preserved : goal.loop-unit-preserved
loop-unit-preserved c =
    more_put _ _ _ _ _ _ c.in_ok-put_objects_in.ensures
    (ap (λ xs. objects_among c.args.number (plain_sites c.args.sites.now) (map external_of xs)) (cut_list c.args.root.now c.loop-unit.unit-index c.unit-item.result c.loop-unit-test.true c.unit-item.is))
    c.loop-unit.invariant
