use Rattle.p10_warn.specs.private.NamedExtents.{noted_for}
use Rattle.p10_warn.proofs.Noting.{noted_more}
use Rattle.p10_warn.proofs.Turns.{cut_list}
use Rattle.p10_warn.proofs.named_extents.NamedExtents.of_objects.Goals as goal

pub loop-object-preserved : goal.loop-object-preserved
loop-object-preserved c =
    noted_more c.args.objects.now c.loop-object.object-index c.object-item.result c.as_slice.result.now (noted_for c.loop-object.extents) (noted_for c.add_all.new.self)
    (cut_list c.args.objects.now c.loop-object.object-index c.object-item.result c.loop-object-test.true c.object-item.is) c.as_slice.ensures c.in_ok-add_all.ensures c.loop-object.invariant
