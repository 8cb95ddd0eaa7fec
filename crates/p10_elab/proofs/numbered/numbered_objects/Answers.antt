use Rattle.std.proofs.Common.{◌∙◌}
use Rattle.std.specs.Vec.Iter.{into_iter_items}
use Rattle.p10_core.specs.Views.{plain_types}
use Rattle.p10_elab.proofs.NumberedObjects.{object_next}
use Rattle.p10_elab.proofs.numbered.numbered_objects.Goals as goal

pub loop-object-preserved : goal.loop-object-preserved
loop-object-preserved c = λ count visible p.
    object_next (plain_types c.args.types.now) visible c.in-Some.object c.in_ok-whole.whole c.in_ok-visible.visible c.loop-object.all.items c.push.new.self.items
    (into_iter_items c.loop-object.rest) (into_iter_items c.next.new.self)
    c.in-Some.ensures.items (c.in_ok-visible.ensures count visible p) c.in_ok-whole.ensures c.in_ok-push.ensures.items
    ∙ c.loop-object.invariant count visible p
