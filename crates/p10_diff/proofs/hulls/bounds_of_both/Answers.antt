use Rattle.std.proofs.Common.{refl}
use Rattle.p10_diff.specs.Knowing.{pair_by, differences_of}
use Rattle.p10_diff.proofs.HulledBounds.{hull_told}
use Rattle.p10_diff.proofs.hulls.bounds_of_both.Goals as goal

pub returns : goal.returns
returns c =
    hull_told (pair_by c.args.p.now) (differences_of c.args.a.now) (differences_of c.args.b.now) c.args.a.now.bounds.items c.args.b.now.bounds.items c.as_slice.result.now c.as_slice-2.result.now c.new-all.result.items c.put_lists.new.bounds.items c.put_lists-2.new.bounds.items
    refl refl c.as_slice.ensures.value c.as_slice-2.ensures.value c.new-all.ensures.items c.in_ok-put_lists.ensures c.in_ok-put_lists-2.ensures
