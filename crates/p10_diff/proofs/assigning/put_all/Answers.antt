use Rattle.std.proofs.Common.{◌∙◌}
use Rattle.p10_diff.specs.Knowing.{pair_by}
use Rattle.p10_diff.specs.Listed.{bounds_listed}
use Rattle.p10_diff.proofs.Puts.{all_next}
use Rattle.p10_diff.proofs.assigning.put_all.Goals as goal

pub loop-n-preserved : goal.loop-n-preserved
loop-n-preserved c = record {
  same = c.in_ok-put_names.ensures.same ∙ c.loop-n.invariant.same;
  put =
      all_next (pair_by c.args.p.now) c.args.a.now c.args.e.now c.loop-n.e c.loop-n.n (bounds_listed c.args.bounds.now.items) (bounds_listed c.loop-n.bounds.items) (bounds_listed c.put_names.new.bounds.items)
      c.loop-n.invariant.same c.loop-n.invariant.put c.in_ok-put_names.ensures.put;
}
