use Rattle.p10_diff.proofs.Puts.{assigned_told}
use Rattle.p10_diff.proofs.assigning.named_bounds_after.Goals as goal

pub returns : goal.returns
returns c =
    assigned_told c.args.p.now c.args.a.now c.args.e.now c.as_slice.result.now c.in_ok-bounds.bounds.items c.put_all.new.bounds.items c.as_slice.ensures.value c.in_ok-bounds.ensures c.in_ok-put_all.ensures.put
