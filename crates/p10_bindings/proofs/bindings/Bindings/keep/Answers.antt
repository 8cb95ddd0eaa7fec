use Rattle.std.proofs.Common.{◌<◌, length, arith}
use Rattle.p10_bindings.specs.Bound.{bound_of}
use Rattle.p10_bindings.proofs.Keeping.{kept_on}
use Rattle.p10_bindings.proofs.bindings.Bindings.keep.Goals as goal

pub loop-self-preserved : goal.loop-self-preserved
loop-self-preserved g c =
    let test = c.loop-self-test.true in
    let counted = c.len.ensures in
    let same = c.loop-self.self.entries.ok.0 in
    let low : c.args.count < length c.loop-self.self.entries.items = omega arith in
    kept_on (bound_of c.args.self.now.entries.items) c.loop-self.self.entries.items c.take_last.new.self.entries.items c.args.count c.loop-self.invariant low c.take_last.ensures.left
