use Rattle.std.proofs.Common.{to_z, of_z}
use Rattle.std.proofs.lemmas.Int.{to_z-of_z}
use Rattle.std.specs.Int.{w128}
use Rattle.std.proofs.lemmas.Result.{on_ok_weaker}
use Rattle.p10_diff.proofs.Tabled.{learned_told}
use Rattle.p10_diff.proofs.tables.learn.Goals as goal

pub returns : goal.returns
returns c =
    on_ok_weaker c.put.result (learned_told c.args.u c.args.w c.args.c (to_z w128 (of_z w128 c.args.c)) c.kept.result c.found.result c.least-most.result c.args.table.now.items c.as_slice.result.now c.put.new.table.items
    c.kept.ensures.is (to_z-of_z w128 c.args.c c.ranges.c) c.as_slice.ensures.value c.found.ensures c.least-most.ensures) c.put.ensures
