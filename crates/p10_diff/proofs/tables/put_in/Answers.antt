use Rattle.std.proofs.Common.{arith}
use Rattle.p10_diff.proofs.Tabled.{last_put}
use Rattle.p10_diff.proofs.tables.put_in.Goals as goal

pub returns : goal.returns
returns c =
    last_put c.args.i c.args.x c.args.table.now.items c.fill.new.table.items c.index_mut.result.now c.push.new.self (omega (arith, c.requires, c.in_ok-fill.ensures.all)) c.in_ok-fill.ensures.same c.index_mut.ensures.value c.in_ok-push.ensures.ok
