use Rattle.std.proofs.Common.{rules, arith}
use Rattle.p10_world.proofs.Fronts.{front_of_part}
use Rattle.p10_world.proofs.Pieces.{rest_of, taken_further}
use Rattle.p10_world.proofs.host_streams.HostSinkSink.put.Goals as goal

pub loop-wrote-preserved : goal.loop-wrote-preserved
loop-wrote-preserved g c = (
  omega (arith, c.in-Ok.ensures.bound),
  c.loop-wrote.invariant.1,
  taken_further _ _ _ c.args.bytes.now c.loop-wrote.wrote c.in-Ok.count c.loop-wrote.invariant.2 (rw rest_of at c.in-Ok.ensures.bytes),
)

pub returns-in-Ok-eq0-clause-front : goal.returns-in-Ok-eq0-clause-front
returns-in-Ok-eq0-clause-front g c = front_of_part _ _ _ c.loop-wrote.wrote (search rules)
