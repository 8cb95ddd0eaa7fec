use Rattle.std.proofs.Common.{rules}
use Rattle.p10_world.proofs.Fronts.{front_of_part}
use Rattle.p10_world.proofs.mem_sink.MemSinkSink.put.Goals as goal

pub returns-then-count-bytes-clause-front : goal.returns-then-count-bytes-clause-front
returns-then-count-bytes-clause-front c = front_of_part _ _ _ c.min-count.result (search rules)
