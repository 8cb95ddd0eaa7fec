use Rattle.std.proofs.Common.{arith}
use Rattle.std.proofs.lemmas.Bool.{false≢true}
use Rattle.p10_graph.proofs.Cycles.{on_no_cycle}
use Rattle.p10_graph.proofs.cycle.is_on_cycle.Goals as goal

pub returns : goal.returns
returns c = (
  (λ on. absurd (false≢true on)),
  (λ on. absurd (on_no_cycle c.args.graph.now c.args.numbers.now c.successors-next-items.result.now c.args.node c.loop-next.next-index c.requires.numbers
      c.successors-next-items.ensures.list c.successors-next-items.ensures.held (omega arith) c.loop-next.invariant on)),
)
