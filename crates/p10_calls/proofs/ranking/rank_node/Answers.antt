use Rattle.p10_calls.proofs.Numbered.{ranked_next}
use Rattle.p10_calls.proofs.ranking.rank_node.Goals as goal

pub returns-then-numbers-node : goal.returns-then-numbers-node
returns-then-numbers-node c =
    ranked_next c.args.graph.now c.args.numbers.now c.args.ranks.now.items c.as_slice.result.now c.successors.result.now c.args.node c.args.number c.rank_above-rank.result c.as_slice.ensures.value
    c.successors.ensures.list c.if-numbers-node.true c.requires.descends c.requires.there c.rank_above-rank.ensures c.requires.ranked
