use Rattle.std.proofs.Common.{◌∙◌, subst, Option}
use Rattle.p10_core.specs.Walks.{plain_node, left_in, WalksOn}
use Rattle.p10_core.specs.declared.nodes.Node.{Node}
use Rattle.p10_flowrules.specs.declared.calls.AnyCall.{AnyCall}
use Rattle.p10_flowrules.specs.private.MemoryGraphs.{has_memory_number}
use Rattle.p10_flowrules.proofs.LateCalls.{node_more}
use Rattle.p10_flowrules.proofs.late.calls_with_memory.Goals as goal

pub loop-nodes-preserved : goal.loop-nodes-preserved
loop-nodes-preserved c =
    node_more (λ (a : AnyCall). has_memory_number c.args.numbers.now a.called) c.loop-nodes.calls.items c.push_call.new.calls.items (plain_node c.in-Some.node) (left_in c.loop-nodes.nodes) (left_in c.next.new.self)
    (subst (λ (o : Option Node). WalksOn o (left_in c.loop-nodes.nodes) (left_in c.next.new.self)) c.in-Some.is c.in_ok-node.ensures.walks) c.in_ok-push_call.ensures ∙ c.loop-nodes.invariant
