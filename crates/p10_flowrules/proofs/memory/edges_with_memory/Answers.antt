use Rattle.std.proofs.Common.{◌∙◌, map}
use Rattle.std.proofs.lemmas.List.{length-map}
use Rattle.p10_core.specs.Views.{plain_function}
use Rattle.p10_flowrules.proofs.MemoryEdges.{edges_are, edges_low}
use Rattle.p10_flowrules.proofs.memory.edges_with_memory.Goals as goal

pub returns-clause-held : goal.returns-clause-held
returns-clause-held c =
    edges_low c.args.calls.now (map plain_function c.args.functions.now) c.count-memory.ensures.whole (length-map c.args.functions.now plain_function ∙ c.requires) c.push_back.new.edges.items
    (edges_are c.args.calls.now (map plain_function c.args.functions.now) c.count-memory.result c.new-edges.result.items c.push_calls.new.edges.items c.push_memory.new.edges.items c.push_back.new.edges.items
    c.count-memory.ensures.count c.new-edges.ensures.items c.in_ok-push_calls.ensures c.in_ok-push_memory.ensures c.in_ok-push_back.ensures)
