use Rattle.std.proofs.lemmas.Result.{IfOk-weaker}
use Rattle.p10_core.specs.Views.{plain_program}
use Rattle.p10_calls.proofs.Edges.{same_edges}
use Rattle.p10_calls.proofs.Recursing.{graph_of_program}
use Rattle.p10_calls.proofs.graph.call_graph.Goals as goal

pub returns-clause-edges : goal.returns-clause-edges
returns-clause-edges c =
    IfOk-weaker c.graph_of.result _ _ (λ g is. same_edges (plain_program c.args.program.now) g
    (graph_of_program c.args.program.now c.in_ok-sites.sites.items c.as_slice.result.now c.as_slice-2.result.now g c.in_ok-sites.ensures c.as_slice.ensures.value c.as_slice-2.ensures is)) c.graph_of.ensures
