use Rattle.std.proofs.Common.{◌∙◌, ap}
use Rattle.std.specs.List.{filter_map}
use Rattle.std.proofs.lemmas.List.{take_all}
use Rattle.p10_calls.specs.private.Numbering.{edge_of}
use Rattle.p10_calls.proofs.Edges.{edge_more, edges_within}
use Rattle.p10_calls.proofs.graph.edges_of.Goals as goal

pub loop-site-preserved : goal.loop-site-preserved
loop-site-preserved c =
    edge_more c.args.sites.now c.args.count c.loop-site.site-index _ c.loop-site.edges.items c.push_edge.new.edges.items c.loop-site-test.true c.loop-site.invariant c.in_ok-push_edge.ensures

pub returns-clause-held : goal.returns-clause-held
returns-clause-held c =
    edges_within c.args.sites.now c.args.count c.loop-site.edges.items (c.loop-site.invariant ∙ ap (filter_map (edge_of c.args.count)) (take_all c.loop-site.site-index c.args.sites.now c.loop-site-test.false))
