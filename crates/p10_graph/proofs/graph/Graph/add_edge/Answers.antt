use Rattle.std.proofs.Common.{set}
use Rattle.p10_graph.proofs.Building.{Adds, adds, adds_nothing, edges_added, with_edge}
use Rattle.p10_graph.proofs.Results.{on_err}
use Rattle.p10_graph.proofs.graph.Graph.add_edge.Goals as goal

unchanged : (c : goal.After-from_residual) → Adds (set c.self.inside.successors.items c.args.from c.push.new.self) c.args.self.now
unchanged c = adds_nothing c.self.inside.successors.items c.args.self.now c.args.from c.index_mut-row.result.now c.push.new.self c.self.view_is c.self.invariant c.requires.from c.index_mut-row.ensures.value c.in_err-push.ensures.items

added : (c : goal.In_ok-push) → Adds (set c.self.inside.successors.items c.args.from c.push.new.self) (with_edge c.args.self.now c.args.from c.args.to)
added c = adds c.self.inside.successors.items c.args.self.now c.args.from c.args.to c.index_mut-row.result.now c.push.new.self c.self.view_is c.self.invariant c.requires.from c.requires.to c.index_mut-row.ensures.value c.in_ok-push.ensures.items

pub invariant_of-self : goal.invariant_of-self
invariant_of-self c = (unchanged c).whole

pub returns-in_err-push-clause-err : goal.returns-in_err-push-clause-err
returns-in_err-push-clause-err c = on_err c.from_residual.result (unchanged c).now

pub invariant_of-self-2 : goal.invariant_of-self-2
invariant_of-self-2 c = (added c).whole

pub returns-clause-ok : goal.returns-clause-ok
returns-clause-ok c = (added c).now

pub returns-clause-edges : goal.returns-clause-edges
returns-clause-edges c = λ u v. edges_added _ c.args.self.now c.args.from c.args.to u v (added c).now c.requires.from
