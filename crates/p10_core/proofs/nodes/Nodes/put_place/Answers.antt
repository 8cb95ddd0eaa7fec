use Rattle.std.proofs.Common.{◌∙◌, ap}
use Rattle.p10_core.specs.declared.nodes.Node.TheVariants.{Place}
use Rattle.p10_core.specs.Walks.{nodes_ahead}
use Rattle.p10_core.proofs.Walking.{ahead_last}
use Rattle.p10_core.proofs.nodes.Nodes.put_place.Goals as goal

pub returns : goal.returns
returns c = ap nodes_ahead c.in_ok-push_one.ensures ∙ ahead_last c.args.self.now.ahead.items (Place c.args.place)
