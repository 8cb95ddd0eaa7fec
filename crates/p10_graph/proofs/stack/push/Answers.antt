use Rattle.std.proofs.Common.{◌∙◌, ap}
use Rattle.p10_graph.specs.private.Searching.{stack_of}
use Rattle.p10_graph.proofs.Places.{stack_push}
use Rattle.p10_graph.proofs.stack.push.Goals as goal

pub returns : goal.returns
returns c = ap stack_of c.in_ok-push.ensures.items ∙ stack_push c.args.stack.now.items c.args.place
