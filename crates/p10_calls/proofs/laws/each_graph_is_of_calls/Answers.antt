use Rattle.p10_calls.proofs.Existence.{each_graph_is_of_calls}
use Rattle.p10_calls.proofs.laws.each_graph_is_of_calls.Goals as goal

pub returns : goal.returns
returns c = each_graph_is_of_calls
