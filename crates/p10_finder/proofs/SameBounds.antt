-- The same loops lack a bound under all claims with the results that are found.
use Rattle.std.proofs.Common.{subst}
use Rattle.std.specs.List.{Contains}
use Rattle.p10_core.specs.Nodes.{nodes_of_statements}
use Rattle.p10_finder.specs.Laws.{SameLoopsLackBounds}
use Rattle.p10_finder.specs.Loops.{LoopsFound}
use Rattle.p10_finder.proofs.Called.{all_called}
use Rattle.p10_finder.proofs.SameValues.{Same}
use Rattle.p10_finder.proofs.SameLoops.{loops_of_same}
use Rattle.p10_finder.proofs.OneResult.{results_same}

pub lacks_same : SameLoopsLackBounds
lacks_same o p c d span first second l = record {
  number = l.number;
  function = l.function;
  there = l.there;
  lacks = subst (λ (found : LoopsFound). Contains found.unbounded span) (loops_of_same o p c d l.number l.function (all_called (Same c d) (results_same o p c d first second) (nodes_of_statements l.function.body))) l.lacks;
}
