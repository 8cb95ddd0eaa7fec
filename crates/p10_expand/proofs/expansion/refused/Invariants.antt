use Rattle.std.proofs.Common.{◌≡◌, [], ◌++◌, replicate}
use Rattle.p10_expand.specs.private.Steps.{lists_in}
use Rattle.p10_expand.proofs.expansion.refused.Given as goal

abbrev pub invariant-loop : goal.invariant-loop
invariant-loop l = lists_in l.all ≡ lists_in l.fn.roots ++ replicate l.counter []
