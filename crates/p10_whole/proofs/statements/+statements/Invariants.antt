use Rattle.std.proofs.Common.{ℕ, List, drop}
use Rattle.p10_core.specs.Views.{plain_statements}
use Rattle.p10_whole.specs.private.Regions.{PassesStatements}
use Rattle.p10_whole.proofs.statements.+statements.Given as goal

abbrev pub invariant-are_whole_statements-loop-s : goal.invariant-are_whole_statements-loop-s
invariant-are_whole_statements-loop-s l =
    (z : List ℕ) → PassesStatements l.context l.scope.items (plain_statements (drop l.s-index l.all)) z → PassesStatements l.context l.fn.scope.items (plain_statements l.all) z
