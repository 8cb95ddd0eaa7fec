use Rattle.std.proofs.Common.{drop}
use Rattle.p10_core.specs.Views.{plain_statements}
use Rattle.p10_core.specs.WholePrograms.{AllOf, is_expression}
use Rattle.p10_whole.proofs.clauses.are_expressions.Given as goal

abbrev pub invariant-loop-s : goal.invariant-loop-s
invariant-loop-s l = AllOf is_expression (plain_statements (drop l.s-index l.all)) → AllOf is_expression (plain_statements l.all)
