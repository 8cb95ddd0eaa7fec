use Rattle.std.proofs.Common.{◌||◌, drop}
use Rattle.p10_core.specs.Views.{plain_statements}
use Rattle.p10_core.specs.WholePrograms.{AllOf, is_variable_declaration, is_expression}
use Rattle.p10_whole.proofs.clauses.are_openings.Given as goal

abbrev pub invariant-loop-s : goal.invariant-loop-s
invariant-loop-s l = AllOf (λ s. is_variable_declaration s || is_expression s) (plain_statements (drop l.s-index l.all)) → AllOf (λ s. is_variable_declaration s || is_expression s) (plain_statements l.all)
