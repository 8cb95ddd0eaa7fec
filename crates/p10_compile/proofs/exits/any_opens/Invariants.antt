-- None of the statements so far opens an object.
use Rattle.std.proofs.Common.{◌≡◌, map, drop}
use Rattle.p10_core.specs.Views.{plain_variable, plain_statements}
use Rattle.p10_code.specs.StatementCode.{any_opens}
use Rattle.p10_compile.proofs.exits.any_opens.Given as goal

abbrev pub invariant-loop-s : goal.invariant-loop-s
invariant-loop-s l = any_opens (map plain_variable l.variables) (plain_statements (drop l.s-index l.statements)) ≡ any_opens (map plain_variable l.variables) (plain_statements l.statements)
