-- What the statements so far need, and what is left needs.
use Rattle.std.proofs.Common.{◌≡◌, max, drop}
use Rattle.p10_core.specs.Views.{plain_statements}
use Rattle.p10_code.specs.StatementCode.{statements_need}
use Rattle.p10_compile.proofs.needs.+needs.Given as goal

abbrev pub invariant-statements_need-loop-s : goal.invariant-statements_need-loop-s
invariant-statements_need-loop-s l = max l.most (statements_need (plain_statements (drop l.s-index l.statements))) ≡ statements_need (plain_statements l.statements)
