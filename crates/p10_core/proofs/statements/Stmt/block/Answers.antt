use Rattle.std.proofs.Common.{◌∙◌, ap}
use Rattle.p10_core.specs.Typed.{statement, block}
use Rattle.p10_core.specs.Views.{plain_statements}
use Rattle.p10_core.proofs.StatementRows.{plain_block}
use Rattle.p10_core.proofs.statements.Stmt.block.Goals as goal

pub returns : goal.returns
returns c = ap (statement c.args.at) (plain_block c.of.result ∙ ap (λ all. block (plain_statements all)) c.of.ensures)
