use Rattle.p10_syn.specs.Built.{bare_of}
use Rattle.p10_syn.specs.BuiltStatements.{bare_statement_of}
use Rattle.p10_make.proofs.StatementRows.{while_tree}
use Rattle.p10_make.proofs.statement.while_loop.Goals as goal

pub returns-in-Ok : goal.returns-in-Ok
unfolding bare_of bare_statement_of
returns-in-Ok c = while_tree c.args.test _ _ c.in-Ok.ensures
