use Rattle.p10_syn.specs.Built.{bare_of}
use Rattle.p10_syn.specs.BuiltStatements.{bare_statement_of}
use Rattle.p10_make.proofs.StatementRows.{switch_tree}
use Rattle.p10_make.proofs.statement.switch.Goals as goal

pub returns-in-Ok : goal.returns-in-Ok
unfolding bare_of bare_statement_of
returns-in-Ok c = switch_tree c.args.value _ _ c.in-Ok.ensures
