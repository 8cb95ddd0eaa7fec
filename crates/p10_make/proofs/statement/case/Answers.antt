use Rattle.p10_syn.specs.Built.{bare_of}
use Rattle.p10_syn.specs.BuiltStatements.{bare_statement_of}
use Rattle.p10_make.proofs.StatementRows.{case_tree}
use Rattle.p10_make.proofs.statement.case.Goals as goal

pub returns-in-Ok : goal.returns-in-Ok
unfolding bare_of bare_statement_of
returns-in-Ok c = case_tree c.args.value _ _ c.in-Ok.ensures
