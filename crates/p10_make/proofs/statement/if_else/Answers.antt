use Rattle.p10_syn.specs.Built.{bare_of}
use Rattle.p10_syn.specs.BuiltStatements.{bare_statement_of}
use Rattle.p10_make.proofs.StatementRows.{if_else_tree}
use Rattle.p10_make.proofs.statement.if_else.Goals as goal

pub returns-in-Ok : goal.returns-in-Ok
unfolding bare_of bare_statement_of
returns-in-Ok c = if_else_tree c.args.test _ _ _ _ c.in-Ok.ensures.first c.in-Ok.ensures.second
