use Rattle.p10_syn.specs.Built.{bare_of}
use Rattle.p10_syn.specs.BuiltStatements.{bare_statement_of}
use Rattle.p10_make.proofs.StatementRows.{for_tree}
use Rattle.p10_make.proofs.statement.for_loop.Goals as goal

pub returns-in-Ok : goal.returns-in-Ok
unfolding bare_of bare_statement_of
returns-in-Ok c = for_tree _ _ c.args.test c.args.step _ _ c.in-Ok.ensures.first c.in-Ok.ensures.second
