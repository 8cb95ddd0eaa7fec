use Rattle.p10_syn.specs.Built.{bare_of}
use Rattle.p10_syn.specs.BuiltStatements.{bare_statement_of}
use Rattle.p10_make.proofs.StatementRows.{label_tree}
use Rattle.p10_make.proofs.statement.label.Goals as goal

pub returns : goal.returns
unfolding bare_of bare_statement_of
returns c = label_tree _ _ _ c.in_ok-boxed.ensures
