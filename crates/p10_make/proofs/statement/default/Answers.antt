use Rattle.p10_syn.specs.BuiltStatements.{bare_statement_of}
use Rattle.p10_make.proofs.StatementRows.{default_tree}
use Rattle.p10_make.proofs.statement.default.Goals as goal

pub returns : goal.returns
unfolding bare_statement_of
returns c = default_tree _ _ c.in_ok-boxed.ensures
