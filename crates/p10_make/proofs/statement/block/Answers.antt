use Rattle.std.proofs.Common.{rules}
use Rattle.p10_syn.specs.declared.statement.Stmt.TheViews.{the_lemmas}
use Rattle.p10_syn.specs.BuiltStatements.{bare_statement_of}
use Rattle.p10_make.proofs.StatementRows.{statements_items}
use Rattle.p10_make.proofs.statement.block.Goals as goal

pub returns : goal.returns
unfolding bare_statement_of
returns c = search (rules, the_lemmas, statements_items)
