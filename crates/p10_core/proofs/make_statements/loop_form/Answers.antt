use Rattle.std.proofs.Common.{rules}
use Rattle.p10_core.specs.declared.statements.StmtForm.TheViews.{the_lemmas}
use Rattle.p10_core.proofs.StatementRows.{statements_row-items}
use Rattle.p10_core.proofs.make_statements.loop_form.Goals as goal

pub returns : goal.returns
returns c = search (rules, the_lemmas, statements_row-items)
