-- Blocks and loops have statements in lists.
use Rattle.std.proofs.Common.{rules}
use Rattle.p10_core.specs.declared.statements.StmtForm.TheViews.{the_lemmas}
use Rattle.p10_core.proofs.StatementRows.{statements_row-items}
use Rattle.p10_compile.proofs.Forms.{block_need}
use Rattle.p10_compile.proofs.needs.+needs.Goals as goal

pub need-returns-in-Block : goal.need-returns-in-Block
need-returns-in-Block t c =
    block_need c.args.s.now.form c.in-Block.items c.as_slice.result.now c.statements_need.result c.in-Block.is c.as_slice.ensures c.statements_need.ensures

pub need-returns-in_ok-need-in-Loop : goal.need-returns-in_ok-need-in-Loop
need-returns-in_ok-need-in-Loop t c = search (rules, the_lemmas, statements_row-items)
