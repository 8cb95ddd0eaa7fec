-- The statement is a block.
use Rattle.std.proofs.Common.{sym, ap, ◌∙◌, List}
use Rattle.p10_core.specs.declared.statements.Stmt.{Stmt}
use Rattle.p10_core.specs.Typed.{statement, block}
use Rattle.p10_core.specs.Views.{plain_statement, plain_statements, plain_statement_form}
use Rattle.p10_interp.specs.private.Tasks.{execute_statement}
use Rattle.p10_interp.proofs.Rows.{plain_block}
use Rattle.p10_interp.proofs.Hastened.{block_acts}
use Rattle.p10_interp.proofs.hastening.settle_statement.Goals as goal

pub returns-in-Block-clause-ok : goal.returns-in-Block-clause-ok
returns-in-Block-clause-ok c =
    block_acts c.args.statement.now.at (execute_statement (plain_statement c.args.statement.now)) (plain_statements c.as_slice.result.now) c.args.stacks.now c.settle_block.new.stacks c.settle_block.result
    (ap (λ form. execute_statement (statement c.args.statement.now.at form)) (ap plain_statement_form c.in-Block.is ∙ plain_block c.in-Block.items) ∙ ap (λ (xs : List Stmt). execute_statement (statement c.args.statement.now.at (block (plain_statements xs)))) (sym c.as_slice.ensures))
    c.settle_block.ensures.ok
