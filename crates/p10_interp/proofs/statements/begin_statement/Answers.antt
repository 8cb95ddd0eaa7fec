-- Each form of statement begins with its own parts.
use Rattle.std.proofs.Common.{◌∙◌, ap}
use Rattle.p10_core.specs.Views.{plain_program, plain_statement_form}
use Rattle.p10_interp.proofs.Rows.{plain_block}
use Rattle.p10_interp.proofs.Begun.{executed_by, moves_by, if_executed, switch_executed, loop_executed, first_are, block_are, normal_in}
use Rattle.p10_interp.proofs.statements.begin_statement.Goals as goal

pub returns-in-Set : goal.returns-in-Set
returns-in-Set c = λ io f calls e. executed_by (plain_program c.args.p.now) c.args.statement.now.at _ _ _ _ _ _ _ _ _ _ (ap plain_statement_form c.in-Set.is) (c.normally.ensures _ _ _ (c.begin_set.ensures io f calls e))

pub returns-in-Update : goal.returns-in-Update
returns-in-Update c = λ io f calls e. executed_by (plain_program c.args.p.now) c.args.statement.now.at _ _ _ _ _ _ _ _ _ _ (ap plain_statement_form c.in-Update.is) (c.normally-in-Update.ensures _ _ _ (c.begin_update.ensures io f calls e))

pub returns-in-Copy : goal.returns-in-Copy
returns-in-Copy c = λ io f calls e. executed_by (plain_program c.args.p.now) c.args.statement.now.at _ _ _ _ _ _ _ _ _ _ (ap plain_statement_form c.in-Copy.is) (c.normally-in-Copy.ensures _ _ _ (c.begin_copy.ensures io f calls e))

pub returns-in-Declare : goal.returns-in-Declare
returns-in-Declare c = λ io f calls e. executed_by (plain_program c.args.p.now) c.args.statement.now.at _ _ _ _ _ _ _ _ _ _ (ap plain_statement_form c.in-Declare.is) (c.normally-in-Declare.ensures _ _ _ (c.begin_declare.ensures io f calls e))

pub returns-in-Block : goal.returns-in-Block
returns-in-Block c = λ io f calls e.
    executed_by (plain_program c.args.p.now) c.args.statement.now.at _ _ _ _ _ _ _ _ _ _ (ap plain_statement_form c.in-Block.is ∙ plain_block _) (c.normally-in-Block.ensures _ _ _ (block_are _ _ _ _ _ _ _ _ _ c.as_slice.ensures (c.begin_block.ensures f calls _ e)))

pub returns-in-If : goal.returns-in-If
returns-in-If c = λ io f calls e. moves_by _ _ _ _ _ (if_executed (plain_program c.args.p.now) c.args.statement.now.at _ _ _ _ _ _ _ _ _ c.in-If.is) (c.normally-in-If.ensures _ _ _ (c.evaluate_before-in-If.ensures io f calls e))

pub returns-in-Loop : goal.returns-in-Loop
returns-in-Loop c = λ io f calls e.
    moves_by _ _ _ _ _ (loop_executed (plain_program c.args.p.now) c.args.statement.now.at _ _ _ _ _ _ _ _ _ _ _ c.in-Loop.is) (c.normally-in-Loop.ensures _ _ _ (first_are _ _ _ _ _ _ _ _ _ c.as_slice-in-Loop.ensures (c.begin_loop.ensures io f calls e)))

pub returns-in-Switch : goal.returns-in-Switch
returns-in-Switch c = λ io f calls e. moves_by _ _ _ _ _ (switch_executed (plain_program c.args.p.now) c.args.statement.now.at _ _ _ _ _ _ _ _ _ _ c.in-Switch.is) (c.normally-in-Switch.ensures _ _ _ (c.evaluate_before-in-Switch.ensures io f calls e))

pub returns-in-Empty : goal.returns-in-Empty
returns-in-Empty c = λ io f calls e. executed_by (plain_program c.args.p.now) c.args.statement.now.at _ _ _ _ _ _ _ _ _ _ (ap plain_statement_form c.in-Empty.is) (normal_in _ _ _ _ _ _ _ _ e (c.go_back-in-Empty.ensures io c.args.stacks.now))
