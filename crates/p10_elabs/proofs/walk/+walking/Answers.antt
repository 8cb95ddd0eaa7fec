use Rattle.std.proofs.Common.{◌∙◌, ap, sym, map}
use Rattle.p10_syn.specs.Trees.{statement_row}
use Rattle.p10_syn.specs.BuiltStatements.{optional_expression, statement_of}
use Rattle.p10_elabs.specs.Addresses.{walked}
use Rattle.p10_elabs.specs.private.Walking.{plain_walk}
use Rattle.p10_heads.proofs.ListRows.{cut_list}
use Rattle.p10_elabs.proofs.Walking.{step_statements, left_block, walked_block, for_is, walked_for}
use Rattle.p10_elabs.proofs.walk.+walking.Goals as goal

pub walk_all-loop-s-preserved : goal.walk_all-loop-s-preserved
walk_all-loop-s-preserved t c =
    sym (step_statements c.loop-s.s-index c.args.all.now c.s-item.result _ _ (cut_list c.args.all.now c.loop-s.s-index c.s-item.result c.loop-s-test.true c.s-item.is) c.in_ok-walk_statement.ensures)
    ∙ c.loop-s.invariant

pub walk_block-returns : goal.walk_block-returns
walk_block-returns t c =
    left_block (plain_walk c.args.walk.now) (plain_walk c.walk_all.new.walk) (plain_walk c.leave.new.self) c.count-count.result (statement_row (map statement_of c.args.all.now)) c.count-count.ensures c.in_ok-walk_all.ensures c.leave.ensures

pub walk_statement-returns-in_ok-walk_block-in-Block : goal.walk_statement-returns-in_ok-walk_block-in-Block
walk_statement-returns-in_ok-walk_block-in-Block t c =
    walked_block (plain_walk c.args.walk.now) (plain_walk c.walk_block.new.walk) c.args.s.now c.in-Block.field-0 c.in-Block.all c.deref.result.now c.in-Block.is c.deref.ensures.value c.in_ok-walk_block-in-Block.ensures

pub walk_statement-returns-in_ok-walk_statement-in-For-2 : goal.walk_statement-returns-in_ok-walk_statement-in-For-2
walk_statement-returns-in_ok-walk_statement-in-For-2 t c =
    walked_for (plain_walk c.args.walk.now) (plain_walk c.walk_statement-in-For.new.walk) (plain_walk c.take_optional.new.self) (plain_walk c.take_optional-in-For.new.self) (plain_walk c.walk_statement-in-For-2.new.walk) (plain_walk c.leave.new.self)
    c.count-count.result c.in-For.field-0 c.in-For.field-1 (statement_of c.in-For.start.value) (statement_of c.in-For.s.value) (optional_expression c.in-For.test) (optional_expression c.in-For.step)
    c.count-count.ensures (c.in_ok-walk_statement-in-For.ensures ∙ ap (λ x. walked (plain_walk c.args.walk.now) (statement_of x)) c.deref-in-For.ensures)
    c.in_ok-take_optional-in-For.ensures c.in_ok-take_optional-in-For-2.ensures
    (c.in_ok-walk_statement-in-For-2.ensures ∙ ap (λ x. walked (plain_walk c.take_optional-in-For.new.self) (statement_of x)) c.deref-in-For-2.ensures) c.leave.ensures
    ∙ ap (walked (plain_walk c.args.walk.now)) (sym (ap statement_of c.in-For.is ∙ for_is c.in-For.field-0 c.in-For.field-1 c.in-For.start c.in-For.test c.in-For.step c.in-For.s))
