-- The body is a block, or it becomes work.
use Rattle.std.proofs.Common.{◌≡◌, ◌∷◌, List, sym, ap, subst, ◌∙◌}
use Rattle.p10_core.specs.declared.statements.Stmt.{Stmt}
use Rattle.p10_core.specs.Typed.{statement, block}
use Rattle.p10_core.specs.Views.{plain_program, plain_statement, plain_statements, plain_statement_form}
use Rattle.p10_interp.specs.private.Tasks.{execute_statement, end_turn}
use Rattle.p10_interp.specs.private.Views.{tasks_in}
use Rattle.p10_interp.specs.private.OpenCalls.{calls_in}
use Rattle.p10_interp.specs.private.Machines.{state_of}
use Rattle.p10_interp.specs.private.Executing.{with_held}
use Rattle.p10_interp.specs.private.Turning.{Goes, rig_at, left_by, block_by}
use Rattle.p10_interp.proofs.Rows.{plain_block}
use Rattle.p10_interp.proofs.Hastened.{stays}
use Rattle.p10_interp.proofs.TakenTurns.{turns_left}
use Rattle.p10_interp.proofs.turns_at_once.take_turn.Goals as goal

pub returns-in_ok-leave_turn-in-Block-clause-ok : goal.returns-in_ok-leave_turn-in-Block-clause-ok
returns-in_ok-leave_turn-in-Block-clause-ok c = λ io f calls l is third body tests ends e.
    let same : plain_statement c.args.parts.2.now ≡ statement c.args.parts.2.now.at (block (plain_statements c.as_slice.result.now)) =
    ap (λ form. statement c.args.parts.2.now.at form) (ap plain_statement_form c.in-Block.is ∙ plain_block c.in-Block.items) ∙
    ap (λ (xs : List Stmt). statement c.args.parts.2.now.at (block (plain_statements xs))) (sym c.as_slice.ensures) in
    let taken = c.take_turns-stopped.ensures c.args.parts.2.now.at io f calls l is third (body ∙ same) e in
    turns_left (plain_program c.args.p.now) l (left_by c.take_turns-stopped.result l) (block_by c.take_turns-stopped.result) c.args.stacks.now c.leave_turn.new.stacks f calls (calls_in c.take_turns-stopped.new.calls) (state_of c.args.outside.now io) (state_of c.take_turns-stopped.new.outside io) e taken
    (c.in_ok-leave_turn-in-Block.ensures.ok (with_held f taken.held) calls l tests ends taken.now)

pub returns-in_ok-leave_body-in_default-clause-ok : goal.returns-in_ok-leave_body-in_default-clause-ok
returns-in_ok-leave_body-in_default-clause-ok c = λ io f calls l is third body tests ends e.
    subst (λ r. Goes (plain_program c.args.p.now) (rig_at (execute_statement l.body ∷ (end_turn l ∷ tasks_in c.args.stacks.now.tasks)) c.args.stacks.now.operands (calls_in c.args.stacks.now.calls)) (state_of c.args.outside.now io) r (state_of c.args.outside.now io)) (sym (c.in_ok-leave_body-in_default.ensures.ok l body ends))
    (stays (plain_program c.args.p.now) (rig_at (execute_statement l.body ∷ (end_turn l ∷ tasks_in c.args.stacks.now.tasks)) c.args.stacks.now.operands (calls_in c.args.stacks.now.calls)) (state_of c.args.outside.now io))
