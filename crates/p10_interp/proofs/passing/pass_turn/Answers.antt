-- The statement is a loop, whose third clause is this one.
use Rattle.std.proofs.Common.{◌∷◌, sym, ap}
use Rattle.p10_core.specs.Views.{plain_statements}
use Rattle.p10_interp.specs.private.Tasks.{test_loop, end_turn}
use Rattle.p10_interp.specs.private.Views.{flow_of, tasks_in}
use Rattle.p10_interp.proofs.Passed.{passed_as}
use Rattle.p10_interp.proofs.Turned.{looped}
use Rattle.p10_interp.proofs.passing.pass_turn.Goals as goal

pub returns-in-Loop : goal.returns-in-Loop
returns-in-Loop c = λ p w f calls e.
    passed_as p (flow_of c.args.flow) _ _ (tasks_in c.args.stacks.now.tasks) c.args.stacks.now.operands (f ∷ calls) w w c.pass_turn_by.result c.pass_turn_by.new.stacks (looped (λ keyword l. end_turn l) c.args.statement.now.at c.args.statement.now.form _ _ _ _ _ c.in-Loop.is)
    (c.pass_turn_by.ensures p w f calls _ (sym (ap plain_statements c.as_slice.ensures)) (looped (λ keyword l. test_loop l) c.args.statement.now.at c.args.statement.now.form _ _ _ _ _ c.in-Loop.is) e)
