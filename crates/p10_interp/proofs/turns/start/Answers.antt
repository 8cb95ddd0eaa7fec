-- `while` and `for` begin with the test.
use Rattle.std.proofs.Common.{◌∷◌}
use Rattle.p10_core.specs.declared.statements.LoopKeyword.TheVariants.{While, For}
use Rattle.p10_core.specs.Views.{plain_program}
use Rattle.p10_meaning.specs.Statements.{normal}
use Rattle.p10_interp.specs.private.Views.{tasks_in}
use Rattle.p10_interp.specs.private.Machines.{state_of, rig_of}
use Rattle.p10_interp.proofs.Turned.{started}
use Rattle.p10_interp.proofs.turns.start.Goals as goal

pub returns-in-While : goal.returns-in-While
returns-in-While c = λ io f calls e.
    started While (plain_program c.args.p.now) c.args.statement.now.at c.args.statement.now.form _ _ _ _ _ (tasks_in c.args.stacks.now.tasks) c.args.stacks.now.operands (f ∷ calls) (state_of c.args.outside.now io) (state_of c.test.new.outside io) c.test.result (rig_of normal c.test.new.stacks) c.in-Loop.is c.in-While.is (λ h. h) (c.test.ensures io f calls e)

pub returns-in-For : goal.returns-in-For
returns-in-For c = λ io f calls e.
    started For (plain_program c.args.p.now) c.args.statement.now.at c.args.statement.now.form _ _ _ _ _ (tasks_in c.args.stacks.now.tasks) c.args.stacks.now.operands (f ∷ calls) (state_of c.args.outside.now io) (state_of c.test-in-For.new.outside io) c.test-in-For.result (rig_of normal c.test-in-For.new.stacks) c.in-Loop.is c.in-For.is (λ h. h) (c.test-in-For.ensures io f calls e)
