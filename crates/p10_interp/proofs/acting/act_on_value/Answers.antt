-- What is done with a value.
use Rattle.std.proofs.Common.{◌∷◌}
use Rattle.p10_core.specs.Views.{plain_program, plain_value}
use Rattle.p10_interp.specs.private.Views.{tasks_in}
use Rattle.p10_interp.specs.private.Machines.{state_of}
use Rattle.p10_interp.proofs.Passed.{value_acted}
use Rattle.p10_interp.proofs.acting.act_on_value.Goals as goal

pub returns-in-Evaluate : goal.returns-in-Evaluate
returns-in-Evaluate c = λ io f calls e. value_acted (plain_program c.args.p.now) c.args.step _ (plain_value c.args.value.now) (tasks_in c.args.stacks.now.tasks) c.args.stacks.now.operands (f ∷ calls) (state_of c.args.outside.now io) _ _ _ c.in-Evaluate.is (c.begin_value.ensures io f calls e)

pub returns-in-Discard : goal.returns-in-Discard
returns-in-Discard c = λ io f calls e. value_acted (plain_program c.args.p.now) c.args.step _ (plain_value c.args.value.now) (tasks_in c.args.stacks.now.tasks) c.args.stacks.now.operands (f ∷ calls) (state_of c.args.outside.now io) _ _ _ c.in-Discard.is (c.begin_unused.ensures io f calls e)

pub returns-in-Decide : goal.returns-in-Decide
returns-in-Decide c = λ io f calls e. value_acted (plain_program c.args.p.now) c.args.step _ (plain_value c.args.value.now) (tasks_in c.args.stacks.now.tasks) c.args.stacks.now.operands (f ∷ calls) (state_of c.args.outside.now io) _ _ _ c.in-Decide.is (c.decide.ensures (plain_program c.args.p.now) (state_of c.args.outside.now io) f calls e)

pub returns-in-Choose : goal.returns-in-Choose
returns-in-Choose c = λ io f calls e. value_acted (plain_program c.args.p.now) c.args.step _ (plain_value c.args.value.now) (tasks_in c.args.stacks.now.tasks) c.args.stacks.now.operands (f ∷ calls) (state_of c.args.outside.now io) _ _ _ c.in-Choose.is (c.choose.ensures (plain_program c.args.p.now) (state_of c.args.outside.now io) f calls e)
