-- `continue` goes on as the end of a body.
use Rattle.std.proofs.Common.{◌∷◌}
use Rattle.p10_interp.specs.private.Tasks.{end_turn}
use Rattle.p10_interp.specs.private.Views.{tasks_in}
use Rattle.p10_interp.proofs.Passed.{passed_by}
use Rattle.p10_interp.proofs.passing.pass_turn_by.Goals as goal

pub returns-in-Continued : goal.returns-in-Continued
returns-in-Continued c = λ p w f calls l d g e.
    passed_by p c.args.flow _ (end_turn l) (tasks_in c.args.stacks.now.tasks) c.args.stacks.now.operands (f ∷ calls) w w c.normally.result c.end_by.new.stacks c.in-Continued.is (c.normally.ensures c.end_by.new.stacks _ _ (c.end_by.ensures p w f calls l d g e))
