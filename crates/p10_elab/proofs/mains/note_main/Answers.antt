use Rattle.std.proofs.Common.{◌++◌, ◌∙◌, ap}
use Rattle.p10_elab.proofs.mains.note_main.Goals as goal

pub returns : goal.returns
returns c = c.in_ok-push_problem.ensures ∙ ap (λ rs. c.args.mains.now.items ++ rs) c.main_problem.ensures
