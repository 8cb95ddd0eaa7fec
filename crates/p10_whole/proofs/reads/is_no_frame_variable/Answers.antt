use Rattle.std.proofs.Common.{sym, ◌∙◌, ap, option_map, option_copied}
use Rattle.p10_core.specs.Views.{plain_variable}
use Rattle.p10_whole.proofs.Reading.{frame_some, frame_absent}
use Rattle.p10_whole.proofs.reads.is_no_frame_variable.Goals as goal

pub returns-in-Some : goal.returns-in-Some
returns-in-Some c =
    frame_some c.args.around.now c.args.number (plain_variable c.in-Some.variable.now) (sym (ap (λ r. option_map plain_variable (option_copied r)) c.in-Some.is) ∙ c.variable_at.ensures)

pub returns-in-None : goal.returns-in-None
returns-in-None c = frame_absent c.args.around.now c.args.number (sym (ap (λ r. option_map plain_variable (option_copied r)) c.in-None.is) ∙ c.variable_at.ensures)
