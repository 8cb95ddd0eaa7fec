use Rattle.p10_gen_command.specs.private.Deciding.{setting_with}
use Rattle.p10_gen_command.proofs.Gathering.{gathered_right, ungathered_right}
use Rattle.p10_gen_command.proofs.decide.answer_of_text.Goals as goal

pub returns-in-All : goal.returns-in-All
returns-in-All c = gathered_right (setting_with c.args.text.items) c.in_ok-sources.field-0 c.in-All.sources _ c.in-All.is c.in_ok-sources.ensures c.answer_of_sources.ensures

pub returns : goal.returns
returns c = ungathered_right (setting_with c.args.text.items) c.in_ok-sources.field-0 c.in-Stopped.field-1 c.in-Stopped.why c.answer_by.result c.in-Stopped.is c.in_ok-sources.ensures c.answer_by.ensures
