use Rattle.p10_run_command.proofs.OneAnswer.{one_saying}
use Rattle.p10_run_command.proofs.laws.one_thing_is_said.Goals as goal

pub returns : goal.returns
returns c =
    one_saying c.one_reading.ensures c.one_judgement.ensures
    (record { values = c.texts_tell_values.ensures; line = c.one_first_other.ensures; other = c.other_is_no_text.ensures })
