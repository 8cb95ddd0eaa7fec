use Rattle.p10_gen_command.proofs.OneAnswer.{says_one_thing}
use Rattle.p10_gen_command.proofs.laws.one_answer_is_right.Goals as goal

pub returns : goal.returns
returns c = says_one_thing (record { reads = c.one_reading.ensures; derives = c.one_derivation.ensures; judges = c.one_judgement.ensures })
