use Rattle.p10_derive_command.proofs.OneAnswer.{says_one_thing}
use Rattle.p10_derive_command.proofs.laws.one_answer_is_right.Goals as goal

pub returns : goal.returns
returns c = says_one_thing c.one_reading.ensures c.one_derivation.ensures
