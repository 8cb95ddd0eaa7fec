use Rattle.p10_words.proofs.OneCommand.{one_command}
use Rattle.p10_words.proofs.laws.lines_are_one_command.Goals as goal

pub returns : goal.returns
returns c = one_command
