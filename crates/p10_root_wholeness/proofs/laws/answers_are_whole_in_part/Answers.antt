use Rattle.p10_root_wholeness.proofs.Limits.{answers_are_whole_in_part}
use Rattle.p10_root_wholeness.proofs.laws.answers_are_whole_in_part.Goals as goal

pub returns : goal.returns
returns c = answers_are_whole_in_part
