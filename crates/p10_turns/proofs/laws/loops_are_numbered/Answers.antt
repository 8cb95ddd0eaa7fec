use Rattle.p10_turns.proofs.Numbering.{loops_numbered}
use Rattle.p10_turns.proofs.laws.loops_are_numbered.Goals as goal

pub returns : goal.returns
returns c = loops_numbered
