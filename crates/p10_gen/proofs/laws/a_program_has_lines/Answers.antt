use Rattle.p10_gen.proofs.Lines.{lines}
use Rattle.p10_gen.proofs.laws.a_program_has_lines.Goals as goal

pub returns : goal.returns
returns c = lines
