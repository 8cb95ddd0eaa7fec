use Rattle.std.proofs.Common.{arith}
use Rattle.p10_synrules.proofs.Lines.{over_60}
use Rattle.p10_synrules.proofs.function.is_over_60_lines.Goals as goal

pub returns : goal.returns
returns c =
    over_60 c.args.sources.now c.args.first c.args.last c.text_at-text.result.now c.between.result.now c.line_ends.result (omega arith) c.text_at-text.ensures c.between.ensures c.line_ends.ensures
