use Rattle.std.proofs.Common.{arith}
use Rattle.p10_macros.proofs.Putting.{puts_one}
use Rattle.p10_macros.proofs.replacement.put_word.Goals as goal

pub returns-clause-ok : goal.returns-clause-ok
returns-clause-ok c = puts_one _ _ c.args.word _ _ c.in_ok-push.ensures (omega arith)
