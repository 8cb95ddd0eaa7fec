use Rattle.p10_cert.specs.Claims.{func_of}
use Rattle.std.proofs.Common.{map}
use Rattle.p10_core.specs.Views.{plain_program}
use Rattle.p10_sums.specs.Sums.{sum_at}
use Rattle.p10_sums.proofs.Finishing.{within_answer, passing_answer}
use Rattle.p10_sums.proofs.functions.limited_sum.Goals as goal

pub returns-then-keeps_limit : goal.returns-then-keeps_limit
returns-then-keeps_limit c = within_answer c.sum_at-sum.result (sum_at (plain_program c.args.program.now) (map func_of c.args.functions.now) c.args.number) c.keeps_limit.result c.sum_at-sum.ensures c.keeps_limit.ensures c.if-keeps_limit.true

pub returns-else-keeps_limit : goal.returns-else-keeps_limit
returns-else-keeps_limit c = passing_answer c.sum_at-sum.result (sum_at (plain_program c.args.program.now) (map func_of c.args.functions.now) c.args.number) c.keeps_limit.result c.sum_at-sum.ensures c.keeps_limit.ensures c.if-keeps_limit.false
