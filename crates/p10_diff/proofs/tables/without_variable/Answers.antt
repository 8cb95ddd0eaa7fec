use Rattle.p10_diff.specs.Domain.{only}
use Rattle.p10_diff.proofs.Tabled.{unmarked_listed}
use Rattle.p10_diff.proofs.tables.without_variable.Goals as goal

pub returns : goal.returns
returns c = unmarked_listed (only c.args.n) c.args.table.now c.in_ok-left.left.items c.in_ok-left.ensures
