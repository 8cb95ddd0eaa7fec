use Rattle.p10_range.specs.Ranges.{interval_of}
use Rattle.p10_absx.proofs.Entries.{set_map}
use Rattle.p10_pass.proofs.claiming.put_range.Goals as goal

pub returns-then-n-len : goal.returns-then-n-len
returns-then-n-len c = set_map interval_of c.args.ranges.now.items c.args.line.var c.args.line.range
