use Rattle.std.proofs.Common.{map}
use Rattle.p10_core.specs.Views.{plain_variable}
use Rattle.p10_pass.proofs.Claimed.{lines_put}
use Rattle.p10_pass.proofs.claiming.claimed_ranges.Goals as goal

pub returns : goal.returns
returns c = lines_put c.args.lines.now (map plain_variable c.args.variables.now) c.in_ok-ranges.ranges.items c.put_lines.new.ranges.items c.in_ok-ranges.ensures c.put_lines.ensures
