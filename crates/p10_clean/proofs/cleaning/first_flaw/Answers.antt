use Rattle.std.proofs.Common.{arith}
use Rattle.p10_clean.proofs.Firsts.{first_end}
use Rattle.p10_clean.proofs.cleaning.first_flaw.Goals as goal

pub returns : goal.returns
returns c = first_end c.args.flaws.now c.loop-rest.rest.now c.loop-rest.first (omega (arith, c.in_default.len_below)) c.loop-rest.invariant
