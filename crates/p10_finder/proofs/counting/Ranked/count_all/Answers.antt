use Rattle.std.proofs.Common.{arith}
use Rattle.p10_cert.specs.Claims.{claims_of}
use Rattle.p10_finder.proofs.Recounted.{counted_all}
use Rattle.p10_finder.proofs.counting.Ranked.count_all.Goals as goal

pub loop-number-init : goal.loop-number-init
loop-number-init c = record { claims = c.requires.claims; below = c.requires.sums }

pub returns : goal.returns
returns c =
    counted_all c.args.self.now c.requires.ranked c.count-end.ensures.whole c.loop-number.number (claims_of c.loop-number.claims).funcs c.loop-number.sums.items (omega (arith, c.loop-number-test.false, c.count-end.ensures.count)) c.loop-number.invariant
