-- The sums of smaller numbers are counted.
use Rattle.p10_cert.specs.Claims.{claims_of}
use Rattle.p10_finder.specs.private.Counting.{IsCounting}
use Rattle.p10_finder.proofs.counting.Ranked.count_all.Given as goal

abbrev pub invariant-loop-number : goal.invariant-loop-number
invariant-loop-number l = IsCounting l.self l.number (claims_of l.claims).funcs l.sums.items
