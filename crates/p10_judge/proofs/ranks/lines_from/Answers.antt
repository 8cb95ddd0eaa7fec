use Rattle.std.proofs.Common.{arith}
use Rattle.p10_judge.proofs.Ranked.{from_place}
use Rattle.p10_judge.proofs.ranks.lines_from.Goals as goal

pub loop-rest-init : goal.loop-rest-init
loop-rest-init c =
    let from = from_place c.args.sections.now c.args.place in
    record { so_far = omega (arith, from); few = omega (arith, from, c.requires.few) }
