use Rattle.std.proofs.Common.{◌∙◌, rules, FitsSigned}
use Rattle.std.specs.Int.{w128}
use Rattle.p10_range.proofs.Carried.{spreads, back_half}
use Rattle.p10_range.proofs.shifts.halves.Goals as goal

pub returns : goal.returns
returns c =
    let al : FitsSigned w128 c.args.a.lo = search rules in
    let ah : FitsSigned w128 c.args.a.hi = search rules in
    let nl : FitsSigned w128 c.args.n.lo = search rules in
    let nh : FitsSigned w128 c.args.n.hi = search rules in
    c.spread.ensures
    ∙ spreads _ _ _ _ _ _ _ _
    (back_half c.halved.result c.args.a.lo c.args.n.lo (record { sfits = c.halved.type_inv }) al nl c.halved.ensures)
    (back_half c.halved-2.result c.args.a.lo c.args.n.hi (record { sfits = c.halved-2.type_inv }) al nh c.halved-2.ensures)
    (back_half c.halved-3.result c.args.a.hi c.args.n.lo (record { sfits = c.halved-3.type_inv }) ah nl c.halved-3.ensures)
    (back_half c.halved-4.result c.args.a.hi c.args.n.hi (record { sfits = c.halved-4.type_inv }) ah nh c.halved-4.ensures)
