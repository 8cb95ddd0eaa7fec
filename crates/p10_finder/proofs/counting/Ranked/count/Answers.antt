use Rattle.std.proofs.Common.{arith}
use Rattle.std.proofs.lemmas.Result.{on_ok_weaker}
use Rattle.p10_cert.specs.Claims.{claims_of}
use Rattle.p10_finder.proofs.Recounted.{counting_more, counting_past}
use Rattle.p10_finder.proofs.counting.Ranked.count.Goals as goal

pub count_twice-requires-clause-there : goal.count_twice-requires-clause-there
count_twice-requires-clause-there c = omega (arith, c.requires.there, c.requires.ranked.calls.nodes)

pub count_twice-requires-clause-claims : goal.count_twice-requires-clause-claims
count_twice-requires-clause-claims c = c.requires.counting.claims

pub returns-then-self-node : goal.returns-then-self-node
returns-then-self-node c =
    on_ok_weaker c.count_twice.result
    (counting_more c.args.self.now c.requires.ranked c.requires.graph c.args.node c.args.number c.requires.lone (claims_of c.args.claims.now).funcs (claims_of c.count_twice.new.claims).funcs c.args.sums.now.items c.count_twice.new.sums.items
    c.requires.there c.if-self-node.true c.requires.counting)
    c.count_twice.ensures

pub returns-else-self-node : goal.returns-else-self-node
returns-else-self-node c =
    counting_past c.args.self.now c.requires.ranked c.requires.graph c.args.node c.args.number c.requires.lone (claims_of c.args.claims.now).funcs c.args.sums.now.items c.if-self-node.false c.requires.counting
