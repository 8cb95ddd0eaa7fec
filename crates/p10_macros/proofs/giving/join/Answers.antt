use Rattle.p10_macros.proofs.Uniting.{joined_known}
use Rattle.p10_macros.proofs.giving.join.Goals as goal

pub returns-then-own-known-clause-joined : goal.returns-then-own-known-clause-joined
returns-then-own-known-clause-joined c = λ macro' name' named base joined less. joined_known c.args.origins.now c.args.own c.args.known.own c.args.known.all macro' name' c.if-own-known.true joined

pub returns-clause-joined : goal.returns-clause-joined
returns-clause-joined c = λ macro' name' named base joined less. c.in_ok-all.ensures.joined macro' name' named.from less base
