use Rattle.p10_front.proofs.Hashed.{digests_are, given_are, each_of_program, each_of_none}
use Rattle.p10_front.proofs.hashing.digests.Goals as goal

pub returns-in-Some-clause-right : goal.returns-in-Some-clause-right
returns-in-Some-clause-right c =
    given_are c.args.reading.now c.as_slice-roots.result.now c.units_of.result.now c.in_ok-found.found c.as_slice-roots.ensures c.units_of.ensures c.in_ok-found.ensures.funcs c.in_ok-found.ensures.outside c.one_each.result
    c.one_each.ensures.same

pub returns-in-Some-clause-each : goal.returns-in-Some-clause-each
returns-in-Some-clause-each c = each_of_program c.args.reading.now.program c.in-Some.program c.one_each.result c.in-Some.is c.one_each.ensures.each

pub returns-in-None-clause-right : goal.returns-in-None-clause-right
returns-in-None-clause-right c =
    digests_are c.args.reading.now c.as_slice-roots.result.now c.units_of.result.now c.in_ok-found.found c.as_slice-roots.ensures c.units_of.ensures c.in_ok-found.ensures.funcs c.in_ok-found.ensures.outside

pub returns-in-None-clause-each : goal.returns-in-None-clause-each
returns-in-None-clause-each c = each_of_none c.args.reading.now.program c.in_ok-found.found c.in-None.is
