use Rattle.p10_front.proofs.Parsing.{parsed_spelled, parsed_unexpanded, parsed_without, unparsed_spelled, unparsed_without, without_is_whole}
use Rattle.p10_front.proofs.reading.parse.Goals as goal

pub returns-in-Some-clause-parsed : goal.returns-in-Some-clause-parsed
returns-in-Some-clause-parsed c = parsed_unexpanded c.args.expanded c.in-Some.refusal c.refused.result c.in-Some.is c.refused.ensures

pub returns-in-Ok-clause-parsed : goal.returns-in-Ok-clause-parsed
returns-in-Ok-clause-parsed c = parsed_spelled c.args.expanded c.as_slice.result.now c.in_default.is c.as_slice.ensures c.in-Ok.all.items c.of.result c.in-Ok.ensures.within c.in-Ok.ensures.found c.of.ensures c.typed.result c.typed.ensures.typed

pub returns-in-Ok-clause-fault : goal.returns-in-Ok-clause-fault
returns-in-Ok-clause-fault c = unparsed_spelled c.args.expanded c.as_slice.result.now c.in_default.is c.as_slice.ensures c.in-Ok.all.items c.of.result c.in-Ok.ensures.within c.in-Ok.ensures.found c.of.ensures c.typed.result c.typed.ensures.fault

pub returns-in-Err-clause-parsed : goal.returns-in-Err-clause-parsed
returns-in-Err-clause-parsed c = parsed_without c.args.expanded c.as_slice.result.now c.in_default.is c.as_slice.ensures c.in-Err.fault c.without_trees.result c.in-Err.ensures.fault c.without_trees.ensures

pub returns-in-Err-clause-fault : goal.returns-in-Err-clause-fault
returns-in-Err-clause-fault c = unparsed_without c.args.expanded c.as_slice.result.now c.in_default.is c.as_slice.ensures c.in-Err.fault c.without_trees.result c.in-Err.ensures.fault c.without_trees.ensures

pub returns-in-Err-clause-whole : goal.returns-in-Err-clause-whole
returns-in-Err-clause-whole c = without_is_whole c.args.expanded c.in-Err.fault c.without_trees.result c.without_trees.ensures
