use Rattle.p10_judge.proofs.Ranked.{section_found, section_inside, section_absent}
use Rattle.p10_judge.proofs.ranks.ranks_among.Goals as goal

pub ranks_there-requires-clause-section : goal.ranks_there-requires-clause-section
ranks_there-requires-clause-section c = section_found c.args.bytes.now c.args.sections.now c.in-Some.place c.place_of_diff.result c.requires c.place_of_diff.ensures c.in-Some.is

pub ranks_there-requires-clause-place : goal.ranks_there-requires-clause-place
ranks_there-requires-clause-place c = section_inside _ c.in-Some.place c.place_of_diff.result c.place_of_diff.ensures c.in-Some.is

pub returns-in-None : goal.returns-in-None
returns-in-None c = section_absent c.args.bytes.now c.args.sections.now c.place_of_diff.result c.requires c.place_of_diff.ensures c.in-None.is
