use Rattle.p10_front.proofs.Parsing.{read_over, read_parsed, read_unparsed}
use Rattle.p10_front.proofs.Settling.{program_there, refusal_prints}
use Rattle.p10_front.proofs.reading.read.Goals as goal

pub returns-in-Ok-clause-read : goal.returns-in-Ok-clause-read
returns-in-Ok-clause-read c = read_parsed c.args.sources.now c.in-Ok.expanded c.parse.result c.in-Ok.ensures.expanded c.parse.ensures.parsed

pub returns-in-Ok-clause-fault : goal.returns-in-Ok-clause-fault
returns-in-Ok-clause-fault c = read_unparsed c.args.sources.now c.in-Ok.expanded c.parse.result c.in-Ok.ensures.expanded c.parse.ensures.fault

pub returns-in-Ok-clause-refusal : goal.returns-in-Ok-clause-refusal
returns-in-Ok-clause-refusal c = refusal_prints c.args.sources.now c.parse.result (read_parsed c.args.sources.now c.in-Ok.expanded c.parse.result c.in-Ok.ensures.expanded c.parse.ensures.parsed)

pub returns-in-Ok-clause-program : goal.returns-in-Ok-clause-program
returns-in-Ok-clause-program c = program_there c.args.sources.now c.parse.result (read_parsed c.args.sources.now c.in-Ok.expanded c.parse.result c.in-Ok.ensures.expanded c.parse.ensures.parsed)

pub returns-in-Err-clause-fault : goal.returns-in-Err-clause-fault
returns-in-Err-clause-fault c = read_over c.args.sources.now c.in-Err.fault c.unexpanded.result c.in-Err.ensures.fault c.unexpanded.ensures
