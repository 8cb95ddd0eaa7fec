use Rattle.p10_core.specs.Views.{plain_statements}
use Rattle.p10_turns.specs.LoopParts.{loops_among}
use Rattle.p10_evidence.proofs.LoopSearch.{told_there}
use Rattle.p10_evidence.proofs.seeking.loop_among.Goals as goal

pub returns-in-Found : goal.returns-in-Found
returns-in-Found c = told_there (loops_among (plain_statements c.args.all.now)) c.args.number c.seek_among.result _ c.in-Found.is c.seek_among.ensures

pub returns-in-Passed : goal.returns-in-Passed
returns-in-Passed c = told_there (loops_among (plain_statements c.args.all.now)) c.args.number c.seek_among.result _ c.in-Passed.is c.seek_among.ensures
