use Rattle.p10_flowrules.proofs.Exiting.{late_some, late_none}
use Rattle.p10_flowrules.proofs.main_body.late_items.Goals as goal

pub returns-in-Some : goal.returns-in-Some
returns-in-Some c = late_some c.main_body-items.result.now c.items_past.result.now _ c.args.program.now.mark c.in-Some.mark c.main_body-items.ensures c.in-Some.is c.items_past.ensures

pub returns-in-None : goal.returns-in-None
returns-in-None c = late_none c.main_body-items.result.now _ c.args.program.now.mark c.main_body-items.ensures c.in-None.is
