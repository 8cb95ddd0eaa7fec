use Rattle.p10_elabs.proofs.CaseSteps.{switched_is}
use Rattle.p10_elabs.proofs.switches.nothing_switched.Goals as goal

pub returns : goal.returns
returns c = λ l. switched_is _ _ _ _ (c.no_items.ensures l) (c.no_labels.ensures l)
