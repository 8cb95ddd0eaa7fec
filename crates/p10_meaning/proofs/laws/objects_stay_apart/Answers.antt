use Rattle.p10_meaning.proofs.StayApart.{closes_one, opens_one, writes_one}
use Rattle.p10_meaning.proofs.laws.objects_stay_apart.Goals as goal

pub returns-clause-writes : goal.returns-clause-writes
returns-clause-writes c = writes_one

pub returns-clause-closing : goal.returns-clause-closing
returns-clause-closing c = closes_one

pub returns-clause-opening : goal.returns-clause-opening
returns-clause-opening c = opens_one
