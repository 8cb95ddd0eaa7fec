use Rattle.p10_direct.proofs.Outcomes.{behind_hash, read_spells, read_refuses}
use Rattle.p10_direct.proofs.read.directive.Goals as goal

pub returns-clause-read : goal.returns-clause-read
returns-clause-read c = read_spells _ _ _ _ c.requires c.whole.ensures (behind_hash c.args.line.now c.requires) c.read_behind.ensures

pub returns-clause-refused : goal.returns-clause-refused
returns-clause-refused c = read_refuses _ _ _ _ c.requires c.whole.ensures (behind_hash c.args.line.now c.requires) c.read_behind.ensures
