use Rattle.p10_fit.proofs.Counting.{told_by_count}
use Rattle.p10_fit.proofs.scope.Scope.has.Goals as goal

pub returns : goal.returns
returns c = told_by_count c.args.self.now.counts.items c.args.self.now.numbers.items c.args.number c.index.result.now c.args.self.now.counted c.requires c.index.ensures
