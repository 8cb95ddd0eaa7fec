use Rattle.std.proofs.Common.{rules}
use Rattle.p10_base.proofs.Gathering.{IfSome-candidate}
use Rattle.p10_base.proofs.sources.Sources.candidate.Goals as goal

pub returns-clause-held : goal.returns-clause-held
returns-clause-held c =
    IfSome-candidate c.args.self.now _ c.self.view_is c.self.invariant c.args.from c.args.name.now c.args.angle c.target.result (search rules)
