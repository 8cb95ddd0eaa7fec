use Rattle.std.proofs.Common.{arith}
use Rattle.std.proofs.lemmas.Grind.{common_steps}
use Rattle.p10_base.proofs.Gathering.{OnOk-candidate}
use Rattle.p10_base.proofs.sources.Sources.link.Goals as goal

pub returns-clause-linked : goal.returns-clause-linked
returns-clause-linked c =
    OnOk-candidate c.args.self.now (record { files = _; roots = c.self.inside.roots.items }) c.args.from c.args.name.now c.args.angle c.args.to c.push.result
    c.requires.from_held c.requires.unlinked (grind (arith, common_steps))
