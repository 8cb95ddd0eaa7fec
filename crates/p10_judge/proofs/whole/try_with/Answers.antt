use Rattle.p10_core.specs.Views.{plain_program}
use Rattle.p10_judge.proofs.Claimed.{tried}
use Rattle.p10_judge.proofs.whole.try_with.Goals as goal

pub returns : goal.returns
returns g c = tried _ (plain_program c.args.program.now) c.args.certificate c.in_ok-verdict.verdict c.weighed_by.result c.in_ok-verdict.ensures c.weighed_by.ensures
