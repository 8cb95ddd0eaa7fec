use Rattle.p10_judge.proofs.Keeping.{pushed_kept}
use Rattle.p10_judge.proofs.reading.push_kept.Goals as goal

pub returns : goal.returns
returns c = pushed_kept c.push.result c.args.lines.now.text.now c.args.kept.now c.push.new.self c.digest.result c.push.ensures.ok c.digest.ensures
