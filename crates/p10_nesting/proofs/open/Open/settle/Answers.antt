use Rattle.std.proofs.Common.{◌∙◌, ap}
use Rattle.p10_nesting.specs.private.Counts.{settled_counts}
use Rattle.p10_nesting.proofs.Counting.{settles}
use Rattle.p10_nesting.proofs.open.Open.settle.Goals as goal

pub returns : goal.returns
returns c =
    let view = c.self.view_is in
    settles c.args.role c.args.inside c.args.goes_on c.args.self.now _ (ap (λ t. t.outer) view)
    (c.settled-self-inside.ensures ∙ ap (λ t. settled_counts c.args.role c.args.inside c.args.goes_on t.inner) view)
