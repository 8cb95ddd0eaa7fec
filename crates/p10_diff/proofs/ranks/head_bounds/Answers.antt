use Rattle.std.proofs.Common.{map}
use Rattle.p10_diff.specs.Knowing.{pair_by}
use Rattle.p10_diff.specs.Ranked.{fact_by}
use Rattle.p10_diff.proofs.Standing.{head_told}
use Rattle.p10_diff.proofs.ranks.head_bounds.Goals as goal

pub returns : goal.returns
returns c =
    head_told (pair_by c.args.p.now) (map fact_by c.args.facts.now) c.new-bounds.result.items c.learn_facts.new.bounds.items c.learn_still.new.bounds.items c.learn_still-2.new.bounds.items
    c.new-bounds.ensures.items c.in_ok-learn_facts.ensures c.in_ok-learn_still.ensures c.in_ok-learn_still-2.ensures
