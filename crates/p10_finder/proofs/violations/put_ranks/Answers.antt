use Rattle.std.proofs.Common.{map, ◌++◌}
use Rattle.std.specs.Option.{option_map}
use Rattle.p10_diff.specs.Ranked.{rank_by}
use Rattle.p10_candidates.specs.Offering.{approach_by}
use Rattle.p10_finder.specs.Ranking.{ranks_by}
use Rattle.p10_finder.proofs.RanksFound.{loop_ranks_more}
use Rattle.p10_finder.proofs.violations.put_ranks.Goals as goal

pub loop-k-preserved : goal.loop-k-preserved
loop-k-preserved c =
    let approaches = c.as_slice-approaches.result.now in
    loop_ranks_more c.args.number approaches c.loop-k.k _ (map rank_by c.loop-k.ranks.items) (map rank_by c.put_rank.new.ranks.items) (map rank_by c.args.ranks.now.items ++ ranks_by c.args.number 0 (map (option_map approach_by) approaches))
    c.loop-k-test.true c.in_ok-put_rank.ensures c.loop-k.invariant
