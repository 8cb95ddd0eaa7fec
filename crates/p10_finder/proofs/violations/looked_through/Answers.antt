use Rattle.std.proofs.Common.{List, map, ◌++◌, ◌∙◌, ap}
use Rattle.p10_core.specs.Views.{plain_function, plain_program}
use Rattle.p10_cert.specs.Claims.{claims_of}
use Rattle.p10_diff.specs.Ranked.{rank_by}
use Rattle.p10_approach.specs.Offers.{offers_if}
use Rattle.p10_finder.specs.Loops.{LoopsFound}
use Rattle.p10_finder.specs.Ranking.{ranks_by, ranks_from}
use Rattle.p10_finder.specs.private.Judging.{lacking_from}
use Rattle.p10_finder.proofs.Judging.{lacking_more}
use Rattle.p10_finder.proofs.RanksFound.{ranks_more}
use Rattle.p10_finder.proofs.violations.looked_through.Goals as goal

pub loop-n-preserved : goal.loop-n-preserved
loop-n-preserved c =
    let o = offers_if c.args.approaching in
    let p = plain_program c.args.program.now in
    let claims = claims_of c.args.claims.now in
    let functions = c.as_slice-functions.result.now in
    let spans = c.loop-n.spans.items in
    let ranks = map rank_by c.loop-n.ranks.items in
    record {
      spans = lacking_more o p claims functions c.loop-n.n c.index-functions-n.result spans c.put_lacking.new.spans.items (lacking_from o p claims 0 (map plain_function functions)) c.loop-n-test.true c.index-functions-n.is
          (c.in_ok-put_lacking.ensures ∙ ap (λ (l : LoopsFound). spans ++ l.unbounded) c.in_ok-found.ensures) c.loop-n.invariant.spans;
      ranks = ranks_more o p claims functions c.loop-n.n c.index-functions-n.result ranks (map rank_by c.put_ranks.new.ranks.items) (ranks_from o p claims 0 (map plain_function functions)) c.loop-n-test.true c.index-functions-n.is
          (c.in_ok-put_ranks.ensures ∙ ap (λ (l : LoopsFound). ranks ++ ranks_by c.loop-n.n 0 l.approaches) c.in_ok-found.ensures) c.loop-n.invariant.ranks;
    }
