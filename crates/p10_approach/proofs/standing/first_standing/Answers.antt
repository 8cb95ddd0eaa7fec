use Rattle.std.proofs.Common.{true, None, sym, ◌∙◌}
use Rattle.p10_core.specs.Views.{plain_function, plain_statement}
use Rattle.p10_cert.specs.Claims.{loop_of}
use Rattle.p10_turns.specs.LoopParts.{parts_of}
use Rattle.p10_diff.specs.Ranked.{rank_by}
use Rattle.p10_candidates.specs.Offering.{entry_by}
use Rattle.p10_approach.specs.Approaching.{site_by}
use Rattle.p10_approach.proofs.Trying.{standing_by, one_stands, one_falls}
use Rattle.p10_approach.proofs.standing.first_standing.Goals as goal

pub returns-then-branch-clause-is : goal.returns-then-branch-clause-is
returns-then-branch-clause-is c =
    one_stands (plain_function c.args.function.now) (parts_of (plain_statement c.args.s.now)) (site_by c.args.site) (entry_by c.args.l.now) c.args.offered.now c.loop-a.a-index _ (loop_of c.in_ok-claim.claim) (rank_by c.rank_of-rank.result) _
    c.loop-a-test.true c.in_ok-claim.ensures c.rank_of-rank.ensures (sym c.if-branch.true ∙ c.in_ok-rank_stands.ensures) c.loop-a.invariant

pub loop-a-preserved : goal.loop-a-preserved
loop-a-preserved c =
    one_falls (plain_function c.args.function.now) (parts_of (plain_statement c.args.s.now)) (site_by c.args.site) (entry_by c.args.l.now) c.args.offered.now c.loop-a.a-index _ (loop_of c.in_ok-claim.claim) (rank_by c.rank_of-rank.result) _
    c.loop-a-test.true c.in_ok-claim.ensures c.rank_of-rank.ensures (sym c.if-branch.false ∙ c.in_ok-rank_stands.ensures) c.loop-a.invariant

pub returns-then-branch-clause-stands : goal.returns-then-branch-clause-stands
returns-then-branch-clause-stands c =
    sym (standing_by (plain_function c.args.function.now) (parts_of (plain_statement c.args.s.now)) (site_by c.args.site) (entry_by c.args.l.now) c.args.offered.now c.loop-a.a-index _ (loop_of c.in_ok-claim.claim) (rank_by c.rank_of-rank.result) None
    c.rank_of-rank.ensures true (sym c.if-branch.true ∙ c.in_ok-rank_stands.ensures))
