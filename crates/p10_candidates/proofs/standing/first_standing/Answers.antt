use Rattle.std.proofs.Common.{sym, ◌∙◌}
use Rattle.p10_cert.specs.Claims.{loop_of}
use Rattle.p10_candidates.specs.Offering.{entry_by}
use Rattle.p10_candidates.specs.Offering.{rounds_by}
use Rattle.p10_candidates.proofs.Trying.{one_stands, one_falls}
use Rattle.p10_candidates.proofs.standing.first_standing.Goals as goal

pub returns-then-branch : goal.returns-then-branch
returns-then-branch c =
    one_stands (rounds_by c.args.rounds.now) (entry_by c.args.l.now) c.args.depth c.args.candidates.now c.loop-candidate.candidate-index c.candidate-item.result (loop_of c.in_ok-claim.claim) _ c.loop-candidate-test.true c.candidate-item.is
    c.in_ok-claim.ensures (sym c.if-branch.true ∙ c.in_ok-stands_alone.ensures) c.loop-candidate.invariant

pub loop-candidate-preserved : goal.loop-candidate-preserved
loop-candidate-preserved c =
    one_falls (rounds_by c.args.rounds.now) (entry_by c.args.l.now) c.args.depth c.args.candidates.now c.loop-candidate.candidate-index c.candidate-item.result (loop_of c.in_ok-claim.claim) _ c.loop-candidate-test.true c.candidate-item.is
    c.in_ok-claim.ensures (sym c.if-branch.false ∙ c.in_ok-stands_alone.ensures) c.loop-candidate.invariant
