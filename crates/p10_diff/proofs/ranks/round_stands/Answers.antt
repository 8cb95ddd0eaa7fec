use Rattle.std.proofs.Common.{◌∙◌, ap, map}
use Rattle.std.specs.Option.{option_map}
use Rattle.std.proofs.lemmas.Result.{IfOk-weaker}
use Rattle.p10_core.specs.Views.{plain_statement}
use Rattle.p10_cert.specs.Claims.{loop_of}
use Rattle.p10_walk.specs.Leaving.{round_by}
use Rattle.p10_diff.specs.Evidence.{at_head}
use Rattle.p10_diff.specs.Knowing.{pair_by, differences_of}
use Rattle.p10_diff.specs.Ranked.{fact_by, rank_by}
use Rattle.p10_diff.proofs.Standing.{round_told, no_round}
use Rattle.p10_diff.proofs.ranks.round_stands.Goals as goal

pub returns-in-Some : goal.returns-in-Some
returns-in-Some c =
    let start = c.in_ok-start.ensures ∙ ap (λ xs. at_head (pair_by c.args.p.now) (map fact_by xs)) c.as_slice.ensures.value in
    IfOk-weaker _ _ _ (λ b is. round_told (pair_by c.args.p.now) (loop_of c.args.claim.now) (rank_by c.args.rank.now) (plain_statement c.args.s.now) (differences_of c.in_ok-start.start) (option_map (round_by differences_of) c.in_ok-round.field-0) (round_by differences_of c.in-Some.round) b
    start c.in_ok-round.ensures (ap (option_map (round_by differences_of)) c.in-Some.is) is) c.turns_so.ensures

pub returns-in-None : goal.returns-in-None
returns-in-None c =
    let start = c.in_ok-start.ensures ∙ ap (λ xs. at_head (pair_by c.args.p.now) (map fact_by xs)) c.as_slice.ensures.value in
    no_round (pair_by c.args.p.now) (loop_of c.args.claim.now) (rank_by c.args.rank.now) (plain_statement c.args.s.now) (differences_of c.in_ok-start.start) (option_map (round_by differences_of) c.in_ok-round.field-0)
    start c.in_ok-round.ensures (ap (option_map (round_by differences_of)) c.in-None.is)
