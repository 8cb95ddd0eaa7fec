use Rattle.std.proofs.Common.{refl, map}
use Rattle.p10_core.specs.Views.{plain_function, plain_statement, plain_variable}
use Rattle.p10_cert.specs.Claims.{loop_of}
use Rattle.p10_diff.specs.Differences.{Pair}
use Rattle.p10_diff.specs.Ranked.{rank_by}
use Rattle.p10_diff.proofs.Standing.{pair_is, stands_told}
use Rattle.p10_diff.proofs.ranks.rank_stands.Goals as goal

pub returns : goal.returns
returns c =
    let f = plain_function c.args.function.now in
    let r = rank_by c.args.rank.now in
    let q : Pair = record { variables = map plain_variable c.as_slice-variables.result.now; below = r.below; above = r.above; head = c.in_ok-head.head.values } in
    stands_told f (plain_statement c.args.s.now) c.args.entry.now.values (loop_of c.args.claim.now) r q c.are_named-named.result c.in_ok-enters.enters c.in_ok-turns.turns c.all_hold.result
    (pair_is f (loop_of c.args.claim.now) c.args.entry.now.values r c.args.function.now.vars c.as_slice-variables.result.now c.in_ok-head.head refl c.as_slice-variables.ensures c.in_ok-head.ensures)
    c.are_named-named.ensures c.in_ok-enters.ensures c.in_ok-turns.ensures c.all_hold.ensures
