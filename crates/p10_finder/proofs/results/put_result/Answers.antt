use Rattle.std.proofs.Common.{◌∙◌, map, ap}
use Rattle.std.specs.Prelude.{slice_set}
use Rattle.std.proofs.lemmas.List.{map-set}
use Rattle.p10_cert.specs.Claims.{func_of}
use Rattle.p10_finder.proofs.results.put_result.Goals as goal

pub returns : goal.returns
returns c =
    let before = c.args.claims.now in
    let funcs =
    ap (map func_of) c.exchange.ensures.put ∙ (map-set func_of before.funcs c.args.node c.in_ok-claim.claim ∙ ap (slice_set (map func_of before.funcs) c.args.node) c.in_ok-claim.ensures) in
    λ i. record { funcs = funcs i; total = before.total }
