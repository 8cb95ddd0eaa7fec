use Rattle.std.proofs.Common.{◌∙◌}
use Rattle.std.proofs.lemmas.Result.{on_ok_weaker}
use Rattle.p10_pprules.proofs.Edging.{uses_added}
use Rattle.p10_pprules.proofs.recursion.add_uses.Goals as goal

pub returns-in_ok-places-in-Some : goal.returns-in_ok-places-in-Some
returns-in_ok-places-in-Some c =
    on_ok_weaker c.add_edges.result (uses_added _ _ c.in-Some.own c.as_slice.result.now _ _ c.in-Some.ensures.value (c.as_slice.ensures.value ∙ c.in_ok-places-in-Some.ensures.value)) c.add_edges.ensures
