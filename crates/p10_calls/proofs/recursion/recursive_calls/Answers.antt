use Rattle.std.proofs.Common.{◌∙◌}
use Rattle.std.proofs.lemmas.Result.{IfOk-weaker}
use Rattle.p10_core.specs.Views.{plain_program}
use Rattle.p10_calls.proofs.Recursing.{graph_of_program, found_are}
use Rattle.p10_calls.proofs.recursion.recursive_calls.Goals as goal

pub returns : goal.returns
returns c =
    IfOk-weaker c.within_components.result _ _ (λ calls e. found_are (plain_program c.args.program.now) c.in_ok-graph.graph c.in_ok-numbers.numbers.items c.as_slice-4.result.now c.as_slice-3.result.now calls.items
    (graph_of_program c.args.program.now c.in_ok-sites.sites.items c.as_slice.result.now c.as_slice-2.result.now c.in_ok-graph.graph c.in_ok-sites.ensures c.as_slice.ensures.value c.as_slice-2.ensures c.in_ok-graph.ensures)
    c.in_ok-numbers.ensures c.as_slice-4.ensures.value (c.as_slice-3.ensures.value ∙ c.in_ok-sites.ensures) e) c.within_components.ensures
