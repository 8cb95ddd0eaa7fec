use Rattle.std.proofs.Common.{◌∙◌, ap, map}
use Rattle.p10_core.specs.Views.{plain_program}
use Rattle.p10_calls.specs.declared.sites.CallSite.{CallSite}
use Rattle.p10_calls.proofs.Recursing.{graph_of_program, found_are, none_descend, ranked_ordered, nothing_found, something_found}
use Rattle.p10_calls.proofs.ordering.ordered.Goals as goal

pub ranks_along-requires-clause-descends : goal.ranks_along-requires-clause-descends
ranks_along-requires-clause-descends c =
    none_descend (plain_program c.args.program.now) c.in_ok-graph.graph c.in_ok-numbers.numbers.items c.as_slice-4.result.now c.as_slice-then-is_empty.result.now c.as_slice-3.result.now c.in_ok-recursive.recursive.items
    (graph_of_program c.args.program.now c.in_ok-sites.sites.items c.as_slice.result.now c.as_slice-2.result.now c.in_ok-graph.graph c.in_ok-sites.ensures c.as_slice.ensures.value c.as_slice-2.ensures c.in_ok-graph.ensures)
    c.in_ok-numbers.ensures c.as_slice-4.ensures.value (c.as_slice-3.ensures.value ∙ c.in_ok-sites.ensures) c.in_ok-recursive.ensures
    (nothing_found c.in_ok-recursive.recursive.items _ c.in_ok-recursive.recursive.ok.0 c.if-is_empty.ensures) c.as_slice-then-is_empty.ensures.value

pub returns-then-is_empty : goal.returns-then-is_empty
returns-then-is_empty c =
    let is = graph_of_program c.args.program.now c.in_ok-sites.sites.items c.as_slice.result.now c.as_slice-2.result.now c.in_ok-graph.graph c.in_ok-sites.ensures c.as_slice.ensures.value c.as_slice-2.ensures c.in_ok-graph.ensures in
    ranked_ordered (plain_program c.args.program.now) c.in_ok-graph.graph c.in_ok-ranks.ranks.items c.of.result c.in_ok-recursive.recursive.items is c.in_ok-ranks.ensures c.of.ensures
    (found_are (plain_program c.args.program.now) c.in_ok-graph.graph c.in_ok-numbers.numbers.items c.as_slice-4.result.now c.as_slice-3.result.now c.in_ok-recursive.recursive.items is
    c.in_ok-numbers.ensures c.as_slice-4.ensures.value (c.as_slice-3.ensures.value ∙ c.in_ok-sites.ensures) c.in_ok-recursive.ensures)
    (nothing_found c.in_ok-recursive.recursive.items _ c.in_ok-recursive.recursive.ok.0 c.if-is_empty.ensures)

pub returns : goal.returns
returns c = (
  c.in_ok-recursive.recursive.items,
  found_are (plain_program c.args.program.now) c.in_ok-graph.graph c.in_ok-numbers.numbers.items c.as_slice-4.result.now c.as_slice-3.result.now c.in_ok-recursive.recursive.items
      (graph_of_program c.args.program.now c.in_ok-sites.sites.items c.as_slice.result.now c.as_slice-2.result.now c.in_ok-graph.graph c.in_ok-sites.ensures c.as_slice.ensures.value c.as_slice-2.ensures c.in_ok-graph.ensures)
      c.in_ok-numbers.ensures c.as_slice-4.ensures.value (c.as_slice-3.ensures.value ∙ c.in_ok-sites.ensures) c.in_ok-recursive.ensures,
  something_found c.in_ok-recursive.recursive.items _ c.in_ok-recursive.recursive.ok.0 c.if-is_empty.ensures,
  c.of-else-is_empty.ensures ∙ c.in_ok-names.ensures ∙ ap (map (λ (s : CallSite). s.call.name)) c.as_slice-else-is_empty.ensures.value,
)
