use Rattle.std.proofs.Common.{ℕ, ◌+◌, ◌∙◌, map, ap, sym, subst}
use Rattle.std.proofs.lemmas.List.{length-map}
use Rattle.std.proofs.lemmas.Result.{IfOk-weaker}
use Rattle.p10_core.specs.Views.{plain_function, plain_program}
use Rattle.p10_graph.specs.Graphs.{IsGraph}
use Rattle.p10_flowrules.proofs.MemoryWalks.{tells_allocating}
use Rattle.p10_flowrules.proofs.memory.memory_numbers.Goals as goal

pub returns : goal.returns
returns c = IfOk-weaker c.components.result _ _ (λ numbers is.
    tells_allocating (plain_program c.args.program.now) c.in_ok-calls.calls c.in_ok-graph.graph (map plain_function c.as_slice.result.now) c.as_slice-2.result.now c.count-memory.ensures.whole
    (c.in_ok-calls.ensures.count ∙ sym (length-map c.args.program.now.functions plain_function)) c.in_ok-calls.ensures.edges (ap (map plain_function) c.as_slice.ensures)
    (c.in_ok-graph.ensures.count ∙ ap (λ (n : ℕ). n + 1) c.count-memory.ensures.count) (c.as_slice-2.ensures.value ∙ c.in_ok-edges.ensures.value)
    c.in_ok-graph.ensures.edges (subst IsGraph c.graph.view_is c.graph.invariant) numbers.items is) c.components.ensures
