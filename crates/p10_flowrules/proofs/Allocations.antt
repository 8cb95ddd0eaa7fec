-- What allocates, by calls.
use Rattle.std.proofs.Common.{◌≡◌, ℕ, zero, suc, true, Some, ◌∙◌, ap, ◌⊎◌, inl, inr}
use Rattle.std.specs.Prelude.{slice_get}
use Rattle.p10_core.specs.Typed.{PlainFunction, PlainProgram}
use Rattle.p10_core.specs.Nodes.{nodes_of_statements}
use Rattle.p10_graph.specs.Graphs.{Walk}
use Rattle.p10_graph.proofs.Walks.{reaches_itself, reaches_next, reaches_on}
use Rattle.p10_calls.specs.CallGraphs.{call_graph}
use Rattle.p10_calls.proofs.Lists.{those_are_one}
use Rattle.p10_flowrules.specs.declared.calls.AnyCall.{AnyCall}
use Rattle.p10_flowrules.specs.Allocating.{IsAllocating, has_memory_call, late_calls}
use Rattle.p10_flowrules.specs.Laws.{AllocatesItself, CallsAllocating, AllocatingIsByCalls, LateAllocationsAreOneList}

by_walk : (p : PlainProgram) (u last : ℕ) (f : PlainFunction) → slice_get p.functions last ≡ Some f → has_memory_call (nodes_of_statements f.body) ≡ true → (k : ℕ) → Walk (call_graph p) k u last → AllocatesItself p u ⊎ CallsAllocating p u
by_walk p u last f there itself zero walk = inl (record { function = f; there = ap (λ (n : ℕ). slice_get p.functions n) walk ∙ there; itself = itself })
by_walk p u last f there itself (suc k) walk =
    inr (record { callee = walk.0; edge = walk.1; allocates = record { last = last; function = f; there = there; itself = itself; reached = record { edges = k; walk = walk.2 } } })

pub allocating_is_by_calls : AllocatingIsByCalls
allocating_is_by_calls p u = (
  (λ a. by_walk p u a.last a.function a.there a.itself a.reached.edges a.reached.walk),
  (λ either. elim either [
    | inl own ↦ record { last = u; function = own.function; there = own.there; itself = own.itself; reached = reaches_itself (call_graph p) u }
    | inr call ↦ record {
      last = call.allocates.last;
      function = call.allocates.function;
      there = call.allocates.there;
      itself = call.allocates.itself;
      reached = reaches_on (call_graph p) u call.callee call.allocates.last (reaches_next (call_graph p) u call.callee call.edge) call.allocates.reached;
    }
  ]),
)

pub late_allocations_are_one_list : LateAllocationsAreOneList
late_allocations_are_one_list p these others first second = those_are_one (λ (c : AnyCall). IsAllocating p c.called) (late_calls p) these others first second
