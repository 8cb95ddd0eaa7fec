-- Small programs, by computation.
use Rattle.std.proofs.Common.{◌≡◌, false, List, [], ◌∷◌, refl, subst, filter, Contains}
use Rattle.p10_core.specs.declared.typed.Library.TheVariants.{Malloc}
use Rattle.p10_core.specs.Typed.{PlainProgram}
use Rattle.p10_core.specs.Sizes.{layout_of}
use Rattle.p10_int.specs.Operators.{fitted}
use Rattle.p10_int.specs.Conversion.{reduced}
use Rattle.p10_graph.proofs.Walks.{reaches_itself}
use Rattle.p10_calls.specs.CallGraphs.{call_graph}
use Rattle.p10_calls.proofs.Lists.{none_in, here}
use Rattle.p10_flowrules.specs.declared.calls.AnyCall.{AnyCall}
use Rattle.p10_flowrules.specs.declared.calls.Called.{Called}
use Rattle.p10_flowrules.specs.declared.calls.Called.TheVariants.{Function, Library}
use Rattle.p10_flowrules.specs.Allocating.{late_calls, AreLateAllocations}
use Rattle.p10_meaning.specs.Examples.{span, tree}
use Rattle.p10_meaning.specs.Turns.{allocating}
use Rattle.p10_allocation.specs.Samples.{allocating_early, allocator, allocating_by_calls, marking_elsewhere, SmallProgramsAllocate}
use Rattle.p10_allocation.proofs.Quiet.{free_by_list}
use Rattle.p10_allocation.proofs.WholeSamples.{early_is_whole}

-- where no calls are late, none of them allocates
none_late : (p : PlainProgram) → late_calls p ≡ [] → AreLateAllocations p []
none_late p e = record { test = λ c. false; exact = λ c stands. absurd (none_in c (subst (λ l. Contains l c) e stands)); are = nothing (late_calls p) }
  where
    nothing : (l : List AnyCall) → [] ≡ filter (λ c. false) l
    nothing [] = refl
    nothing (c ∷ l) = nothing l

-- a call of something at place 0
abbrev call_of : Called → AnyCall
call_of called = record { at = tree 0; name = span 0; called = called }

pub small_programs_allocate : SmallProgramsAllocate
unfolding fitted reduced layout_of
small_programs_allocate = record {
  early_is_whole = early_is_whole;
  early = record { last = 0; function = _; there = refl; itself = refl; reached = reaches_itself (call_graph allocating_early) 0 };
  early_is_free = none_late allocating_early refl;
  early_run = refl;
  late = λ none. free_by_list allocating none (call_of (Library Malloc)) (here (call_of (Library Malloc)) []) refl;
  late_run = refl;
  by_calls = λ none. free_by_list allocating_by_calls none (call_of (Function 0)) (here (call_of (Function 0)) [])
      (record { last = 0; function = allocator; there = refl; itself = refl; reached = reaches_itself (call_graph allocating_by_calls) 0 });
  by_calls_run = refl;
  elsewhere = none_late marking_elsewhere refl;
  elsewhere_run = refl;
}
