-- When memory is allocated and freed (Holzmann, "The Power of Ten", 2006, rule 3).
use Rattle.std.specs.Prelude.{◌≡◌, ℕ, List, []}
use Rattle.p10_base.specs.declared.span.Span.{Span}
use Rattle.p10_core.specs.Typed.{PlainProgram}
use Rattle.p10_core.specs.WholePrograms.{IsWholeProgram}
use Rattle.p10_flowrules.specs.Allocating.{AllocatesOrFrees, AreLateAllocations}
use Rattle.p10_flowrules.specs.FlowRows.{ViolatesFlow, allocation_row}
use Rattle.p10_meaning.specs.declared.pointers.Scalar.{Scalar}
use Rattle.p10_meaning.specs.declared.world.World.{World}
use Rattle.p10_meaning.specs.States.{State, Progress, gives, ends}
use Rattle.p10_meaning.specs.Calling.{Depth, call_at}
use Rattle.p10_meaning.specs.Runs.{run_of}

-- whatever comes of a piece, no allocation or `free` was counted in it
abbrev pub CountsNothing : {A : Type 0} → State → Progress A → Type 0
CountsNothing from (gives a to) = to.after_mark ≡ from.after_mark
CountsNothing from (ends end to) = to.after_mark ≡ from.after_mark

-- in a call of a function that neither allocates nor frees, itself or by calls, nothing is counted: in every program, at each depth, on all
-- arguments and in every state
abbrev pub CallsWithoutAllocationsCountNothing : Type 0
CallsWithoutAllocationsCountNothing =
    (p : PlainProgram) (function : ℕ) → (AllocatesOrFrees p function → ⊥) → (bound : ℕ) (depth : Depth) (arguments : List Scalar) (w : State) →
    CountsNothing w (call_at bound p depth function arguments w)

-- where no call in `main` after the mark allocates or frees, itself or through functions, a run of the whole program counts no
-- allocation and no `free` after the mark
abbrev pub NothingIsAllocatedLate : Type 0
NothingIsAllocatedLate =
    (p : PlainProgram) → IsWholeProgram p → AreLateAllocations p [] → (world : World) (prefix turn n : ℕ) → (run_of p world prefix turn n).after ≡ 0

-- the same for a whole program in which row 3.1 is violated nowhere
abbrev pub KeptRuleAllocatesNothingLate : Type 0
KeptRuleAllocatesNothingLate =
    (p : PlainProgram) → IsWholeProgram p → ((span : Span) → ViolatesFlow p allocation_row span → ⊥) → (world : World) (prefix turn n : ℕ) → (run_of p world prefix turn n).after ≡ 0
