-- The rows of Holzmann's rules 1, 2 and 3 on calls and the task loop ("The Power of Ten", 2006).
use Rattle.std.specs.Prelude.{◌≡◌}
use Rattle.std.specs.List.{Contains}
use Rattle.p10_base.specs.declared.at.At.{At}
use Rattle.p10_base.specs.declared.span.Span.{Span}
use Rattle.p10_base.specs.declared.report.Sub.{Sub}
use Rattle.p10_core.specs.Typed.{PlainProgram}
use Rattle.p10_calls.specs.declared.sites.CallSite.{CallSite}
use Rattle.p10_calls.specs.CallSites.{call_sites}
use Rattle.p10_calls.specs.Recursion.{IsRecursiveCall}
use Rattle.p10_flowrules.specs.declared.calls.AnyCall.{AnyCall}
use Rattle.p10_flowrules.specs.TaskExits.{task_exits}
use Rattle.p10_flowrules.specs.Allocating.{IsAllocating, late_calls}

-- 1.3: a call whose function reaches the one in which it stands, at the name in the call
pub record RecursesAt (p : PlainProgram) (span : Span) : Type 0 where
  pub call : CallSite
  pub stands : Contains (call_sites p) call
  pub recursive : IsRecursiveCall p call
  pub span_is : span ≡ call.call.name

-- 2.2: a `break` that leaves the task loop, or a `return` in it, at the statement
pub record LeavesTaskAt (p : PlainProgram) (span : Span) : Type 0 where
  pub at : At
  pub leaves : Contains (task_exits p) at
  pub span_is : span ≡ at.span

-- 3.1: a call in `main` after the mark that is or reaches an allocation or `free`, at the whole call
pub record AllocatesLateAt (p : PlainProgram) (span : Span) : Type 0 where
  pub call : AnyCall
  pub late : Contains (late_calls p) call
  pub allocating : IsAllocating p call.called
  pub span_is : span ≡ call.at.span

-- 1.3
abbrev pub recursion_row : Sub
recursion_row = record { rule = 1; sub = 3 }

-- 2.2
abbrev pub task_row : Sub
task_row = record { rule = 2; sub = 2 }

-- 3.1
abbrev pub allocation_row : Sub
allocation_row = record { rule = 3; sub = 1 }

-- one of these rows of the rules is violated at a place by a program
pub data ViolatesFlow (p : PlainProgram) : Sub → Span → Type 0 where
  recursion : (span : Span) → RecursesAt p span → ViolatesFlow p recursion_row span
  task_end : (span : Span) → LeavesTaskAt p span → ViolatesFlow p task_row span
  late_allocation : (span : Span) → AllocatesLateAt p span → ViolatesFlow p allocation_row span
