-- The conditions on ranks, on `main` and on allocation: K2, K4, K13 and K14.
use Rattle.std.specs.Prelude.{ℕ, nat_eq, nat_lt, nat_le, Bool, true, false, not, ◌&&◌, ◌||◌, if◌then◌else◌, List, [], ◌∷◌, ◌++◌, map, Option, Some, None, slice_get}
use Rattle.std.specs.List.{filter}
use Rattle.p10_base.specs.declared.span.Span.{Span}
use Rattle.p10_base.specs.declared.report.Bounds.{Bounds}
use Rattle.p10_core.specs.declared.statements.LoopHead.{LoopHead}
use Rattle.p10_core.specs.Typed.{PlainStatement, statement, loop, PlainFunction, PlainProgram}
use Rattle.p10_core.specs.WholePrograms.{main_items, task_item}
use Rattle.p10_cert.specs.Claims.{Func, Claims}
use Rattle.p10_absx.specs.Entering.{claims_on}
use Rattle.p10_calls.specs.declared.sites.CallSite.{CallSite}
use Rattle.p10_calls.specs.CallSites.{call_sites}
use Rattle.p10_flowrules.specs.declared.calls.AnyCall.{AnyCall}
use Rattle.p10_flowrules.specs.TaskExits.{task_exits}
use Rattle.p10_sums.specs.Counting.{steps_claimed, calls_claimed, bytes_claimed, alloc_claimed, turns_claimed, loops_claimed}
use Rattle.p10_sums.specs.Depths.{effect_of}
use Rattle.p10_check.specs.Places.{place_if, all_places, name_at}

-- ## K2: each callee's rank is below its caller's

-- the rank that is claimed of a function; 0 where nothing is claimed
abbrev pub rank_claimed : Option Func → ℕ
rank_claimed None = 0
rank_claimed (Some f) = f.rank

-- whether the callee of a call has a lower rank than the caller
abbrev pub goes_down : List Func → CallSite → Bool
goes_down functions s = nat_lt (rank_claimed (slice_get functions s.call.function)) (rank_claimed (slice_get functions s.caller))

-- the names of the calls whose callees don't have a lower rank
abbrev pub rising_calls : PlainProgram → List Func → List Span
rising_calls p functions = map (λ s. s.call.name) (filter (λ s. not (goes_down functions s)) (call_sites p))

-- ## K4: `main` has no parameters, and nothing leaves the task loop

-- whether a list has an element
abbrev pub has_some : {A : Type 0} → List A → Bool
has_some [] = false
has_some (x ∷ rest) = true

-- whether `main` has claims on parameters, or the task loop can be left
abbrev pub is_main_wrong : PlainProgram → List Func → Bool
is_main_wrong p functions = has_some (claims_on (slice_get functions p.main)) || has_some (task_exits p)

-- `main`, where this is so
abbrev pub wrong_main : PlainProgram → List Func → List Span
wrong_main p functions = place_if (is_main_wrong p functions) (name_at p p.main)

-- ## K13: what may allocate or free memory is claimed to, and `main` calls nothing that does after initialisation

-- whether the function with a number may allocate or free memory, and isn't claimed to
abbrev pub has_hidden_effect : List Func → ℕ → PlainFunction → Bool
has_hidden_effect functions n f = effect_of functions f && not (alloc_claimed (slice_get functions n))

-- the names of the calls in `main` after its mark that allocate or free memory, of which a list is given
abbrev pub late_names : PlainProgram → List AnyCall → ℕ → List Span
late_names p late n = if nat_eq n p.main then map (λ c. c.name) late else []

-- the functions with such an effect, and these calls
abbrev pub hidden_effects : PlainProgram → List Func → List AnyCall → List Span
hidden_effects p functions late = all_places p (λ n f. place_if (has_hidden_effect functions n f) f.span ++ late_names p late n)

-- ## K14: the total is at least what is claimed of `main` and of a turn of the task loop

-- what a loop begins with, if a statement is one
abbrev pub head_in : Option PlainStatement → Option LoopHead
head_in (Some (statement at (loop head first test third body))) = Some head
head_in s = None

-- what the loop begins with that stands at a place among items
abbrev pub head_at : List PlainStatement → Option ℕ → Option LoopHead
head_at items task = head_in (task_item task items)

-- what the task loop begins with, if the function with a number has it
abbrev pub task_head : PlainProgram → ℕ → PlainFunction → Option LoopHead
task_head p n f = if nat_eq n p.main then head_at (main_items f) p.task else None

-- the steps that are claimed of a turn of a task loop; 0 without one
abbrev pub turn_claimed : List Func → ℕ → Option LoopHead → ℕ
turn_claimed functions n None = 0
turn_claimed functions n (Some head) = turns_claimed (slice_get (loops_claimed (slice_get functions n)) head.number)

-- the steps that are claimed of a turn of the program's task loop
abbrev pub main_turn : PlainProgram → List Func → Option PlainFunction → ℕ
main_turn p functions None = 0
main_turn p functions (Some f) = turn_claimed functions p.main (task_head p p.main f)

-- whether the total is at least what is claimed of `main`, and of a turn
abbrev pub bounds_main : Bounds → Option Func → ℕ → Bool
bounds_main total claim turn =
    (nat_le (steps_claimed claim) total.prefix && nat_le turn total.turn) && (nat_le (calls_claimed claim) total.calls && nat_le (bytes_claimed claim) total.bytes)

-- `main`, where the total is less
abbrev pub low_total : PlainProgram → Claims → List Span
low_total p c = place_if (not (bounds_main c.total (slice_get c.funcs p.main) (main_turn p c.funcs (slice_get p.functions p.main)))) (name_at p p.main)
