-- What functions cost, and whether they may allocate, is the same where claims are the same but for loops.
use Rattle.std.proofs.Common.{◌≡◌, ℕ, ◌+◌, ◌||◌, List, [], ◌∷◌, map, Option, Some, None, refl, sym, ap, ◌∙◌, take}
use Rattle.std.specs.Prelude.{max, slice_get}
use Rattle.p10_core.specs.declared.uses.FunctionUse.{FunctionUse}
use Rattle.p10_core.specs.Typed.{PlainValue, statements_list, statements_of_list, PlainFunction, PlainProgram}
use Rattle.p10_core.specs.Nodes.{PlainNode, nodes_of_statements}
use Rattle.p10_core.specs.Uses.{function_used}
use Rattle.p10_core.specs.WholePrograms.{frame_bytes}
use Rattle.p10_cert.specs.Claims.{Loop, Func}
use Rattle.p10_meaning.specs.Runs.{Task, task_in}
use Rattle.p10_sums.specs.Counting.{calls_claimed, bytes_claimed, loops_claimed, task_of}
use Rattle.p10_sums.specs.Costs.{cost_of, task_test_cost, task_cost, turn_cost}
use Rattle.p10_sums.specs.Depths.{callees, greatest_number, depth_of, node_manages_memory, callee_manages_memory, have_effect, effect_of}
use Rattle.p10_sums.specs.Sums.{sum_under, function_sum}
use Rattle.p10_loopless.specs.Loopless.{AgreeOn, all_without_loops}
use Rattle.p10_loopless.proofs.Faces.{AreAlike, same_calls, same_bytes, same_alloc}
use Rattle.p10_loopless.proofs.Costs.{Twin, first_of, second_of, same_value, same_statement, same_statements}

-- ---- steps

same_cost : (t : Twin) (task : Option ℕ) (f : PlainFunction) → cost_of (first_of t) task f ≡ cost_of (second_of t) task f
same_cost t None f = λ i. 1 + same_statements t f.body i
same_cost t (Some n) f = λ i. 1 + (same_statements t (statements_of_list (take n (statements_list f.body))) i + 1)

same_task_test : (t : Twin) (v : Option PlainValue) → task_test_cost (first_of t) v ≡ task_test_cost (second_of t) v
same_task_test t None = refl
same_task_test t (Some v) = same_value t v

same_task : (t : Twin) (task : Option Task) → task_cost (first_of t) task ≡ task_cost (second_of t) task
same_task t None = refl
same_task t (Some task) = λ i. same_task_test t task.tested i + same_statement t task.body i

same_turn : (t : Twin) (task : Option ℕ) (f : PlainFunction) → turn_cost (first_of t) task f ≡ turn_cost (second_of t) task f
same_turn t None f = refl
same_turn t (Some n) f = same_task t (task_in (slice_get (statements_list f.body) n))

-- ---- depths

same_greatest_calls : (these others : List Func) → AreAlike these others → (called : List ℕ)
    → greatest_number (map (λ g. calls_claimed (slice_get these g)) called) ≡ greatest_number (map (λ g. calls_claimed (slice_get others g)) called)
same_greatest_calls these others alike [] = refl
same_greatest_calls these others alike (g ∷ called) = λ i. max (same_calls these others g alike i) (same_greatest_calls these others alike called i)

same_greatest_bytes : (these others : List Func) → AreAlike these others → (called : List ℕ)
    → greatest_number (map (λ g. bytes_claimed (slice_get these g)) called) ≡ greatest_number (map (λ g. bytes_claimed (slice_get others g)) called)
same_greatest_bytes these others alike [] = refl
same_greatest_bytes these others alike (g ∷ called) = λ i. max (same_bytes these others g alike i) (same_greatest_bytes these others alike called i)

-- ---- effects

same_callee : (these others : List Func) → AreAlike these others → (called : Option FunctionUse) → callee_manages_memory these called ≡ callee_manages_memory others called
same_callee these others alike None = refl
same_callee these others alike (Some called) = same_alloc these others called.function alike

same_effect : (these others : List Func) → AreAlike these others → (nodes : List PlainNode) → have_effect these nodes ≡ have_effect others nodes
same_effect these others alike [] = refl
same_effect these others alike (n ∷ rest) = λ i. (node_manages_memory n || same_callee these others alike (function_used n) i) || same_effect these others alike rest i

pub same_effects : (these others : List Func) → all_without_loops these ≡ all_without_loops others → (f : PlainFunction) → effect_of these f ≡ effect_of others f
same_effects these others alike f = same_effect these others alike (nodes_of_statements f.body)

-- ---- sums

-- under one claim on the function itself
by_loops : (p : PlainProgram) (number : ℕ) (these others : List Func) → AreAlike these others → (loops : List Loop) (f : PlainFunction)
    → sum_under (record { program = p; variables = f.variables; functions = these; loops = loops }) (task_of p number) f
    ≡ sum_under (record { program = p; variables = f.variables; functions = others; loops = loops }) (task_of p number) f
by_loops p number these others alike loops f =
    let t : Twin = record { program = p; variables = f.variables; these = these; others = others; alike = alike; loops = loops } in
    let called : List ℕ = callees (nodes_of_statements f.body) in
    λ i. record {
      steps = same_cost t (task_of p number) f i;
      calls = 1 + same_greatest_calls these others alike called i;
      bytes = frame_bytes f + same_greatest_bytes these others alike called i;
      alloc = same_effects these others alike f i;
      turn = same_turn t (task_of p number) f i;
    }

pub same_sums : (p : PlainProgram) (number : ℕ) (these others : List Func) → AgreeOn number these others → (f : Option PlainFunction) → function_sum p these number f ≡ function_sum p others number f
same_sums p number these others agree None = refl
same_sums p number these others agree (Some f) =
    by_loops p number these others agree.alike (loops_claimed (slice_get these number)) f
    ∙ ap (λ own. sum_under (record { program = p; variables = f.variables; functions = others; loops = loops_claimed own }) (task_of p number) f) agree.own
