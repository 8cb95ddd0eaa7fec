-- What is counted of a function is what it costs.
use Rattle.std.proofs.Common.{◌≡◌, ℕ, ◌+◌, cond, Bool, true, false, ◌&&◌, take, refl, sym, ◌∙◌, ap, arith, Option, Some, None, Result, Ok, Err}
use Rattle.std.specs.Prelude.{leb, slice_get}
use Rattle.std.proofs.lemmas.Bool.Decides.{nat_tests}
use Rattle.p10_base.specs.declared.report.Limit.{Limit}
use Rattle.p10_base.specs.declared.report.TheConstants.Limit.{MOST_SUM, SUM}
use Rattle.p10_core.specs.Typed.{statements_list, statements_of_list, PlainValue, PlainStatement, PlainStatements, PlainFunction}
use Rattle.p10_core.specs.Nodes.{nodes_of_statements}
use Rattle.p10_core.specs.WholePrograms.{frame_bytes}
use Rattle.p10_meaning.specs.Runs.{Task, task_in}
use Rattle.p10_sums.specs.declared.sum.FuncSum.{FuncSum}
use Rattle.p10_sums.specs.declared.tally.Tally.{Tally}
use Rattle.p10_sums.specs.Counting.{Counting}
use Rattle.p10_sums.specs.Costs.{statements_cost, task_test_cost, task_cost, statement_cost}
use Rattle.p10_sums.specs.Sums.{sum_under, keeps_limit, limited}
use Rattle.p10_sums.specs.private.Tallies.{capped, no_tally, in_turn}
use Rattle.p10_sums.specs.private.Walks.{statement_tally, statements_tally}
use Rattle.p10_sums.specs.private.Totals.{capped_sum, task_test_tally, turn_tally}
use Rattle.p10_sums.proofs.Adding.{capped_sum as capped_both, capped_left, capped_right}
use Rattle.p10_sums.proofs.Telling.{bytes_of}
use Rattle.p10_sums.proofs.TellingTrees.{value_tells, statement_tells, statements_tell}

-- ## Sums that are capped

within : (n : ℕ) → leb (capped n) MOST_SUM ≡ leb n MOST_SUM
unfolding capped
within n = grind (arith, nat_tests)

small : (n : ℕ) → leb n MOST_SUM ≡ true → capped n ≡ n
unfolding capped
small n h = grind (arith, nat_tests)

both_true : (a b : Bool) → (a && b) ≡ true → (a ≡ true) × (b ≡ true)
both_true true b h = (refl, h)
both_true false b h = absurd cc

same_within : (s : FuncSum) → keeps_limit (capped_sum s) ≡ keeps_limit s
unfolding capped_sum
same_within s = λ i. (within s.steps i && within s.calls i) && (within s.bytes i && within s.turn i)

same_sum : (s : FuncSum) → keeps_limit s ≡ true → capped_sum s ≡ s
unfolding capped_sum
same_sum s h =
    let a = both_true (leb s.steps MOST_SUM && leb s.calls MOST_SUM) (leb s.bytes MOST_SUM && leb s.turn MOST_SUM) h in
    let b = both_true (leb s.steps MOST_SUM) (leb s.calls MOST_SUM) a.0 in
    let d = both_true (leb s.bytes MOST_SUM) (leb s.turn MOST_SUM) a.1 in
    λ i. record { steps = small s.steps b.0 i; calls = small s.calls b.1 i; bytes = small s.bytes d.0 i; alloc = s.alloc; turn = small s.turn d.1 i }

-- the answer where the sums are within, and where they aren't
pub within_answer : (counted s : FuncSum) (b : Bool) → counted ≡ capped_sum s → b ≡ keeps_limit counted → b ≡ true → Ok counted ≡ limited s
within_answer counted s b e f h =
    let w : keeps_limit s ≡ true = sym (same_within s) ∙ (ap keeps_limit (sym e) ∙ (sym f ∙ h)) in
    let answer : Result FuncSum Limit = Ok counted in
    ap (λ (x : FuncSum). Ok x) (e ∙ same_sum s w) ∙ sym (ap (λ c. cond c (Ok s) (Err SUM)) w)

pub passing_answer : (counted s : FuncSum) (b : Bool) → counted ≡ capped_sum s → b ≡ keeps_limit counted → b ≡ false → Err SUM ≡ limited s
passing_answer counted s b e f h =
    let w : keeps_limit s ≡ false = sym (same_within s) ∙ (ap keeps_limit (sym e) ∙ (sym f ∙ h)) in
    sym (ap (λ c. cond c (Ok s) (Err SUM)) w)

-- ## Functions

no_turn : 0 ≡ capped 0
unfolding capped
no_turn = omega arith

no_steps : (no_tally).steps ≡ capped 0
unfolding no_tally capped
no_steps = omega arith

last_step : (n : ℕ) → capped (capped (1 + n) + 1) ≡ capped (1 + (n + 1))
last_step n = capped_left (1 + n) 1 ∙ ap capped regroup
  where
    regroup : (1 + n) + 1 ≡ 1 + (n + 1)
    regroup = omega arith

first_steps : (c : Counting) (ss : PlainStatements) (before : Tally) → before ≡ statements_tally c ss → capped (1 + before.steps) ≡ capped (1 + statements_cost c ss)
first_steps c ss before e = ap (λ (t : Tally). capped (1 + t.steps)) e ∙ (ap (λ n. capped (1 + n)) (statements_tell c ss).steps_are ∙ capped_right 1 (statements_cost c ss))

-- depths and effect of a function's body
calls_added : (c : Counting) (f : PlainFunction) (whole : Tally) → whole ≡ statements_tally c f.body → capped (1 + whole.calls) ≡ capped (sum_under c None f).calls
calls_added c f whole e = ap (λ (t : Tally). capped (1 + t.calls)) e ∙ ap (λ n. capped (1 + n)) (statements_tell c f.body).calls_are

bytes_added : (c : Counting) (f : PlainFunction) (whole : Tally) (frame : ℕ) → whole ≡ statements_tally c f.body → frame ≡ capped (frame_bytes f) → capped (frame + whole.bytes) ≡ capped (sum_under c None f).bytes
bytes_added c f whole frame e d =
    (λ i. capped (d i + (ap (λ (t : Tally). t.bytes) e ∙ (statements_tell c f.body).bytes_are) i)) ∙ capped_left (frame_bytes f) (bytes_of c.functions (nodes_of_statements f.body))

effect_added : (c : Counting) (f : PlainFunction) (whole : Tally) → whole ≡ statements_tally c f.body → whole.alloc ≡ (sum_under c None f).alloc
effect_added c f whole e = ap (λ (t : Tally). t.alloc) e ∙ (statements_tell c f.body).alloc_is

pub finished : (c : Counting) (f : PlainFunction) (whole : Tally) (frame steps calls bytes : ℕ) → whole ≡ statements_tally c f.body → frame ≡ capped (frame_bytes f) →
    steps ≡ capped (1 + whole.steps) → calls ≡ capped (1 + whole.calls) → bytes ≡ capped (frame + whole.bytes) →
    (let r : FuncSum = record { steps = steps; calls = calls; bytes = bytes; alloc = whole.alloc; turn = 0 } in r ≡ capped_sum (sum_under c None f))
unfolding capped_sum
finished c f whole frame steps calls bytes e d x y z = λ i. record {
  steps = (x ∙ first_steps c f.body whole e) i;
  calls = (y ∙ calls_added c f whole e) i;
  bytes = (z ∙ bytes_added c f whole frame e d) i;
  alloc = effect_added c f whole e i;
  turn = no_turn i;
}

turned_both : (a b : Tally) (m n : ℕ) → a.steps ≡ capped m → b.steps ≡ capped n → (in_turn a b).steps ≡ capped (m + n)
unfolding in_turn
turned_both a b m n e f = (λ i. capped (e i + f i)) ∙ capped_both m n

test_steps : (c : Counting) (tested : Option PlainValue) → (task_test_tally c tested).steps ≡ capped (task_test_cost c tested)
test_steps c None = no_steps
test_steps c (Some v) = (value_tells c v).steps_are

-- a turn costs what is counted of it
task_tells : (c : Counting) (task : Option Task) → (turn_tally c task).steps ≡ capped (task_cost c task)
task_tells c None = no_steps
task_tells c (Some task) = turned c task.tested task.body
  where
    turned : (c : Counting) (tested : Option PlainValue) (body : PlainStatement) → (in_turn (task_test_tally c tested) (statement_tally c body)).steps ≡ capped (task_test_cost c tested + statement_cost c body)
    turned c tested body = turned_both _ _ (task_test_cost c tested) (statement_cost c body) (test_steps c tested) (statement_tells c body).steps_are

pub finished_task : (c : Counting) (f : PlainFunction) (place : ℕ) (whole before turn : Tally) (frame first steps calls bytes : ℕ) → whole ≡ statements_tally c f.body → frame ≡ capped (frame_bytes f) →
    before ≡ statements_tally c (statements_of_list (take place (statements_list f.body))) → turn ≡ turn_tally c (task_in (slice_get (statements_list f.body) place)) →
    first ≡ capped (1 + before.steps) → steps ≡ capped (first + 1) → calls ≡ capped (1 + whole.calls) → bytes ≡ capped (frame + whole.bytes) →
    (let r : FuncSum = record { steps = steps; calls = calls; bytes = bytes; alloc = whole.alloc; turn = turn.steps } in r ≡ capped_sum (sum_under c (Some place) f))
unfolding capped_sum
finished_task c f place whole before turn frame first steps calls bytes e d b t v x y z = λ i. record {
  steps = (x ∙ (ap (λ n. capped (n + 1)) (v ∙ first_steps c (statements_of_list (take place (statements_list f.body))) before b) ∙ last_step (statements_cost c (statements_of_list (take place (statements_list f.body)))))) i;
  calls = (y ∙ calls_added c f whole e) i;
  bytes = (z ∙ bytes_added c f whole frame e d) i;
  alloc = effect_added c f whole e i;
  turn = (ap (λ (t : Tally). t.steps) t ∙ task_tells c _) i;
}
