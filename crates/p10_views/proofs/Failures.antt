-- The failing conditions on a function are those on its view, but for places.
use Rattle.std.proofs.Common.{◌≡◌, ◌∙◌, ℕ, nat_eq, ◌&&◌, not, Bool, true, false, List, [], ◌∷◌, ◌++◌, map, Option, Some, None, option_map, refl, sym, ap}
use Rattle.std.specs.Prelude.{if◌then◌else◌, slice_get}
use Rattle.std.specs.List.{AllByRecursion}
use Rattle.p10_base.specs.declared.span.Span.{Span}
use Rattle.p10_core.specs.declared.statements.LoopHead.{LoopHead}
use Rattle.p10_core.specs.Typed.{PlainStatement, PlainVariable, PlainFunction, PlainProgram}
use Rattle.p10_core.specs.Nodes.{nodes_of_statements}
use Rattle.p10_core.specs.WholePrograms.{main_items, IsObjectType, AreWholeStructures, IsWholeVariable, region_of, IsWholeFunction}
use Rattle.p10_meaning.proofs.LaidOut.{all_at}
use Rattle.p10_cert.specs.Claims.{Loop, Func, Claims}
use Rattle.p10_absx.specs.Environments.{Environment}
use Rattle.p10_sums.specs.Counting.{steps_claimed, calls_claimed, bytes_claimed, turns_claimed, loops_claimed, counting_of, task_of}
use Rattle.p10_sums.specs.Costs.{cost_of, turn_cost}
use Rattle.p10_sums.specs.Depths.{callees, depth_of}
use Rattle.p10_pass.specs.Claiming.{loop_claimed}
use Rattle.p10_pass.specs.Passing.{Failing, Weakness, Left}
use Rattle.p10_check.specs.Places.{place_if}
use Rattle.p10_check.specs.Shapes.{head_at, task_head}
use Rattle.p10_check.specs.Sums.{covers_sum, sum_claimed, short_turn, short_depths}
use Rattle.p10_check.specs.Passes.{Standing, left_by, places_of, unranked}
use Rattle.p10_check.specs.Conditions.{failing_at_each, function_failures}
use Rattle.p10_views.specs.Erased.{no_span, erased_head, erased_variable, erased_function}
use Rattle.p10_views.specs.Views.{View, view_of, SayTheSame, AgreeAbout}
use Rattle.p10_views.specs.Laws.{ViewsDecide}
use Rattle.p10_views.proofs.Called.{calls_of_statements, each_holds}
use Rattle.p10_views.proofs.Spans.{erased_spans, erased_failing, erased_weakness, erased_left, map_both, spans_both}
use Rattle.p10_views.proofs.Copied.{CopyObjects, statements_copy}
use Rattle.p10_views.proofs.Costs.{Count}
use Rattle.p10_views.proofs.Sums.{head_erased, cost_same, turn_same, calls_same, bytes_same}
use Rattle.p10_views.proofs.Bodies.{left_in, left_there, left_erased}

-- ---- what a function comes to

-- what is asked of a function's sums: its steps, the calls and bytes of its depths, and the steps of a turn
record Costs : Type 0 where
  steps : ℕ
  calls : ℕ
  bytes : ℕ
  turn : ℕ

-- K11 of a turn
abbrev short_turn_by : Option Func → ℕ → Option LoopHead → List Span
short_turn_by own turn None = []
short_turn_by own turn (Some head) = place_if (not (covers_sum (turns_claimed (slice_get (loops_claimed own) head.number)) turn)) head.span

-- the failing conditions by what evidence says, the function's own claim, what the pass leaves, what it costs, its task loop and its name
abbrev failures_by : (ℕ → Environment → Loop → Bool) → Option Func → Left → Costs → Option LoopHead → Span → List Failing
failures_by stands own left costs head name =
    failing_at_each 3 left.arguments
    ++ (failing_at_each 5 left.results
    ++ (failing_at_each 6 left.entries
    ++ (failing_at_each 7 left.backs
    ++ (failing_at_each 8 (unranked 8 (λ w. stands w.at w.entry (loop_claimed (loops_claimed own) w.at)) left.weak)
    ++ (failing_at_each 9 (unranked 9 (λ w. stands w.at w.entry (loop_claimed (loops_claimed own) w.at)) left.weak)
    ++ (failing_at_each 10 (unranked 10 (λ w. stands w.at w.entry (loop_claimed (loops_claimed own) w.at)) left.weak)
    ++ (failing_at_each 11 (place_if (not (covers_sum (steps_claimed own) costs.steps)) name ++ short_turn_by own costs.turn head)
    ++ failing_at_each 12 (place_if (not (covers_sum (calls_claimed own) costs.calls && covers_sum (bytes_claimed own) costs.bytes)) name))))))))

-- what a function costs in a program
abbrev costs_in : PlainProgram → List Func → ℕ → Option ℕ → PlainFunction → Costs
costs_in p functions n task f = record {
  steps = cost_of (counting_of p functions n f) task f;
  calls = (depth_of functions f).calls;
  bytes = (depth_of functions f).bytes;
  turn = turn_cost (counting_of p functions n f) task f;
}

short_turn_is : (functions : List Func) (n turn : ℕ) (head : Option LoopHead) → short_turn functions n turn head ≡ short_turn_by (slice_get functions n) turn head
short_turn_is functions n turn None = refl
short_turn_is functions n turn (Some head) = refl

task_there : (items : List PlainStatement) (task : Option ℕ) (b : Bool) → (if b then head_at items task else None) ≡ head_at items (if b then task else None)
task_there items task true = refl
task_there items task false = refl

failures_are : (stands : Standing) (p : PlainProgram) (c : Claims) (n : ℕ) (f : PlainFunction) → slice_get p.functions n ≡ Some f
    → function_failures stands p c n f ≡ failures_by (stands n) (slice_get c.funcs n) (left_in c n f) (costs_in p c.funcs n (task_of p n) f) (head_at (main_items f) (task_of p n)) f.span
failures_are stands p c n f there =
    (λ i.
    failing_at_each 3 (left_by p c n).arguments
    ++ (failing_at_each 5 (left_by p c n).results
    ++ (failing_at_each 6 (left_by p c n).entries
    ++ (failing_at_each 7 (left_by p c n).backs
    ++ (failing_at_each 8 (unranked 8 (λ w. stands n w.at w.entry (loop_claimed (loops_claimed (slice_get c.funcs n)) w.at)) (left_by p c n).weak)
    ++ (failing_at_each 9 (unranked 9 (λ w. stands n w.at w.entry (loop_claimed (loops_claimed (slice_get c.funcs n)) w.at)) (left_by p c n).weak)
    ++ (failing_at_each 10 (unranked 10 (λ w. stands n w.at w.entry (loop_claimed (loops_claimed (slice_get c.funcs n)) w.at)) (left_by p c n).weak)
    ++ (failing_at_each 11 (place_if (not (covers_sum (steps_claimed (slice_get c.funcs n)) (sum_claimed p c.funcs n f).steps)) f.span ++ short_turn_is c.funcs n (sum_claimed p c.funcs n f).turn (task_head p n f) i)
    ++ failing_at_each 12 (short_depths p c.funcs n f)))))))))
    ∙ (λ i. failures_by (stands n) (slice_get c.funcs n) (left_there p c n f there i) (costs_in p c.funcs n (task_of p n) f) (task_there (main_items f) p.task (nat_eq n p.main) i) f.span)

-- ---- without places

each_erased : (k : ℕ) (places us : List Span) → us ≡ erased_spans places → failing_at_each k us ≡ map erased_failing (failing_at_each k places)
each_erased k places us same = ap (failing_at_each k) same ∙ of_all places
  where
    of_all : (places : List Span) → failing_at_each k (erased_spans places) ≡ map erased_failing (failing_at_each k places)
    of_all [] = refl
    of_all (at ∷ places) = ap (λ (rest : List Failing). record { k = k; at = no_span } ∷ rest) (of_all places)

both_erased : (xs ys us vs : List Failing) → us ≡ map erased_failing xs → vs ≡ map erased_failing ys → us ++ vs ≡ map erased_failing (xs ++ ys)
both_erased xs ys us vs first second = (λ i. first i ++ second i) ∙ map_both erased_failing xs ys

place_if_erased : (b : Bool) (at : Span) → place_if b no_span ≡ erased_spans (place_if b at)
place_if_erased true at = refl
place_if_erased false at = refl

places_erased : (k : ℕ) (fails : List Failing) → places_of k (map erased_failing fails) ≡ erased_spans (places_of k fails)
places_erased k [] = refl
places_erased k (e ∷ fails) = by_number (nat_eq e.k k) refl (places_erased k fails)
  where
    by_number : (b : Bool) → nat_eq e.k k ≡ b → places_of k (map erased_failing fails) ≡ erased_spans (places_of k fails) → places_of k (map erased_failing (e ∷ fails)) ≡ erased_spans (places_of k (e ∷ fails))
    by_number true is rest = rw is (ap (λ (more : List Span). no_span ∷ more) rest)
    by_number false is rest = rw is rest

unless_stands : (b : Bool) (xs us : List Span) → us ≡ erased_spans xs → (if b then [] else us) ≡ erased_spans (if b then [] else xs)
unless_stands true xs us same = refl
unless_stands false xs us same = same

unranked_erased : (k : ℕ) (stands : ℕ → Environment → Bool) (weak : List Weakness) → unranked k (λ w. stands w.at w.entry) (map erased_weakness weak) ≡ erased_spans (unranked k (λ w. stands w.at w.entry) weak)
unranked_erased k stands [] = refl
unranked_erased k stands (w ∷ weak) =
    (λ i. unless_stands (stands w.at w.entry) (places_of k w.fails) (places_of k (map erased_failing w.fails)) (places_erased k w.fails) i ++ unranked_erased k stands weak i)
    ∙ spans_both (if stands w.at w.entry then [] else places_of k w.fails) (unranked k (λ w. stands w.at w.entry) weak)

turn_erased : (own : Option Func) (turn : ℕ) (head : Option LoopHead) → short_turn_by own turn (option_map erased_head head) ≡ erased_spans (short_turn_by own turn head)
turn_erased own turn None = refl
turn_erased own turn (Some head) = place_if_erased (not (covers_sum (turns_claimed (slice_get (loops_claimed own) head.number)) turn)) head.span

all_erased : (stands : ℕ → Environment → Loop → Bool) (own : Option Func) (left : Left) (costs : Costs) (head : Option LoopHead) (name : Span)
    → failures_by stands own (erased_left left) costs (option_map erased_head head) no_span ≡ map erased_failing (failures_by stands own left costs head name)
all_erased stands own left costs head name =
    let by : ℕ → Environment → Bool = λ at entry. stands at entry (loop_claimed (loops_claimed own) at) in
    both_erased _ _ _ _ (each_erased 3 left.arguments _ refl)
    (both_erased _ _ _ _ (each_erased 5 left.results _ refl)
    (both_erased _ _ _ _ (each_erased 6 left.entries _ refl)
    (both_erased _ _ _ _ (each_erased 7 left.backs _ refl)
    (both_erased _ _ _ _ (each_erased 8 _ _ (unranked_erased 8 by left.weak))
    (both_erased _ _ _ _ (each_erased 9 _ _ (unranked_erased 9 by left.weak))
    (both_erased _ _ _ _ (each_erased 10 _ _ (unranked_erased 10 by left.weak))
    (both_erased _ _ _ _ (each_erased 11 _ _ ((λ i. place_if_erased (not (covers_sum (steps_claimed own) costs.steps)) name i ++ turn_erased own costs.turn head i)
    ∙ spans_both (place_if (not (covers_sum (steps_claimed own) costs.steps)) name) (short_turn_by own costs.turn head)))
    (each_erased 12 _ _ (place_if_erased (not (covers_sum (calls_claimed own) costs.calls && covers_sum (bytes_claimed own) costs.bytes)) name)))))))))

-- ---- views

-- a program without anything, in which views are counted
abbrev nothing : PlainProgram
nothing = record { structures = []; objects = []; functions = []; literals = []; main = 0; mark = None; task = None; outside = [] }

abbrev view_failures : (ℕ → Environment → Loop → Bool) → Claims → ℕ → View → List Failing
view_failures stands c n w =
    failures_by stands (slice_get c.funcs n) (left_in c n w.function) (costs_in nothing c.funcs n w.task w.function) (head_at (main_items w.function) w.task) w.function.span

-- a variable of a whole function is an object
objects_of : (p : PlainProgram) (n : ℕ) (f : PlainFunction) → IsWholeFunction p n f → (k : ℕ) (v : PlainVariable) → slice_get f.variables k ≡ Some v → IsObjectType p.structures v.type
objects_of p n f w k v e = (all_at (IsWholeVariable p.structures) f.variables k v w.variables e).object

costs_same : (p : PlainProgram) → AreWholeStructures p.structures → (these others : List Func) (n : ℕ) (task : Option ℕ) (f : PlainFunction) → IsWholeFunction p n f → AgreeAbout these others n f
    → costs_in nothing others n task (erased_function p f) ≡ costs_in p these n task f
costs_same p whole these others n task f w agree =
    let t : Count = record {
      program = p;
      any = nothing;
      variables = f.variables;
      these = these;
      others = others;
      loops = loops_claimed (slice_get these n);
      whole = whole;
      objects = objects_of p n f w;
    } in
    let copies : CopyObjects p.structures f.body = statements_copy (region_of p n f) f.body w.body in
    (λ i. record {
      steps = cost_of (record { program = nothing; variables = map (erased_variable p) f.variables; functions = others; loops = loops_claimed (sym agree.own i) }) task (erased_function p f);
      calls = calls_same p these others f agree.called i;
      bytes = bytes_same p these others f agree.called i;
      turn = turn_cost (record { program = nothing; variables = map (erased_variable p) f.variables; functions = others; loops = loops_claimed (sym agree.own i) }) task (erased_function p f);
    })
    ∙ (λ i. record {
      steps = cost_same t task f (calls_of_statements (SayTheSame these others) f.body agree.called) copies i;
      calls = (depth_of these f).calls;
      bytes = (depth_of these f).bytes;
      turn = turn_same t task f (calls_of_statements (SayTheSame these others) f.body agree.called) copies i;
    })

-- what is found of a view under claims, and of its function under others that agree
of_view : (stands : ℕ → Environment → Loop → Bool) (p : PlainProgram) → AreWholeStructures p.structures → (c d : Claims) (n : ℕ) (f : PlainFunction) → IsWholeFunction p n f → AgreeAbout c.funcs d.funcs n f
    → view_failures stands d n (view_of p n f)
    ≡ map erased_failing (failures_by stands (slice_get c.funcs n) (left_in c n f) (costs_in p c.funcs n (task_of p n) f) (head_at (main_items f) (task_of p n)) f.span)
of_view stands p whole c d n f w agree =
    (λ i. failures_by stands (sym agree.own i) (left_erased p c d n f agree.own agree.called i) (costs_same p whole c.funcs d.funcs n (task_of p n) f w agree i) (head_erased p f.body (task_of p n) i) no_span)
    ∙ all_erased stands (slice_get c.funcs n) (left_in c n f) (costs_in p c.funcs n (task_of p n) f) (head_at (main_items f) (task_of p n)) f.span

none_of_none : (fails : List Failing) → map erased_failing fails ≡ [] → fails ≡ []
none_of_none [] none = refl
none_of_none (e ∷ fails) none = cc

-- claims agree with themselves, and the other way round
with_itself : (functions : List Func) (n : ℕ) (f : PlainFunction) → AgreeAbout functions functions n f
with_itself functions n f = record { own = refl; called = each_holds (SayTheSame functions functions) (λ m. refl) (callees (nodes_of_statements f.body)) }

turned : (these others : List Func) (numbers : List ℕ) → AllByRecursion (SayTheSame these others) numbers → AllByRecursion (SayTheSame others these) numbers
turned these others [] h = tt
turned these others (n ∷ numbers) h = (sym h.0, turned these others numbers h.1)

pub views_decide : ViewsDecide
views_decide old new p q first second c d n f g here there view agree evidence none =
    failures_are new q d n g there
    ∙ none_of_none (failures_by (new n) (slice_get d.funcs n) (left_in d n g) (costs_in q d.funcs n (task_of q n) g) (head_at (main_items g) (task_of q n)) g.span)
    (sym (of_view (new n) q second.structures d c n g (second.functions n g there) (record { own = sym agree.own; called = turned c.funcs d.funcs (callees (nodes_of_statements g.body)) agree.called }))
    ∙ (λ i. view_failures (sym evidence i) c n (sym view i))
    ∙ of_view (old n) p first.structures c c n f (first.functions n f here) (with_itself c.funcs n f)
    ∙ ap (map erased_failing) (sym (failures_are old p c n f here) ∙ none))
