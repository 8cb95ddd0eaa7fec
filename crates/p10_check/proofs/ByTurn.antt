-- The conditions that need no loops but the task loop's are the same under claims that are the same but for loops.
use Rattle.std.proofs.Common.{◌≡◌, ◌∙◌, ℕ, Bool, not, ◌&&◌, ◌||◌, List, [], ◌++◌, map, append_assoc, Option, Some, None, option_map, sym, ap, refl, nat_lt, nat_le}
use Rattle.std.specs.Prelude.{slice_get}
use Rattle.std.specs.List.{filter}
use Rattle.std.proofs.lemmas.Option.{slice_get-map}
use Rattle.p10_base.specs.declared.span.Span.{Span}
use Rattle.p10_core.specs.Typed.{PlainFunction, PlainProgram}
use Rattle.p10_cert.specs.Claims.{Func, Claims}
use Rattle.p10_calls.specs.declared.sites.CallSite.{CallSite}
use Rattle.p10_calls.specs.CallSites.{call_sites}
use Rattle.p10_flowrules.specs.declared.calls.AnyCall.{AnyCall}
use Rattle.p10_flowrules.specs.TaskExits.{task_exits}
use Rattle.p10_loopless.specs.Loopless.{without_loops}
use Rattle.p10_loopless.proofs.Faces.{AreAlike, same_parameters, same_steps, same_calls, same_bytes, same_alloc}
use Rattle.p10_loopless.proofs.Sums.{same_effects}
use Rattle.p10_pass.specs.Passing.{Failing}
use Rattle.p10_check.specs.Places.{place_if, all_places, name_at}
use Rattle.p10_check.specs.Shapes.{rank_claimed, goes_down, rising_calls, has_some, is_main_wrong, wrong_main, hidden_effects, late_names, main_turn, bounds_main}
use Rattle.p10_check.specs.Conditions.{failing_at_each}
use Rattle.p10_check.specs.private.Firsts.{AreAfterFitting}
use Rattle.p10_check.specs.private.ShapesByTurn.{low_total_by, shape_failures_by, AreShapeFailuresBy}

loopless_same : (these others : List Func) (n : ℕ) → AreAlike these others → option_map without_loops (slice_get these n) ≡ option_map without_loops (slice_get others n)
loopless_same these others n alike = sym (slice_get-map without_loops these n) ∙ ap (λ fs. slice_get fs n) alike ∙ slice_get-map without_loops others n

rank_loopless : (f : Option Func) → rank_claimed f ≡ rank_claimed (option_map without_loops f)
rank_loopless None = refl
rank_loopless (Some f) = refl

same_rank : (these others : List Func) (n : ℕ) → AreAlike these others → rank_claimed (slice_get these n) ≡ rank_claimed (slice_get others n)
same_rank these others n alike = rank_loopless (slice_get these n) ∙ ap rank_claimed (loopless_same these others n alike) ∙ sym (rank_loopless (slice_get others n))

same_rising : (p : PlainProgram) (these others : List Func) → AreAlike these others → rising_calls p these ≡ rising_calls p others
same_rising p these others alike =
    λ i. map (λ (s : CallSite). s.call.name) (filter (λ (s : CallSite). not (nat_lt (same_rank these others s.call.function alike i) (same_rank these others s.caller alike i))) (call_sites p))

same_wrong : (p : PlainProgram) (these others : List Func) → AreAlike these others → wrong_main p these ≡ wrong_main p others
same_wrong p these others alike = λ i. place_if (has_some (same_parameters these others p.main alike i) || has_some (task_exits p)) (name_at p p.main)

same_hidden : (p : PlainProgram) (these others : List Func) (late : List AnyCall) → AreAlike these others → hidden_effects p these late ≡ hidden_effects p others late
same_hidden p these others late alike =
    λ i. all_places p (λ (n : ℕ) (f : PlainFunction). place_if (same_effects these others alike f i && not (same_alloc these others n alike i)) f.span ++ late_names p late n)

same_total : (p : PlainProgram) (c d : Claims) (these those : ℕ) → AreAlike c.funcs d.funcs → c.total ≡ d.total → these ≡ those → low_total_by p c these ≡ low_total_by p d those
same_total p c d these those alike total turns =
    λ i. place_if (not (
    (nat_le (same_steps c.funcs d.funcs p.main alike i) (total i).prefix && nat_le (turns i) (total i).turn)
    && (nat_le (same_calls c.funcs d.funcs p.main alike i) (total i).calls && nat_le (same_bytes c.funcs d.funcs p.main alike i) (total i).bytes))) (name_at p p.main)

-- what is found of claims that are kept is so of all
pub shape_told : (p : PlainProgram) (c d : Claims) (turn : ℕ) (fails : List Failing) → AreAlike c.funcs d.funcs → c.total ≡ d.total → turn ≡ main_turn p d.funcs (slice_get p.functions p.main)
    → AreShapeFailuresBy p c turn fails → AreAfterFitting p d fails
shape_told p c d turn fails alike total turns found = record {
  late = found.late;
  late_are = found.late_are;
  are =
      found.are
      ∙ (λ i. failing_at_each 2 (same_rising p c.funcs d.funcs alike i)
      ++ (failing_at_each 4 (same_wrong p c.funcs d.funcs alike i)
      ++ (failing_at_each 13 (same_hidden p c.funcs d.funcs found.late alike i)
      ++ failing_at_each 14 (same_total p c d turn (main_turn p d.funcs (slice_get p.functions p.main)) alike total turns i))));
}

-- the same of the claims themselves
pub shape_by_turn : (p : PlainProgram) (c : Claims) (turn : ℕ) (fails : List Failing) → turn ≡ main_turn p c.funcs (slice_get p.functions p.main) → AreShapeFailuresBy p c turn fails → AreAfterFitting p c fails
shape_by_turn p c turn fails turns found = shape_told p c c turn fails refl refl turns found

-- they are put down one after the other
pub shape_in_order : (p : PlainProgram) (c : Claims) (turn : ℕ) (late : List AnyCall) (sites : List CallSite) (functions : List Func) (calls : List AnyCall) (main : Span) (wrong bounds : Bool)
    (none rising entered effects all : List Failing) → none ≡ [] → functions ≡ c.funcs → sites ≡ call_sites p
    → rising ≡ none ++ failing_at_each 2 (map (λ s. s.call.name) (filter (λ s. not (goes_down functions s)) sites))
    → wrong ≡ is_main_wrong p c.funcs → main ≡ name_at p p.main → entered ≡ rising ++ failing_at_each 4 (place_if wrong main)
    → calls ≡ late → effects ≡ entered ++ failing_at_each 13 (hidden_effects p c.funcs calls)
    → bounds ≡ bounds_main c.total (slice_get c.funcs p.main) turn → all ≡ effects ++ failing_at_each 14 (place_if (not bounds) main)
    → all ≡ shape_failures_by p c turn late
shape_in_order p c turn late sites functions calls main wrong bounds none rising entered effects all none_is functions_are sites_are rising_are wrong_is main_is entered_are calls_are effects_are bounds_is all_are =
    let two : List Failing = failing_at_each 2 (rising_calls p c.funcs) in
    let four : List Failing = failing_at_each 4 (wrong_main p c.funcs) in
    let more : List Failing = failing_at_each 13 (hidden_effects p c.funcs late) in
    let last : List Failing = failing_at_each 14 (low_total_by p c turn) in
    let rising_is : rising ≡ two = rising_are ∙ (λ i. none_is i ++ failing_at_each 2 (map (λ (s : CallSite). s.call.name) (filter (λ (s : CallSite). not (goes_down (functions_are i) s)) (sites_are i)))) in
    let entered_is : entered ≡ two ++ four = entered_are ∙ (λ i. rising_is i ++ failing_at_each 4 (place_if (wrong_is i) (main_is i))) in
    let effects_is : effects ≡ (two ++ four) ++ more = effects_are ∙ (λ i. entered_is i ++ failing_at_each 13 (hidden_effects p c.funcs (calls_are i))) in
    all_are ∙ (λ i. effects_is i ++ failing_at_each 14 (place_if (not (bounds_is i)) (main_is i)))
    ∙ append_assoc (two ++ four) more last ∙ append_assoc two four (more ++ last)
