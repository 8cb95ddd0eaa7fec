-- Each stop of a run of a whole program has its cause in the program.
use Rattle.std.proofs.Common.{◌≡◌, ℕ, zero, suc, true, false, List, [], ◌∷◌, map, take, refl, sym, subst, Option, Some, None, slice_get, ◌∙◌}
use Rattle.std.specs.Prelude.{IfSome}
use Rattle.std.proofs.lemmas.Option.{same_Some, none-some}
use Rattle.p10_base.specs.declared.span.Span.{Span}
use Rattle.p10_int.specs.declared.operators.Stop.{Stop}
use Rattle.p10_core.specs.Typed.{PlainValue, PlainStatement, statement, loop, PlainStatements, no_statements, more_statements, statements_list, statements_of_list, PlainVariable, PlainFunction, PlainProgram}
use Rattle.p10_core.specs.Nodes.{PlainNode, nodes_of_maybe, nodes_of_statement, nodes_of_statements}
use Rattle.p10_core.specs.WholePrograms.{numbers_from, Region, around, after, IsMaybeTest, IsWholeStatement, AreWholeStatements, IsWholeFunction, main_items, may_be_task, IsTask, IsMain, IsWholeProgram}
use Rattle.p10_meaning.specs.declared.pointers.Scalar.{Scalar}
use Rattle.p10_meaning.specs.declared.world.World.{World}
use Rattle.p10_meaning.specs.States.{IsWorld, State, AssertionFailed, Undefined, StepsSpent, Progress, gives, ends, step}
use Rattle.p10_meaning.specs.Values.{Held}
use Rattle.p10_meaning.specs.Variables.{OnGiven}
use Rattle.p10_meaning.specs.Statements.{Frame, Flow, normal, broken, continued, returned, Done, goes, go_on, execute, execute_from}
use Rattle.p10_meaning.specs.Calling.{Depth, no_depth, deeper, raised, Entered, entered, setting_of, call_at}
use Rattle.p10_meaning.specs.Opening.{opening}
use Rattle.p10_meaning.specs.Runs.{Ended, Ran, ran_call, Task, task_in, task_test, task_turn, after_turn, run_turns, before_task, after_part, run_task, run_main}
use Rattle.p10_meaning.specs.Sound.{Kind, Sound, FrameFits, Keeps, DoneFits, ScalarsFit, region_at, opening_kinds}
use Rattle.p10_meaning.specs.SoundRuns.{HasTask}
use Rattle.p10_meaning.proofs.Fitting.{frame_grown}
use Rattle.p10_meaning.proofs.LaidOut.{laid_out}
use Rattle.p10_meaning.proofs.Keeping.{kept}
use Rattle.p10_meaning.proofs.SoundStatements.{AreFew, scope_after, scope_after_all, after_is, test_keeps}
use Rattle.p10_meaning.proofs.SoundCalls.{few_variables, EntryFits, no_arguments, calls_keep}
use Rattle.p10_meaning.proofs.SoundOpening.{opening_sound}
use Rattle.p10_meaning.proofs.SoundRuns.{first_parts_keep, turns_keep}
use Rattle.p10_stop_laws.specs.Causes.{StopsWhere, RunsStopWithCause}
use Rattle.p10_stop_laws.proofs.Among.{AllIn, all_front, all_back, all_both}
use Rattle.p10_stop_laws.proofs.Ending.{stops_step, stops_on, stops_then, stops_if}
use Rattle.p10_stop_laws.proofs.Values.{Found}
use Rattle.p10_stop_laws.proofs.Present.{AreThere, Stay, stay_same, there_after, IfNormal, on_left, on_step, on_any, on_then, on_if, given_weaker, statement_stays}
use Rattle.p10_stop_laws.proofs.Statements.{LoopIn, loop_in, test_stops, execute_stops, items_there, from_stops}
use Rattle.p10_stop_laws.proofs.Calls.{InProgram, body_in, cause_of, calls_stop}

-- ## Outcomes

-- a run that ends in a stop has it from its last piece
abbrev RanWhere : (Stop → Span → Type 0) → Ran → Type 0
RanWhere P r = (stop : Stop) (span : Span) → r.outcome ≡ Ended (Undefined stop span) → P stop span

ended_where : (P : Stop → Span → Type 0) (s stop : Stop) (at span : Span) → Ended (Undefined s at) ≡ Ended (Undefined stop span) → P s at → P stop span
ended_where P s stop at span e h = let a : s ≡ stop = cc in let b : at ≡ span = cc in subst (λ (s : Stop). P s span) a (subst (P s) b h)

call_where : (P : Stop → Span → Type 0) (o : Progress (Option Scalar)) → StopsWhere P o → RanWhere P (ran_call o)
call_where P (gives x w) h stop span e = absurd cc
call_where P (ends (Undefined s at) w) h stop span e = ended_where P s stop at span e h
call_where P (ends (AssertionFailed at) w) h stop span e = absurd cc
call_where P (ends StepsSpent w) h stop span e = absurd cc

-- after a turn, and after the part before the loop, the run goes on from what is good, or ends
turn_where : (P : Stop → Span → Type 0) (Good : Frame → State → Type 0) (next : Frame → State → Ran) → ((frame : Frame) (w : State) → Good frame w → RanWhere P (next frame w)) →
    (o : Progress Done) → ((d : Done) (u : State) → o ≡ gives d u → Good d.frame u) → StopsWhere P o → RanWhere P (after_turn o next)
turn_where P Good next h (gives d u) g s = by_flow d.flow
  where
    by_flow : (flow : Flow) → RanWhere P (after_turn (gives (record { flow = flow; frame = d.frame }) u) next)
    by_flow normal = h d.frame u (g d u refl)
    by_flow continued = h d.frame u (g d u refl)
    by_flow broken = λ stop span e. absurd cc
    by_flow (returned x) = λ stop span e. absurd cc
turn_where P Good next h (ends (Undefined s at) u) g k = λ stop span e. ended_where P s stop at span e k
turn_where P Good next h (ends (AssertionFailed at) u) g k = λ stop span e. absurd cc
turn_where P Good next h (ends StepsSpent u) g k = λ stop span e. absurd cc

part_where : (P : Stop → Span → Type 0) (Good : Frame → State → Type 0) (next : Frame → State → Ran) → ((frame : Frame) (w : State) → Good frame w → RanWhere P (next frame w)) →
    (o : Progress Done) → ((d : Done) (u : State) → o ≡ gives d u → d.flow ≡ normal → Good d.frame u) → StopsWhere P o → RanWhere P (after_part o next)
part_where P Good next h (gives d u) g s = by_flow d.flow refl
  where
    by_flow : (flow : Flow) → d.flow ≡ flow → RanWhere P (after_part (gives (record { flow = flow; frame = d.frame }) u) next)
    by_flow normal e = h d.frame u (g d u refl e)
    by_flow continued e = λ stop span e. absurd cc
    by_flow broken e = λ stop span e. absurd cc
    by_flow (returned x) e = λ stop span e. absurd cc
part_where P Good next h (ends (Undefined s at) u) g k = λ stop span e. ended_where P s stop at span e k
part_where P Good next h (ends (AssertionFailed at) u) g k = λ stop span e. absurd cc
part_where P Good next h (ends StepsSpent u) g k = λ stop span e. absurd cc

-- ## The items of `main`

whole_front : (r : Region) (xs : PlainStatements) (i : ℕ) → AreWholeStatements r xs → AreWholeStatements r (statements_of_list (take i (statements_list xs)))
whole_front r no_statements zero h = tt
whole_front r no_statements (suc i) h = tt
whole_front r (more_statements x rest) zero h = tt
whole_front r (more_statements x rest) (suc i) h = (h.0, whole_front (after r x) rest i h.1)

in_front : (In : PlainNode → Type 0) (xs : PlainStatements) (i : ℕ) → AllIn In (nodes_of_statements xs) → AllIn In (nodes_of_statements (statements_of_list (take i (statements_list xs))))
in_front In no_statements zero h = tt
in_front In no_statements (suc i) h = tt
in_front In (more_statements x rest) zero h = tt
in_front In (more_statements x rest) (suc i) h =
    all_both In (nodes_of_statement x) (nodes_of_statements (statements_of_list (take i (statements_list rest)))) (all_front In (nodes_of_statement x) (nodes_of_statements rest) h)
    (in_front In rest i (all_back In (nodes_of_statement x) (nodes_of_statements rest) h))

-- what is in scope after the first items
abbrev scope_at : PlainStatements → ℕ → List ℕ → List ℕ
scope_at xs i scope = scope_after_all (statements_of_list (take i (statements_list xs))) scope

-- and at an item of a function, with its parameters
abbrev task_scope : PlainFunction → ℕ → List ℕ
task_scope f i = scope_at f.body i (numbers_from 0 f.parameters)

-- something stands for each variable in scope, where a piece goes on
abbrev Reached : List ℕ → Done → Type 0
Reached scope d = IfNormal d.flow (AreThere scope d.frame.held)

-- an item is whole where it stands, and its nodes are the program's
record IsItem (p : PlainProgram) (number : ℕ) (f : PlainFunction) (scope : List ℕ) (x : PlainStatement) : Type 0 where
  item : IsWholeStatement (region_at p number f scope false false) x
  nodes : AllIn (InProgram p) (nodes_of_statement x)

-- so are the parts of a task loop
record IsTaskThere (p : PlainProgram) (number : ℕ) (f : PlainFunction) (scope : List ℕ) (task : Task) : Type 0 where
  test : IsMaybeTest (around (region_at p number f scope false false)) task.tested
  body : IsWholeStatement (region_at p number f scope true false) task.body
  test_in : AllIn (InProgram p) (nodes_of_maybe task.tested)
  body_in : AllIn (InProgram p) (nodes_of_statement task.body)

module _ (p : PlainProgram) (whole : IsWholeProgram p) (number : ℕ) (f : PlainFunction) (there : slice_get p.functions number ≡ Some f) (budget : ℕ) (depth : Depth) where
  abbrev P : Stop → Span → Type 0
  P = Found (InProgram p)

  abbrev function : IsWholeFunction p number f
  function = whole.functions number f there

  abbrev few : AreFew p f.variables
  few = few_variables p whole number f function

  abbrev here : List ℕ → Region
  here scope = region_at p number f scope false false

  item_is : (xs : PlainStatements) (scope : List ℕ) (i : ℕ) (x : PlainStatement) → AreWholeStatements (here scope) xs → AllIn (InProgram p) (nodes_of_statements xs) → slice_get (statements_list xs) i ≡ Some x → IsItem p number f (scope_at xs i scope) x
  item_is no_statements scope i x h m e = absurd (none-some _ e)
  item_is (more_statements y rest) scope zero x h m e =
      subst (λ x. IsItem p number f scope x) (same_Some _ _ e) (record { item = h.0; nodes = all_front (InProgram p) (nodes_of_statement y) (nodes_of_statements rest) m })
  item_is (more_statements y rest) scope (suc i) x h m e =
      item_is rest (scope_after y scope) i x
      (subst (λ r. AreWholeStatements r rest) (after_is p (laid_out p whole) whole (call_at budget p depth) (calls_keep p whole budget depth) budget number f few y scope false false) h.1)
      (all_back (InProgram p) (nodes_of_statement y) (nodes_of_statements rest) m) e

  loop_there : (scope : List ℕ) (o : Option PlainStatement) (task : Task) → may_be_task o ≡ true → ((x : PlainStatement) → o ≡ Some x → IsItem p number f scope x) → task_in o ≡ Some task → IsTaskThere p number f scope task
  loop_there scope (Some (statement at (loop head (more_statements x rest) tested third body))) task t h e = absurd cc
  loop_there scope (Some (statement at (loop head no_statements tested third body))) task t h e =
      let one : IsItem p number f scope (statement at (loop head no_statements tested third body)) = h (statement at (loop head no_statements tested third body)) refl in
      let parts : LoopIn (InProgram p) no_statements tested third body = loop_in (InProgram p) head.keyword no_statements tested third body one.nodes.1 in
      subst (λ t. IsTaskThere p number f scope t) (same_Some _ _ e) (record { test = one.item.1; body = one.item.3; test_in = parts.test_in; body_in = parts.body_in })
  loop_there scope o task t h e = absurd (none-some _ e)

  task_there : (i : ℕ) (task : Task) → may_be_task (slice_get (statements_list f.body) i) ≡ true → task_in (slice_get (statements_list f.body) i) ≡ Some task → IsTaskThere p number f (task_scope f i) task
  task_there i task t e = loop_there (task_scope f i) (slice_get (statements_list f.body) i) task t (λ x e. item_is f.body (numbers_from 0 f.parameters) i x function.body (body_in p number f there) e) e

  -- ## The part before the loop

  -- nothing is in scope where `main` begins
  nothing_in : f.parameters ≡ 0 → (held : List Held) → AreThere (numbers_from 0 f.parameters) held
  nothing_in none held = subst (λ k. AreThere (numbers_from 0 k) held) (sym none) (record { each = λ k e. absurd cc })

  first_stops : f.parameters ≡ 0 → (i : ℕ) (w : State) (ks : List Kind) → Sound p ks w → StopsWhere P (before_task (setting_of p budget (call_at budget p) depth f) f i depth w)
  first_stops none i w ks so = stops_step P w _ (λ left.
      let start : Entered = entered f.variables [] (raised depth (record w { left = left })) in
      let entry : EntryFits p ks f.variables start = no_arguments p f.variables (raised depth (record w { left = left })) ks so in
      stops_on P (execute_from (setting_of p budget (call_at budget p) depth f) 0 (statements_of_list (take i (statements_list f.body))) start.frame start.state) _
      (from_stops p (laid_out p whole) whole (call_at budget p depth) (calls_keep p whole budget depth) budget number f few function (InProgram p) (calls_stop p whole budget depth) 0 (statements_of_list (take i (statements_list f.body)))
      (numbers_from 0 f.parameters) false false (whole_front (here (numbers_from 0 f.parameters)) f.body i function.body) tt (in_front (InProgram p) f.body i (body_in p number f there)) start.frame start.state entry.kinds entry.sound entry.frame
      (nothing_in none start.frame.held))
      (λ d w. goes_on d.flow d.frame w))
    where
      goes_on : (flow : Flow) (frame : Frame) (w : State) → StopsWhere P (go_on flow frame w (λ frame w. step w (λ w. goes frame w)))
      goes_on normal frame w = stops_step P w _ (λ left. tt)
      goes_on broken frame w = tt
      goes_on continued frame w = tt
      goes_on (returned x) frame w = tt

  -- what is in scope at the loop is there when it begins
  first_there : f.parameters ≡ 0 → (i : ℕ) (w : State) (ks : List Kind) → Sound p ks w → OnGiven (Reached (task_scope f i)) (before_task (setting_of p budget (call_at budget p) depth f) f i depth w)
  first_there none i w ks so = on_left (Reached (task_scope f i)) w _ (λ left.
      let start : Entered = entered f.variables [] (raised depth (record w { left = left })) in
      let entry : EntryFits p ks f.variables start = no_arguments p f.variables (raised depth (record w { left = left })) ks so in
      on_then (Reached (task_scope f i)) (Reached (task_scope f i)) (execute_from (setting_of p budget (call_at budget p) depth f) 0 (statements_of_list (take i (statements_list f.body))) start.frame start.state) _
      (items_there p (laid_out p whole) whole (call_at budget p depth) (calls_keep p whole budget depth) budget number f few function (InProgram p) (calls_stop p whole budget depth) (statements_of_list (take i (statements_list f.body)))
      (numbers_from 0 f.parameters) false false (whole_front (here (numbers_from 0 f.parameters)) f.body i function.body) start.frame start.state entry.kinds entry.sound entry.frame (nothing_in none start.frame.held))
      (λ d w r. goes_on d.flow d.frame w r))
    where
      goes_on : (flow : Flow) (frame : Frame) (w : State) → IfNormal flow (AreThere (task_scope f i) frame.held) → OnGiven (Reached (task_scope f i)) (go_on flow frame w (λ frame w. step w (λ w. goes frame w)))
      goes_on normal frame w r = on_step (Reached (task_scope f i)) w _ (λ w. r)
      goes_on broken frame w r = tt
      goes_on continued frame w r = tt
      goes_on (returned x) frame w r = tt

  -- ## Turns

  turn_stops : (scope : List ℕ) (task : Task) → IsTaskThere p number f scope task → (frame : Frame) (w : State) (ks : List Kind) → Sound p ks w → FrameFits p ks f.variables frame.held → AreThere scope frame.held →
      StopsWhere P (task_turn (setting_of p budget (call_at budget p) depth f) task frame w)
  turn_stops scope task i frame w ks so h r =
      stops_then p ks (λ ks more. Unit {0}) P (task_test (setting_of p budget (call_at budget p) depth f) task.tested frame w) _ (started_keeps task.tested i.test) (started_stops task.tested i.test i.test_in) (λ more w js so g _.
      stops_if P more _ _
      (λ e. execute_stops p (laid_out p whole) whole (call_at budget p depth) (calls_keep p whole budget depth) budget number f few function (InProgram p) (calls_stop p whole budget depth) task.body scope true false i.body i.body_in frame w js so
      (frame_grown p ks js f.variables frame.held g h) r)
      (λ e. tt))
    where
      started_keeps : (tested : Option PlainValue) → IsMaybeTest (around (here scope)) tested → Keeps p ks (λ ks more. Unit {0}) (task_test (setting_of p budget (call_at budget p) depth f) tested frame w)
      started_keeps None t = kept p ks (λ ks more. Unit {0}) true w so tt
      started_keeps (Some v) t = test_keeps p (laid_out p whole) whole (call_at budget p depth) (calls_keep p whole budget depth) budget number f few scope (Some v) t frame w ks so h

      started_stops : (tested : Option PlainValue) → IsMaybeTest (around (here scope)) tested → AllIn (InProgram p) (nodes_of_maybe tested) → StopsWhere P (task_test (setting_of p budget (call_at budget p) depth f) tested frame w)
      started_stops None t m = tt
      started_stops (Some v) t m =
          test_stops p (laid_out p whole) whole (call_at budget p depth) (calls_keep p whole budget depth) budget number f few function (InProgram p) (calls_stop p whole budget depth) scope (Some v) t m frame w ks so h r

  turn_there : (scope : List ℕ) (task : Task) (frame : Frame) (w : State) → AreThere scope frame.held → OnGiven (λ (d : Done). AreThere scope d.frame.held) (task_turn (setting_of p budget (call_at budget p) depth f) task frame w)
  turn_there scope task frame w r = on_any (λ (d : Done). AreThere scope d.frame.held) (task_test (setting_of p budget (call_at budget p) depth f) task.tested frame w) _ (λ more w.
      on_if (λ (d : Done). AreThere scope d.frame.held) more _ _
      (given_weaker (λ (d : Done). Stay frame.held d.frame.held) (λ (d : Done). AreThere scope d.frame.held) (execute (setting_of p budget (call_at budget p) depth f) task.body frame w) (λ d y. there_after scope frame.held d.frame.held y r)
      (statement_stays (setting_of p budget (call_at budget p) depth f) frame.held task.body frame w (stay_same frame.held)))
      r)

-- ## Whole runs

no_parameters : (p : PlainProgram) (ks : List Kind) (vs : List PlainVariable) (k : ℕ) → k ≡ 0 → ScalarsFit p ks (map (λ (v : PlainVariable). v.type) (take k vs)) []
no_parameters p ks vs k e = subst (λ k. ScalarsFit p ks (map (λ (v : PlainVariable). v.type) (take k vs)) []) (sym e) (none vs)
  where
    none : (vs : List PlainVariable) → ScalarsFit p ks (map (λ (v : PlainVariable). v.type) (take 0 vs)) []
    none [] = tt
    none (v ∷ vs) = tt

turns_where : (P : Stop → Span → Type 0) (Good : Frame → State → Type 0) (turn : Frame → State → Progress Done) (budget : ℕ) →
    ((frame : Frame) (w : State) → Good frame w → StopsWhere P (turn frame (record w { left = budget }))) →
    ((frame : Frame) (w : State) (d : Done) (u : State) → Good frame w → turn frame (record w { left = budget }) ≡ gives d u → Good d.frame u) →
    (n made : ℕ) (frame : Frame) (w : State) → Good frame w → RanWhere P (run_turns n made turn budget frame w)
turns_where P Good turn budget stops stays zero made frame w h = λ stop span e. absurd cc
turns_where P Good turn budget stops stays (suc n) made frame w h =
    turn_where P Good (λ frame w. run_turns n (suc made) turn budget frame w) (λ frame w g. turns_where P Good turn budget stops stays n (suc made) frame w g)
    (turn frame (record w { left = budget })) (λ d u e. stays frame w d u h e) (stops frame w h)

-- a state is sound, the frame of `main` fits, and something stands for each variable in scope
record IsGood (p : PlainProgram) (f : PlainFunction) (scope : List ℕ) (frame : Frame) (w : State) : Type 0 where
  kinds : List Kind
  sound : Sound p kinds w
  fits : FrameFits p kinds f.variables frame.held
  there : AreThere scope frame.held

good_after : (p : PlainProgram) (f : PlainFunction) (scope : List ℕ) (R : Done → Type 0) (ks : List Kind) (o : Progress Done) (d : Done) (u : State) → o ≡ gives d u → Keeps p ks (DoneFits p f.variables f.result) o → OnGiven R o →
    (R d → AreThere scope d.frame.held) → IsGood p f scope d.frame u
good_after p f scope R ks o d u e k g r = of (subst (λ o. Keeps p ks (DoneFits p f.variables f.result) o) e k) (r (subst (λ o. OnGiven R o) e g))
  where
    of : Keeps p ks (DoneFits p f.variables f.result) (gives d u) → AreThere scope d.frame.held → IsGood p f scope d.frame u
    of k there = record { kinds = k.kinds; sound = k.sound; fits = k.value.frame; there = there }

-- the task loop of a whole program is one
task_may_be : (p : PlainProgram) (whole : IsWholeProgram p) (f : PlainFunction) → slice_get p.functions p.main ≡ Some f → (i : ℕ) → p.task ≡ Some i → may_be_task (slice_get (statements_list f.body) i) ≡ true
task_may_be p whole f there i e =
    let same : whole.main.function ≡ f = same_Some _ _ (sym whole.main.there ∙ there) in
    let is : IsMain p f = subst (λ g. IsMain p g) same whole.main.is in
    let task : IsTask (statements_list f.body) i = subst (λ o. IfSome o (IsTask (main_items f))) e is.task in
    task.loop

abbrev first_part : PlainProgram → World → ℕ → PlainFunction → ℕ → Progress Done
first_part p world prefix f i = before_task (setting_of p prefix (call_at prefix p) (deeper f no_depth) f) f i (deeper f no_depth) (opening p world prefix)

task_where : (p : PlainProgram) (whole : IsWholeProgram p) (world : World) → IsWorld world → (prefix budget n i : ℕ) (f : PlainFunction) (task : Task) → HasTask p f i task → f.parameters ≡ 0 →
    RanWhere (Found (InProgram p)) (run_task p prefix budget n f i (Some task) (opening p world prefix))
task_where p whole world is prefix budget n i f task h none =
    part_where (Found (InProgram p)) (IsGood p f (task_scope f i)) (λ frame w. run_turns n 0 (task_turn (setting_of p budget (call_at budget p) (deeper f no_depth) f) task) budget frame w) from_loop (first_part p world prefix f i)
    (λ d u e goes. good_after p f (task_scope f i) (Reached (task_scope f i)) (opening_kinds p) (first_part p world prefix f i) d u e (first_parts_keep p whole f i task h prefix (opening p world prefix) (opening_kinds p) so)
    (first_there p whole p.main f h.main prefix (deeper f no_depth) none i (opening p world prefix) (opening_kinds p) so) (λ r. subst (λ flow. IfNormal flow (AreThere (task_scope f i) d.frame.held)) goes r))
    (first_stops p whole p.main f h.main prefix (deeper f no_depth) none i (opening p world prefix) (opening_kinds p) so)
  where
    so : Sound p (opening_kinds p) (opening p world prefix)
    so = opening_sound p whole world is prefix

    from_loop : (frame : Frame) (w : State) → (IsGood p f (task_scope f i)) frame w → RanWhere (Found (InProgram p)) (run_turns n 0 (task_turn (setting_of p budget (call_at budget p) (deeper f no_depth) f) task) budget frame w)
    from_loop frame w g =
        turns_where (Found (InProgram p)) (IsGood p f (task_scope f i)) (task_turn (setting_of p budget (call_at budget p) (deeper f no_depth) f) task) budget
        (λ frame w g. turn_stops p whole p.main f h.main budget (deeper f no_depth) (task_scope f i) task (task_there p whole p.main f h.main budget (deeper f no_depth) i task (task_may_be p whole f h.main i h.item) h.loop)
        frame (record w { left = budget }) g.kinds g.sound g.fits g.there)
        (λ frame w d u g e. good_after p f (task_scope f i) (λ (d : Done). AreThere (task_scope f i) d.frame.held) g.kinds (task_turn (setting_of p budget (call_at budget p) (deeper f no_depth) f) task frame (record w { left = budget })) d u e
        (turns_keep p whole f i task h budget frame (record w { left = budget }) g.kinds g.sound g.fits) (turn_there p whole p.main f h.main budget (deeper f no_depth) (task_scope f i) task frame (record w { left = budget }) g.there) (λ r. r))
        n 0 frame w g

-- a run of all of `main`
all_where : (p : PlainProgram) (whole : IsWholeProgram p) (world : World) → IsWorld world → (prefix : ℕ) (f : PlainFunction) → slice_get p.functions p.main ≡ Some f → f.parameters ≡ 0 →
    RanWhere (Found (InProgram p)) (ran_call (call_at prefix p no_depth p.main [] (opening p world prefix)))
all_where p whole world is prefix f there none =
    call_where (Found (InProgram p)) (call_at prefix p no_depth p.main [] (opening p world prefix))
    ((calls_stop p whole prefix no_depth).stops p.main f [] (opening p world prefix) (opening_kinds p) there (no_parameters p (opening_kinds p) f.variables f.parameters none) (opening_sound p whole world is prefix))

run_where : (p : PlainProgram) (whole : IsWholeProgram p) (world : World) → IsWorld world → (prefix budget n : ℕ) (f : PlainFunction) → slice_get p.functions p.main ≡ Some f → f.parameters ≡ 0 → (i : Option ℕ) → p.task ≡ i →
    RanWhere (Found (InProgram p)) (run_main p prefix budget n (Some f) i (opening p world prefix))
run_where p whole world is prefix budget n f there none None e = all_where p whole world is prefix f there none
run_where p whole world is prefix budget n f there none (Some i) e = by_task (task_in (slice_get (statements_list f.body) i)) refl
  where
    by_task : (t : Option Task) → task_in (slice_get (statements_list f.body) i) ≡ t → RanWhere (Found (InProgram p)) (run_task p prefix budget n f i t (opening p world prefix))
    by_task None h = all_where p whole world is prefix f there none
    by_task (Some task) h = task_where p whole world is prefix budget n i f task (record { main = there; item = e; loop = h }) none

pub runs_stop_with_cause : RunsStopWithCause
runs_stop_with_cause p whole world is prefix turn n stop span e =
    cause_of p stop span
    (run_where p whole world is prefix turn n whole.main.function whole.main.there whole.main.is.no_parameters p.task refl stop span
    (subst (λ (o : Option PlainFunction). (run_main p prefix turn n o p.task (opening p world prefix)).outcome ≡ Ended (Undefined stop span)) whole.main.there e))
