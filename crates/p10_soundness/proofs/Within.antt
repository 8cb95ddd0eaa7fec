-- Programs whose certificates meet the conditions stay within them.
use Rattle.std.proofs.Common.{◌≡◌, ℕ, zero, suc, ◌+◌, ◌≤◌, Bool, true, false, List, [], ◌∷◌, map, take, refl, sym, ◌∙◌, ap, subst, arith, Option, Some, None, slice_get}
use Rattle.std.specs.Prelude.{◌&&◌, nat_le, if◌then◌else◌, IfSome}
use Rattle.std.specs.Bool.{nat_eq}
use Rattle.std.proofs.lemmas.Option.{none-some}
use Rattle.std.proofs.lemmas.Bool.Decides.{nat_tests}
use Rattle.p10_base.specs.declared.report.Bounds.{Bounds}
use Rattle.p10_base.specs.declared.report.TheConstants.Limit.{MOST_SUM}
use Rattle.p10_core.specs.declared.statements.LoopHead.{LoopHead}
use Rattle.p10_core.specs.Typed.{PlainStatement, statement, set, update, copy, evaluate as expression, asserts, declare, declare_static, block, if_then, if_else, loop, switch, break, continue, return, empty, mark, statements_list, PlainVariable, PlainFunction, PlainProgram}
use Rattle.p10_core.specs.WholePrograms.{IsWholeProgram, parameter_types, may_be_task, IsTask}
use Rattle.p10_cert.specs.Claims.{Value, Number, Address, Nothing, Func, Claims}
use Rattle.p10_meaning.specs.declared.world.World.{World}
use Rattle.p10_meaning.specs.States.{IsWorld, State}
use Rattle.p10_meaning.specs.Statements.{Frame}
use Rattle.p10_meaning.specs.Calling.{Depth, no_depth, deeper, setting_of, call_at}
use Rattle.p10_meaning.specs.Opening.{opening}
use Rattle.p10_meaning.specs.Sound.{Kind, ScalarsFit, OpeningIsSound, opening_kinds}
use Rattle.p10_meaning.specs.Runs.{ran_call, Task, task_in, run_task, run_main, run_of, Within}
use Rattle.p10_meaning.specs.SoundRuns.{main_setting, HasTask}
use Rattle.p10_sums.specs.Counting.{steps_claimed, calls_claimed, bytes_claimed, alloc_claimed, counting_of, task_of}
use Rattle.p10_sums.specs.Costs.{cost_of, turn_cost}
use Rattle.p10_sums.specs.Depths.{depth_of}
use Rattle.p10_absx.specs.Entering.{claims_on}
use Rattle.p10_sums.specs.Sums.{sum_under}
use Rattle.p10_sums.specs.Laws.{CallKeeps, FirstPartKeeps, TurnKeeps, FirstPartsTakeWhatTheyCost, TurnsTakeWhatTheyCost}
use Rattle.p10_sums.specs.CallLaws.{Allows, BodyKeepsWithin, CallsKeepTheirClaims}
use Rattle.p10_check.specs.Passes.{Standing}
use Rattle.p10_check.specs.Shapes.{head_in, head_at, task_head, turn_claimed, main_turn, bounds_main}
use Rattle.p10_check.specs.Sums.{covers_sum}
use Rattle.p10_evaluation.specs.Claimed.{ArgumentsLie, IsCoveredCall, ResultsLie}
use Rattle.p10_task.specs.Covering.{TurnIsCovered, RunIsCovered}
use Rattle.p10_soundness.proofs.Entering.{CallsEnterAsDescribed}
use Rattle.p10_soundness.proofs.Accepted.{FunctionMeets, MeetsConditions}
use Rattle.p10_soundness.proofs.Mapping.{on_gives, after_step, test_mapped, statement_mapped, statements_mapped}
use Rattle.p10_soundness.specs.Calls.{BodyIsCovered, BoundsCalls}
use Rattle.p10_soundness.proofs.Calls.{BodyIsSafe, CalleeIsSafe, body_covered, body_keeps, covered_claims, covered_keep, covered_return}
use Rattle.p10_soundness.proofs.Runs.{stays, RunStays, call_stays, run_stays}

-- ## Tests

covered_sum : (claim sum : ℕ) → covers_sum claim sum ≡ true → sum ≤ claim
covered_sum claim sum e = at (nat_le sum claim) (nat_le sum MOST_SUM) refl e
  where
    at : (a b : Bool) → nat_le sum claim ≡ a → a && b ≡ true → sum ≤ claim
    at true b h e = grind (arith, nat_tests, h)
    at false b h e = absurd cc

-- what a total is at least
record TotalCovers (total : Bounds) (claim : Option Func) (turn : ℕ) : Type 0 where
  prefix : steps_claimed claim ≤ total.prefix
  turn_steps : turn ≤ total.turn
  calls : calls_claimed claim ≤ total.calls
  bytes : bytes_claimed claim ≤ total.bytes

total_covers : (total : Bounds) (claim : Option Func) (turn : ℕ) → bounds_main total claim turn ≡ true → TotalCovers total claim turn
total_covers total claim turn e = at (nat_le (steps_claimed claim) total.prefix) (nat_le turn total.turn) (nat_le (calls_claimed claim) total.calls) (nat_le (bytes_claimed claim) total.bytes) refl refl refl refl e
  where
    at : (a b c d : Bool) → nat_le (steps_claimed claim) total.prefix ≡ a → nat_le turn total.turn ≡ b → nat_le (calls_claimed claim) total.calls ≡ c → nat_le (bytes_claimed claim) total.bytes ≡ d → (a && b) && (c && d) ≡ true → TotalCovers total claim turn
    at true true true true h i j k e = record { prefix = grind (arith, nat_tests, h); turn_steps = grind (arith, nat_tests, i); calls = grind (arith, nat_tests, j); bytes = grind (arith, nat_tests, k) }
    at true true true false h i j k e = absurd cc
    at true true false d h i j k e = absurd cc
    at true false c d h i j k e = absurd cc
    at false b c d h i j k e = absurd cc

same_number : (n : ℕ) → nat_eq n n ≡ true
same_number n = at (nat_eq n n) refl
  where
    at : (b : Bool) → nat_eq n n ≡ b → b ≡ true
    at true h = refl
    at false h = absurd (grind (arith, nat_tests, h))

-- ## What a function's claims allow

allows_so : (stands : Standing) (p : PlainProgram) (c : Claims) (k : ℕ) (f : PlainFunction) → task_of p k ≡ None → FunctionMeets stands p c k f → Allows (slice_get c.funcs k) (sum_under (counting_of p c.funcs k f) None f)
allows_so stands p c k f none meets = subst (λ t. Allows (slice_get c.funcs k) (sum_under (counting_of p c.funcs k f) t f)) none (record {
  steps_allowed = covered_sum _ _ meets.steps;
  calls_allowed = covered_sum _ _ meets.calls;
  bytes_allowed = covered_sum _ _ meets.bytes;
  effect_allowed = meets.effect;
})

no_task : (p : PlainProgram) (k : ℕ) → nat_eq k p.main ≡ false → task_of p k ≡ None
no_task p k e = ap (λ b. if b then p.task else None) e

main_task : (p : PlainProgram) → task_of p p.main ≡ p.task
main_task p = ap (λ b. if b then p.task else None) (same_number p.main)

-- ## Task loops

-- what a task loop begins with
head_there : (o : Option PlainStatement) (task : Task) → task_in o ≡ Some task → (head : LoopHead) × (head_in o ≡ Some head)
head_there None task e = absurd (none-some _ e)
head_there (Some (statement at (loop head first tested third body))) task e = (head, refl)
head_there (Some (statement at (set p v))) task e = absurd (none-some _ e)
head_there (Some (statement at (update kind op t p v))) task e = absurd (none-some _ e)
head_there (Some (statement at (copy p q))) task e = absurd (none-some _ e)
head_there (Some (statement at (expression v))) task e = absurd (none-some _ e)
head_there (Some (statement at (asserts call v))) task e = absurd (none-some _ e)
head_there (Some (statement at (declare n i))) task e = absurd (none-some _ e)
head_there (Some (statement at (declare_static n))) task e = absurd (none-some _ e)
head_there (Some (statement at (block ss))) task e = absurd (none-some _ e)
head_there (Some (statement at (if_then v s))) task e = absurd (none-some _ e)
head_there (Some (statement at (if_else v s t))) task e = absurd (none-some _ e)
head_there (Some (statement at (switch keyword v labels body))) task e = absurd (none-some _ e)
head_there (Some (statement at break)) task e = absurd (none-some _ e)
head_there (Some (statement at continue)) task e = absurd (none-some _ e)
head_there (Some (statement at (return keyword v))) task e = absurd (none-some _ e)
head_there (Some (statement at empty)) task e = absurd (none-some _ e)
head_there (Some (statement at (mark kind))) task e = absurd (none-some _ e)

-- ## The whole

module _ (stands : Standing) (p : PlainProgram) (whole : IsWholeProgram p) (c : Claims) (costs : CallsKeepTheirClaims) (first_parts : FirstPartsTakeWhatTheyCost) (turns : TurnsTakeWhatTheyCost) (enters : CallsEnterAsDescribed) (meets : MeetsConditions stands p c)
    (quiet : (world : World) (prefix turn n : ℕ) → (run_of p world prefix turn n).after ≡ 0)
    (bodies : (k : ℕ) (f : PlainFunction) → slice_get p.functions k ≡ Some f → task_of p k ≡ None → BodyIsSafe p c k f)
    (opens : OpeningIsSound)
    (tasks : (f : PlainFunction) (i : ℕ) (task : Task) → HasTask p f i task → (world : World) → IsWorld world → (prefix turn : ℕ) → ((n : ℕ) → ResultsLie p (Some c) n (call_at n p (deeper f no_depth))) → RunIsCovered p c world prefix turn f i task) where
  safe : (k : ℕ) (f : PlainFunction) → slice_get p.functions k ≡ Some f → nat_eq k p.main ≡ false → CalleeIsSafe p c k f
  safe k f there other = record { allows = allows_so stands p c k f (no_task p k other) (meets.functions k f there); body = bodies k f there (no_task p k other) }

  keep : (n : ℕ) (depth : Depth) (g : ℕ) (xs : _) (w : State) → IsCoveredCall p (Some c) n g xs w → (caller : PlainFunction) → CallKeeps (setting_of p n (call_at n p) depth caller) c.funcs depth g xs w
  keep n depth g xs w i caller = covered_keep p whole c costs enters safe n depth g xs w i caller

  result : (n : ℕ) (depth : Depth) → ResultsLie p (Some c) n (call_at n p depth)
  result n depth = covered_return p whole c costs enters safe n depth

  abbrev C : ℕ
  C = c.total.calls

  abbrev B : ℕ
  B = c.total.bytes

  -- `main`
  abbrev f : PlainFunction
  f = whole.main.function

  abbrev i_main : FunctionMeets stands p c p.main f
  i_main = meets.functions p.main f whole.main.there

  abbrev enough : TotalCovers c.total (slice_get c.funcs p.main) (main_turn p c.funcs (slice_get p.functions p.main))
  enough = total_covers c.total (slice_get c.funcs p.main) (main_turn p c.funcs (slice_get p.functions p.main)) meets.total

  no_claims : (claims : List Value) → ArgumentsLie claims []
  no_claims [] = tt
  no_claims (Number r ∷ claims) = tt
  no_claims (Address ∷ claims) = tt
  no_claims (Nothing ∷ claims) = tt

  no_scalars : (ks : List Kind) → ScalarsFit p ks (parameter_types f) []
  no_scalars ks = subst (λ n. ScalarsFit p ks (map (λ (v : PlainVariable). v.type) (take n f.variables)) []) (sym whole.main.is.no_parameters) tt

  below : (a b m : ℕ) → a ≤ b → b ≤ m → a ≤ m
  below a b m h k = omega (arith, h, k)

  least : (a : ℕ) → a ≤ a
  least a = omega arith

  from_zero : (a m : ℕ) → a ≤ m → 0 + a ≤ m
  from_zero a m h = omega (arith, h)

  none_yet : (m : ℕ) → 0 ≤ m
  none_yet m = omega arith

  -- ## Without a task loop

  main_body : (world : World) → IsWorld world → p.task ≡ None → (n : ℕ) → (m : ℕ) → n ≡ m → BodyKeepsWithin m p c.funcs no_depth p.main f [] (opening p world n)
  main_body world i none n zero e = tt
  main_body world i none n (suc m) e =
      body_keeps p whole c costs enters safe m (λ depth g xs w j. keep m depth g xs w j) (λ depth. result m depth) no_depth p.main f whole.main.there (bodies p.main f whole.main.there (main_task p ∙ none)) [] (opening p world n) (opening_kinds p)
      (opens p whole world i n) (no_scalars (opening_kinds p)) (no_claims (claims_on (slice_get c.funcs p.main))) (same_few n (suc m) e)
    where
      same_few : (a b : ℕ) → a ≡ b → a ≤ b
      same_few a b e = omega (arith, e)

  main_stays : (world : World) → IsWorld world → p.task ≡ None → RunStays C B (ran_call (call_at c.total.prefix p no_depth p.main [] (opening p world c.total.prefix)))
  main_stays world i none =
      let w : State = opening p world c.total.prefix in
      call_stays C B (call_at c.total.prefix p no_depth p.main [] w)
      (stays (steps_claimed (slice_get c.funcs p.main)) (0 + calls_claimed (slice_get c.funcs p.main)) (0 + bytes_claimed (slice_get c.funcs p.main)) C B (alloc_claimed (slice_get c.funcs p.main)) w
      (call_at c.total.prefix p no_depth p.main [] w)
      (costs p c.funcs c.total.prefix no_depth f p.main f [] w whole.main.there (allows_so stands p c p.main f (main_task p ∙ none) i_main) (least c.total.prefix) (main_body world i none c.total.prefix c.total.prefix refl))
      enough.prefix (none_yet C) (from_zero _ C enough.calls) (none_yet B) (from_zero _ B enough.bytes))

  -- ## With one

  module _ (i : ℕ) (item : p.task ≡ Some i) (task : Task) (loop_is : task_in (slice_get (statements_list f.body) i) ≡ Some task) (world : World) (is_world : IsWorld world) where
    abbrev has : HasTask p f i task
    has = record { main = whole.main.there; item = item; loop = loop_is }

    abbrev run_covered : RunIsCovered p c world c.total.prefix c.total.turn f i task
    run_covered = tasks f i task has world is_world c.total.prefix c.total.turn (λ n. result n (deeper f no_depth))

    calls_fit : no_depth.calls + (depth_of c.funcs f).calls ≤ C
    calls_fit = from_zero _ C (below _ _ C (covered_sum _ _ i_main.calls) enough.calls)

    bytes_fit : no_depth.bytes + (depth_of c.funcs f).bytes ≤ B
    bytes_fit = from_zero _ B (below _ _ B (covered_sum _ _ i_main.bytes) enough.bytes)

    first_fits : cost_of (counting_of p c.funcs p.main f) (Some i) f ≤ c.total.prefix
    first_fits = subst (λ t. cost_of (counting_of p c.funcs p.main f) t f ≤ c.total.prefix) (main_task p ∙ item) (below _ _ c.total.prefix (covered_sum _ _ i_main.steps) enough.prefix)

    -- what is claimed of a turn
    head_is : task_head p p.main f ≡ Some (head_there (slice_get (statements_list f.body) i) task loop_is).0
    head_is = ap (λ b. if b then head_at (statements_list f.body) p.task else None) (same_number p.main) ∙ (ap (λ t. head_at (statements_list f.body) t) item ∙ (head_there (slice_get (statements_list f.body) i) task loop_is).1)

    turn_claims : main_turn p c.funcs (slice_get p.functions p.main) ≡ turn_claimed c.funcs p.main (Some (head_there (slice_get (statements_list f.body) i) task loop_is).0)
    turn_claims = ap (λ o. main_turn p c.funcs o) whole.main.there ∙ ap (λ o. turn_claimed c.funcs p.main o) head_is

    turn_fits : turn_cost (counting_of p c.funcs p.main f) (Some i) f ≤ c.total.turn
    turn_fits = subst (λ t. turn_cost (counting_of p c.funcs p.main f) t f ≤ c.total.turn) (main_task p ∙ item)
        (below _ _ c.total.turn (covered_sum _ _ (i_main.turn (head_there (slice_get (statements_list f.body) i) task loop_is).0 head_is)) (subst (λ t. t ≤ c.total.turn) turn_claims enough.turn_steps))

    first_keeps : FirstPartKeeps p c.funcs c.total.prefix no_depth p.main f i (opening p world c.total.prefix)
    first_keeps = after_step (opening p world c.total.prefix) _ _
        (λ w h. statements_mapped (main_setting p c.total.prefix f) (IsCoveredCall p (Some c) c.total.prefix) (CallKeeps (main_setting p c.total.prefix f) c.funcs (deeper f no_depth)) (λ g xs w j. keep c.total.prefix (deeper f no_depth) g xs w j f)
        (counting_of p c.funcs p.main f) 0 _ _ _ h) run_covered.first

    turn_keeps : (frame : Frame) (w : State) → TurnIsCovered p c c.total.turn f task frame w → TurnKeeps (counting_of p c.funcs p.main f) (main_setting p c.total.turn f) c.funcs (deeper f no_depth) task frame w
    turn_keeps frame w h = (
      test_mapped (main_setting p c.total.turn f) (IsCoveredCall p (Some c) c.total.turn) (CallKeeps (main_setting p c.total.turn f) c.funcs (deeper f no_depth)) (λ g xs w j. keep c.total.turn (deeper f no_depth) g xs w j f) task.tested frame w h.0,
      on_gives _ _ _ (λ more w g e.
          statement_mapped (main_setting p c.total.turn f) (IsCoveredCall p (Some c) c.total.turn) (CallKeeps (main_setting p c.total.turn f) c.funcs (deeper f no_depth)) (λ g xs w j. keep c.total.turn (deeper f no_depth) g xs w j f)
          (counting_of p c.funcs p.main f) task.body frame w (g e)) h.1,
    )

    task_stays : (n : ℕ) → RunStays C B (run_task p c.total.prefix c.total.turn n f i (Some task) (opening p world c.total.prefix))
    task_stays n = run_stays p world c.total.prefix c.total.turn f i task C B
        (λ frame w k low small. stays _ _ _ C B _ (record w { left = c.total.turn }) _
        (turns p c.funcs c.total.turn no_depth p.main f i task frame (record w { left = c.total.turn }) (least c.total.turn) loop_is (turn_keeps frame (record w { left = c.total.turn }) (run_covered.turns frame w k)))
        turn_fits low calls_fit small bytes_fit)
        n
        (stays _ _ _ C B _ (opening p world c.total.prefix) _ (first_parts p c.funcs c.total.prefix no_depth p.main f i (opening p world c.total.prefix) (least c.total.prefix) first_keeps) first_fits (none_yet C) calls_fit (none_yet B) bytes_fit)

  -- ## Both

  task_loop : (items : List PlainStatement) (i : ℕ) → IsTask items i → (task : Task) × (task_in (slice_get items i) ≡ Some task)
  task_loop items i t = found (slice_get items i) t.loop
    where
      found : (o : Option PlainStatement) → may_be_task o ≡ true → (task : Task) × (task_in o ≡ Some task)
      found (Some (statement at (loop head first tested third body))) e = (record { tested = tested; body = body }, refl)
      found None e = absurd cc
      found (Some (statement at (set p v))) e = absurd cc
      found (Some (statement at (update kind op t p v))) e = absurd cc
      found (Some (statement at (copy p q))) e = absurd cc
      found (Some (statement at (expression v))) e = absurd cc
      found (Some (statement at (asserts call v))) e = absurd cc
      found (Some (statement at (declare n i))) e = absurd cc
      found (Some (statement at (declare_static n))) e = absurd cc
      found (Some (statement at (block ss))) e = absurd cc
      found (Some (statement at (if_then v s))) e = absurd cc
      found (Some (statement at (if_else v s t))) e = absurd cc
      found (Some (statement at (switch keyword v labels body))) e = absurd cc
      found (Some (statement at break)) e = absurd cc
      found (Some (statement at continue)) e = absurd cc
      found (Some (statement at (return keyword v))) e = absurd cc
      found (Some (statement at empty)) e = absurd cc
      found (Some (statement at (mark kind))) e = absurd cc

  within_so : (world : World) → IsWorld world → (n : ℕ) → (t : Option ℕ) → p.task ≡ t → RunStays C B (run_main p c.total.prefix c.total.turn n (Some f) t (opening p world c.total.prefix))
  within_so world w n None e = main_stays world w e
  within_so world w n (Some i) e =
      let t : (task : Task) × (task_in (slice_get (statements_list f.body) i) ≡ Some task) = task_loop (statements_list f.body) i (subst (λ o. IfSome o (IsTask (statements_list f.body))) e whole.main.is.task) in
      subst (λ o. RunStays C B (run_task p c.total.prefix c.total.turn n f i o (opening p world c.total.prefix))) (sym t.1) (task_stays i e t.0 t.1 world w n)

  pub stays_within : Within p c.total
  stays_within = record {
    every = λ world w n.
        let r : RunStays C B (run_of p world c.total.prefix c.total.turn n) =
        subst (λ o. RunStays C B (run_main p c.total.prefix c.total.turn n o p.task (opening p world c.total.prefix))) (sym whole.main.there) (within_so world w n p.task refl) in
        record { steps = r.steps; calls = r.calls; bytes = r.bytes; after = quiet world c.total.prefix c.total.turn n };
  }

  -- ## Calls

  main_covered : (world : World) → IsWorld world → p.task ≡ None → (n : ℕ) → BodyIsCovered p c n no_depth p.main f [] (opening p world (suc n))
  main_covered world i none n =
      body_covered p whole c costs enters safe n (λ depth g xs w j. keep n depth g xs w j) (λ depth. result n depth) no_depth p.main f whole.main.there (bodies p.main f whole.main.there (main_task p ∙ none)) [] (opening p world (suc n)) (opening_kinds p)
      (opens p whole world i (suc n)) (no_scalars (opening_kinds p)) (no_claims (claims_on (slice_get c.funcs p.main))) (least (suc n))

  pub bounds_calls : BoundsCalls p whole c
  bounds_calls = record {
    main = λ world i. record {
      body = λ none n. main_covered world i none n;
      task = λ j task has prefix turn. tasks f j task has world i prefix turn (λ n. result n (deeper f no_depth));
    };
    calls = λ n depth g xs w covered. covered_claims p whole c costs enters safe n depth g xs w covered;
  }
