-- A turn of the task loop: it keeps claims, and where it goes on, the frame is as claimed again.
use Rattle.std.proofs.Common.{◌≡◌, ℕ, Bool, true, false, List, [], ◌++◌, refl, sym, ◌∙◌, subst, Option, Some, None, slice_get, inl, inr}
use Rattle.std.specs.Prelude.{◌⊎◌}
use Rattle.std.proofs.lemmas.Option.{same_Some, none-some}
use Rattle.p10_core.specs.declared.statements.LoopKeyword.TheVariants.{While}
use Rattle.p10_core.specs.Typed.{PlainValue, PlainStatement, PlainFunction, PlainProgram}
use Rattle.p10_core.specs.WholePrograms.{around, is_declaration, declared_in, IsMaybeTest, IsWholeStatement, IsWholeProgram}
use Rattle.p10_cert.specs.Claims.{Value, Loop, Claims}
use Rattle.p10_meaning.specs.declared.pointers.Scalar.{Scalar}
use Rattle.p10_meaning.specs.States.{State}
use Rattle.p10_meaning.specs.Values.{Setting, Held}
use Rattle.p10_meaning.specs.Statements.{Frame, Flow, normal, broken, continued, returned, Done, flows, execute}
use Rattle.p10_meaning.specs.Calling.{Depth, setting_of, call_at}
use Rattle.p10_meaning.specs.Runs.{Task, task_test, task_turn}
use Rattle.p10_meaning.specs.Sound.{region_at}
use Rattle.p10_sums.specs.Counting.{Counting}
use Rattle.p10_sums.specs.Keeping.{HoldsOf, OnGives, TestKeeps, StatementKeeps}
use Rattle.p10_absx.specs.Environments.{Environment, hull_reached}
use Rattle.p10_absx.specs.Describing.{Describes, MaybeDescribes}
use Rattle.p10_pass.specs.Claiming.{head_of, ranges_hold_reached}
use Rattle.p10_pass.specs.Passing.{Left, Weakness, Manner, manner_in, where_going, Tested, tested_in, pass_statement}
use Rattle.p10_evaluation.specs.Claimed.{IsCoveredCall, ResultsLie}
use Rattle.p10_evaluation.proofs.Hulls.{reached_left, reached_right}
use Rattle.p10_evaluation.proofs.WholeFunctions.{values_keep}
use Rattle.p10_execution.specs.Scoping.{IsBefore}
use Rattle.p10_execution.specs.Standing.{StandsSoundly}
use Rattle.p10_execution.specs.Leaving.{LeavesAs, Leaves}
use Rattle.p10_execution.proofs.Giving.{holds_then, holds_both, holds_weaker, holds_if}
use Rattle.p10_execution.proofs.Ends.{nothing_left, nothing_right}
use Rattle.p10_execution.proofs.ScopedEnds.{nothing, Scoped, MaybeScoped, EndsScoped, scoped_same, scoped_trans, ends_trans, ends_wider, reached_scoped, changed_scope, before_scoped}
use Rattle.p10_execution.proofs.PassedScopes.{statement_scoped, truth_scoped}
use Rattle.p10_execution.proofs.TopDeclarations.{declares_here, not_here}
use Rattle.p10_execution.proofs.Heads.{head_describes}
use Rattle.p10_execution.proofs.Looping.{Tests, tested_goes}
use Rattle.p10_execution.proofs.Parts.{Left as Stands_after, statement_left}
use Rattle.p10_execution.proofs.Leaving.{statements_leave}
use Rattle.p10_task.proofs.Passes.{Stands, IsFine, IsFineTurn, third_pass, turn_of}

-- a turn goes on with the next one
abbrev pub GoesOnTurning : Flow → Type 0
GoesOnTurning flow = (flow ≡ normal) ⊎ (flow ≡ continued)

module _ (p : PlainProgram) (whole : IsWholeProgram p) (n : ℕ) (depth : Depth) (number : ℕ) (f : PlainFunction) (there : slice_get p.functions number ≡ Some f)
    (c : Claims) (loops : List Loop) (result : Option Value) (lie : ResultsLie p (Some c) n (call_at n p depth)) (Stood : List Weakness → Type 0) (stands : Stands Stood) where
  abbrev s : Setting
  s = setting_of p n (call_at n p) depth f

  abbrev m : Manner
  m = manner_in f (Some c) (Some loops) result

  abbrev K : ℕ → List Scalar → State → Type 0
  K = IsCoveredCall p (Some c) n

  abbrev Stand : Frame → State → Type 0
  Stand frame w = StandsSoundly p f.variables n frame w

  -- ## The test

  module _ (scope : List ℕ) (tested : Option PlainValue) (test_whole : IsMaybeTest (around (region_at p number f scope false false)) tested) (env : Environment) (names : (tested_in m tested env).names ≡ []) where
    -- the test comes to covered calls alone
    test_covered : (head : List Held) (frame : Frame) (w : State) → Stand frame w → Describes f.variables env head frame.held → TestKeeps s K tested frame w
    test_covered head frame w r d = of tested test_whole names
      where
        of : (tested : Option PlainValue) → IsMaybeTest (around (region_at p number f scope false false)) tested → (tested_in m tested env).names ≡ [] → TestKeeps s K tested frame w
        of None i e = tt
        of (Some v) i e =
            values_keep p whole (Some c) n depth lie K (λ g xs w a. a) number f there scope v i.whole env head frame.held r.kinds w (record { sound = r.sound; fits = r.fits; describes = d; few = r.left }) e

    -- after it the frame stands soundly, and is described where the test is true
    abbrev Entered : List Held → Frame → Bool → State → Type 0
    Entered head frame more w = Stand frame w × (more ≡ true → MaybeDescribes f.variables (tested_in m tested env).truth head frame.held)

    test_enters : (head : List Held) (frame : Frame) (w : State) → Stand frame w → Describes f.variables env head frame.held → HoldsOf (Entered head frame) (task_test s tested frame w)
    test_enters head frame w r d = of tested test_whole names
      where
        of : (tested : Option PlainValue) → IsMaybeTest (around (region_at p number f scope false false)) tested → (tested_in m tested env).names ≡ [] →
            HoldsOf (λ more w. Stand frame w × (more ≡ true → MaybeDescribes f.variables (tested_in m tested env).truth head frame.held)) (task_test s tested frame w)
        of None i e = (r, λ q. d)
        of (Some v) i e =
            holds_weaker (Tests p whole n depth number f there (Some c) (Some loops) result lie (tested_in m (Some v) env).truth (tested_in m (Some v) env).contrary head frame)
            (λ more w. Stand frame w × (more ≡ true → MaybeDescribes f.variables (tested_in m (Some v) env).truth head frame.held)) (task_test s (Some v) frame w)
            (tested_goes p whole n depth number f there (Some c) (Some loops) result lie scope (Some v) i env head frame w e r d) (λ more w h. (h.0, h.1))

  -- ## The body, and the way back

  module _ (scope : List ℕ) (task : Task) (claim : Loop) (entry : Environment)
      (test_whole : IsMaybeTest (around (region_at p number f scope false false)) task.tested) (body_whole : IsWholeStatement (region_at p number f scope true false) task.body)
      (no_declaration : is_declaration task.body ≡ false) (before : IsBefore f.variables (declared_in task.body) entry)
      (fine : IsFineTurn Stood claim f.variables (turn_of f c loops result Stood stands While task.tested task.body (head_of claim f.variables entry))) where
    abbrev at_head : Environment
    at_head = head_of claim f.variables entry

    abbrev t : Tested
    t = tested_in m task.tested at_head

    abbrev a : Left
    a = where_going t.truth (λ env. pass_statement m task.body env)

    abbrev on : Option Environment
    on = hull_reached a.normal a.continues

    abbrev third : Left
    third = where_going on (third_pass f c loops result Stood stands)

    -- at the head of the loop its environment describes the frame
    pub record AtHead (frame : Frame) (w : State) : Type 0 where
      pub ready : Stand frame w
      pub describes : Describes f.variables at_head frame.held frame.held

    names_of_test : t.names ≡ []
    names_of_test = nothing_left t.names (third.arguments ++ a.arguments) fine.names

    body_fine : IsFine Stood a
    body_fine = record {
      none = record { arguments = nothing_right third.arguments a.arguments (nothing_right t.names (third.arguments ++ a.arguments) fine.names); results = fine.results; entries = fine.entries; backs = fine.backs };
      stood = fine.stood;
    }

    at_head_scoped : Scoped f.variables nothing entry at_head
    at_head_scoped = scoped_same f.variables nothing entry at_head before.knows (changed_scope f.variables _ entry)

    some_scoped : (env : Environment) (o : Option Environment) → MaybeScoped f.variables nothing env o → (e : Environment) → o ≡ Some e → Scoped f.variables nothing env e
    some_scoped env None h e q = absurd (none-some _ q)
    some_scoped env (Some k) h e q = subst (λ e. Scoped f.variables nothing env e) (same_Some _ _ q) h

    -- where the body is entered
    entered_scoped : (e : Environment) → t.truth ≡ Some e → Scoped f.variables nothing entry e
    entered_scoped e q = scoped_trans f.variables nothing entry at_head e at_head_scoped (some_scoped at_head t.truth (truth_scoped f.variables (Some c) (Some loops) result task.tested at_head at_head_scoped.knows) e q)

    before_body : (e : Environment) → t.truth ≡ Some e → IsBefore f.variables (declared_in task.body) e
    before_body e q = before_scoped f.variables nothing (declared_in task.body) entry e before (entered_scoped e q) (λ k r. refl)

    body_scoped : (e : Environment) → t.truth ≡ Some e → EndsScoped f.variables nothing entry (pass_statement m task.body e)
    body_scoped e q = ends_trans f.variables nothing entry e (pass_statement m task.body e) (entered_scoped e q)
        (ends_wider f.variables (λ k. declares_here k task.body) nothing e (pass_statement m task.body e) (λ k r. not_here k task.body no_declaration)
        (statement_scoped f.variables (Some c) (Some loops) result (region_at p number f scope true false) task.body body_whole e (before_body e q)))

    -- after a body: a way back is described
    abbrev Goes : List Held → Done → State → Type 0
    Goes head d w = Stand d.frame w × (GoesOnTurning d.flow → MaybeDescribes f.variables on head d.frame.held)

    goes_as : (l : Left) (head : List Held) (flow : Flow) (frame : Frame) → LeavesAs f.variables m l head flow frame.held → GoesOnTurning flow → MaybeDescribes f.variables (hull_reached l.normal l.continues) head frame.held
    goes_as l head normal frame h q = reached_left f.variables l.normal l.continues head frame.held h
    goes_as l head continued frame h q = reached_right f.variables l.normal l.continues head frame.held h
    goes_as l head broken frame h (inl q) = absurd cc
    goes_as l head broken frame h (inr q) = absurd cc
    goes_as l head (returned x) frame h (inl q) = absurd cc
    goes_as l head (returned x) frame h (inr q) = absurd cc

    body_goes : (head : List Held) (frame : Frame) (w : State) → Stand frame w → MaybeDescribes f.variables t.truth head frame.held → HoldsOf (Goes head) (execute s task.body frame w)
    body_goes head frame w r d = of t.truth refl body_fine d
      where
        of : (o : Option Environment) → t.truth ≡ o → IsFine Stood (where_going o (λ env. pass_statement m task.body env)) → MaybeDescribes f.variables o head frame.held → HoldsOf (Goes head) (execute s task.body frame w)
        of None q h d = absurd d
        of (Some e) q h d =
            holds_weaker (λ d w. Stands_after p whole n depth number f there d w × Leaves f.variables m (pass_statement m task.body e) head d w) (Goes head) (execute s task.body frame w)
            (holds_both (Stands_after p whole n depth number f there) (Leaves f.variables m (pass_statement m task.body e) head) (execute s task.body frame w)
            (statement_left p whole n depth number f there scope true false task.body body_whole frame w r)
            (statements_leave p whole n depth number f there (Some c) (Some loops) result lie scope true false task.body body_whole e (before_body e q) h.none head frame w r d).given)
            (λ d w h. (
              h.0.ready,
              λ g. subst (λ (o : Option Environment). MaybeDescribes f.variables (hull_reached (where_going o (λ env. pass_statement m task.body env)).normal (where_going o (λ env. pass_statement m task.body env)).continues) head d.frame.held) (sym q)
                  (goes_as (pass_statement m task.body e) head d.flow d.frame h.1.as_said g),
            ))

    -- on a way back the frame is at the head again
    on_scoped : MaybeScoped f.variables nothing entry on
    on_scoped = of t.truth refl
      where
        of : (o : Option Environment) → t.truth ≡ o → MaybeScoped f.variables nothing entry (hull_reached (where_going o (λ env. pass_statement m task.body env)).normal (where_going o (λ env. pass_statement m task.body env)).continues)
        of None q = tt
        of (Some e) q = let h : EndsScoped f.variables nothing entry (pass_statement m task.body e) = body_scoped e q in
            reached_scoped f.variables nothing entry (pass_statement m task.body e).normal (pass_statement m task.body e).continues h.normal h.continues

    to_head : (head : List Held) (frame : Frame) (w : State) → Stand frame w → MaybeDescribes f.variables on head frame.held → AtHead frame w
    to_head head frame w r d = of on on_scoped fine.back_holds d
      where
        of : (o : Option Environment) → MaybeScoped f.variables nothing entry o → ranges_hold_reached claim f.variables (where_going o (third_pass f c loops result Stood stands)).normal ≡ true → MaybeDescribes f.variables o head frame.held → AtHead frame w
        of None h k d = absurd d
        of (Some e) h k d = record { ready = r; describes = head_describes claim f.variables entry e head frame.held (λ i q. h.same i refl ∙ q) k d }

    -- ## The turn

    abbrev pub Again : Done → State → Type 0
    Again d w = GoesOnTurning d.flow → AtHead d.frame w

    pub turn_tests : (frame : Frame) (w : State) → AtHead frame w → TestKeeps s K task.tested frame w
    turn_tests frame w h = test_covered scope task.tested test_whole at_head names_of_test frame.held frame w h.ready h.describes

    pub turn_again : (frame : Frame) (w : State) → AtHead frame w → HoldsOf Again (task_turn s task frame w)
    turn_again frame w h =
        holds_then (Entered scope task.tested test_whole at_head names_of_test frame.held frame) Again (task_test s task.tested frame w) _
        (test_enters scope task.tested test_whole at_head names_of_test frame.held frame w h.ready h.describes) (λ more w e.
        holds_if Again more (execute s task.body frame w) (flows broken frame w)
        (λ q. holds_weaker (Goes frame.held) Again (execute s task.body frame w) (body_goes frame.held frame w e.0 (e.1 q)) (λ d w g k. to_head frame.held d.frame w g.0 (g.1 k)))
        (λ q. no_turn frame w))
      where
        no_turn : (frame : Frame) (w : State) → GoesOnTurning broken → AtHead frame w
        no_turn frame w (inl q) = absurd cc
        no_turn frame w (inr q) = absurd cc

    module _ (counting : Counting) (Ranked : PlainStatement → Type 0) (ranked : Ranked task.body)
        (kept : (scope : List ℕ) (l b : Bool) (x : PlainStatement) → IsWholeStatement (region_at p number f scope l b) x → Ranked x → (env : Environment) → IsBefore f.variables (declared_in x) env → IsFine Stood (pass_statement m x env) →
        (head : List Held) (frame : Frame) (w : State) → StandsSoundly p f.variables n frame w → Describes f.variables env head frame.held → StatementKeeps counting s K x frame w) where
      body_keeps : (head : List Held) (frame : Frame) (w : State) → Stand frame w → MaybeDescribes f.variables t.truth head frame.held → StatementKeeps counting s K task.body frame w
      body_keeps head frame w r d = of t.truth refl body_fine d
        where
          of : (o : Option Environment) → t.truth ≡ o → IsFine Stood (where_going o (λ env. pass_statement m task.body env)) → MaybeDescribes f.variables o head frame.held → StatementKeeps counting s K task.body frame w
          of None q h d = absurd d
          of (Some e) q h d = kept scope true false task.body body_whole ranked e (before_body e q) h head frame w r d

      pub turn_keeps : (frame : Frame) (w : State) → AtHead frame w → OnGives (λ more w. more ≡ true → StatementKeeps counting s K task.body frame w) (task_test s task.tested frame w)
      turn_keeps frame w h = record {
        given = holds_weaker (Entered scope task.tested test_whole at_head names_of_test frame.held frame) (λ more w. more ≡ true → StatementKeeps counting s K task.body frame w) (task_test s task.tested frame w)
            (test_enters scope task.tested test_whole at_head names_of_test frame.held frame w h.ready h.describes) (λ more w e q. body_keeps frame.held frame w e.0 (e.1 q));
      }
