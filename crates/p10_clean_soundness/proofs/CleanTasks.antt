-- The task loop of `main` in a clean run: the items before it, and each of its turns.
use Rattle.std.proofs.Common.{◌≡◌, ℕ, suc, ◌≤◌, Bool, true, false, List, [], ◌++◌, map, take, refl, sym, subst, arith, Option, Some, None, slice_get, inl, inr}
use Rattle.p10_core.specs.declared.statements.LoopKeyword.{LoopKeyword}
use Rattle.p10_core.specs.declared.statements.LoopKeyword.TheVariants.{While, Do, For}
use Rattle.p10_core.specs.Typed.{PlainValue, PlainStatement, statement, loop, PlainStatements, no_statements, statements_list, PlainVariable, PlainFunction, PlainProgram}
use Rattle.p10_core.specs.WholePrograms.{around, numbers_from, parameter_types, declared_in, declared_of, IsMaybeTest, IsWholeStatement, AreWholeStatements, IsWholeFunction, IsWholeProgram}
use Rattle.p10_cert.specs.Claims.{Value, Loop, Claims}
use Rattle.p10_meaning.specs.Objects.{Object}
use Rattle.p10_meaning.specs.States.{State, step}
use Rattle.p10_meaning.specs.Values.{Setting, Held}
use Rattle.p10_meaning.specs.Statements.{Frame, Flow, normal, broken, continued, returned, Done, flows, goes, go_on, test, execute, execute_from}
use Rattle.p10_meaning.specs.Calling.{Depth, no_depth, deeper, raised, Entered, entered, call_at}
use Rattle.p10_meaning.specs.Runs.{Task, task_test, task_turn, before_task}
use Rattle.p10_meaning.specs.Sound.{Kind, Sound, FrameFits, ScalarsFit, region_at}
use Rattle.p10_meaning.specs.SoundRuns.{main_setting, HasTask}
use Rattle.p10_meaning.proofs.SoundStatements.{scope_after, scope_after_all}
use Rattle.p10_sums.specs.Counting.{loops_claimed}
use Rattle.p10_absx.specs.Environments.{Environment, hull_reached}
use Rattle.p10_absx.specs.Entering.{entry_at}
use Rattle.p10_absx.specs.Describing.{Describes, MaybeDescribes}
use Rattle.p10_pass.specs.Arguments.{where_reached}
use Rattle.p10_pass.specs.Claiming.{head_of, loop_claimed}
use Rattle.p10_pass.specs.Passing.{Left, Weakness, Manner, manner_in, Tested, tested_in, where_going, pass_statement, pass_statements, pass_body}
use Rattle.p10_evaluation.specs.Claimed.{ResultsLie}
use Rattle.p10_execution.specs.Scoping.{IsBefore}
use Rattle.p10_execution.specs.Standing.{AreInFrame}
use Rattle.p10_execution.specs.Leaving.{NoneFails}
use Rattle.p10_execution.proofs.Ends.{nothing_left, nothing_right, block_none}
use Rattle.p10_execution.proofs.Looping.{Tests as Goes_as_tested, tested_goes}
use Rattle.p10_execution.proofs.PassedScopes.{truth_scoped}
use Rattle.p10_execution.proofs.ScopedEnds.{nothing, Scoped, MaybeScoped, scoped_same, scoped_trans, changed_scope, before_scoped}
use Rattle.p10_task.specs.Coming.{items_before, main_manner}
use Rattle.p10_task.proofs.Entering.{before_main, EntersSoundly, enters_soundly}
use Rattle.p10_task.proofs.Passes.{Stands, BeginsWithTest, result_claimed, manner_is, IsFineTurn, turn_of, third_pass, task_fine}
use Rattle.p10_task.proofs.TaskItems.{IsTaskItem, main_is, task_item}
use Rattle.p10_task.proofs.Turns.{GoesOnTurning}
use Rattle.p10_clean.specs.declared.flaw.Flaw.{Flaw}
use Rattle.p10_clean.specs.Settings.{Settings, set_at_entry, Ways, ways_of, ways_of_all}
use Rattle.p10_clean.specs.Values.{flaws_in_maybe}
use Rattle.p10_clean.specs.Statements.{flaws_in_statement, flaws_in_statements, round_flaws}
use Rattle.p10_clean_soundness.specs.private.Stays.{Stays}
use Rattle.p10_clean_soundness.specs.private.Setting.{SetUp, AreApart}
use Rattle.p10_clean_soundness.specs.private.Objects.{Settled, AreLive, LeavesClean}
use Rattle.p10_clean_soundness.proofs.Apart.{scope_grows, body_apart}
use Rattle.p10_clean_soundness.proofs.EntryFrames.{EntersFunction, function_entered}
use Rattle.p10_clean_soundness.proofs.PrefixItems.{whole_before, apart_before, before_items, none_before, flaws_before, ItemAt, item_at}
use Rattle.p10_clean_soundness.proofs.Reaching.{live_narrower, Stand, Next, GoesAs, goes_as, statement_next, statements_next, GoesClean, AllClean, stand_after, ValuesClean}
use Rattle.p10_clean_soundness.proofs.Rounds.{test_clean}
use Rattle.p10_clean_soundness.proofs.SettingKeeping.{next_keeps}
use Rattle.p10_clean_soundness.proofs.SettingUp.{set_left, set_right, less_scope}
use Rattle.p10_clean_soundness.proofs.Staying.{stays_step, stays_then, stays_if, stays_weaker, stays_with}

-- nothing is asked of ranks
AnyRank : List Weakness → Type 0
AnyRank weak = Unit {0}

any_rank : Stands AnyRank
unfolding AnyRank
any_rank = record { nothing = tt; left = λ xs ys h. tt; right = λ xs ys h. tt }

-- the flaws of a loop that begins with its test
begins_with_test : (m : Manner) (keyword : LoopKeyword) (tested : Option PlainValue) (third body : Environment → Settings → List Flaw) (pass : Environment → Left) (entry : Settings) (ways : Ways) (head : Environment) → BeginsWithTest keyword →
    round_flaws m keyword tested third body pass entry ways head ≡ [] → round_flaws m While tested third body pass entry ways head ≡ []
begins_with_test m While tested third body pass entry ways head b e = e
begins_with_test m For tested third body pass entry ways head b e = e
begins_with_test m Do tested third body pass entry ways head b e = absurd b

module _ (p : PlainProgram) (whole : IsWholeProgram p) (c : Claims) (f : PlainFunction) (i : ℕ) (task : Task) (has : HasTask p f i task) (none : NoneFails (pass_body f (Some c) p.main (entry_at p c p.main)))
    (flaws : flaws_in_statements (main_manner p c f) f.body (set_at_entry f) (entry_at p c p.main) ≡ []) where
  abbrev pub loops : List Loop
  loops = loops_claimed (slice_get c.funcs p.main)

  abbrev pub result : Option Value
  result = result_claimed (slice_get c.funcs p.main)

  abbrev pub m : Manner
  m = manner_in f (Some c) (Some loops) result

  abbrev depth : Depth
  depth = deeper f no_depth

  abbrev start_known : Environment
  start_known = entry_at p c p.main

  abbrev first_scope : List ℕ
  first_scope = numbers_from 0 f.parameters

  same : main_manner p c f ≡ m
  same = manner_is c f (slice_get c.funcs p.main)

  none_in : NoneFails (pass_statements m f.body start_known)
  none_in = subst (λ m. NoneFails (pass_statements m f.body start_known)) same (block_none f.body _ none)

  flaws_in : flaws_in_statements m f.body (set_at_entry f) start_known ≡ []
  flaws_in = subst (λ m. flaws_in_statements m f.body (set_at_entry f) start_known ≡ []) same flaws

  function : IsWholeFunction p p.main f
  function = whole.functions p.main f has.main

  no_parameters : f.parameters ≡ 0
  no_parameters = (main_is p whole f i task has).no_parameters

  before : IsBefore f.variables (declared_of f.body) start_known
  before = before_main p c f function has.main no_parameters

  apart : AreApart first_scope (declared_of f.body)
  apart = body_apart p p.main f function

  pub item : IsTaskItem (slice_get (statements_list f.body) i) task
  item = task_item p whole f i task has

  abbrev task_statement : PlainStatement
  task_statement = statement item.at (loop item.head no_statements task.tested no_statements task.body)

  abbrev pub claim : Loop
  claim = loop_claimed loops item.head.number

  abbrev prefix : PlainStatements
  prefix = items_before i f.body

  abbrev pub known : Option Environment
  known = (pass_statements m prefix start_known).normal

  -- what is in scope at the head of the task loop, and what is set there
  abbrev pub scope : List ℕ
  scope = scope_after_all prefix first_scope

  abbrev pub settings : Settings
  settings = (ways_of_all prefix (set_at_entry f)).normal

  -- a frame of `main` at the head of its task loop
  pub record AtTask (frame : Frame) (w : State) : Type 0 where
    pub kinds : List Kind
    pub sound : Sound p kinds w
    pub fits : FrameFits p kinds f.variables frame.held
    pub in_frame : AreInFrame f.variables frame.held
    pub set_up : SetUp f.variables scope settings frame.held
    pub live : AreLive [] scope frame.held w.objects
    pub settled : Settled p [] w.objects

  no_scalars : (ks : List Kind) → ScalarsFit p ks (parameter_types f) []
  no_scalars ks = subst (λ n. ScalarsFit p ks (map (λ (v : PlainVariable). v.type) (take n f.variables)) []) (sym no_parameters) tt

  -- ## With a budget

  module _ (n : ℕ) (lie : ResultsLie p (Some c) n (call_at n p (deeper f no_depth))) (values : ValuesClean p whole n (deeper f no_depth) p.main f has.main (Some c) (Some loops) result lie)
      (statements : (scope : List ℕ) (l b : Bool) (x : PlainStatement) → IsWholeStatement (region_at p p.main f scope l b) x → GoesClean p whole n (deeper f no_depth) p.main f has.main (Some c) (Some loops) result lie scope x)
      (all : (scope : List ℕ) (l b : Bool) (xs : PlainStatements) → AreWholeStatements (region_at p p.main f scope l b) xs → AllClean p whole n (deeper f no_depth) p.main f has.main (Some c) (Some loops) result lie scope xs) where
    abbrev s : Setting
    s = main_setting p n f

    abbrev Stands_in : List ℕ → Settings → Frame → State → Type 0
    Stands_in scope settings frame w = Stand p whole n depth p.main f has.main (Some c) (Some loops) result lie scope [] settings frame w

    abbrev Goes : List ℕ → List ℕ → Ways → Left → List Held → Flow → Frame → State → Type 0
    Goes after scope ways a head flow frame w = GoesAs p whole n depth p.main f has.main (Some c) (Some loops) result lie after scope [] ways a head flow frame w

    abbrev NextOf : List ℕ → List ℕ → Ways → Left → List Held → List Object → List ℕ → Done → State → Type 0
    NextOf after scope ways a head before opened d u = Next p whole n depth p.main f has.main (Some c) (Some loops) result lie after scope [] ways a head before opened d u

    to_stand : (frame : Frame) (w : State) → AtTask frame w → w.left ≤ n → Stands_in scope settings frame w
    to_stand frame w h l = record { soundly = record { kinds = h.kinds; sound = h.sound; fits = h.fits; in_frame = h.in_frame; left = l }; set_up = h.set_up; live = h.live; settled = h.settled }

    at_task : (frame : Frame) (w : State) (left : ℕ) → Stands_in scope settings frame w → AtTask frame (record w { left = left })
    at_task frame w left h = record { kinds = h.soundly.kinds; sound = h.soundly.sound; fits = h.soundly.fits; in_frame = h.soundly.in_frame; set_up = h.set_up; live = h.live; settled = h.settled }

    -- ## The part before the loop

    abbrev pub Comes : Done → State → Type 0
    Comes d u = d.flow ≡ normal → AtTask d.frame u

    to_loop : (head : List Held) (a : Left) (ways : Ways) → ways.normal ≡ settings → (flow : Flow) (frame : Frame) (w : State) → Goes scope first_scope ways a head flow frame w → Stays Comes (go_on flow frame w (λ frame w. step w (λ w. goes frame w)))
    to_loop head a ways same_set normal frame w h = stays_step Comes w _ (λ left e q. at_task frame w left (subst (λ (x : Settings). Stands_in scope x frame w) same_set h.0))
    to_loop head a ways same_set broken frame w h = λ q. absurd cc
    to_loop head a ways same_set continued frame w h = λ q. absurd cc
    to_loop head a ways same_set (returned x) frame w h = λ q. absurd cc

    less_left : (left now : ℕ) → suc left ≡ now → now ≤ n → left ≤ n
    less_left left now e l = omega (arith, e, l)

    pub before_clean : (w : State) (ks : List Kind) → Sound p ks w → Settled p [] w.objects → w.left ≤ n → Stays Comes (before_task (main_setting p n f) f i depth w)
    before_clean w ks so settled l =
        stays_step Comes w _ (λ left e.
        let start : Entered = entered f.variables [] (raised depth (record w { left = left })) in
        let enters : EntersSoundly p c f n start = enters_soundly p c f has.main no_parameters depth n (record w { left = left }) ks so (less_left left w.left e l) in
        let entry : EntersFunction p f [] w.objects start = function_entered p whole p.main f has.main [] [] (raised depth (record w { left = left })) ks (no_scalars ks) so settled in
        let stands : Stands_in first_scope (set_at_entry f) start.frame start.state = record { soundly = enters.ready; set_up = entry.set_up; live = entry.live; settled = entry.clean.settled } in
        let a : Left = pass_statements m prefix start_known in
        let ways : Ways = ways_of_all prefix (set_at_entry f) in
        let is_whole : AreWholeStatements (region_at p p.main f first_scope false false) prefix = whole_before f.body i _ function.body in
        let fresh : IsBefore f.variables (declared_of prefix) start_known = before_items f.variables f.body i start_known before in
        let none_first : NoneFails a = none_before m f.body i start_known none_in in
        let first_apart : AreApart first_scope (declared_of prefix) = apart_before f.body i first_scope apart in
        let first_flaws : flaws_in_statements m prefix (set_at_entry f) start_known ≡ [] = flaws_before m f.body i (set_at_entry f) start_known flaws_in in
        stays_then (NextOf scope first_scope ways a start.frame.held start.state.objects start.frame.opened) Comes (execute_from (main_setting p n f) 0 prefix start.frame start.state) _
        (statements_next p whole n depth p.main f has.main (Some c) (Some loops) result lie prefix first_scope false false is_whole start_known fresh none_first (set_at_entry f) first_apart [] start.frame.held start.frame start.state stands enters.describes
        (all first_scope false false prefix is_whole start_known fresh none_first (set_at_entry f) first_flaws first_apart [] start.frame.held start.frame start.state stands enters.describes))
        (λ d u h. to_loop start.frame.held a ways refl d.flow d.frame u (goes_as p whole n depth p.main f has.main (Some c) (Some loops) result lie scope first_scope [] ways a start.frame.held start.state.objects start.frame.opened d u h)))

    -- ## A turn

    module _ (e : Environment) (q : known ≡ Some e) where
      at : ItemAt p whole n depth p.main f has.main (Some c) (Some loops) result lie task_statement scope settings e
      at = item_at p whole n depth p.main f has.main (Some c) (Some loops) result lie f.body i first_scope function.body start_known before none_in (set_at_entry f) flaws_in apart task_statement item.is e q

      abbrev at_head : Environment
      at_head = head_of claim f.variables e

      abbrev t : Tested
      t = tested_in m task.tested at_head

      abbrev body_left : Left
      body_left = where_going t.truth (λ env. pass_statement m task.body env)

      abbrev third_left : Left
      third_left = where_going (hull_reached body_left.normal body_left.continues) (third_pass f c loops result AnyRank any_rank)

      fine : IsFineTurn AnyRank claim f.variables (turn_of f c loops result AnyRank any_rank While task.tested task.body at_head)
      unfolding AnyRank
      fine = (task_fine f c loops result AnyRank any_rank item.head task.tested task.body e item.at item.begins (record { none = at.none; stood = tt })).turn

      -- nothing fails and there is no flaw in the test and in the body
      names_of_test : t.names ≡ []
      names_of_test = nothing_left t.names (third_left.arguments ++ body_left.arguments) fine.names

      body_none : NoneFails body_left
      body_none = record { arguments = nothing_right third_left.arguments body_left.arguments (nothing_right t.names (third_left.arguments ++ body_left.arguments) fine.names); results = fine.results; entries = fine.entries; backs = fine.backs }

      round_has_none : round_flaws m While task.tested (λ env settings. flaws_in_statements m no_statements settings env) (λ env settings. flaws_in_statement m task.body settings env) (λ env. pass_statement m task.body env) settings (ways_of task.body settings) at_head ≡ []
      round_has_none = begins_with_test m item.head.keyword task.tested (λ env settings. flaws_in_statements m no_statements settings env) (λ env settings. flaws_in_statement m task.body settings env) (λ env. pass_statement m task.body env) settings (ways_of task.body settings) at_head item.begins at.flaws

      test_flaws : flaws_in_maybe m settings task.tested at_head ≡ []
      test_flaws = nothing_left (flaws_in_maybe m settings task.tested at_head) _ round_has_none

      body_flaws : where_reached t.truth (λ env. flaws_in_statement m task.body settings env) ≡ []
      body_flaws = nothing_right _ (where_reached t.truth (λ env. flaws_in_statement m task.body settings env)) (nothing_right (flaws_in_maybe m settings task.tested at_head) _ round_has_none)

      head_scoped : Scoped f.variables nothing e at_head
      head_scoped = scoped_same f.variables nothing e at_head at.before.knows (changed_scope f.variables _ e)

      entered_before : (known : Environment) → MaybeScoped f.variables nothing at_head (Some known) → IsBefore f.variables (declared_in task.body) known
      entered_before known h = before_scoped f.variables nothing (declared_in task.body) e known at.before (scoped_trans f.variables nothing e at_head known head_scoped h) (λ k r. refl)

      -- after the test
      abbrev Tested_as : Frame → Bool → State → Type 0
      Tested_as frame more u = Stands_in scope settings frame u × (more ≡ true → MaybeDescribes f.variables t.truth frame.held frame.held)

      test_stays : (tested : Option PlainValue) → IsMaybeTest (around (region_at p p.main f scope false false)) tested → (tested_in m tested at_head).names ≡ [] → flaws_in_maybe m settings tested at_head ≡ [] → (frame : Frame) (w : State) → Stands_in scope settings frame w → Describes f.variables at_head frame.held frame.held →
          Stays (λ more u. Stands_in scope settings frame u × (more ≡ true → MaybeDescribes f.variables (tested_in m tested at_head).truth frame.held frame.held)) (task_test s tested frame w)
      test_stays None i names flaws frame w h d = (h, λ r. d)
      test_stays (Some v) i names flaws frame w h d =
          let Clean : Bool → State → Type 0 = λ more u. LeavesClean p [] w.objects u in
          let Is : Bool → State → Type 0 = Goes_as_tested p whole n depth p.main f has.main (Some c) (Some loops) result lie (tested_in m (Some v) at_head).truth (tested_in m (Some v) at_head).contrary frame.held frame in
          stays_weaker (λ more u. Clean more u × Is more u) (λ more u. Stands_in scope settings frame u × (more ≡ true → MaybeDescribes f.variables (tested_in m (Some v) at_head).truth frame.held frame.held)) (test s (Some v) frame w)
          (stays_with Clean Is (test s (Some v) frame w)
          (test_clean p whole n depth p.main f has.main (Some c) (Some loops) result lie values scope (Some v) i at_head frame.held frame w settings [] h d names flaws)
          (tested_goes p whole n depth p.main f has.main (Some c) (Some loops) result lie scope (Some v) i at_head frame.held frame w names h.soundly d))
          (λ more u k. (stand_after p whole n depth p.main f has.main (Some c) (Some loops) result lie scope [] settings frame w u h k.1.0 k.0, k.1.1))

      -- a turn leads back to the head
      abbrev pub Again : Done → State → Type 0
      Again d u = GoesOnTurning d.flow → AtTask d.frame u

      to_head : (flow : Flow) (head : List Held) (frame : Frame) (u : State) (a : Left) → Goes (scope_after task.body scope) scope (ways_of task.body settings) a head flow frame u → GoesOnTurning flow → AtTask frame u
      to_head normal head frame u a h on = record {
        kinds = h.0.soundly.kinds;
        sound = h.0.soundly.sound;
        fits = h.0.soundly.fits;
        in_frame = h.0.soundly.in_frame;
        set_up = next_keeps f.variables scope frame.held task.body settings at.apart
            (set_left f.variables scope (ways_of task.body settings).normal (ways_of task.body settings).continues frame.held (less_scope f.variables scope (scope_after task.body scope) (ways_of task.body settings).normal frame.held (scope_grows task.body scope) h.0.set_up));
        live = live_narrower [] scope (scope_after task.body scope) frame.held u.objects (scope_grows task.body scope) h.0.live;
        settled = h.0.settled;
      }
      to_head continued head frame u a h on = record {
        kinds = h.0.soundly.kinds;
        sound = h.0.soundly.sound;
        fits = h.0.soundly.fits;
        in_frame = h.0.soundly.in_frame;
        set_up = next_keeps f.variables scope frame.held task.body settings at.apart (set_right f.variables scope (ways_of task.body settings).normal (ways_of task.body settings).continues frame.held h.0.set_up);
        live = h.0.live;
        settled = h.0.settled;
      }
      to_head broken head frame u a h (inl r) = absurd cc
      to_head broken head frame u a h (inr r) = absurd cc
      to_head (returned x) head frame u a h (inl r) = absurd cc
      to_head (returned x) head frame u a h (inr r) = absurd cc

      body_stays : (o : Option Environment) → MaybeScoped f.variables nothing at_head o → NoneFails (where_going o (λ env. pass_statement m task.body env)) → where_reached o (λ env. flaws_in_statement m task.body settings env) ≡ [] → (head : List Held) (frame : Frame) (w : State) →
          Stands_in scope settings frame w → MaybeDescribes f.variables o head frame.held → Stays Again (execute s task.body frame w)
      body_stays None scoped none flaws head frame w h d = absurd d
      body_stays (Some known) scoped none flaws head frame w h d =
          let fresh : IsBefore f.variables (declared_in task.body) known = entered_before known scoped in
          let a : Left = pass_statement m task.body known in
          let ways : Ways = ways_of task.body settings in
          stays_weaker (NextOf (scope_after task.body scope) scope ways a head w.objects frame.opened) Again (execute s task.body frame w)
          (statement_next p whole n depth p.main f has.main (Some c) (Some loops) result lie task.body scope true false at.item.3 known fresh none settings at.apart [] head frame w h d
          (statements scope true false task.body at.item.3 known fresh none settings flaws at.apart [] head frame w h d))
          (λ d u k. to_head d.flow head d.frame u a (goes_as p whole n depth p.main f has.main (Some c) (Some loops) result lie (scope_after task.body scope) scope [] ways a head w.objects frame.opened d u k))

      no_turn : (frame : Frame) (u : State) → GoesOnTurning broken → AtTask frame u
      no_turn frame u (inl r) = absurd cc
      no_turn frame u (inr r) = absurd cc

      pub turn_clean : (frame : Frame) (w : State) → AtTask frame w → w.left ≤ n → Describes f.variables at_head frame.held frame.held → Stays Again (task_turn (main_setting p n f) task frame w)
      turn_clean frame w h l d =
          stays_then (Tested_as frame) Again (task_test s task.tested frame w) _ (test_stays task.tested at.item.1 names_of_test test_flaws frame w (to_stand frame w h l) d) (λ more u k.
          stays_if Again more (execute s task.body frame u) (flows broken frame u)
          (λ r. body_stays t.truth (truth_scoped f.variables (Some c) (Some loops) result task.tested at_head head_scoped.knows) body_none body_flaws frame.held frame u k.0 (k.1 r))
          (λ r. no_turn frame u))
