-- Runs of `main` with a task loop: the part before the loop, each turn, and all of them by induction.
use Rattle.std.proofs.Common.{◌≡◌, ℕ, suc, ◌≤◌, Bool, List, [], refl, sym, ◌∙◌, ap, subst, arith, Option, Some, None, slice_get}
use Rattle.p10_core.specs.declared.statements.LoopKeyword.TheVariants.{While}
use Rattle.p10_core.specs.Typed.{PlainStatement, statement, loop, no_statements, statements_list, PlainFunction, PlainProgram}
use Rattle.p10_core.specs.WholePrograms.{numbers_from, declared_in, declared_of, IsWholeStatement, IsWholeFunction, IsWholeProgram}
use Rattle.p10_cert.specs.Claims.{Value, Loop, Claims}
use Rattle.p10_meaning.specs.States.{State, step, and_then}
use Rattle.p10_meaning.specs.Values.{Held}
use Rattle.p10_meaning.specs.Statements.{Frame, Flow, normal, broken, continued, returned, Done, goes, go_on, execute_from}
use Rattle.p10_meaning.specs.Calling.{Depth, no_depth, deeper, raised, Entered, entered, call_at}
use Rattle.p10_meaning.specs.Runs.{Task, task_turn, before_task}
use Rattle.p10_meaning.specs.Sound.{Kind, Sound, FrameFits, region_at}
use Rattle.p10_meaning.specs.SoundRuns.{main_setting, HasTask}
use Rattle.p10_sums.specs.Counting.{Counting, loops_claimed, counting_of}
use Rattle.p10_sums.specs.Keeping.{HoldsOf, StatementKeeps, StatementsKeep}
use Rattle.p10_absx.specs.Environments.{Environment}
use Rattle.p10_absx.specs.Entering.{entry_at}
use Rattle.p10_absx.specs.Describing.{Describes, MaybeDescribes}
use Rattle.p10_pass.specs.Claiming.{head_of, loop_claimed}
use Rattle.p10_pass.specs.Passing.{Weakness, Manner, manner_in, pass_statement, pass_statements, pass_body}
use Rattle.p10_evaluation.specs.Claimed.{IsCoveredCall, ResultsLie}
use Rattle.p10_evaluation.proofs.Rules.{after_step}
use Rattle.p10_execution.specs.Scoping.{IsBefore}
use Rattle.p10_execution.specs.Standing.{AreInFrame, StandsSoundly}
use Rattle.p10_execution.specs.Leaving.{NoneFails}
use Rattle.p10_execution.proofs.Giving.{holds_step, holds_then, holds_weaker}
use Rattle.p10_execution.proofs.Heads.{head_describes}
use Rattle.p10_task.specs.Coming.{items_before, main_manner, item_claimed, IsAsClaimed}
use Rattle.p10_task.specs.Covering.{FirstPartIsCovered, TurnIsCovered}
use Rattle.p10_task.proofs.Passes.{result_claimed, manner_is, Stands, IsFine, IsFineLoop, turn_of, task_fine}
use Rattle.p10_task.proofs.TaskItems.{IsTaskItem, main_is, task_item}
use Rattle.p10_task.proofs.Entering.{before_main, EntersSoundly, enters_soundly}
use Rattle.p10_task.proofs.Items.{AreRanked, AfterItems, ComesTo, comes_to, items_leave, items_keep}
use Rattle.p10_task.proofs.Turns.{GoesOnTurning, AtHead, Again, turn_tests, turn_keeps, turn_again}

less_left : (left now n : ℕ) → suc left ≡ now → now ≤ n → left ≤ n
less_left left now n e l = omega (arith, e, l)

pub at_most : (n : ℕ) → n ≤ n
at_most n = omega arith

module _ (p : PlainProgram) (whole : IsWholeProgram p) (c : Claims) (f : PlainFunction) (i : ℕ) (task : Task) (has : HasTask p f i task) (Stood : List Weakness → Type 0) (stands : Stands Stood)
    (none : NoneFails (pass_body f (Some c) p.main (entry_at p c p.main))) (stood : Stood (pass_body f (Some c) p.main (entry_at p c p.main)).weak) where
  abbrev pub loops : List Loop
  loops = loops_claimed (slice_get c.funcs p.main)

  abbrev pub result : Option Value
  result = result_claimed (slice_get c.funcs p.main)

  abbrev pub m : Manner
  m = manner_in f (Some c) (Some loops) result

  abbrev depth : Depth
  depth = deeper f no_depth

  abbrev start_known : Environment
  start_known = entry_at p c p.main

  abbrev counting : Counting
  counting = counting_of p c.funcs p.main f

  same : main_manner p c f ≡ m
  same = manner_is c f (slice_get c.funcs p.main)

  fine : IsFine Stood (pass_statements m f.body start_known)
  fine = subst (λ m. IsFine Stood (pass_statements m f.body start_known)) same
      (record { none = record { arguments = none.arguments; results = none.results; entries = none.entries; backs = none.backs }; stood = stood })

  function : IsWholeFunction p p.main f
  function = whole.functions p.main f has.main

  parameters : f.parameters ≡ 0
  parameters = (main_is p whole f i task has).no_parameters

  before : IsBefore f.variables (declared_of f.body) start_known
  before = before_main p c f function has.main parameters

  pub item : IsTaskItem (slice_get (statements_list f.body) i) task
  item = task_item p whole f i task has

  abbrev scope : List ℕ
  scope = numbers_from 0 f.parameters

  abbrev task_statement : PlainStatement
  task_statement = statement item.at (loop item.head no_statements task.tested no_statements task.body)

  abbrev claim : Loop
  claim = loop_claimed loops item.head.number

  abbrev known : Option Environment
  known = (pass_statements m (items_before i f.body) start_known).normal

  -- at the head of the task loop: a state that is sound, and a frame that fits and is as claimed
  pub record AtLoop (e : Environment) (frame : Frame) (w : State) : Type 0 where
    pub kinds : List Kind
    pub sound : Sound p kinds w
    pub fits : FrameFits p kinds f.variables frame.held
    pub in_frame : AreInFrame f.variables frame.held
    pub describes : Describes f.variables (head_of claim f.variables e) frame.held frame.held

  pub record Comes (frame : Frame) (w : State) : Type 0 where
    pub entry : Environment
    pub comes : known ≡ Some entry
    pub at : AtLoop entry frame w

  at_loop : (n : ℕ) (e : Environment) (frame : Frame) (w : State) → StandsSoundly p f.variables n frame w → Describes f.variables (head_of claim f.variables e) frame.held frame.held → AtLoop e frame w
  at_loop n e frame w r d = record { kinds = r.kinds; sound = r.sound; fits = r.fits; in_frame = r.in_frame; describes = d }

  pub as_claimed : (frame : Frame) (w : State) → Comes frame w → IsAsClaimed p c f i frame.held
  as_claimed frame w h = record {
    entry = h.entry;
    comes = ap (λ m. (pass_statements m (items_before i f.body) start_known).normal) same ∙ h.comes;
    describes = subst (λ l. Describes f.variables (head_of l f.variables h.entry) frame.held frame.held) (sym (ap (item_claimed loops) item.is)) h.at.describes;
  }

  -- ## With a budget

  module _ (n : ℕ) (lie : ResultsLie p (Some c) n (call_at n p depth)) where
    abbrev Item : Environment → Type 0
    Item e = ComesTo p whole n depth p.main f has.main c loops result lie Stood stands task_statement e

    item_here : (e : Environment) → known ≡ Some e → Item e
    item_here e q = comes_to p whole n depth p.main f has.main c loops result lie Stood stands f.body i scope function.body start_known before fine task_statement item.is e q

    loop_here : (e : Environment) → Item e → IsFineLoop f c loops result Stood stands claim e (turn_of f c loops result Stood stands While task.tested task.body (head_of claim f.variables e))
    loop_here e h = task_fine f c loops result Stood stands item.head task.tested task.body e item.at item.begins h.fine

    -- ## The part before the loop

    abbrev At : Done → State → Type 0
    At d w = d.flow ≡ normal → Comes d.frame w

    comes_here : (o : Option Environment) → known ≡ o → (head : List Held) (frame : Frame) (w : State) → StandsSoundly p f.variables n frame w → MaybeDescribes f.variables o head frame.held → Comes frame w
    comes_here None q head frame w r d = absurd d
    comes_here (Some e) q head frame w r d = record {
      entry = e;
      comes = q;
      at = at_loop n e frame w r (head_describes claim f.variables e e head frame.held (λ k h. h) (loop_here e (item_here e q)).enters d);
    }

    to_loop : (head : List Held) (flow : Flow) (frame : Frame) (w : State) → StandsSoundly p f.variables n frame w → (flow ≡ normal → MaybeDescribes f.variables known head frame.held) → HoldsOf At (go_on flow frame w (λ frame w. step w (λ w. goes frame w)))
    to_loop head normal frame w r d = holds_step At w _ (λ left e q. comes_here known refl head frame (record w { left = left })
        (record { kinds = r.kinds; sound = r.sound; fits = r.fits; in_frame = r.in_frame; left = less_left left w.left n e r.left }) (d refl))
    to_loop head broken frame w r d = λ q. absurd cc
    to_loop head continued frame w r d = λ q. absurd cc
    to_loop head (returned x) frame w r d = λ q. absurd cc

    -- `main` is entered, after a step
    abbrev start : State → ℕ → Entered
    start w left = entered f.variables [] (raised depth (record w { left = left }))

    started : (w : State) (ks : List Kind) → Sound p ks w → (left : ℕ) → left ≤ n → EntersSoundly p c f n (start w left)
    started w ks so left k = enters_soundly p c f has.main parameters depth n (record w { left = left }) ks so k

    pub first_comes : (w : State) (ks : List Kind) → Sound p ks w → w.left ≤ n → HoldsOf (λ (d : Done) w. d.flow ≡ normal → Comes d.frame w) (before_task (main_setting p n f) f i depth w)
    first_comes w ks so l = holds_step At w _ (λ left e. from left (started w ks so left (less_left left w.left n e l)))
      where
        from : (left : ℕ) → EntersSoundly p c f n (start w left) →
            HoldsOf At (and_then (execute_from (main_setting p n f) 0 (items_before i f.body) (start w left).frame (start w left).state) (λ done w. go_on done.flow done.frame w (λ frame w. step w (λ w. goes frame w))))
        from left h =
            holds_then (AfterItems p n f known (start w left).frame.held) At (execute_from (main_setting p n f) 0 (items_before i f.body) (start w left).frame (start w left).state) _
            (items_leave p whole n depth p.main f has.main c loops result lie Stood stands f.body i scope function.body start_known before fine (start w left).frame.held (start w left).frame (start w left).state h.ready h.describes)
            (λ d v h. to_loop (start w left).frame.held d.flow d.frame v h.ready h.describes)

    -- ## A turn

    -- where a turn begins, in the terms of the loop
    pub record Turn (frame : Frame) (w : State) : Type 0 where
      pub entry : Environment
      pub comes : known ≡ Some entry
      pub item_is : Item entry
      pub turn_fine : IsFineLoop f c loops result Stood stands claim entry (turn_of f c loops result Stood stands While task.tested task.body (head_of claim f.variables entry))
      pub at : AtHead p whole n depth p.main f has.main c loops result lie Stood stands item_is.scope task claim entry item_is.item.1 item_is.item.3 item_is.item.5 item_is.before turn_fine.turn frame w

    begins : (frame : Frame) (w : State) → Comes frame w → w.left ≤ n → Turn frame w
    begins frame w h l = record {
      entry = h.entry;
      comes = h.comes;
      item_is = item_here h.entry h.comes;
      turn_fine = loop_here h.entry (item_here h.entry h.comes);
      at = record { ready = record { kinds = h.at.kinds; sound = h.at.sound; fits = h.at.fits; in_frame = h.at.in_frame; left = l }; describes = h.at.describes };
    }

    pub turn_comes : (frame : Frame) (w : State) → Comes frame w → w.left ≤ n → HoldsOf (λ (d : Done) w. GoesOnTurning d.flow → Comes d.frame w) (task_turn (main_setting p n f) task frame w)
    turn_comes frame w h l =
        let b : Turn frame w = begins frame w h l in
        holds_weaker (Again p whole n depth p.main f has.main c loops result lie Stood stands b.item_is.scope task claim b.entry b.item_is.item.1 b.item_is.item.3 b.item_is.item.5 b.item_is.before b.turn_fine.turn)
        (λ (d : Done) w. GoesOnTurning d.flow → Comes d.frame w) (task_turn (main_setting p n f) task frame w)
        (turn_again p whole n depth p.main f has.main c loops result lie Stood stands b.item_is.scope task claim b.entry b.item_is.item.1 b.item_is.item.3 b.item_is.item.5 b.item_is.before b.turn_fine.turn frame w b.at)
        (λ d u k q. record { entry = b.entry; comes = b.comes; at = at_loop n b.entry d.frame u (k q).ready (k q).describes })

    -- ## What they keep

    module _ (Ranked : PlainStatement → Type 0) (ranked_before : AreRanked Ranked i f.body) (ranked : Ranked task.body)
        (kept : (scope : List ℕ) (l b : Bool) (x : PlainStatement) → IsWholeStatement (region_at p p.main f scope l b) x → Ranked x → (env : Environment) → IsBefore f.variables (declared_in x) env → IsFine Stood (pass_statement m x env) →
        (head : List Held) (frame : Frame) (w : State) → StandsSoundly p f.variables n frame w → Describes f.variables env head frame.held → StatementKeeps counting (main_setting p n f) (IsCoveredCall p (Some c) n) x frame w) where
      pub first_covered : (w : State) (ks : List Kind) → Sound p ks w → w.left ≤ n → FirstPartIsCovered p c n f i w
      first_covered w ks so l = after_step n w _ l (λ left k. from left (started w ks so left k))
        where
          from : (left : ℕ) → EntersSoundly p c f n (start w left) → StatementsKeep counting (main_setting p n f) (IsCoveredCall p (Some c) n) 0 (items_before i f.body) (start w left).frame (start w left).state
          from left h =
              items_keep p whole n depth p.main f has.main c loops result lie Stood stands counting Ranked kept f.body i scope function.body ranked_before start_known before fine (start w left).frame.held (start w left).frame (start w left).state h.ready h.describes

      pub turn_covered : (frame : Frame) (w : State) → Comes frame w → w.left ≤ n → TurnIsCovered p c n f task frame w
      turn_covered frame w h l =
          let b : Turn frame w = begins frame w h l in (
            turn_tests p whole n depth p.main f has.main c loops result lie Stood stands b.item_is.scope task claim b.entry b.item_is.item.1 b.item_is.item.3 b.item_is.item.5 b.item_is.before b.turn_fine.turn frame w b.at,
            turn_keeps p whole n depth p.main f has.main c loops result lie Stood stands b.item_is.scope task claim b.entry b.item_is.item.1 b.item_is.item.3 b.item_is.item.5 b.item_is.before b.turn_fine.turn counting Ranked ranked kept frame w b.at,
          )
