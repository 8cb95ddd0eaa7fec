-- Whole runs keep sound states: up to the task loop, and in each of its turns.
use Rattle.std.proofs.Common.{◌≡◌, ℕ, zero, suc, true, false, List, [], refl, subst, Option, Some, None, slice_get, take}
use Rattle.std.proofs.lemmas.Option.{same_Some, none-some}
use Rattle.p10_core.specs.Typed.{PlainValue, PlainStatement, statement, set, update, copy, evaluate as expression, asserts, declare, declare_static, block, if_then, if_else, loop, switch, break, continue, return, empty, mark, PlainStatements, no_statements, more_statements, statements_list, statements_of_list, PlainFunction, PlainProgram}
use Rattle.p10_core.specs.WholePrograms.{Region, around, after, after_all, IsMaybeTest, IsWholeStatement, AreWholeStatements, IsWholeFunction, IsWholeProgram, numbers_from}
use Rattle.p10_meaning.specs.States.{State, Progress, gives, step}
use Rattle.p10_meaning.specs.Statements.{Frame, broken, goes, execute_from}
use Rattle.p10_meaning.specs.Calling.{Depth, no_depth, deeper, raised, Entered, entered, setting_of, call_at}
use Rattle.p10_meaning.specs.Opening.{opening}
use Rattle.p10_meaning.specs.Runs.{Task, task_in, task_test, task_turn, before_task}
use Rattle.p10_meaning.specs.Sound.{Kind, Sound, FrameFits, Keeps, Kept, DoneFits, region_at, opening_kinds}
use Rattle.p10_meaning.specs.SoundRuns.{FirstPartsKeepSound, TurnsKeepSound, FramesFitOn, at_first, again, StandsSound, RunsStaySound}
use Rattle.p10_meaning.proofs.Fitting.{grows_trans, frame_grown}
use Rattle.p10_meaning.proofs.LaidOut.{laid_out}
use Rattle.p10_meaning.proofs.Keeping.{keeps_from, kept, keeps_step, keeps_then, keeps_if}
use Rattle.p10_meaning.proofs.SoundStatements.{AreFew, scope_after, scope_after_all, after_is, after_all_is, goes_keeps, go_keeps, test_keeps, execute_keeps, from_keeps}
use Rattle.p10_meaning.proofs.SoundCalls.{few_variables, EntryFits, no_arguments, calls_keep}
use Rattle.p10_meaning.proofs.SoundOpening.{opening_sound}

-- ## The items of `main`

-- the first items of a whole body are whole
whole_front : (r : Region) (xs : PlainStatements) (i : ℕ) → AreWholeStatements r xs → AreWholeStatements r (statements_of_list (take i (statements_list xs)))
whole_front r no_statements zero h = tt
whole_front r no_statements (suc i) h = tt
whole_front r (more_statements x rest) zero h = tt
whole_front r (more_statements x rest) (suc i) h = (h.0, whole_front (after r x) rest i h.1)

-- a task loop is whole where it stands
pub record IsWholeTask (p : PlainProgram) (number : ℕ) (f : PlainFunction) (task : Task) : Type 0 where
  pub scope : List ℕ
  pub test : IsMaybeTest (around (region_at p number f scope false false)) task.tested
  pub body : IsWholeStatement (region_at p number f scope true false) task.body

-- an item is whole where it stands
pub record IsWholeItem (p : PlainProgram) (number : ℕ) (f : PlainFunction) (x : PlainStatement) : Type 0 where
  pub scope : List ℕ
  pub item : IsWholeStatement (region_at p number f scope false false) x

module _ (p : PlainProgram) (whole : IsWholeProgram p) (number : ℕ) (f : PlainFunction) (there : slice_get p.functions number ≡ Some f) (budget : ℕ) (depth : Depth) where
  abbrev function : IsWholeFunction p number f
  function = whole.functions number f there

  abbrev few : AreFew p f.variables
  few = few_variables p whole number f function

  abbrev here : List ℕ → Region
  here scope = region_at p number f scope false false

  item_whole : (xs : PlainStatements) (scope : List ℕ) (i : ℕ) (x : PlainStatement) → AreWholeStatements (here scope) xs → slice_get (statements_list xs) i ≡ Some x → IsWholeItem p number f x
  item_whole no_statements scope i x h e = absurd (none-some _ e)
  item_whole (more_statements y rest) scope zero x h e = record { scope = scope; item = subst (λ x. IsWholeStatement (here scope) x) (same_Some _ _ e) h.0 }
  item_whole (more_statements y rest) scope (suc i) x h e =
      item_whole rest (scope_after y scope) i x (subst (λ r. AreWholeStatements r rest) (after_is p (laid_out p whole) whole (call_at budget p depth) (calls_keep p whole budget depth) budget number f few y scope false false) h.1) e

  loop_whole : (o : Option PlainStatement) (task : Task) → ((x : PlainStatement) → o ≡ Some x → IsWholeItem p number f x) → task_in o ≡ Some task → IsWholeTask p number f task
  loop_whole None task h e = absurd (none-some _ e)
  loop_whole (Some (statement at (loop head first tested third body))) task h e =
      let one : IsWholeItem p number f (statement at (loop head first tested third body)) = h (statement at (loop head first tested third body)) refl in
      let same : after_all (here one.scope) first ≡ here (scope_after_all first one.scope) =
      after_all_is p (laid_out p whole) whole (call_at budget p depth) (calls_keep p whole budget depth) budget number f few first one.scope false false in
      subst (λ t. IsWholeTask p number f t) (same_Some _ _ e) (record {
        scope = scope_after_all first one.scope;
        test = subst (λ r. IsMaybeTest (around r) tested) same one.item.1;
        body = subst (λ (r : Region). IsWholeStatement (record r { in_loop = true }) body) same one.item.3;
      })
  loop_whole (Some (statement at (set q v))) task h e = absurd (none-some _ e)
  loop_whole (Some (statement at (update kind op t q v))) task h e = absurd (none-some _ e)
  loop_whole (Some (statement at (copy q r))) task h e = absurd (none-some _ e)
  loop_whole (Some (statement at (expression v))) task h e = absurd (none-some _ e)
  loop_whole (Some (statement at (asserts call v))) task h e = absurd (none-some _ e)
  loop_whole (Some (statement at (declare k i))) task h e = absurd (none-some _ e)
  loop_whole (Some (statement at (declare_static k))) task h e = absurd (none-some _ e)
  loop_whole (Some (statement at (block xs))) task h e = absurd (none-some _ e)
  loop_whole (Some (statement at (if_then v x))) task h e = absurd (none-some _ e)
  loop_whole (Some (statement at (if_else v x y))) task h e = absurd (none-some _ e)
  loop_whole (Some (statement at (switch span v labels body))) task h e = absurd (none-some _ e)
  loop_whole (Some (statement at break)) task h e = absurd (none-some _ e)
  loop_whole (Some (statement at continue)) task h e = absurd (none-some _ e)
  loop_whole (Some (statement at (return span v))) task h e = absurd (none-some _ e)
  loop_whole (Some (statement at empty)) task h e = absurd (none-some _ e)
  loop_whole (Some (statement at (mark kind))) task h e = absurd (none-some _ e)

  task_whole : (i : ℕ) (task : Task) → task_in (slice_get (statements_list f.body) i) ≡ Some task → IsWholeTask p number f task
  task_whole i task e = loop_whole (slice_get (statements_list f.body) i) task (λ x e. item_whole f.body (numbers_from 0 f.parameters) i x function.body e) e

  -- ## The part before the loop

  first_keeps : (i : ℕ) (w : State) (ks : List Kind) → Sound p ks w → Keeps p ks (DoneFits p f.variables f.result) (before_task (setting_of p budget (call_at budget p) depth f) f i depth w)
  first_keeps i w ks so = keeps_step p ks (DoneFits p f.variables f.result) w _ so (λ left.
      let start : Entered = entered f.variables [] (raised depth (record w { left = left })) in
      let entry : EntryFits p ks f.variables start = no_arguments p f.variables (raised depth (record w { left = left })) ks so in
      keeps_from p ks entry.kinds (DoneFits p f.variables f.result) _ entry.grows
      (keeps_then p entry.kinds (DoneFits p f.variables f.result) (DoneFits p f.variables f.result)
      (execute_from (setting_of p budget (call_at budget p) depth f) 0 (statements_of_list (take i (statements_list f.body))) start.frame start.state) _
      (from_keeps p (laid_out p whole) whole (call_at budget p depth) (calls_keep p whole budget depth) budget number f few 0 (statements_of_list (take i (statements_list f.body)))
      (numbers_from 0 f.parameters) false false (whole_front (here (numbers_from 0 f.parameters)) f.body i function.body) start.frame start.state entry.kinds entry.sound entry.frame)
      (λ d w js so g fits.
      go_keeps p (laid_out p whole) whole (call_at budget p depth) (calls_keep p whole budget depth) budget number f few (λ frame w. step w (λ w. goes frame w))
      (λ frame w ks so h. keeps_step p ks (DoneFits p f.variables f.result) w _ so (λ left.
      goes_keeps p (laid_out p whole) whole (call_at budget p depth) (calls_keep p whole budget depth) budget number f few frame (record w { left = left }) ks so h))
      d w js so fits)))

  -- ## Turns

  started_keeps : (scope : List ℕ) (tested : Option PlainValue) → IsMaybeTest (around (here scope)) tested → (frame : Frame) (w : State) (ks : List Kind) → Sound p ks w → FrameFits p ks f.variables frame.held →
      Keeps p ks (λ ks more. Unit {0}) (task_test (setting_of p budget (call_at budget p) depth f) tested frame w)
  started_keeps scope None i frame w ks so h = kept p ks (λ ks more. Unit {0}) true w so tt
  started_keeps scope (Some v) i frame w ks so h = test_keeps p (laid_out p whole) whole (call_at budget p depth) (calls_keep p whole budget depth) budget number f few scope (Some v) i frame w ks so h

  turn_keeps : (task : Task) → IsWholeTask p number f task → (frame : Frame) (w : State) (ks : List Kind) → Sound p ks w → FrameFits p ks f.variables frame.held →
      Keeps p ks (DoneFits p f.variables f.result) (task_turn (setting_of p budget (call_at budget p) depth f) task frame w)
  turn_keeps task i frame w ks so h =
      keeps_then p ks (λ ks more. Unit {0}) (DoneFits p f.variables f.result) (task_test (setting_of p budget (call_at budget p) depth f) task.tested frame w) _
      (started_keeps i.scope task.tested i.test frame w ks so h) (λ more w js so g none.
      keeps_if p js (DoneFits p f.variables f.result) more _ _
      (λ e. execute_keeps p (laid_out p whole) whole (call_at budget p depth) (calls_keep p whole budget depth) budget number f few task.body i.scope true false i.body frame w js so (frame_grown p ks js f.variables frame.held g h))
      (λ e. kept p js (DoneFits p f.variables f.result) (record { flow = broken; frame = frame }) w so (record { frame = frame_grown p ks js f.variables frame.held g h; flow = tt })))

-- ## The laws

pub first_parts_keep : FirstPartsKeepSound
first_parts_keep p whole f i task h budget w ks so = first_keeps p whole p.main f h.main budget (deeper f no_depth) i w ks so

pub turns_keep : TurnsKeepSound
turns_keep p whole f i task h budget frame w ks so fits =
    turn_keeps p whole p.main f h.main budget (deeper f no_depth) task (task_whole p whole p.main f h.main budget (deeper f no_depth) i task h.loop) frame w ks so fits

pub frames_fit_on : FramesFitOn
frames_fit_on p ks js grows variables held fits = frame_grown p ks js variables held grows fits

-- what a piece that keeps sound states gives
given_sound : {A : Type 0} (p : PlainProgram) (ks : List Kind) (P : List Kind → A → Type 0) (o : Progress A) (a : A) (w : State) → o ≡ gives a w → Keeps p ks P o → Kept p ks w (λ ks. P ks a)
given_sound p ks P o a w e h = subst (λ o. Keeps p ks P o) e h

pub runs_stay : RunsStaySound
runs_stay p whole world is prefix turn f i task h frame w (at_first done u e normal) =
    let kept : Kept p (opening_kinds p) u (λ ks. DoneFits p f.variables f.result ks done) =
    given_sound p (opening_kinds p) (DoneFits p f.variables f.result) _ done u e (first_parts_keep p whole f i task h prefix (opening p world prefix) (opening_kinds p) (opening_sound p whole world is prefix)) in
    record { kinds = kept.kinds; grows = kept.grows; sound = kept.sound; fits = kept.value.frame }
runs_stay p whole world is prefix turn f i task h frame w (again before u done next c e on) =
    let at : StandsSound p f before u = runs_stay p whole world is prefix turn f i task h before u c in
    let kept : Kept p at.kinds next (λ ks. DoneFits p f.variables f.result ks done) =
    given_sound p at.kinds (DoneFits p f.variables f.result) _ done next e (turns_keep p whole f i task h turn before (record u { left = turn }) at.kinds at.sound at.fits) in
    record { kinds = kept.kinds; grows = grows_trans (opening_kinds p) at.kinds kept.kinds at.grows kept.grows; sound = kept.sound; fits = kept.value.frame }
