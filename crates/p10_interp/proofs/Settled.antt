-- The answers of a machine's calls, in terms of the machine between its calls.
use Rattle.std.proofs.Common.{◌≡◌, ℕ, Bool, List, [], ◌++◌, refl, sym, ◌∙◌, ap, append-nil, subst, Option, Result, Ok, Err}
use Rattle.p10_core.specs.Typed.{PlainProgram}
use Rattle.p10_meaning.specs.States.{State, Progress}
use Rattle.p10_meaning.specs.Statements.{Frame}
use Rattle.p10_interp.specs.Stages.{Stage}
use Rattle.p10_meaning.specs.Opening.{opening}
use Rattle.p10_interp.specs.Resting.{Position, fresh, paused, finished, Resting, rest_of, begun, reached, Means, Runs, GivesUp}
use Rattle.p10_interp.specs.declared.broken.Broken.{Broken}
use Rattle.p10_interp.specs.declared.broken.Broken.TheVariants.{Failed, Undefined as Stopped, Spent, Read, Write, Memory}
use Rattle.p10_interp.specs.declared.ended.Ended.{Ended}
use Rattle.p10_interp.specs.declared.ended.Ended.TheVariants.{AtLoop, TurnDone, Returned, AssertionFailed, Undefined, StepsSpent}
use Rattle.p10_interp.specs.declared.outside.Outside.{Outside}
use Rattle.p10_interp.specs.declared.engine.Engine.{Engine}
use Rattle.p10_interp.specs.declared.place.Place.{Place}
use Rattle.p10_interp.specs.declared.place.Place.TheVariants.{Fresh, AtLoop as Waiting, Finished}
use Rattle.p10_interp.specs.private.Tasks.{Open}
use Rattle.p10_interp.specs.private.Machines.{Around, state_of}
use Rattle.p10_interp.specs.private.OpenCalls.{calls_in}
use Rattle.p10_interp.specs.private.Reserving.{StaysButRoom}
use Rattle.p10_interp.specs.private.Serving.{Moment, state_at, Serves, Loses}
use Rattle.p10_interp.specs.private.Parts.{frame_in, stage_of}
use Rattle.p10_interp.specs.private.Placing.{position_of, stands_after, IsAnswer}
use Rattle.p10_interp.specs.private.Settling.{EndsWith}

-- the state of a machine between its calls
abbrev pub own_state : Outside → State
own_state o = record (state_of o (record { out = []; rest = [] })) { input = o.pending; output = o.waiting.items }

-- a machine between its calls, by its parts
abbrev pub resting_with : PlainProgram → Position → State → Bool → ℕ → Resting
resting_with p position state ended turns = record { program = p; position = position; state = state; ended = ended; turns = turns }

-- a machine between its calls
abbrev resting : PlainProgram → Place → Engine → ℕ → Resting
resting p place e turns = record { program = p; position = position_of place (calls_in e.stacks.calls); state = own_state e.outside; ended = e.ended; turns = turns }

means_by : (loop answer : Ended) (o : Progress Stage) (frame : Frame) (w : State) → IsAnswer loop answer → o ≡ stage_of answer frame w → Means loop o answer (stands_after answer frame) w
means_by loop AtLoop o frame w a e = (a, e)
means_by loop TurnDone o frame w a e = (a, e)
means_by loop (Returned z) o frame w a e = e
means_by loop (AssertionFailed span) o frame w a e = e
means_by loop (Undefined stop span) o frame w a e = e
means_by loop StepsSpent o frame w a e = e

-- nothing waits
all_out : (t : Outside) (input output : List ℕ) → t.waiting.items ≡ [] → state_at t input output ≡ record (state_at t input output) { output = output }
all_out t input output e = ap (λ more. record (state_at t input output) { output = output ++ more }) e ∙ ap (λ out. record (state_at t input output) { output = out }) (append-nil output)

module _ (part : State → Progress Stage) (steps : ℕ) (p q : PlainProgram) (before after : Position) (o t : Outside) (was is : Bool) (i j : ℕ) (left left_after taken taken_after : Option (List ℕ)) where
  pub runs_from : (loop answer : Ended) (frame : Frame) → after ≡ stands_after answer frame → IsAnswer loop answer →
      EndsWith part (record { outside = record o { left = steps }; ended = was; left = left; taken = taken }) answer frame (record { outside = t; ended = is; left = left_after; taken = taken_after }) →
      Runs part loop answer steps (record { program = p; position = before; state = own_state o; ended = was; turns = i }) (record { program = q; position = after; state = own_state t; ended = is; turns = j }) left left_after taken taken_after
  runs_from loop answer frame e a ends =
      let s : Serves part (record { outside = record o { left = steps }; ended = was; left = left; taken = taken }) (stage_of answer frame) (record { outside = t; ended = is; left = left_after; taken = taken_after }) = ends.serves in
      record {
        given = s.given;
        put = s.put;
        source = s.source;
        sink = s.sink;
        waiting = ends.empty;
        means = λ rest earlier.
            subst (λ position. Means loop (part (state_at (record o { left = steps }) (s.given ++ rest_of is rest) earlier)) answer position (record (state_at t (rest_of is rest) (earlier ++ s.put)) { output = earlier ++ s.put })) (sym e)
            (means_by loop answer (part (state_at (record o { left = steps }) (s.given ++ rest_of is rest) earlier)) frame (record (state_at t (rest_of is rest) (earlier ++ s.put)) { output = earlier ++ s.put }) a
            (s.same rest earlier ∙ ap (stage_of answer frame) (all_out t (rest_of is rest) (earlier ++ s.put) ends.empty)));
      }

  pub gives_up_from : Loses part (record { outside = record o { left = steps }; ended = was; left = left; taken = taken }) left_after taken_after →
      GivesUp part steps (record { program = p; position = before; state = own_state o; ended = was; turns = i }) left left_after taken taken_after
  gives_up_from l = record { given = l.given; put = l.put; ended = l.ended; source = l.source; sink = l.sink; prefix = l.prefix }

abbrev frame_at : Position → Frame
frame_at fresh = record { held = []; opened = [] }
frame_at (paused frame) = frame
frame_at finished = record { held = []; opened = [] }

-- the frame of a machine at its loop
pub paused_frame : (place : Place) (calls : List Open) (frame : Frame) → position_of place calls ≡ paused frame → frame_in calls ≡ frame
paused_frame Fresh calls frame e = absurd (let no : fresh ≡ paused frame = e in cc)
paused_frame Waiting calls frame e = ap frame_at e
paused_frame Finished calls frame e = absurd (let no : finished ≡ paused frame = e in cc)

-- a new machine is in the opening state
pub opens : (p : PlainProgram) (denied : List ℕ) (o : Outside) → ((io : Around) → state_of o io ≡ record (opening p (record { input = io.rest; denied = denied; sensors = [] }) 0) { output = io.out }) →
    own_state o ≡ opening p (record { input = []; denied = denied; sensors = [] }) 0
opens p denied o h =
    let e : state_of o (record { out = []; rest = [] }) ≡ record (opening p (record { input = []; denied = denied; sensors = [] }) 0) { output = [] } = h (record { out = []; rest = [] }) in
    let pending : o.pending ≡ [] = sym (append-nil o.pending) ∙ ap (λ (w : State). w.input) e in
    ap (λ bytes. record (state_of o (record { out = []; rest = [] })) { input = bytes; output = o.waiting.items }) pending ∙
    ap (λ bytes. record (state_of o (record { out = []; rest = [] })) { input = []; output = bytes }) (ap (λ (w : State). w.output) e) ∙
    ap (λ (w : State). record w { input = []; output = [] }) e

-- the machine is as before except for room
pub rests_same : (p : PlainProgram) (place : Place) (old new : Engine) (turns : ℕ) → StaysButRoom old new → resting p place new turns ≡ resting p place old turns
rests_same p place old new turns s =
    ap (λ calls. record (resting p place new turns) { position = position_of place calls }) s.calls ∙
    ap (λ (w : State). record (resting p place new turns) { position = position_of place (calls_in old.stacks.calls); state = record w { input = new.outside.pending; output = new.outside.waiting.items } }) (s.state (record { out = []; rest = [] })) ∙
    ap (λ bytes. record (resting p place new turns) { position = position_of place (calls_in old.stacks.calls); state = record (own_state old.outside) { input = bytes; output = new.outside.waiting.items } }) s.pending ∙
    ap (λ bytes. record (resting p place new turns) { position = position_of place (calls_in old.stacks.calls); state = record (own_state old.outside) { output = bytes } }) s.waiting ∙
    ap (λ ended. record (resting p place new turns) { position = position_of place (calls_in old.stacks.calls); state = own_state old.outside; ended = ended }) s.ended
