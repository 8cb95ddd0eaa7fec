-- A machine between its calls, and what each of them comes to: a part of a run, whose input is taken from a source in pieces and
-- whose output is put into a sink.
use Rattle.std.specs.Prelude.{◌≡◌, ℕ, ◌<◌, Bool, true, false, List, [], ◌++◌, Option}
use Rattle.std.specs.List.{All}
use Rattle.std.specs.Io.KnownBytes.{Consumes, Appends, IsAtEnd}
use Rattle.p10_core.specs.Typed.{PlainProgram}
use Rattle.p10_meaning.specs.States.{State, AssertionFailed as HasFailed, Undefined as IsUndefined, StepsSpent as HasSpent, Progress, gives, ends}
use Rattle.p10_meaning.specs.Statements.{Frame}
use Rattle.p10_meaning.specs.Laws.{Extends}
use Rattle.p10_interp.specs.Stages.{Stage, at_loop, over}
use Rattle.p10_interp.specs.declared.ended.Ended.{Ended}
use Rattle.p10_interp.specs.declared.ended.Ended.TheVariants.{AtLoop, TurnDone, Returned, AssertionFailed, Undefined, StepsSpent}

-- where a machine stands: nothing was run yet; at its task loop, with the frame of `main`; its run has ended, or was given up
pub data Position : Type 0 where
  fresh : Position
  paused : Frame → Position
  finished : Position

-- whether a turn comes next
abbrev pub is_paused : Position → Bool
is_paused fresh = false
is_paused (paused frame) = true
is_paused finished = false

-- a machine between its calls: its program; where it stands; its state, whose input is what it took from a source and hasn't given
-- yet, and whose output is what waits; whether a source has ended; how many turns began
pub record Resting : Type 0 where
  pub program : PlainProgram
  pub position : Position
  pub state : State
  pub ended : Bool
  pub turns : ℕ

-- what is left of the input after the bytes that were taken: nothing once a source has ended
abbrev pub rest_of : Bool → List ℕ → List ℕ
rest_of true rest = []
rest_of false rest = rest

-- the state in which a call begins, with `steps` steps: the input goes on with these bytes, and the output comes after what went out before
abbrev pub begun : Resting → ℕ → List ℕ → List ℕ → State
begun m steps input earlier = record m.state { left = steps; input = m.state.input ++ input; output = earlier ++ m.state.output }

-- the state in which a call leaves the machine: the input goes on with these bytes, and this is all output so far
abbrev pub reached : Resting → List ℕ → List ℕ → State
reached m input output = record m.state { input = m.state.input ++ input; output = output }

-- a source is left as it was
pub record StaysAsked (is : Bool) (old new : Option (List ℕ)) (given : List ℕ) : Type 0 where
  pub none : given ≡ []
  pub ended : is ≡ true
  pub same : new ≡ old

-- a source gave these bytes, each a number below 256, whether it tells them or not; after it has ended it isn't asked again
pub record Asks (was is : Bool) (old new : Option (List ℕ)) (given : List ℕ) : Type 0 where
  pub taken : Consumes old new given
  pub bytes : All (λ byte. byte < 256) given
  pub once : was ≡ true → StaysAsked is old new given
  pub end : was ≡ false → is ≡ true → IsAtEnd new

-- a call ends here, with this answer, where it has come to the loop again or its run is over
abbrev pub EndsBy : Progress Stage → Ended → State → Type 0
EndsBy o AtLoop w = ⊥
EndsBy o TurnDone w = ⊥
EndsBy o (Returned z) w = o ≡ gives (over z) w
EndsBy o (AssertionFailed span) w = o ≡ ends (HasFailed span) w
EndsBy o (Undefined stop span) w = o ≡ ends (IsUndefined stop span) w
EndsBy o StepsSpent w = o ≡ ends HasSpent w

-- an answer, where the machine stands then, and its state are what a part of the run comes to; `loop` is the answer where a turn comes next
abbrev pub Means : Ended → Progress Stage → Ended → Position → State → Type 0
Means loop o answer fresh w = ⊥
Means loop o answer (paused frame) w = (answer ≡ loop) × (o ≡ gives (at_loop frame) w)
Means loop o answer finished w = EndsBy o answer w

-- a call has run a part of the run: the bytes that the source gave, and those that the sink took, which are all output of the part.
-- Whatever the source has left, and whatever went out before, the answer is what the part comes to
pub record Runs (part : State → Progress Stage) (loop answer : Ended) (steps : ℕ) (old new : Resting) (left left_after taken taken_after : Option (List ℕ)) : Type 0 where
  pub given : List ℕ
  pub put : List ℕ
  pub source : Asks old.ended new.ended left left_after given
  pub sink : Appends taken taken_after put
  pub waiting : new.state.output ≡ []
  pub means : (rest earlier : List ℕ) →
      Means loop (part (begun old steps (given ++ rest_of new.ended rest) earlier)) answer new.position (reached new (rest_of new.ended rest) (earlier ++ put))

-- the output of what a part comes to
abbrev pub output_of : {A : Type 0} → Progress A → List ℕ
output_of (gives a w) = w.output
output_of (ends end w) = w.output

-- a call was given up: what the sink took is a prefix of the output of the part, whatever the source has left
pub record GivesUp (part : State → Progress Stage) (steps : ℕ) (old : Resting) (left left_after taken taken_after : Option (List ℕ)) : Type 0 where
  pub given : List ℕ
  pub put : List ℕ
  pub ended : Bool
  pub source : Asks old.ended ended left left_after given
  pub sink : Appends taken taken_after put
  pub prefix : (rest earlier : List ℕ) → Extends (earlier ++ put) (output_of (part (begun old steps (given ++ rest_of ended rest) earlier)))
