-- What a machine's dealings with its source and its sink leave as it was.
use Rattle.std.specs.Prelude.{◌≡◌, ℕ, Bool, List, ◌++◌, Option, Result, Ok, Err}
use Rattle.std.specs.Io.KnownBytes.{Appends}
use Rattle.p10_meaning.specs.States.{State, AssertionFailed, Undefined as IsUndefined, StepsSpent, Progress, gives, ends}
use Rattle.p10_meaning.specs.Laws.{Extends}
use Rattle.p10_interp.specs.Resting.{rest_of, Asks, output_of}
use Rattle.p10_interp.specs.declared.broken.Broken.{Broken}
use Rattle.p10_interp.specs.declared.broken.Broken.TheVariants.{Failed, Undefined, Spent, Read, Write, Memory}
use Rattle.p10_interp.specs.declared.engine.Engine.{Engine}
use Rattle.p10_interp.specs.declared.outside.Outside.{Outside}
use Rattle.p10_interp.specs.private.Machines.{state_of}

-- a moment of a run: what the run holds besides its stacks, whether the source has ended, what that has left and what the sink took
pub record Moment : Type 0 where
  pub outside : Outside
  pub ended : Bool
  pub left : Option (List ℕ)
  pub taken : Option (List ℕ)

abbrev pub moment_of : Engine → Option (List ℕ) → Option (List ℕ) → Moment
moment_of e left taken = record { outside = e.outside; ended = e.ended; left = left; taken = taken }

-- the state, where the input goes on with these bytes and the output comes after what went out before
abbrev pub state_at : Outside → List ℕ → List ℕ → State
state_at s rest earlier = state_of s (record { out = earlier; rest = rest })

-- from one moment to another the source gave bytes and the sink took bytes, and the same comes of the run
pub record Serves {A : Type 0} (from : State → Progress A) (old : Moment) (to : State → Progress A) (new : Moment) : Type 0 where
  pub given : List ℕ
  pub put : List ℕ
  pub source : Asks old.ended new.ended old.left new.left given
  pub sink : Appends old.taken new.taken put
  pub same : (rest earlier : List ℕ) →
      from (state_at old.outside (given ++ rest_of new.ended rest) earlier) ≡ to (state_at new.outside (rest_of new.ended rest) (earlier ++ put))

-- from a moment on, what the sink took is a prefix of the output
pub record Loses {A : Type 0} (from : State → Progress A) (old : Moment) (left_after taken_after : Option (List ℕ)) : Type 0 where
  pub given : List ℕ
  pub put : List ℕ
  pub ended : Bool
  pub source : Asks old.ended ended old.left left_after given
  pub sink : Appends old.taken taken_after put
  pub prefix : (rest earlier : List ℕ) → Extends (earlier ++ put) (output_of (from (state_at old.outside (given ++ rest_of ended rest) earlier)))

-- what comes of the run is what comes of the rest after an answer, or it ends as the answer says, or it was given up
abbrev pub Comes : {A X : Type 0} → (State → Progress A) → Moment → Result X Broken → (X → State → Progress A) → Moment → Type 0
Comes from old (Ok x) to new = Serves from old (to x) new
Comes from old (Err (Failed span)) to new = Serves from old (λ w. ends (AssertionFailed span) w) new
Comes from old (Err (Undefined stop span)) to new = Serves from old (λ w. ends (IsUndefined stop span) w) new
Comes from old (Err Spent) to new = Serves from old (λ w. ends StepsSpent w) new
Comes from old (Err Read) to new = Loses from old new.left new.taken
Comes from old (Err Write) to new = Loses from old new.left new.taken
Comes from old (Err Memory) to new = Loses from old new.left new.taken

-- where the outside isn't asked: what comes of a state is what comes of the state that an answer leaves, unless memory runs out
abbrev pub Yields : {A X : Type 0} → Progress A → Result X Broken → (X → State → Progress A) → State → Type 0
Yields o (Ok x) to w = o ≡ to x w
Yields o (Err (Failed span)) to w = o ≡ ends (AssertionFailed span) w
Yields o (Err (Undefined stop span)) to w = o ≡ ends (IsUndefined stop span) w
Yields o (Err Spent) to w = o ≡ ends StepsSpent w
Yields o (Err Read) to w = ⊥
Yields o (Err Write) to w = ⊥
Yields o (Err Memory) to w = Unit {0}
