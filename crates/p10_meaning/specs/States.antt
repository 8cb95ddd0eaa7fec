-- The world of a run, its states, and what comes of a piece of a program: something, or an end.
use Rattle.std.specs.Prelude.{ℕ, zero, suc, ◌<◌, ◌^◌, Bool, if◌then◌else◌, List, ℤ, pos, neg_ℤ, ◌≤ℤ◌, ◌<ℤ◌, Result, Ok, Err}
use Rattle.std.specs.List.{All}
use Rattle.p10_base.specs.declared.span.Span.{Span}
use Rattle.p10_int.specs.declared.operators.Stop.{Stop}
use Rattle.p10_meaning.specs.declared.world.World.{World}
use Rattle.p10_meaning.specs.Objects.{Object}

-- a value of a sensor
pub record IsSensorValue (z : ℤ) : Type 0 where
  pub low : neg_ℤ (pos (2 ^ 63)) ≤ℤ z
  pub high : z <ℤ pos (2 ^ 64)

-- the input of a world has bytes, and its sensors give values of 64 bits
pub record IsWorld (world : World) : Type 0 where
  pub input : All (λ byte. byte < 256) world.input
  pub sensors : All IsSensorValue world.sensors

-- a state of a run: the live objects, and how many were opened; what is left of the input and of the sensors' values; which
-- requests for memory are denied, and how many were made; the output; the steps that are left; the greatest depth of open
-- calls, in calls and in bytes of their frames; whether the mark at the end of initialisation was passed, and how many
-- allocations and `free`s were executed after it.
-- The open frames are no part of it: no statement changes any but the innermost, so each has its own where it is executed
pub record State : Type 0 where
  pub objects : List Object
  pub opened : ℕ
  pub input : List ℕ
  pub sensors : List ℤ
  pub denied : List ℕ
  pub requests : ℕ
  pub output : List ℕ
  pub left : ℕ
  pub calls : ℕ
  pub bytes : ℕ
  pub marked : Bool
  pub after_mark : ℕ

-- what a run may end in wherever it stands: an `assert` that fails (C99 7.2.1.1p2), an undefined operation, or that no step
-- is left. The span is that of the tree where it ends
pub data End : Type 0 where
  AssertionFailed : Span → End
  Undefined : Stop → Span → End
  StepsSpent : End

-- what comes of a piece of a program: something and a state, or an end and a state
pub data Progress (A : Type 0) : Type 0 where
  gives : A → State → Progress A
  ends : End → State → Progress A

-- a step is taken before what it pays for
abbrev pub step_at : {A : Type 0} → ℕ → State → (State → Progress A) → Progress A
step_at zero w go = ends StepsSpent w
step_at (suc n) w go = go (record w { left = n })

-- a piece that takes a step first: where none is left, the run ends
abbrev pub step : {A : Type 0} → State → (State → Progress A) → Progress A
step w go = step_at w.left w go

-- one piece after another
abbrev pub and_then : {A B : Type 0} → Progress A → (A → State → Progress B) → Progress B
and_then (gives a w) go = go a w
and_then (ends end w) go = ends end w

-- what an operation gives, or its stop at a tree
abbrev pub or_undefined : {A B : Type 0} → Result A Stop → Span → State → (A → Progress B) → Progress B
or_undefined (Ok x) span w go = go x
or_undefined (Err stop) span w go = ends (Undefined stop span) w

-- an executed allocation or `free` counts after the mark alone
abbrev pub counted : State → State
counted w = record w { after_mark = if w.marked then suc w.after_mark else w.after_mark }
