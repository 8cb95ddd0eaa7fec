-- What holds of the meaning of every program, whole or not.
use Rattle.std.specs.Prelude.{◌≡◌, ◌≢◌, ℕ, ◌+◌, ◌≤◌, true, false, List, ◌++◌, ℤ, Option, slice_get}
use Rattle.p10_core.specs.Typed.{PlainValue, PlainStatement, PlainStatements, PlainFunction, PlainProgram}
use Rattle.p10_meaning.specs.declared.pointers.Scalar.{Scalar}
use Rattle.p10_meaning.specs.declared.world.World.{World}
use Rattle.p10_meaning.specs.States.{State, AssertionFailed, Undefined, StepsSpent, Progress, gives, ends, step}
use Rattle.p10_meaning.specs.Values.{Held, evaluate}
use Rattle.p10_meaning.specs.Statements.{Frame, test, turns, execute, round}
use Rattle.p10_meaning.specs.Calling.{Depth, setting_of, enter_call, call_at}
use Rattle.p10_meaning.specs.Runs.{Ended, run_of}

-- ## What a run changes

-- a list is another one with more at its end
pub record Extends {A : Type 0} (from to : List A) : Type 0 where
  pub more : List A
  pub is : to ≡ from ++ more

-- one state comes after another: no step comes back; objects, requests, the greatest depths and the count after the mark only
-- grow; the mark stays passed, and what is executed before it isn't counted; what was written stays, and input and sensor values
-- are taken in order
pub record Follows (from to : State) : Type 0 where
  pub left : to.left ≤ from.left
  pub opened : from.opened ≤ to.opened
  pub requests : from.requests ≤ to.requests
  pub denied : to.denied ≡ from.denied
  pub calls : from.calls ≤ to.calls
  pub bytes : from.bytes ≤ to.bytes
  pub counted : from.after_mark ≤ to.after_mark
  pub marked : from.marked ≡ true → to.marked ≡ true
  pub before_mark : to.marked ≡ false → to.after_mark ≡ from.after_mark
  pub output : Extends from.output to.output
  pub input : (taken : List ℕ) × (from.input ≡ taken ++ to.input)
  pub sensors : (taken : List ℤ) × (from.sensors ≡ taken ++ to.sensors)

-- the state of a piece's outcome comes after the state that it began in
abbrev pub EndsAfter : {A : Type 0} → State → Progress A → Type 0
EndsAfter from (gives a to) = Follows from to
EndsAfter from (ends end to) = Follows from to

-- ## More steps

-- the state with k more steps left
abbrev pub with_more : ℕ → State → State
with_more k w = record w { left = w.left + k }

-- what comes of a piece with k more steps: the same, with k more steps left, unless it ran out of steps
abbrev pub SameWithMore : {A : Type 0} → ℕ → Progress A → Progress A → Type 0
SameWithMore k (gives a w) other = other ≡ gives a (with_more k w)
SameWithMore k (ends (AssertionFailed span) w) other = other ≡ ends (AssertionFailed span) (with_more k w)
SameWithMore k (ends (Undefined stop span) w) other = other ≡ ends (Undefined stop span) (with_more k w)
SameWithMore k (ends StepsSpent w) other = Unit {0}

-- ## The laws, for calls, statements and values

-- what holds of a call
pub record CallsRun (p : PlainProgram) (depth : Depth) (f : ℕ) (xs : List Scalar) (w : State) : Type 0 where
  pub follows : (n : ℕ) → w.left ≤ n → EndsAfter w (call_at n p depth f xs w)
  pub bound : (n m : ℕ) → w.left ≤ n → w.left ≤ m → call_at n p depth f xs w ≡ call_at m p depth f xs w
  pub plain : (n : ℕ) → w.left ≤ n → call_at n p depth f xs w ≡ step w (λ w. enter_call p n (call_at n p) depth (slice_get p.functions f) xs w)
  pub more : (n m k : ℕ) → w.left ≤ n → w.left + k ≤ m → SameWithMore k (call_at n p depth f xs w) (call_at m p depth f xs (with_more k w))

-- the bound on calls and turns never counts while it is no less than the steps that are left, so the meaning of calls is the
-- plain recursion on trees and steps; more steps change no outcome except that steps ran out
abbrev pub CallsHaveNoBound : Type 0
CallsHaveNoBound = (p : PlainProgram) (depth : Depth) (f : ℕ) (xs : List Scalar) (w : State) → CallsRun p depth f xs w

-- what holds of a statement of a function
pub record StatementsRun (p : PlainProgram) (depth : Depth) (f : PlainFunction) (x : PlainStatement) (frame : Frame) (w : State) : Type 0 where
  pub follows : (n : ℕ) → w.left ≤ n → EndsAfter w (execute (setting_of p n (call_at n p) depth f) x frame w)
  pub bound : (n m : ℕ) → w.left ≤ n → w.left ≤ m → execute (setting_of p n (call_at n p) depth f) x frame w ≡ execute (setting_of p m (call_at m p) depth f) x frame w
  pub more : (n m k : ℕ) → w.left ≤ n → w.left + k ≤ m →
      SameWithMore k (execute (setting_of p n (call_at n p) depth f) x frame w) (execute (setting_of p m (call_at m p) depth f) x frame (with_more k w))

-- the same for statements, in each function at each depth
abbrev pub StatementsHaveNoBound : Type 0
StatementsHaveNoBound = (p : PlainProgram) (depth : Depth) (f : PlainFunction) (x : PlainStatement) (frame : Frame) (w : State) → StatementsRun p depth f x frame w

-- what holds of a value of a function
pub record ValuesRun (p : PlainProgram) (depth : Depth) (f : PlainFunction) (v : PlainValue) (held : List Held) (w : State) : Type 0 where
  pub follows : (n : ℕ) → w.left ≤ n → EndsAfter w (evaluate (setting_of p n (call_at n p) depth f) held v w)
  pub bound : (n m : ℕ) → w.left ≤ n → w.left ≤ m → evaluate (setting_of p n (call_at n p) depth f) held v w ≡ evaluate (setting_of p m (call_at m p) depth f) held v w
  pub more : (n m k : ℕ) → w.left ≤ n → w.left + k ≤ m →
      SameWithMore k (evaluate (setting_of p n (call_at n p) depth f) held v w) (evaluate (setting_of p m (call_at m p) depth f) held v (with_more k w))

-- a loop of a function, at each depth: neither the bound on calls nor that on turns counts
abbrev pub LoopsHaveNoBound : Type 0
LoopsHaveNoBound =
    (p : PlainProgram) (depth : Depth) (f : PlainFunction) (tested : Option PlainValue) (third : PlainStatements) (body : PlainStatement) (frame : Frame) (w : State) (n m i j : ℕ) →
    w.left ≤ n → w.left ≤ m → w.left ≤ i → w.left ≤ j →
    turns i (test (setting_of p n (call_at n p) depth f) tested) (round (setting_of p n (call_at n p) depth f) third body) frame w ≡
    turns j (test (setting_of p m (call_at m p) depth f) tested) (round (setting_of p m (call_at m p) depth f) third body) frame w

-- the same for values
abbrev pub ValuesHaveNoBound : Type 0
ValuesHaveNoBound = (p : PlainProgram) (depth : Depth) (f : PlainFunction) (v : PlainValue) (held : List Held) (w : State) → ValuesRun p depth f v held w

-- ## Whole runs

-- a run that doesn't run out of steps gives the same with greater budgets
abbrev pub RunsNeedNoMore : Type 0
RunsNeedNoMore =
    (p : PlainProgram) (world : World) (prefix turn n more_prefix more_turn : ℕ) → (run_of p world prefix turn n).outcome ≢ Ended StepsSpent →
    run_of p world (prefix + more_prefix) (turn + more_turn) n ≡ run_of p world prefix turn n
