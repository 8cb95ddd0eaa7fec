-- What is claimed of the code.
use Rattle.std.specs.Prelude.{ℕ, ◌≤◌, List, []}
use Rattle.p10_core.specs.Typed.{PlainProgram}
use Rattle.p10_meaning.specs.States.{State, Progress, gives, and_then}
use Rattle.p10_meaning.specs.Laws.{Follows, EndsAfter}
use Rattle.p10_meaning.specs.Calling.{no_depth, call_at}
use Rattle.p10_code.specs.Operations.{Op, Entry}
use Rattle.p10_code.specs.Machine.{Config, Turned, on, off, Rest, over, start, Reaches}
use Rattle.p10_code.specs.ProgramCode.{code_of, entries_of}

-- the run of a program's code is what its `main` means, from each state and so with each budget: it ends where and as the meaning
-- does, with the same state, and for want of steps exactly where the meaning does
abbrev pub CodeIsExact : Type 0
CodeIsExact =
    (p : PlainProgram) (n : ℕ) (w : State) → w.left ≤ n → Reaches p (code_of p) (entries_of p) (on (start w)) (and_then (call_at n p no_depth p.main [] w) (λ x w. gives (over x) w))

-- what comes of an operation comes after a state
abbrev pub FollowsTurned : State → Turned → Type 0
FollowsTurned w (on c) = Follows w c.state
FollowsTurned w (off o) = EndsAfter w o

-- what the machine comes to comes after the state in which it stands: its output only grows
abbrev pub RunsFollow : Type 0
RunsFollow = (p : PlainProgram) (code : List Op) (entries : List Entry) (c : Config) (o : Progress Rest) → Reaches p code entries (on c) o → EndsAfter c.state o
