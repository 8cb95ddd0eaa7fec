-- Calls: frames, their depths, and the recursion that ties the meaning of trees to itself (C99 6.5.2.2, 6.9.1).
use Rattle.std.specs.Prelude.{ℕ, zero, suc, ◌+◌, max, if◌then◌else◌, List, [], ◌∷◌, slice_get, Option, Some, None}
use Rattle.p10_core.specs.Typed.{PlainVariable, PlainFunction, PlainProgram}
use Rattle.p10_core.specs.WholePrograms.{frame_bytes}
use Rattle.p10_meaning.specs.declared.pointers.Scalar.{Scalar}
use Rattle.p10_meaning.specs.Pointers.{holding}
use Rattle.p10_meaning.specs.Objects.{declared, all_closed}
use Rattle.p10_meaning.specs.States.{State, StepsSpent, Progress, gives, ends, step, and_then}
use Rattle.p10_meaning.specs.Values.{Calls, Setting, Held, holds, stands, absent, open_object}
use Rattle.p10_meaning.specs.Statements.{Frame, Flow, returned, Done, execute_from}

-- how deep calls are nested: open calls of defined functions, and the bytes of their frames
pub record Depth : Type 0 where
  pub calls : ℕ
  pub bytes : ℕ

-- no call is open
abbrev pub no_depth : Depth
no_depth = record { calls = 0; bytes = 0 }

-- the depth with one more call of a function, whose frame has the bytes of all its variables, in all its blocks
abbrev pub deeper : PlainFunction → Depth → Depth
deeper f depth = record { calls = suc depth.calls; bytes = depth.bytes + frame_bytes f }

-- the greatest depths, raised to a depth
abbrev pub raised : Depth → State → State
raised depth w = record w { calls = max w.calls depth.calls; bytes = max w.bytes depth.bytes }

-- a frame, and the state after the objects in it were opened
pub record Entered : Type 0 where
  pub frame : Frame
  pub state : State

-- the frame with one more variable before the others
abbrev pub with_variable : Held → List ℕ → Entered → Entered
with_variable held opened rest = record rest { frame = record { held = held ∷ rest.frame.held; opened = opened } }

-- the new frame of a call: the arguments stand for the first variables, and nothing yet for the others (C99 6.5.2.2p4)
abbrev pub entered : List PlainVariable → List Scalar → State → Entered
entered [] xs w = record { frame = record { held = []; opened = [] }; state = w }
entered (v ∷ variables) [] w = let rest : Entered = entered variables [] w in with_variable absent rest.frame.opened rest
entered (v ∷ variables) (x ∷ xs) w =
    if v.frame
    then (let rest : Entered = entered variables xs w in with_variable (holds (holding x)) rest.frame.opened rest)
    else (let rest : Entered = entered variables xs (open_object declared (holding x ∷ []) w) in with_variable (stands w.opened) (w.opened ∷ rest.frame.opened) rest)

-- the value that a body gives: none where it ends without `return` of one (C99 6.9.1p12)
abbrev pub given : Flow → Option Scalar
given (returned x) = x
given flow = None

-- the objects of a frame die where its call ends (C99 6.2.4p5)
abbrev pub leave_call : Done → State → Progress (Option Scalar)
leave_call done w = gives (given done.flow) (record w { objects = all_closed done.frame.opened w.objects })

-- what the trees of a function stand in, at a depth that has its frame
abbrev pub setting_of : PlainProgram → ℕ → (Depth → Calls) → Depth → PlainFunction → Setting
setting_of p n call depth f = record { program = p; variables = f.variables; call = call depth; turns = n }

-- a call after its step: a new frame, the greatest depths raised, the body, the frame closed
abbrev pub enter_call : PlainProgram → ℕ → (Depth → Calls) → Depth → Option PlainFunction → List Scalar → State → Progress (Option Scalar)
enter_call p n call depth None xs w = gives None w
enter_call p n call depth (Some f) xs w =
    let there : Depth = deeper f depth in
    let start : Entered = entered f.variables xs (raised there w) in
    and_then (execute_from (setting_of p n call there f) 0 f.body start.frame start.state) leave_call

-- a call of a function, by its number, at a depth: one step of entry, and what it pays for. The bound n on nested calls and on
-- turns makes this a recursion on the trees and on the steps that are left: it never counts while it is no less than these
abbrev pub call_at : ℕ → PlainProgram → Depth → Calls
call_at zero p depth k xs w = ends StepsSpent w
call_at (suc n) p depth k xs w = step w (λ w. enter_call p n (call_at n p) depth (slice_get p.functions k) xs w)
