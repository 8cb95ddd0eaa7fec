-- Open calls as ranges of two lists: what stands for their variables, and what their blocks opened.
use Rattle.std.specs.Prelude.{◌≡◌, ℕ, ◌+◌, ◌<◌, ◌≤◌, ltb, Bool, false, List, [], ◌∷◌, ◌++◌, map, reverse, length, take, drop, Option, Some, None}
use Rattle.p10_core.specs.Views.{plain_function}
use Rattle.p10_meaning.specs.Values.{Held, stands}
use Rattle.p10_meaning.specs.Statements.{Frame, holding_at}
use Rattle.p10_meaning.specs.Calling.{Depth}
use Rattle.p10_core.specs.Typed.{PlainVariable, PlainFunction}
use Rattle.p10_interp.specs.declared.held.Held.{Held as Standing}
use Rattle.p10_interp.specs.declared.base.Base.{Base}
use Rattle.p10_interp.specs.declared.base.Depth.{Depth as Deep}
use Rattle.p10_interp.specs.declared.calls.Calls.{Calls}
use Rattle.p10_interp.specs.private.Standing.{held_of}
use Rattle.p10_interp.specs.private.Tasks.{Open}
use Rattle.p10_interp.specs.private.Operations.{with_frame}

-- the objects of the innermost block: those that were opened after its mark
abbrev pub own : List (Option ℕ) → List ℕ
own [] = []
own (None ∷ marks) = []
own (Some object ∷ marks) = object ∷ own marks

-- the objects of each block round it
abbrev pub around : List (Option ℕ) → List (List ℕ)
around [] = []
around (None ∷ marks) = own marks ∷ around marks
around (Some object ∷ marks) = around marks

-- an open call with what stands for its variables, and its marks, the last first
abbrev pub open_of : Base → List Standing → List (Option ℕ) → Open
open_of b held marks = record {
  function = plain_function b.function.now;
  depth = record { calls = b.calls; bytes = b.bytes };
  frame = record { held = map held_of held; opened = own marks };
  outer = around marks;
}

-- the open calls, the innermost first
abbrev pub calls_of : List Base → List Standing → List (Option ℕ) → List Open
calls_of [] held marks = []
calls_of (b ∷ bases) held marks = open_of b (drop b.held held) (reverse (drop b.marks marks)) ∷ calls_of bases (take b.held held) (take b.marks marks)

abbrev pub calls_in : Calls → List Open
calls_in c = calls_of (reverse c.bases.items) c.held.items c.marks.items

-- what stands for the variables of the innermost call
abbrev pub innermost_held : List Open → List Held
innermost_held [] = []
innermost_held (f ∷ calls) = f.frame.held

-- the variables of the function of the innermost call
abbrev pub innermost_variables : List Open → List PlainVariable
innermost_variables [] = []
innermost_variables (f ∷ calls) = f.function.variables

-- the innermost block has opened an object
abbrev pub owning : Frame → ℕ → Frame
owning frame object = record frame { opened = object ∷ frame.opened }

-- a variable is an object that the innermost block opened
abbrev pub standing_at : Frame → ℕ → ℕ → Frame
standing_at frame n object = owning (holding_at frame n (stands object)) object

-- where what stands for a variable is one of the first `most`, where those of its call begin at a place
abbrev pub IsPlaced : ℕ → ℕ → ℕ → Option ℕ → Type 0
IsPlaced from most n (Some place) = (place ≡ from + n) × (place < most)
IsPlaced from most n None = most ≤ from + n

abbrev pub HasVariable : Base → ℕ → ℕ → Option ℕ → Type 0
HasVariable b most n place = IsPlaced b.held most n place

-- the marks of the innermost call stand among all
abbrev pub IsMarkedBy : List Base → ℕ → Type 0
IsMarkedBy [] n = ⊥
IsMarkedBy (b ∷ bases) n = b.marks ≤ n

abbrev pub IsMarked : Calls → Type 0
IsMarked c = IsMarkedBy (reverse c.bases.items) (length c.marks.items)

-- what stands for the variables of the innermost call stands among all
abbrev pub IsHeldBy : List Base → ℕ → Type 0
IsHeldBy [] n = ⊥
IsHeldBy (b ∷ bases) n = b.held ≤ n

abbrev pub IsHeld : Calls → Type 0
IsHeld c = IsHeldBy (reverse c.bases.items) (length c.held.items)

-- how deep calls are nested
abbrev pub calls_deep : Deep → Depth
calls_deep d = record { calls = d.calls; bytes = d.bytes }

-- a call that was opened, with nothing for its variables
abbrev pub opened_call : PlainFunction → Depth → Open
opened_call h depth = record { function = h; depth = depth; frame = record { held = []; opened = [] }; outer = [] }

-- one more variable stands for something
abbrev pub holding_next : Frame → Held → Frame
holding_next frame held = record frame { held = frame.held ++ held ∷ [] }

-- the object that the first mark is
abbrev pub first_own : List (Option ℕ) → Option ℕ
first_own [] = None
first_own (mark ∷ marks) = mark

-- the object that the innermost block opened last
abbrev pub last_own_of : List Base → List (Option ℕ) → Option ℕ
last_own_of [] marks = None
last_own_of (b ∷ bases) marks = first_own (reverse (drop b.marks marks))

-- the innermost call has a mark among the first n
abbrev pub has_mark_of : List Base → ℕ → Bool
has_mark_of [] n = false
has_mark_of (b ∷ bases) n = ltb b.marks n

-- the call whose innermost block owns these objects
abbrev pub owning_all : Open → List ℕ → Open
owning_all f opened = with_frame f (record f.frame { opened = opened })

-- the object that the innermost block opened last is taken from it
abbrev pub TakesOwn : Open → List Open → Option ℕ → List Open → Type 0
TakesOwn f calls None now = (f.frame.opened ≡ []) × (now ≡ f ∷ calls)
TakesOwn f calls (Some object) now = (rest : List ℕ) × ((f.frame.opened ≡ object ∷ rest) × (now ≡ owning_all f rest ∷ calls))
