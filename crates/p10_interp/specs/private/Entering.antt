-- How a call is entered.
use Rattle.std.specs.Prelude.{◌≡◌, ℕ, Bool, List, [], ◌∷◌, ◌++◌, Option, Some, None, Result, Ok, Err}
use Rattle.p10_core.specs.Typed.{PlainVariable, PlainFunction}
use Rattle.p10_meaning.specs.declared.pointers.Scalar.{Scalar}
use Rattle.p10_meaning.specs.Pointers.{holding}
use Rattle.p10_meaning.specs.Objects.{declared}
use Rattle.p10_meaning.specs.States.{State}
use Rattle.p10_meaning.specs.Values.{Held, open_object}
use Rattle.p10_meaning.specs.Calling.{deeper, raised, Entered, entered}
use Rattle.p10_interp.specs.declared.work.Halt.{Halt}
use Rattle.p10_interp.specs.declared.work.Halt.TheVariants.{Failed, Undefined, Spent, Memory}
use Rattle.p10_interp.specs.private.Tasks.{Operand, Open}
use Rattle.p10_interp.specs.private.Operations.{with_frame}
use Rattle.p10_interp.specs.private.Resuming.{depth_of}

-- the values that are taken from operands, and the operands that are left, unless memory runs out; where they aren't there, it
-- is answered as out of steps
abbrev pub Takes : {B : Type 0} → Option (List Scalar × List Operand) → Result B Halt → List Scalar → List Operand → Type 0
Takes taken (Ok done) xs operands = taken ≡ Some (xs, operands)
Takes taken (Err (Failed span)) xs operands = ⊥
Takes taken (Err (Undefined stop span)) xs operands = ⊥
Takes taken (Err Spent) xs operands = taken ≡ None
Takes taken (Err Memory) xs operands = Unit {0}

-- an object was opened that holds an argument
pub record OpensArgument (x : Scalar) (w : State) (object : ℕ) (new : State) : Type 0 where
  pub number : object ≡ w.opened
  pub state : new ≡ open_object declared (holding x ∷ []) w

-- something stands for the next variable, before what comes of the others
pub record HoldsNext (frame : Bool) (xs : List Scalar) (w : State) (held : Held) (ys : List Scalar) (new : State) : Type 0 where
  pub held_is : (v : PlainVariable) (rest : List PlainVariable) → v.frame ≡ frame → (entered (v ∷ rest) xs w).frame.held ≡ held ∷ (entered rest ys new).frame.held
  pub state_is : (v : PlainVariable) (rest : List PlainVariable) → v.frame ≡ frame → (entered (v ∷ rest) xs w).state ≡ (entered rest ys new).state

-- the call with more that stands for its variables
abbrev pub holding_all : Open → List Held → Open
holding_all f held = with_frame f (record f.frame { held = held })

-- of all variables some are held by the innermost call, and the others are yet to be
pub record IsHolding (all left : Entered) (f : Open) (calls now : List Open) : Type 0 where
  pub held : List Held
  pub here : now ≡ holding_all f held ∷ calls
  pub held_is : f.frame.held ++ all.frame.held ≡ held ++ left.frame.held
  pub state_is : all.state ≡ left.state

-- a call of a function is open, and the state is that after its entry
pub record IsEntered (h : PlainFunction) (xs : List Scalar) (calls : List Open) (w : State) (now : List Open) (new : State) : Type 0 where
  pub here : now ≡ record { function = h; depth = deeper h (depth_of calls); frame = (entered h.variables xs (raised (deeper h (depth_of calls)) w)).frame; outer = [] } ∷ calls
  pub state : new ≡ (entered h.variables xs (raised (deeper h (depth_of calls)) w)).state
