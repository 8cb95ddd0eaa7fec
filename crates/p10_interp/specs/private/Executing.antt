-- Statements that are executed at once.
use Rattle.std.specs.Prelude.{◌≡◌, ℕ, ◌<◌, ◌≤◌, Bool, true, false, List, ◌∷◌, slice_get, ℤ, Some, Result, Ok}
use Rattle.p10_base.specs.declared.at.At.{At}
use Rattle.p10_core.specs.Typed.{PlainStatementForm, PlainProgram}
use Rattle.p10_int.specs.declared.operators.Stop.{Stop}
use Rattle.p10_meaning.specs.declared.pointers.Scalar.TheVariants.{Int}
use Rattle.p10_meaning.specs.declared.pointers.Cell.{Cell}
use Rattle.p10_meaning.specs.Pointers.{holding}
use Rattle.p10_meaning.specs.Objects.{Object}
use Rattle.p10_meaning.specs.States.{State}
use Rattle.p10_meaning.specs.Values.{Held, holds}
use Rattle.p10_store.specs.Stores.{Held as Stored}
use Rattle.p10_meaning.specs.Statements.{goes, execute_form}
use Rattle.p10_interp.specs.private.Tasks.{Open}
use Rattle.p10_interp.specs.private.Resuming.{setting_in}

-- other variables stand in an open call
abbrev pub with_held : Open → List Held → Open
with_held f held = record f { frame = record f.frame { held = held } }

-- a form of a statement was executed in the innermost call, wherever it stands and whatever its block has opened: execution goes
-- on with the next one
pub record IsExecuted (p : PlainProgram) (form : PlainStatementForm) (f : Open) (calls : List Open) (w : State) (new : List Open) (v : State) : Type 0 where
  pub held : List Held
  pub now : new ≡ with_held f held ∷ calls
  pub run : (n : ℕ) (at : At) (opened : List ℕ) → w.left ≤ n → execute_form (setting_in p n f) at form (record f.frame { opened = opened }) w ≡ goes (record { held = held; opened = opened }) v

-- a form of a statement was executed, or nothing has changed
abbrev pub Executes : PlainProgram → PlainStatementForm → Bool → Open → List Open → State → List Open → State → Type 0
Executes p form true f calls w new v = IsExecuted p form f calls w new v
Executes p form false f calls w new v = (new ≡ f ∷ calls) × (v ≡ w)

-- a frame variable stands under a number
pub record IsFrameVariable (held : List Held) (n : ℕ) : Type 0 where
  pub cell : Cell
  pub there : slice_get held n ≡ Some (holds cell)

-- a frame variable holds a number, which was found without a step, or no step is left
abbrev pub IsHeldNumber : List Held → ℕ → ℕ → ℤ → ℕ → Type 0
IsHeldNumber held n before z after = 0 < after → (after ≡ before) × (slice_get held n ≡ Some (holds (holding (Int z))))

-- the store has the objects that a write gives, or nothing has changed
abbrev pub Writes : Stored → Stored → Result (List Object) Stop → Bool → Type 0
Writes old new written true = (written ≡ Ok new.objects) × (new.opened ≡ old.opened)
Writes old new written false = new ≡ old
