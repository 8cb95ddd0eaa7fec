-- What a declaration opens.
use Rattle.std.specs.Prelude.{◌≡◌, ℕ, List, ◌∷◌, Some, Result, Ok, Err}
use Rattle.p10_base.specs.declared.span.Span.{Span}
use Rattle.p10_core.specs.Types.{PlainType}
use Rattle.p10_core.specs.Typed.{PlainInitializer, PlainVariable, PlainProgram}
use Rattle.p10_meaning.specs.Objects.{declared}
use Rattle.p10_meaning.specs.States.{State}
use Rattle.p10_meaning.specs.Scalars.{unset_cells}
use Rattle.p10_meaning.specs.Values.{scalars, width, open_object}
use Rattle.p10_interp.specs.declared.work.Halt.{Halt}
use Rattle.p10_interp.specs.declared.work.Halt.TheVariants.{Failed, Undefined, Spent, Memory}
use Rattle.p10_interp.specs.declared.work.Target.{Target as Aim}
use Rattle.p10_interp.specs.private.Tasks.{Task, Operand, Open}
use Rattle.p10_interp.specs.private.Views.{target_of}
use Rattle.p10_interp.specs.private.Acts.{declared_by, initialized}

-- the variable with a number was declared, and is a place that is initialised next
pub record IsDeclared (p : PlainProgram) (n : ℕ) (v : PlainVariable) (f : Open) (calls : List Open) (w : State) (target : Aim) (now : List Open) (new : State) : Type 0 where
  pub call : Open
  pub here : now ≡ call ∷ calls
  pub same : (span : Span) (i : PlainInitializer) (k : List Task) (operands : List Operand) → declared_by p span n (Some v) i k operands f calls w ≡ initialized span v.type (target_of target) i k operands call calls new

-- a declaration of a variable makes it a place, unless memory runs out
abbrev pub Declares : PlainProgram → ℕ → PlainVariable → Open → List Open → State → Result Aim Halt → List Open → State → Type 0
Declares p n v f calls w (Ok target) now new = IsDeclared p n v f calls w target now new
Declares p n v f calls w (Err (Failed span)) now new = ⊥
Declares p n v f calls w (Err (Undefined stop span)) now new = ⊥
Declares p n v f calls w (Err Spent) now new = ⊥
Declares p n v f calls w (Err Memory) now new = Unit {0}

-- an object of a type was opened, and this is the number of its scalars, unless memory runs out
abbrev pub OpensObject : PlainProgram → PlainType → State → Result ℕ Halt → State → Type 0
OpensObject p t w (Ok n) new = (new ≡ open_object declared (unset_cells (scalars p t)) w) × (n ≡ width p t)
OpensObject p t w (Err (Failed span)) new = ⊥
OpensObject p t w (Err (Undefined stop span)) new = ⊥
OpensObject p t w (Err Spent) new = ⊥
OpensObject p t w (Err Memory) new = Unit {0}
