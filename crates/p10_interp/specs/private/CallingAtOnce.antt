-- Calls that are made at once: of functions whose variables are frame variables and whose bodies return a number.
use Rattle.std.specs.Prelude.{◌≡◌, ℕ, ◌<◌, ◌≤◌, List, [], ◌∷◌, ◌++◌, ℤ, Some}
use Rattle.p10_base.specs.declared.at.At.{At}
use Rattle.p10_base.specs.declared.span.Span.{Span}
use Rattle.p10_core.specs.Types.{PlainType}
use Rattle.p10_core.specs.Typed.{value, call, PlainValues, PlainStatements, PlainVariable, PlainProgram}
use Rattle.p10_meaning.specs.declared.pointers.Scalar.{Scalar}
use Rattle.p10_meaning.specs.declared.pointers.Scalar.TheVariants.{Int}
use Rattle.p10_meaning.specs.Objects.{Object}
use Rattle.p10_meaning.specs.States.{State, gives, and_then}
use Rattle.p10_meaning.specs.Values.{Setting, Held, evaluate, evaluate_all}
use Rattle.p10_meaning.specs.Statements.{Frame, returned, Done, execute_from}
use Rattle.p10_meaning.specs.Calling.{Depth, Entered, entered, raised, call_at}
use Rattle.p10_interp.specs.private.Tasks.{Open}
use Rattle.p10_interp.specs.private.Resuming.{setting_in}
use Rattle.p10_interp.specs.private.AtOnce.{Finds}

-- a frame that holds these, and has opened nothing
abbrev pub frame_of : List Held → Frame
frame_of held = record { held = held; opened = [] }

-- where a call begins with such a frame, in a state
abbrev pub starts_with : List Held → State → Entered
starts_with held w = record { frame = frame_of held; state = w }

-- arguments came to scalars, and after what was held there stands what the new frame of a call holds, which has opened nothing
pub record IsFilled (p : PlainProgram) (standing : List Held) (objects : List Object) (variables : List PlainVariable) (arguments : PlainValues) (before : ℕ) (old new : List Held) (after : ℕ) : Type 0 where
  pub xs : List Scalar
  pub more : List Held
  pub now : new ≡ old ++ more
  pub given : (s : Setting) → s.program ≡ p → Finds (evaluate_all s standing arguments) objects before xs after
  pub enters : (w : State) → entered variables xs w ≡ starts_with more w

-- the same where a step is left
abbrev pub Fills : PlainProgram → List Held → List Object → List PlainVariable → PlainValues → ℕ → List Held → List Held → ℕ → Type 0
Fills p standing objects variables arguments before old new after = 0 < after → IsFilled p standing objects variables arguments before old new after

-- nothing stands yet for variables
pub record AreAbsent (variables : List PlainVariable) (old new : List Held) : Type 0 where
  pub more : List Held
  pub now : new ≡ old ++ more
  pub enters : (w : State) → entered variables [] w ≡ starts_with more w

-- a body returned a number
abbrev pub returns_in : List Held → ℤ → Done
returns_in held z = record { flow = returned (Some (Int z)); frame = frame_of held }

-- where a step is left, a body with a frame that holds these returns a number, wherever it stands, and leaves the frame as it was
abbrev pub Returns : PlainProgram → List Held → List Object → PlainStatements → ℕ → ℤ → ℕ → Type 0
Returns p held objects body before z after =
    (s : Setting) → s.program ≡ p → Finds (execute_from s 0 body (frame_of held)) objects before (returns_in held z) after

-- where a step is left, a call comes to a number, and the greatest depths rise to a depth
abbrev pub IsCalled : PlainProgram → ℕ → PlainValues → List Open → List Object → ℕ → Depth → ℤ → ℕ → Type 0
IsCalled p g arguments cs objects before depth z after =
    (s : Setting) (n : ℕ) (f : Open) (calls : List Open) → s.program ≡ p → s.call ≡ call_at n p f.depth → 0 < n → cs ≡ f ∷ calls → 0 < after → (w : State) → w.objects ≡ objects →
    and_then (evaluate_all s f.frame.held arguments (record w { left = before })) (λ xs w. s.call g xs w) ≡ gives (Some (Int z)) (record (raised depth w) { left = after })

-- where a step is left, the tree of such a call comes to a number, with a step before its arguments
abbrev pub IsValueOfCall : PlainProgram → ℕ → PlainValues → List Open → List Object → ℕ → Depth → ℤ → ℕ → Type 0
IsValueOfCall p g arguments cs objects before depth z after =
    (at : At) (t : PlainType) (name : Span) (n : ℕ) (f : Open) (calls : List Open) (w : State) → w.left ≤ n → before ≤ w.left → cs ≡ f ∷ calls → 0 < after → w.objects ≡ objects →
    evaluate (setting_in p n f) f.frame.held (value at t (call name g arguments)) (record w { left = before }) ≡ gives (Int z) (record (raised depth w) { left = after })
