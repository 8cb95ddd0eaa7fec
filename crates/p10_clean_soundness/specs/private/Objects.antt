-- Objects along a clean execution: those that are needed are live, and all of them are set but those that are being initialised.
use Rattle.std.specs.Prelude.{◌≡◌, ℕ, ◌+◌, ltb, Bool, true, false, List, length, slice_get, Some}
use Rattle.std.specs.List.{All}
use Rattle.p10_core.specs.Typed.{PlainPlace, PlainObject, PlainLiteral, PlainProgram}
use Rattle.p10_core.specs.WholePrograms.{is_among}
use Rattle.p10_meaning.specs.declared.pointers.Window.{Window}
use Rattle.p10_meaning.specs.declared.pointers.Ptr.TheVariants.{Null, To}
use Rattle.p10_meaning.specs.Objects.{Origin, declared, literal, Object, find}
use Rattle.p10_meaning.specs.States.{State}
use Rattle.p10_meaning.specs.Values.{Held, stands, Target, Variable, Sensor, Element}
use Rattle.p10_meaning.specs.Variables.{is_variable_place}
use Rattle.p10_clean.specs.Literals.{lies_in_literal}
use Rattle.p10_clean_soundness.specs.private.Setting.{IsFilled}

-- the object with a number is live, comes from where it is said, and isn't among those that are being initialised
pub record IsLive (origin : Origin) (opening : List ℕ) (objects : List Object) (number : ℕ) : Type 0 where
  pub object : Object
  pub there : find number objects ≡ Some object
  pub origin_is : object.origin ≡ origin
  pub apart : is_among number opening ≡ false

-- all live objects are set, but those with these numbers, which are live and being initialised; and the objects of static lifetime and the
-- string literals are live
pub record Settled (p : PlainProgram) (opening : List ℕ) (objects : List Object) : Type 0 where
  pub filled : (number : ℕ) (object : Object) → find number objects ≡ Some object → is_among number opening ≡ false → All IsFilled object.cells
  pub started : (number : ℕ) → is_among number opening ≡ true → (object : Object) × (find number objects ≡ Some object)
  pub statics : (number : ℕ) (object : PlainObject) → slice_get p.objects number ≡ Some object → object.sensor ≡ false → IsLive declared opening objects number
  pub literals : (number : ℕ) (l : PlainLiteral) → slice_get p.literals number ≡ Some l → IsLive literal opening objects (length p.objects + number)

-- each object that stands for a variable in scope is live
pub record AreLive (opening scope : List ℕ) (held : List Held) (objects : List Object) : Type 0 where
  pub each : (n object : ℕ) → is_among n scope ≡ true → slice_get held n ≡ Some (stands object) → IsLive declared opening objects object

-- an object that was live is live still
pub record Survives (number : ℕ) (before : Object) (objects : List Object) : Type 0 where
  pub object : Object
  pub there : find number objects ≡ Some object
  pub origin_is : object.origin ≡ before.origin

-- no object died
pub record Survive (before after : List Object) : Type 0 where
  pub each : (number : ℕ) (object : Object) → find number before ≡ Some object → Survives number object after

-- what every piece leaves that begins with some objects
pub record LeavesClean (p : PlainProgram) (opening : List ℕ) (before : List Object) (w : State) : Type 0 where
  pub settled : Settled p opening w.objects
  pub survive : Survive before w.objects

-- an element of an array in a live object: of a declared one, where its place doesn't lie in a string literal
pub record ReachesElement (in_literal : Bool) (opening : List ℕ) (objects : List Object) (number : ℕ) (window : Window) (position : ℕ) : Type 0 where
  pub object : Object
  pub there : find number objects ≡ Some object
  pub apart : is_among number opening ≡ false
  pub inside : window.inside ≡ true
  pub within : ltb position window.count ≡ true
  pub declared_is : in_literal ≡ false → object.origin ≡ declared

-- what a place stands for: a frame variable by its name alone, a sensor, or such an element
abbrev pub IsReached : PlainPlace → List ℕ → List Object → Target → Type 0
IsReached q opening objects (Variable k) = is_variable_place k q ≡ true
IsReached q opening objects Sensor = Unit {0}
IsReached q opening objects (Element Null) = ⊥
IsReached q opening objects (Element (To number window position)) = ReachesElement (lies_in_literal q) opening objects number window position
