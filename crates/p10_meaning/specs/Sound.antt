-- Sound states: each value is one of its type, and each pointer points where a path through its object's type leads.
use Rattle.std.specs.Prelude.{◌≡◌, ℕ, ◌+◌, ◌<◌, ◌≤◌, leb, if◌then◌else◌, Bool, false, List, [], ◌∷◌, ◌++◌, length, map, slice_get, ℤ, Option, Some, None}
use Rattle.std.specs.List.{All}
use Rattle.p10_int.specs.declared.types.IntType.TheVariants.{Char}
use Rattle.p10_int.specs.Types.{InRange}
use Rattle.p10_core.specs.Types.{PlainType, integer, pointer, array, structure, bare, PlainMember, members_of}
use Rattle.p10_core.specs.Sizes.{scalars_of, repeated}
use Rattle.p10_core.specs.Typed.{PlainValue, type_of, PlainStatement, PlainVariable, PlainFunction, PlainObject, PlainLiteral, PlainProgram}
use Rattle.p10_core.specs.Whole.{SeenVariable, IsWholeValue}
use Rattle.p10_core.specs.WholePrograms.{seen_variable, parameter_types, Region, around, IsWholeStatement, IsWholeProgram}
use Rattle.p10_meaning.specs.declared.pointers.Window.{Window}
use Rattle.p10_meaning.specs.declared.pointers.Ptr.{Ptr}
use Rattle.p10_meaning.specs.declared.pointers.Ptr.TheVariants.{Null, To}
use Rattle.p10_meaning.specs.declared.pointers.Scalar.{Scalar}
use Rattle.p10_meaning.specs.declared.pointers.Scalar.TheVariants.{Int, Pointer}
use Rattle.p10_meaning.specs.declared.pointers.Cell.{Cell}
use Rattle.p10_meaning.specs.declared.world.World.{World}
use Rattle.p10_meaning.specs.Pointers.{whole_window, window_in}
use Rattle.p10_meaning.specs.Objects.{Object}
use Rattle.p10_meaning.specs.States.{IsWorld, IsSensorValue, State, Progress, gives, ends}
use Rattle.p10_meaning.specs.Values.{Calls, Held, holds, stands, absent, width, scalars_before, evaluate}
use Rattle.p10_meaning.specs.Statements.{Frame, Flow, returned, Done, execute}
use Rattle.p10_meaning.specs.Calling.{Depth, setting_of, call_at}
use Rattle.p10_meaning.specs.Opening.{opening}

-- ## The arrays of an object

-- what an object was opened as: elements of a type, marks aside, and how many
pub record Kind : Type 0 where
  pub elem : PlainType
  pub count : ℕ

-- an array in an object, with the type of its elements
pub record View : Type 0 where
  pub window : Window
  pub elem : PlainType

-- the object as an array
abbrev pub own : PlainProgram → Kind → View
own p k = record { window = whole_window (length (scalars_of p.structures k.elem)) k.count; elem = k.elem }

-- an object of a type, as an array of one
abbrev pub single_of : PlainProgram → PlainType → Kind
single_of p t = record { elem = bare p.structures t; count = 1 }

-- a step of a path: into the element at a position, which is an array, or to a member of it
pub data Step : Type 0 where
  into : ℕ → Step
  to_member : ℕ → ℕ → Step

-- the row that the element at a position is
abbrev pub view_of_row : PlainProgram → Window → ℕ → PlainType → Option View
view_of_row p window n (array c t count) =
    Some (record { window = window_in window n 0 (length (scalars_of p.structures t)) count; elem = t })
view_of_row p window n t = None

-- the member that stands after some scalars of the element at a position
abbrev pub view_of_entry : PlainProgram → Window → ℕ → ℕ → Option PlainMember → Option View
view_of_entry p window n at None = None
view_of_entry p window n at (Some x) = Some (record { window = window_in window n at (width p x.type) 1; elem = bare p.structures x.type })

-- a member of the element at a position
abbrev pub view_of_member : PlainProgram → Window → ℕ → ℕ → PlainType → Option View
view_of_member p window n m (structure c k) = view_of_entry p window n (scalars_before p (structure c k) m) (slice_get (members_of p.structures k) m)
view_of_member p window n m t = None

-- one step: a one-past position counts as an element
abbrev pub stepped : PlainProgram → View → Step → Option View
stepped p v (into n) = if leb n v.window.count then view_of_row p v.window n v.elem else None
stepped p v (to_member n m) = if leb n v.window.count then view_of_member p v.window n m v.elem else None

-- one look-up after another
abbrev pub on_some : {A B : Type 0} → Option A → (A → Option B) → Option B
on_some None f = None
on_some (Some x) f = f x

-- the array to which a path leads
abbrev pub walk : PlainProgram → View → List Step → Option View
walk p v [] = Some v
walk p v (s ∷ path) = on_some (stepped p v s) (λ v. walk p v path)

-- a path leads to an array of an object
pub record Leads (p : PlainProgram) (k : Kind) (v : View) : Type 0 where
  pub path : List Step
  pub leads : walk p (own p k) path ≡ Some v

-- ## Values of a type

-- the object was opened, a path leads to an array of elements of the type, and the position is from 0 to its length
pub record IsAt (p : PlainProgram) (ks : List Kind) (t : PlainType) (o : ℕ) (window : Window) (n : ℕ) : Type 0 where
  pub kind : Kind
  pub opened : slice_get ks o ≡ Some kind
  pub leads : Leads p kind (record { window = window; elem = bare p.structures t })
  pub position : n ≤ window.count

-- a pointer is null, or points to elements of a type
abbrev pub FitsPointer : PlainProgram → List Kind → PlainType → Ptr → Type 0
FitsPointer p ks t Null = Unit {0}
FitsPointer p ks t (To o window n) = IsAt p ks t o window n

-- a scalar is one of a type: a number in its range, or a pointer to the type that it points to; `const` is left aside
abbrev pub Fits : PlainProgram → List Kind → PlainType → Scalar → Type 0
Fits p ks (integer c i) (Int z) = InRange i z
Fits p ks (pointer c t) (Pointer q) = FitsPointer p ks t q
Fits p ks t x = ⊥

-- an unset scalar has any type
abbrev pub MaybeFits : PlainProgram → List Kind → PlainType → Option Scalar → Type 0
MaybeFits p ks t None = Unit {0}
MaybeFits p ks t (Some x) = Fits p ks t x

-- the scalars of cells have types, one by one
abbrev pub AllFit : PlainProgram → List Kind → List PlainType → List Cell → Type 0
AllFit p ks [] [] = Unit {0}
AllFit p ks (t ∷ types) (cell ∷ cells) = MaybeFits p ks t cell.value × AllFit p ks types cells
AllFit p ks [] (cell ∷ cells) = ⊥
AllFit p ks (t ∷ types) [] = ⊥

-- ## Objects

-- the types of the scalars of an object
abbrev pub kind_scalars : PlainProgram → Kind → List PlainType
kind_scalars p k = repeated k.count (scalars_of p.structures k.elem)

-- no object has over 2^40 scalars, and no array in one over 2^40 elements
abbrev pub most_elements : ℕ
most_elements = 1099511627776

-- an object is small: neither its scalars nor the elements of an array to which a path leads are more than that
pub record IsSmall (p : PlainProgram) (k : Kind) : Type 0 where
  pub scalars : length (kind_scalars p k) ≤ most_elements
  pub arrays : (v : View) → Leads p k v → v.window.count ≤ most_elements

-- a live object was opened as something, and its scalars have the types of that
pub record ObjectFits (p : PlainProgram) (ks : List Kind) (x : Object) : Type 0 where
  pub kind : Kind
  pub opened : slice_get ks x.number ≡ Some kind
  pub cells : AllFit p ks (kind_scalars p kind) x.cells

-- all objects of a list have numbers above n
abbrev pub Above : ℕ → List Object → Type 0
Above n [] = Unit {0}
Above n (x ∷ xs) = (n < x.number) × Above n xs

-- all live objects fit, and stand in the order of their numbers, so no two have one number
abbrev pub AllObjects : PlainProgram → List Kind → List Object → Type 0
AllObjects p ks [] = Unit {0}
AllObjects p ks (x ∷ xs) = (ObjectFits p ks x × Above x.number xs) × AllObjects p ks xs

-- an array of `char` with n elements, as a string literal has it
abbrev pub text_type : ℕ → PlainType
text_type n = array false (integer false Char) n

-- what has to hold of the parts of a state where `ks` are the kinds of all objects that were opened: all are small; the objects of
-- static lifetime and the string literals were opened first, as what they are; every live object fits; input and sensors are a
-- world's
pub record SoundParts (p : PlainProgram) (ks : List Kind) (objects : List Object) (opened : ℕ) (input : List ℕ) (sensors : List ℤ) : Type 0 where
  pub count : length ks ≡ opened
  pub sizes : (o : ℕ) (k : Kind) → slice_get ks o ≡ Some k → IsSmall p k
  pub statics : (n : ℕ) (object : PlainObject) → slice_get p.objects n ≡ Some object → slice_get ks n ≡ Some (single_of p object.type)
  pub literals : (n : ℕ) (l : PlainLiteral) → slice_get p.literals n ≡ Some l → slice_get ks (length p.objects + n) ≡ Some (single_of p (text_type (length l.bytes)))
  pub all : AllObjects p ks objects
  pub input_bytes : All (λ byte. byte < 256) input
  pub sensor_values : All IsSensorValue sensors

-- a state is sound, where these are the kinds of all objects that were opened
abbrev pub Sound : PlainProgram → List Kind → State → Type 0
Sound p ks w = SoundParts p ks w.objects w.opened w.input w.sensors

-- ## Frames

-- what stands for a variable is a scalar of its type, or an object of it
abbrev pub VariableFits : PlainProgram → List Kind → PlainVariable → Held → Type 0
VariableFits p ks v (holds cell) = MaybeFits p ks v.type cell.value
VariableFits p ks v (stands o) = slice_get ks o ≡ Some (single_of p v.type)
VariableFits p ks v absent = Unit {0}

-- what stands for the variables of a frame fits them
abbrev pub FrameFits : PlainProgram → List Kind → List PlainVariable → List Held → Type 0
FrameFits p ks [] [] = Unit {0}
FrameFits p ks (v ∷ vs) (h ∷ hs) = VariableFits p ks v h × FrameFits p ks vs hs
FrameFits p ks [] (h ∷ hs) = ⊥
FrameFits p ks (v ∷ vs) [] = ⊥

-- ## Outcomes

-- objects are only added
pub record Grows (ks js : List Kind) : Type 0 where
  pub more : List Kind
  pub is : js ≡ ks ++ more

-- a state is sound, with objects that were only added, and something holds of what was given
pub record Kept (p : PlainProgram) (ks : List Kind) (w : State) (P : List Kind → Type 0) : Type 0 where
  pub kinds : List Kind
  pub grows : Grows ks kinds
  pub sound : Sound p kinds w
  pub value : P kinds

-- what comes of a piece leaves a sound state, and where it gives something, P holds of that
abbrev pub Keeps : {A : Type 0} → PlainProgram → List Kind → (List Kind → A → Type 0) → Progress A → Type 0
Keeps p ks P (gives a w) = Kept p ks w (λ ks. P ks a)
Keeps p ks P (ends end w) = Kept p ks w (λ ks. Unit {0})

-- ## Calls

-- scalars fit types, one by one
abbrev pub ScalarsFit : PlainProgram → List Kind → List PlainType → List Scalar → Type 0
ScalarsFit p ks [] [] = Unit {0}
ScalarsFit p ks (t ∷ types) (x ∷ xs) = Fits p ks t x × ScalarsFit p ks types xs
ScalarsFit p ks [] (x ∷ xs) = ⊥
ScalarsFit p ks (t ∷ types) [] = ⊥

-- calls keep sound states: on arguments that fit the parameters, what a call gives fits the result
pub record KeepSound (p : PlainProgram) (calls : Calls) : Type 0 where
  pub keeps : (f : ℕ) (g : PlainFunction) (xs : List Scalar) (w : State) (ks : List Kind) → slice_get p.functions f ≡ Some g → ScalarsFit p ks (parameter_types g) xs → Sound p ks w →
      Keeps p ks (λ ks x. MaybeFits p ks g.result x) (calls f xs w)

-- what stands round the values of a function: the variables that are in scope are among its variables
pub record AreSeen (variables : List PlainVariable) (seen_at : ℕ → Option SeenVariable) : Type 0 where
  pub seen : (n : ℕ) (v : SeenVariable) → seen_at n ≡ Some v → (variable : PlainVariable) × (slice_get variables n ≡ Some variable) × (v ≡ seen_variable variable)

-- ## Statements

-- a value that is returned fits the function's result
abbrev pub FlowFits : PlainProgram → PlainType → List Kind → Flow → Type 0
FlowFits p result ks (returned x) = MaybeFits p ks result x
FlowFits p result ks flow = Unit {0}

-- an executed statement leaves a frame that fits
pub record DoneFits (p : PlainProgram) (variables : List PlainVariable) (result : PlainType) (ks : List Kind) (d : Done) : Type 0 where
  pub frame : FrameFits p ks variables d.frame.held
  pub flow : FlowFits p result ks d.flow

-- ## The laws

-- a place in a function of a program, where a tree stands: what stands round it
abbrev pub region_at : PlainProgram → ℕ → PlainFunction → List ℕ → Bool → Bool → Region
region_at p number f scope in_loop in_switch = record { program = p; number = number; function = f; scope = scope; in_loop = in_loop; in_switch = in_switch }

-- calls of the functions of a whole program keep sound states, and give values that fit the results
abbrev pub CallsKeepSound : Type 0
CallsKeepSound = (p : PlainProgram) → IsWholeProgram p → (n : ℕ) (depth : Depth) → KeepSound p (call_at n p depth)

-- a whole tree of a function, executed in a frame that fits, keeps sound states and frames that fit
abbrev pub StatementsKeepSound : Type 0
StatementsKeepSound =
    (p : PlainProgram) → IsWholeProgram p → (n : ℕ) (depth : Depth) (number : ℕ) (f : PlainFunction) → slice_get p.functions number ≡ Some f → (scope : List ℕ) (in_loop in_switch : Bool) (x : PlainStatement) →
    IsWholeStatement (region_at p number f scope in_loop in_switch) x → (frame : Frame) (w : State) (ks : List Kind) → Sound p ks w → FrameFits p ks f.variables frame.held →
    Keeps p ks (DoneFits p f.variables f.result) (execute (setting_of p n (call_at n p) depth f) x frame w)

-- a whole value of a function, evaluated in a frame that fits, keeps sound states and gives a value that fits its type
abbrev pub ValuesKeepSound : Type 0
ValuesKeepSound =
    (p : PlainProgram) → IsWholeProgram p → (n : ℕ) (depth : Depth) (number : ℕ) (f : PlainFunction) → slice_get p.functions number ≡ Some f → (scope : List ℕ) (v : PlainValue) →
    IsWholeValue (around (region_at p number f scope false false)) v → (held : List Held) (w : State) (ks : List Kind) → Sound p ks w → FrameFits p ks f.variables held →
    Keeps p ks (λ ks. Fits p ks (type_of v)) (evaluate (setting_of p n (call_at n p) depth f) held v w)

-- what the objects of the opening state are: the objects of static lifetime, and the string literals
abbrev pub opening_kinds : PlainProgram → List Kind
opening_kinds p = map (λ (object : PlainObject). single_of p object.type) p.objects ++ map (λ (l : PlainLiteral). single_of p (text_type (length l.bytes))) p.literals

-- the opening state of a whole program is sound in every world
abbrev pub OpeningIsSound : Type 0
OpeningIsSound = (p : PlainProgram) → IsWholeProgram p → (world : World) → IsWorld world → (left : ℕ) → Sound p (opening_kinds p) (opening p world left)

-- in a sound state no array in an object has over 2^40 elements
abbrev pub ArraysAreSmall : Type 0
ArraysAreSmall =
    (p : PlainProgram) → IsWholeProgram p → (ks : List Kind) (w : State) → Sound p ks w → (o : ℕ) (k : Kind) → slice_get ks o ≡ Some k → (v : View) → Leads p k v →
    v.window.count ≤ most_elements
