-- Whole values and places: their types agree as the rows of the operators say, and their numbers name what is there.
use Rattle.std.specs.Prelude.{◌≡◌, ℕ, ◌<◌, ℤ, Bool, true, false, List, [], ◌∷◌, All, Contains, Option, Some, None, slice_get, length}
use Rattle.p10_int.specs.declared.types.IntType.{IntType}
use Rattle.p10_int.specs.declared.types.IntType.TheVariants.{Char, ULong}
use Rattle.p10_int.specs.declared.operators.BinOp.{BinOp}
use Rattle.p10_int.specs.declared.operators.UnOp.{UnOp}
use Rattle.p10_int.specs.Types.{InRange}
use Rattle.p10_core.specs.declared.typed.Library.{Library}
use Rattle.p10_core.specs.declared.typed.Library.TheVariants.{CAssert, Getchar, Putchar, Malloc, Calloc, Free}
use Rattle.p10_core.specs.Types.{PlainType, void, integer, pointer, array, structure, qualified, unqualified, bare, PlainMember, PlainStructure, members_of}
use Rattle.p10_core.specs.Typed.{PlainValue, value, PlainForm, constant, read, sense, address, decay, convert, cast, unary, binary, logic, conditional, call, built_in, PlainPlace, place, PlainPlaceForm, variable, global, literal, index, member, dereference, PlainValues, no_values, more_values, type_of, place_type, PlainLiteral}
use Rattle.p10_core.specs.Rows.{Row, UnaryRow, binary_row, conditional_row, unary_row, adds_const, is_scalar, is_array, is_complete, int_type}
use Rattle.p10_core.specs.Constants.{is_null}

-- ## What stands round a value

-- a variable that is in scope: its type, and whether it is a frame variable
pub record SeenVariable : Type 0 where
  pub type : PlainType
  pub frame : Bool

-- an object that is in scope: its type, and whether it is a sensor
pub record SeenObject : Type 0 where
  pub type : PlainType
  pub sensor : Bool

-- a function that is in scope: the types of its parameters and of its result
pub record SeenFunction : Type 0 where
  pub parameters : List PlainType
  pub result : PlainType

-- what stands round a value: the structures, the string literals of the program where they are known, and what the numbers
-- of variables, objects and functions name
pub record Surroundings : Type 0 where
  pub structures : List PlainStructure
  pub literals : Option (List PlainLiteral)
  pub variable_at : ℕ → Option SeenVariable
  pub object_at : ℕ → Option SeenObject
  pub function_at : ℕ → Option SeenFunction

-- ## What the forms ask

-- a number of an integer type
pub record IsConstant (t : PlainType) (z : ℤ) : Type 0 where
  pub kind : IntType
  pub type_is : t ≡ integer false kind
  pub in_range : InRange kind z

-- a variable with its type
pub record IsVariable (c : Surroundings) (n : ℕ) (t : PlainType) : Type 0 where
  pub seen : SeenVariable
  pub there : c.variable_at n ≡ Some seen
  pub type_is : t ≡ seen.type

-- an object with its type, up to what other roots call it
pub record IsObject (c : Surroundings) (n : ℕ) (t : PlainType) : Type 0 where
  pub seen : SeenObject
  pub there : c.object_at n ≡ Some seen
  pub type_is : bare c.structures t ≡ bare c.structures seen.type

-- the object is a sensor, and the value has its integer type
pub record IsSensor (c : Surroundings) (n : ℕ) (t : PlainType) : Type 0 where
  pub seen : SeenObject
  pub there : c.object_at n ≡ Some seen
  pub sensor_is : seen.sensor ≡ true
  pub kind : IntType
  pub type_is : t ≡ integer false kind
  pub same_type : bare c.structures seen.type ≡ t

-- a member with its type, which has the marks of the structure too (C99 6.5.2.3p3)
pub record IsMember (c : Surroundings) (whole_type t : PlainType) (m : ℕ) : Type 0 where
  pub mark : Bool
  pub number : ℕ
  pub whole_is : whole_type ≡ structure mark number
  pub entry : PlainMember
  pub there : slice_get (members_of c.structures number) m ≡ Some entry
  pub type_is : t ≡ qualified mark entry.type

-- an element of what a pointer points to, which has a size (C99 6.5.2.1)
pub record IsElement (c : Surroundings) (pointer_type integer_type t : PlainType) : Type 0 where
  pub kind : IntType
  pub pointer_is : pointer_type ≡ pointer false t
  pub integer_is : integer_type ≡ integer false kind
  pub complete : is_complete c.structures t ≡ true

-- a string literal is one of the program, where those are known
abbrev pub IsListed : Option (List PlainLiteral) → PlainLiteral → Type 0
IsListed None l = Unit {0}
IsListed (Some literals) l = Contains literals l

-- a string literal is an array of `char` (C99 6.4.5p5), and one of the program's
pub record IsLiteral (c : Surroundings) (number : ℕ) (bytes : List ℕ) (t : PlainType) : Type 0 where
  pub type_is : t ≡ array false (integer false Char) (length bytes)
  pub are_bytes : All (λ b. b < 256) bytes
  pub is_listed : IsListed c.literals (record { number = number; bytes = bytes })

-- whether a place is a frame variable, or a sensor
abbrev frame_in : Option SeenVariable → Bool
frame_in None = false
frame_in (Some v) = v.frame

abbrev sensor_in : Option SeenObject → Bool
sensor_in None = false
sensor_in (Some o) = o.sensor

-- whether a place is a frame variable
abbrev pub is_frame : Surroundings → PlainPlaceForm → Bool
is_frame c (variable n) = frame_in (c.variable_at n)
is_frame c f = false

-- whether a place is a sensor
abbrev pub is_sensor : Surroundings → PlainPlaceForm → Bool
is_sensor c (global n) = sensor_in (c.object_at n)
is_sensor c f = false

-- the form of a place
abbrev pub form_of : PlainPlace → PlainPlaceForm
form_of (place at t f) = f

-- a value that is read from a place: the place has a size, it is no array and no sensor, and the value has the type without
-- its mark (C99 6.3.2.1p2)
pub record Reads (c : Surroundings) (t : PlainType) (p : PlainPlace) : Type 0 where
  pub type_is : t ≡ unqualified (place_type p)
  pub no_array : is_array (place_type p) ≡ false
  pub complete : is_complete c.structures (place_type p) ≡ true
  pub no_sensor : is_sensor c (form_of p) ≡ false

-- the address of a place, which is no frame variable and no sensor (C99 6.5.3.2)
pub record IsAddress (c : Surroundings) (t : PlainType) (p : PlainPlace) : Type 0 where
  pub type_is : t ≡ pointer false (place_type p)
  pub no_frame : is_frame c (form_of p) ≡ false
  pub no_sensor : is_sensor c (form_of p) ≡ false

-- the address of the first element of an array (C99 6.3.2.1p3)
pub record Decays (c : Surroundings) (t : PlainType) (p : PlainPlace) : Type 0 where
  pub mark : Bool
  pub element : PlainType
  pub count : ℕ
  pub place_is : place_type p ≡ array mark element count
  pub type_is : t ≡ pointer false element
  pub no_frame : is_frame c (form_of p) ≡ false

-- a conversion that isn't written: of an integer to an integer type, of a pointer where `const` is added, of a null constant
-- to a pointer type
pub data Converts : PlainType → PlainValue → Type 0 where
  integers : (i j : IntType) (v : PlainValue) → type_of v ≡ integer false j → Converts (integer false i) v
  pointers : (s t : PlainType) (v : PlainValue) → type_of v ≡ pointer false s → adds_const s t ≡ true → Converts (pointer false t) v
  nulls : (j : IntType) (t : PlainType) (v : PlainValue) → type_of v ≡ integer false j → is_null v ≡ true → Converts (pointer false t) v

-- a call of `malloc` or `calloc`
abbrev pub is_allocation : PlainValue → Bool
is_allocation (value at t (built_in s Malloc arguments)) = true
is_allocation (value at t (built_in s Calloc arguments)) = true
is_allocation v = false

-- a written cast (C99 6.5.4): to `void`; of an integer to an integer type; of a null constant or of an allocation to a
-- pointer type
pub data Casts : PlainType → PlainValue → Type 0 where
  to_void : (v : PlainValue) → Casts (void false) v
  integers : (i j : IntType) (v : PlainValue) → type_of v ≡ integer false j → Casts (integer false i) v
  nulls : (j : IntType) (t : PlainType) (v : PlainValue) → type_of v ≡ integer false j → is_null v ≡ true → Casts (pointer false t) v
  allocations : (t : PlainType) (v : PlainValue) → type_of v ≡ pointer false t → is_allocation v ≡ true → Casts (pointer false t) v

-- the types of an operator's result and of its converted operand are those of a row
pub record UnaryAgrees (op : UnOp) (t operand : PlainType) : Type 0 where
  pub of_type : PlainType
  pub entry : UnaryRow
  pub is : unary_row op of_type ≡ Some entry
  pub result_is : t ≡ entry.result
  pub operand_is : operand ≡ entry.operand

-- the types of an operator's result and of its converted operands are those of a row, for operands of some types of which
-- each may be a null constant
pub record BinaryAgrees (c : Surroundings) (op : BinOp) (t left right : PlainType) : Type 0 where
  pub left_null : Bool
  pub right_null : Bool
  pub left_type : PlainType
  pub right_type : PlainType
  pub entry : Row
  pub is : binary_row c.structures op left_null right_null left_type right_type ≡ Some entry
  pub result_is : t ≡ entry.result
  pub left_is : left ≡ entry.left
  pub right_is : right ≡ entry.right

-- the types of `?:` and of its converted second and third operand are those of a row
pub record ConditionalAgrees (t left right : PlainType) : Type 0 where
  pub left_null : Bool
  pub right_null : Bool
  pub left_type : PlainType
  pub right_type : PlainType
  pub entry : Row
  pub is : conditional_row left_null right_null left_type right_type ≡ Some entry
  pub result_is : t ≡ entry.result
  pub left_is : left ≡ entry.left
  pub right_is : right ≡ entry.right

-- the arguments have the parameters' types, marks aside, up to what other roots call them (C99 6.5.2.2p2)
abbrev pub ArgumentsFit : Surroundings → List PlainType → PlainValues → Type 0
ArgumentsFit c [] no_values = Unit {0}
ArgumentsFit c (t ∷ ts) (more_values v vs) = (bare c.structures (type_of v) ≡ bare c.structures t) × ArgumentsFit c ts vs
ArgumentsFit c [] (more_values v vs) = ⊥
ArgumentsFit c (t ∷ ts) no_values = ⊥

-- a call of a function that is there
pub record Calls (c : Surroundings) (t : PlainType) (n : ℕ) (arguments : PlainValues) : Type 0 where
  pub seen : SeenFunction
  pub there : c.function_at n ≡ Some seen
  pub fit : ArgumentsFit c seen.parameters arguments
  pub result_is : bare c.structures t ≡ bare c.structures seen.result
  pub unmarked : t ≡ unqualified t

-- a value of `unsigned long` as the only argument, or none
abbrev pub CountsElements : PlainValues → Type 0
CountsElements no_values = Unit {0}
CountsElements (more_values v no_values) = type_of v ≡ integer false ULong
CountsElements (more_values v (more_values w vs)) = ⊥

-- an allocation gives a pointer to a type that has a size; its argument is the number of elements, without one it is 1
pub record Allocates (c : Surroundings) (t : PlainType) (arguments : PlainValues) : Type 0 where
  pub element : PlainType
  pub type_is : t ≡ pointer false element
  pub complete : is_complete c.structures element ≡ true
  pub counted : CountsElements arguments

-- a call of a library function
abbrev pub CallsLibrary : Surroundings → PlainType → Library → PlainValues → Type 0
CallsLibrary c t Getchar no_values = t ≡ int_type
CallsLibrary c t Putchar (more_values v no_values) = (t ≡ int_type) × (type_of v ≡ int_type)
CallsLibrary c t CAssert (more_values v no_values) = (t ≡ int_type) × (is_scalar (type_of v) ≡ true)
CallsLibrary c t Free (more_values v no_values) = (t ≡ void false) × ((target : PlainType) × (type_of v ≡ pointer false target))
CallsLibrary c t Malloc arguments = Allocates c t arguments
CallsLibrary c t Calloc arguments = Allocates c t arguments
CallsLibrary c t f arguments = ⊥

-- ## Values and places

abbrev mutual
  -- a value is whole in its surroundings
  pub IsWholeValue : Surroundings → PlainValue → Type 0
  IsWholeValue c (value at t f) = IsWholeForm c t f

  -- what each form of value asks
  pub IsWholeForm : Surroundings → PlainType → PlainForm → Type 0
  IsWholeForm c t (constant z) = IsConstant t z
  IsWholeForm c t (read p) = IsWholePlace c p × Reads c t p
  IsWholeForm c t (sense n) = IsSensor c n t
  IsWholeForm c t (address p) = IsWholePlace c p × IsAddress c t p
  IsWholeForm c t (decay p) = IsWholePlace c p × Decays c t p
  IsWholeForm c t (convert v) = IsWholeValue c v × Converts t v
  IsWholeForm c t (cast v) = IsWholeValue c v × Casts t v
  IsWholeForm c t (unary op v) = IsWholeValue c v × UnaryAgrees op t (type_of v)
  IsWholeForm c t (binary op a b) = IsWholeValue c a × IsWholeValue c b × BinaryAgrees c op t (type_of a) (type_of b)
  IsWholeForm c t (logic op a b) =
      IsWholeValue c a × IsWholeValue c b × (t ≡ int_type) × (is_scalar (type_of a) ≡ true) × (is_scalar (type_of b) ≡ true)
  IsWholeForm c t (conditional v a b) =
      IsWholeValue c v × IsWholeValue c a × IsWholeValue c b × (is_scalar (type_of v) ≡ true) × ConditionalAgrees t (type_of a) (type_of b)
  IsWholeForm c t (call s n arguments) = AreWholeValues c arguments × Calls c t n arguments
  IsWholeForm c t (built_in s f arguments) = AreWholeValues c arguments × CallsLibrary c t f arguments

  -- a place is whole in its surroundings
  pub IsWholePlace : Surroundings → PlainPlace → Type 0
  IsWholePlace c (place at t f) = IsWholePlaceForm c t f

  -- what each form of place asks
  pub IsWholePlaceForm : Surroundings → PlainType → PlainPlaceForm → Type 0
  IsWholePlaceForm c t (variable n) = IsVariable c n t
  IsWholePlaceForm c t (global n) = IsObject c n t
  IsWholePlaceForm c t (literal n bytes) = IsLiteral c n bytes t
  IsWholePlaceForm c t (index a i) = IsWholeValue c a × IsWholeValue c i × IsElement c (type_of a) (type_of i) t
  IsWholePlaceForm c t (member p m) = IsWholePlace c p × IsMember c (place_type p) t m
  IsWholePlaceForm c t (dereference v) = IsWholeValue c v × (type_of v ≡ pointer false t)

  -- each of the values is whole
  pub AreWholeValues : Surroundings → PlainValues → Type 0
  AreWholeValues c no_values = Unit {0}
  AreWholeValues c (more_values v vs) = IsWholeValue c v × AreWholeValues c vs
