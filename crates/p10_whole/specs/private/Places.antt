-- What forms of places and values are.
use Rattle.std.specs.Prelude.{ℕ, Bool, true, false, not, ◌&&◌, ◌||◌, is_some, List, Option, Some, None}
use Rattle.p10_int.specs.declared.types.IntType.{IntType}
use Rattle.p10_int.specs.declared.types.IntType.TheVariants.{Int, ULong}
use Rattle.p10_core.specs.declared.typed.Library.{Library}
use Rattle.p10_core.specs.declared.typed.Library.TheVariants.{Assert, CAssert, Getchar, Putchar, Malloc, Calloc, Free}
use Rattle.p10_core.specs.Types.{PlainType, PlainStructure}
use Rattle.p10_core.specs.Typed.{PlainForm, constant, read, sense, address, decay, convert, cast, unary, binary, logic, conditional, call, built_in, PlainPlaceForm, variable, global, literal, index, member, dereference, PlainValues, no_values, more_values, type_of}
use Rattle.p10_core.specs.Rows.{is_scalar, is_void, is_complete, mark_of}
use Rattle.p10_whole.specs.private.Agreeing.{integer_kind, target_type, is_kind}

-- the variable that a place is, if it is one
abbrev pub variable_in : PlainPlaceForm → Option ℕ
variable_in (variable n) = Some n
variable_in (global n) = None
variable_in (literal n bytes) = None
variable_in (index a i) = None
variable_in (member p m) = None
variable_in (dereference v) = None

-- the object that a place is, if it is one
abbrev pub object_in : PlainPlaceForm → Option ℕ
object_in (variable n) = None
object_in (global n) = Some n
object_in (literal n bytes) = None
object_in (index a i) = None
object_in (member p m) = None
object_in (dereference v) = None

-- the library function that a value calls, if it does
abbrev pub library_in : PlainForm → Option Library
library_in (constant z) = None
library_in (read p) = None
library_in (sense n) = None
library_in (address p) = None
library_in (decay p) = None
library_in (convert v) = None
library_in (cast v) = None
library_in (unary op v) = None
library_in (binary op a b) = None
library_in (logic op a b) = None
library_in (conditional v a b) = None
library_in (call s n arguments) = None
library_in (built_in s f arguments) = Some f

-- whether a library function gives memory
abbrev pub gives_memory : Option Library → Bool
gives_memory None = false
gives_memory (Some Malloc) = true
gives_memory (Some Calloc) = true
gives_memory (Some Assert) = false
gives_memory (Some CAssert) = false
gives_memory (Some Getchar) = false
gives_memory (Some Putchar) = false
gives_memory (Some Free) = false

-- the type of the only argument
abbrev pub only_type : PlainValues → Option PlainType
only_type no_values = None
only_type (more_values v no_values) = Some (type_of v)
only_type (more_values v (more_values w vs)) = None

-- whether there are no arguments
abbrev pub has_none : PlainValues → Bool
has_none no_values = true
has_none (more_values v vs) = false

-- whether a type that may be lacking is the integer type of a kind
abbrev pub is_kind_at : IntType → Option PlainType → Bool
is_kind_at kind None = false
is_kind_at kind (Some t) = is_kind kind (integer_kind t)

-- whether it is that of a scalar
abbrev pub is_scalar_at : Option PlainType → Bool
is_scalar_at None = false
is_scalar_at (Some t) = is_scalar t

-- whether it is a pointer without a mark
abbrev pub is_pointer_at : Option PlainType → Bool
is_pointer_at None = false
is_pointer_at (Some t) = is_some (target_type t)

-- whether a pointer's target has a size
abbrev pub is_sized : List PlainStructure → Option PlainType → Bool
is_sized structures None = false
is_sized structures (Some t) = is_complete structures t

-- whether arguments are a number of elements, or none
abbrev pub counts : PlainValues → Bool
counts vs = has_none vs || is_kind_at ULong (only_type vs)

-- whether a call of a library function has a type and arguments as the function asks
abbrev pub is_library : List PlainStructure → PlainType → Library → PlainValues → Bool
is_library structures t Assert vs = false
is_library structures t CAssert vs = is_kind Int (integer_kind t) && is_scalar_at (only_type vs)
is_library structures t Getchar vs = is_kind Int (integer_kind t) && has_none vs
is_library structures t Putchar vs = is_kind Int (integer_kind t) && is_kind_at Int (only_type vs)
is_library structures t Malloc vs = is_sized structures (target_type t) && counts vs
is_library structures t Calloc vs = is_sized structures (target_type t) && counts vs
is_library structures t Free vs = (is_void t && not (mark_of t)) && is_pointer_at (only_type vs)
