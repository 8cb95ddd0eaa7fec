-- Calls: what is called, and what becomes of the arguments (C99 6.5.2.2); allocations.
use Rattle.std.specs.Prelude.{ℕ, pos, Bool, true, false, ◌&&◌, ◌||◌, nat_eq, Option, Some, None, Ok, if◌then◌else◌, List, [], ◌∷◌, length, map}
use Rattle.p10_base.specs.Words.{Text}
use Rattle.p10_base.specs.declared.at.At.{At}
use Rattle.p10_base.specs.declared.codes.SubsetCode.TheVariants as subset
use Rattle.p10_int.specs.declared.types.IntType.TheVariants.{Char, ULong}
use Rattle.p10_core.specs.declared.typed.Library.{Library}
use Rattle.p10_core.specs.declared.typed.Library.TheVariants.{Assert, CAssert, Getchar, Putchar, Malloc, Calloc, Free}
use Rattle.p10_core.specs.Types.{PlainType, void, integer, pointer, unqualified, PlainStructure}
use Rattle.p10_core.specs.Sizes.{size_of}
use Rattle.p10_core.specs.Typed.{PlainValue, value, constant, cast, call, built_in, PlainValues, no_values, more_values, at_of, type_of}
use Rattle.p10_core.specs.Rows.{same, is_integer, is_pointer, is_scalar, int_type}
use Rattle.p10_core.specs.Constants.{is_null}
use Rattle.p10_elabx.specs.declared.problem.Problem.{Problem}
use Rattle.p10_elabx.specs.First.{Keep, Found, Ruled, refused, nothing_said, Judged, pair, on, on_part, also, touches}
use Rattle.p10_elabx.specs.Scopes.{Meaning, callable, unknown_name, library_named}
use Rattle.p10_elabx.specs.Operands.{PlainOperand, a_value, converted}
use Rattle.p10_elabx.specs.Operators.{fitted}

-- ## What is called

-- what a name stands for where it is called: a function of the program; one of the library; nothing that is declared; something
-- other than a function; or something whose declaration was refused
pub data Callee : Type 0 where
  of_program : ℕ → List PlainType → PlainType → Callee
  of_library : Library → Callee
  not_declared : Callee
  no_function : Callee
  refused_before : Callee

-- a library function needs no declaration, and a declared name hides it
abbrev pub undeclared : Option Library → Callee
undeclared None = not_declared
undeclared (Some f) = of_library f

-- what the called name stands for
abbrev pub callee_of : Option Meaning → Text → Callee
callee_of None name = undeclared (library_named name)
callee_of (Some (callable n parameters result)) name = of_program n parameters result
callee_of (Some unknown_name) name = refused_before
callee_of (Some what) name = no_function

-- ## Arguments

-- what is asked of an argument: nothing; that it fits a type; a scalar; a pointer
pub data Wanted : Type 0 where
  anything : Wanted
  of_type : PlainType → Wanted
  any_scalar : Wanted
  any_pointer : Wanted

-- what a library function asks of its arguments (C99 7.2, 7.19.7, 7.20.3)
abbrev pub library_wants : Library → List Wanted
library_wants Assert = any_scalar ∷ []
library_wants CAssert = any_scalar ∷ []
library_wants Getchar = []
library_wants Putchar = of_type int_type ∷ []
library_wants Malloc = anything ∷ []
library_wants Calloc = anything ∷ anything ∷ []
library_wants Free = any_pointer ∷ []

-- what a function asks of its arguments: an unknown one asks nothing, and has any number of them
abbrev pub wants_of : Callee → Option (List Wanted)
wants_of (of_program n parameters result) = Some (map of_type parameters)
wants_of (of_library f) = Some (library_wants f)
wants_of not_declared = None
wants_of no_function = None
wants_of refused_before = None

-- what is asked of each argument, where their number is right; else nothing
abbrev pub wanted_of : Option (List Wanted) → ℕ → List Wanted
wanted_of None count = []
wanted_of (Some wants) count = if nat_eq (length wants) count then wants else []

-- a pointer, or a null constant as a pointer
abbrev pub pointer_value : PlainValue → Ruled PlainValue
pointer_value v =
    if is_pointer (type_of v) then Ok v
    else if is_null v then Ok (converted v (pointer false (integer false Char)))
    else refused subset.TypesDiffer (at_of v)

-- an argument of which something is asked
abbrev pub wanted_value : Option Wanted → PlainValue → Ruled PlainValue
wanted_value None v = Ok v
wanted_value (Some anything) v = Ok v
wanted_value (Some (of_type t)) v = fitted (at_of v) v t
wanted_value (Some any_scalar) v = if is_scalar (type_of v) then Ok v else refused subset.TypesDiffer (at_of v)
wanted_value (Some any_pointer) v = pointer_value v

-- what is found in the arguments from the left, and whether two of them are of unspecified order
pub record Listed : Type 0 where
  pub found : Found PlainValues
  pub acts : Bool
  pub reads : Bool
  pub unordered : Bool

-- before the first argument
abbrev pub no_arguments : Listed
no_arguments = record { found = Ok no_values; acts = false; reads = false; unordered = false }

-- the values with one more at the end
abbrev pub with_value : PlainValues → PlainValue → PlainValues
with_value no_values v = more_values v no_values
with_value (more_values x rest) v = more_values x (with_value rest v)

-- an argument of which something is asked
unfoldable pub argument_judged : Option Wanted → Judged PlainValue → Judged PlainValue
argument_judged wanted j = on_part j (wanted_value wanted)

-- one argument more
unfoldable pub with_argument : Keep → Listed → Judged PlainValue → Listed
with_argument h k j = record {
  found = on (pair h k.found j.found) (λ (vs, v). Ok (with_value vs v));
  acts = k.acts || j.acts;
  reads = k.reads || j.reads;
  unordered = k.unordered || ((k.acts && touches j) || ((k.acts || k.reads) && j.acts));
}

-- ## Calls

-- the rows on the form of a call: an unknown name, at the name; a wrong number of arguments, or no function, at the call
abbrev pub call_problem : At → At → Callee → ℕ → Option Problem
call_problem at name_at not_declared count = Some (record { code = subset.UnknownName; at = name_at })
call_problem at name_at no_function count = Some (record { code = subset.BadCallee; at = at })
call_problem at name_at refused_before count = None
call_problem at name_at (of_program n parameters result) count =
    if nat_eq (length parameters) count then None else Some (record { code = subset.WrongArguments; at = at })
call_problem at name_at (of_library f) count =
    if nat_eq (length (library_wants f)) count then None else Some (record { code = subset.WrongArguments; at = at })

-- the type of what a library function gives; an allocation's is that of its cast
abbrev pub library_result : Library → PlainType
library_result Assert = void false
library_result CAssert = int_type
library_result Getchar = int_type
library_result Putchar = int_type
library_result Malloc = void false
library_result Calloc = void false
library_result Free = void false

-- a call whose arguments are found
abbrev pub call_value : At → At → Callee → PlainValues → Ruled PlainOperand
call_value at name_at (of_program n parameters result) arguments = Ok (a_value (value at (unqualified result) (call name_at.span n arguments)))
call_value at name_at (of_library f) arguments = Ok (a_value (value at (library_result f) (built_in name_at.span f arguments)))
call_value at name_at callee arguments = nothing_said

-- `assert` is a statement, and has no value
abbrev pub is_assert : Callee → Bool
is_assert (of_library Assert) = true
is_assert callee = false

-- an allocation stands under a cast to a pointer type alone
abbrev pub is_allocator : Callee → Bool
is_allocator (of_library Malloc) = true
is_allocator (of_library Calloc) = true
is_allocator callee = false

-- `c_assert` isn't counted as a call for the order of evaluation
abbrev pub is_counted : Callee → Bool
is_counted (of_library CAssert) = false
is_counted callee = true

-- a row on the form, where there is one
abbrev pub with_problem : {A : Type 0} → Keep → Option Problem → Judged A → Judged A
with_problem h None j = j
with_problem h (Some r) j = also h true r.code r.at j

-- a call of a name with arguments
unfoldable pub call_judged : Keep → At → At → Callee → ℕ → Listed → Judged PlainOperand
call_judged h at name_at callee count k =
    also h k.unordered subset.UnspecifiedOrder at (with_problem h (call_problem at name_at callee count)
    (record { found = on k.found (call_value at name_at callee); acts = is_counted callee || k.acts; reads = k.reads }))

-- a call as an operand
unfoldable pub operand_call : Keep → At → Callee → Judged PlainOperand → Judged PlainOperand
operand_call h at callee j =
    also h (is_assert callee) subset.VoidValue at (also h (is_allocator callee) subset.BadAllocation at j)

-- a call of what is no name
unfoldable pub other_call : Keep → At → Judged PlainOperand → Listed → Judged PlainOperand
other_call h at j k =
    also h k.unordered subset.UnspecifiedOrder at (also h true subset.BadCallee at
    (record { found = on (pair h j.found k.found) (λ _. nothing_said); acts = true; reads = j.reads || k.reads }))

-- ## Allocations

-- the number of elements as the only argument, or none
abbrev pub count_arguments : Option PlainValue → PlainValues
count_arguments None = no_values
count_arguments (Some v) = more_values v no_values

-- whether a cast's type is a pointer to a type, marks included
abbrev pub points_to : PlainType → PlainType → Bool
points_to (pointer c t) element = same t element
points_to t element = false

-- an allocation of elements of a type under a cast: the cast's type is a pointer to exactly that type
abbrev pub allocation : At → PlainType → At → At → Library → PlainType → Option PlainValue → Ruled PlainOperand
allocation cast_at t at name_at f element count =
    if points_to t element
    then Ok (a_value (value cast_at (unqualified t) (cast (value at (unqualified t) (built_in name_at.span f (count_arguments count))))))
    else refused subset.BadAllocation at

-- the number of elements, as `unsigned long`; the tree at which another type is refused, and by which row, are given
abbrev pub element_count : Ruled PlainValue → PlainValue → Ruled PlainValue
element_count otherwise v = if is_integer (type_of v) then Ok (converted v (integer false ULong)) else otherwise

-- the size of a type as a constant number of elements
abbrev pub size_constant : List PlainStructure → At → PlainType → PlainValue
size_constant structures at t = value at (integer false ULong) (constant (pos (size_of structures t)))
