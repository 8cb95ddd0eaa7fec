-- The values of constants and strings (C99 6.4.4, 6.4.5).
use Rattle.std.specs.Prelude.{ℤ, pos, false, nat_le, Option, Some, None, option_and_then, Ok, if◌then◌else◌, List, [], ◌∷◌, ◌++◌, length}
use Rattle.p10_base.specs.Words.{Text}
use Rattle.p10_base.specs.declared.at.At.{At}
use Rattle.p10_base.specs.declared.codes.SubsetCode.TheVariants as subset
use Rattle.p10_int.specs.declared.types.IntType.{IntType}
use Rattle.p10_int.specs.declared.types.IntType.TheVariants.{Int, UInt, Long, ULong, LLong, ULLong, Char}
use Rattle.p10_int.specs.Types.{holds}
use Rattle.p10_lex.specs.declared.integers.Base.{Base}
use Rattle.p10_lex.specs.declared.integers.Base.TheVariants.{Decimal}
use Rattle.p10_lex.specs.declared.integers.Suffix.{Suffix}
use Rattle.p10_lex.specs.declared.integers.Suffix.TheVariants as suffix
use Rattle.p10_lex.specs.declared.integers.Integer.{Integer}
use Rattle.p10_lex.specs.Integers.{integer_constant}
use Rattle.p10_lex.specs.Literals.{character_value, values_of, inside}
use Rattle.p10_core.specs.Types.{integer, array}
use Rattle.p10_core.specs.Typed.{value, constant, place, literal}
use Rattle.p10_core.specs.WholePrograms.{most_bytes}
use Rattle.p10_elabx.specs.declared.operand.PlaceKind.TheVariants.{Object}
use Rattle.p10_elabx.specs.First.{Ruled, refused, nothing_said}
use Rattle.p10_elabx.specs.Operands.{PlainOperand, a_value, a_place}

-- the types that a constant of a base with a suffix may have, in the order in which they are tried (C99 6.4.4.1p5)
abbrev pub constant_types : Base → Suffix → List IntType
constant_types Decimal suffix.Plain = Int ∷ Long ∷ []
constant_types base suffix.Plain = Int ∷ UInt ∷ Long ∷ ULong ∷ []
constant_types base suffix.Unsigned = UInt ∷ ULong ∷ []
constant_types Decimal suffix.Long = Long ∷ []
constant_types base suffix.Long = Long ∷ ULong ∷ []
constant_types base suffix.UnsignedLong = ULong ∷ []
constant_types Decimal suffix.LongLong = LLong ∷ []
constant_types base suffix.LongLong = LLong ∷ ULLong ∷ []
constant_types base suffix.UnsignedLongLong = ULLong ∷ []

-- the first of the types that has the value
abbrev pub first_type : List IntType → ℤ → Option IntType
first_type [] z = None
first_type (i ∷ rest) z = if holds i z then Some i else first_type rest z

-- a constant of a type
abbrev pub constant_of_type : At → ℤ → Option IntType → Ruled PlainOperand
constant_of_type at z None = nothing_said
constant_of_type at z (Some i) = Ok (a_value (value at (integer false i) (constant z)))

-- a constant that a text is; each number of a program is one
abbrev pub integer_value : At → Option Integer → Ruled PlainOperand
integer_value at None = nothing_said
integer_value at (Some c) = constant_of_type at (pos c.value) (first_type (constant_types c.base c.suffix) (pos c.value))

-- a number (C99 6.4.4.1)
abbrev pub number_found : At → Text → Ruled PlainOperand
number_found at text = integer_value at (integer_constant text)

-- a character constant has the type `int` (C99 6.4.4.4p10)
abbrev pub character_by : At → Option ℤ → Ruled PlainOperand
character_by at None = nothing_said
character_by at (Some z) = Ok (a_value (value at (integer false Int) (constant z)))

-- a character constant
abbrev pub character_found : At → Text → Ruled PlainOperand
character_found at text = character_by at (character_value text)

-- the bytes of a string, without the last 0
abbrev pub string_value : Text → Option Text
string_value text = option_and_then (values_of 34) (inside 34 34 text)

-- the bytes of strings that stand side by side (C99 5.1.1.2p6)
abbrev pub joined_after : Text → Option Text → Option Text
joined_after before None = None
joined_after before (Some bytes) = Some (before ++ bytes)

-- the bytes of strings after those before
abbrev pub strings_value : Option Text → List Text → Option Text
strings_value None texts = None
strings_value (Some bytes) [] = Some bytes
strings_value (Some bytes) (text ∷ rest) = strings_value (joined_after bytes (string_value text)) rest

-- a string is an array of `char` with a 0 at its end (C99 6.4.5p5), which isn't larger than a type may be; its number is that of
-- its first word
abbrev pub string_of : At → Text → Ruled PlainOperand
string_of at bytes =
    if nat_le (length bytes) most_bytes then Ok (a_place Object (place at (array false (integer false Char) (length bytes)) (literal at.first bytes)))
    else refused subset.BadLength at

-- a string of bytes, if there are some
abbrev pub string_by : At → Option Text → Ruled PlainOperand
string_by at None = nothing_said
string_by at (Some bytes) = string_of at (bytes ++ 0 ∷ [])

-- strings that stand side by side
abbrev pub strings_found : At → List Text → Ruled PlainOperand
strings_found at texts = string_by at (strings_value (Some []) texts)
