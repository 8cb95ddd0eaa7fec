-- The built-in headers: each is a text of one line an item, in which the items have their order.
use Rattle.std.specs.Prelude.{ℤ, ℕ, ◌==◌, ◌&&◌, Bool as Flag, false, List, [], ◌∷◌, ◌++◌, codes, Option, Some, None, option_map, bytes_eq, if◌then◌else◌, flat_map, nat_lt}
use Rattle.std.specs.List.{find}
use Rattle.std.specs.Bool.{beq}
use Rattle.std.specs.Option.{unwrap_or}
use Rattle.std.specs.Fmt.{decimal, signed_decimal}
use Rattle.p10_int.specs.declared.types.IntType.{IntType}
use Rattle.p10_int.specs.declared.types.IntType.TheVariants.{Bool, Char, SChar, UChar, Short, UShort, Int, UInt, Long, ULong, LLong, ULLong}
use Rattle.p10_int.specs.Types.{width_of, is_signed_of, rank_of, least_of, greatest_of, promoted, unsigned_of, holds}

-- ## Items

-- a typedef: a name for a type
abbrev pub typedef_line : List ℕ → List ℕ → List ℕ
typedef_line type name = codes "typedef " ++ type ++ codes " " ++ name ++ codes ";\n"

-- a macro that stands for these words
abbrev pub define_line : List ℕ → List ℕ → List ℕ
define_line name list = codes "#define " ++ name ++ codes " " ++ list ++ codes "\n"

-- ## The limits of types

-- the suffixes of a constant, a shorter one before a longer, each with the types that a decimal constant can then have, in the
-- order in which they are tried (C99 6.4.4.1)
abbrev pub suffixes : List (List ℕ × List IntType)
suffixes =
    ([], Int ∷ Long ∷ LLong ∷ [])
    ∷ (codes "u", UInt ∷ ULong ∷ ULLong ∷ [])
    ∷ (codes "l", Long ∷ LLong ∷ [])
    ∷ (codes "ul", ULong ∷ ULLong ∷ [])
    ∷ (codes "ll", LLong ∷ [])
    ∷ (codes "ull", ULLong ∷ [])
    ∷ []

-- whether this is the type, where there is one; two promoted types are the same where they have the same rank and the same sign
abbrev pub is_type : IntType → Option IntType → Flag
is_type t None = false
is_type t (Some u) = rank_of t == rank_of u && beq (is_signed_of t) (is_signed_of u)

-- the first of these types that has the value
abbrev pub first_with : ℤ → List IntType → Option IntType
first_with value types = find (λ t. holds t value) types

-- the shortest suffix that gives a value the type
abbrev pub suffix_for : IntType → ℤ → List ℕ
suffix_for t value = unwrap_or (option_map (λ row. row.0) (find (λ row. is_type t (first_with value row.1)) suffixes)) []

-- the greatest value of a type, as one constant of the promoted type (C99 5.2.4.2.1, 7.18.2)
abbrev pub greatest_text : IntType → List ℕ
greatest_text t = signed_decimal (greatest_of t) ++ suffix_for (promoted t) (greatest_of t)

-- the least value of a signed type, as an expression of the promoted type: from `int` on there is no constant of its magnitude
abbrev pub least_text : IntType → List ℕ
least_text t =
    if nat_lt (rank_of t) (rank_of Int)
    then codes "(" ++ signed_decimal (least_of t) ++ codes ")"
    else codes "(-" ++ greatest_text t ++ codes " - 1)"

-- ## `<stdint.h>` (C99 7.18)

-- how a type is written
abbrev pub type_text : IntType → List ℕ
type_text Bool = codes "_Bool"
type_text Char = codes "char"
type_text SChar = codes "signed char"
type_text UChar = codes "unsigned char"
type_text Short = codes "short"
type_text UShort = codes "unsigned short"
type_text Int = codes "int"
type_text UInt = codes "unsigned int"
type_text Long = codes "long"
type_text ULong = codes "unsigned long"
type_text LLong = codes "long long"
type_text ULLong = codes "unsigned long long"

-- the signed types that have an exact width (C99 7.18.1.1)
abbrev pub exact_types : List IntType
exact_types = SChar ∷ Short ∷ Int ∷ Long ∷ []

-- the width of a type between two texts
abbrev pub with_width : List ℕ → IntType → List ℕ → List ℕ
with_width front t back = front ++ decimal (width_of t) ++ back

-- the limits of a type with a sign and an exact width, and of that without one (C99 7.18.2.1)
abbrev pub exact_limits : IntType → List ℕ
exact_limits t =
    define_line (with_width (codes "INT") t (codes "_MIN")) (least_text t)
    ++ define_line (with_width (codes "INT") t (codes "_MAX")) (greatest_text t)
    ++ define_line (with_width (codes "UINT") t (codes "_MAX")) (greatest_text (unsigned_of t))

-- the types with an exact width, and their limits
unfoldable pub stdint : List ℕ
stdint =
    flat_map (λ t. typedef_line (type_text t) (with_width (codes "int") t (codes "_t"))) exact_types
    ++ flat_map (λ t. typedef_line (type_text (unsigned_of t)) (with_width (codes "uint") t (codes "_t"))) exact_types
    ++ flat_map exact_limits exact_types

-- ## `<limits.h>` (C99 5.2.4.2.1)

-- the line that defines the least value of a type whose name begins with this text there
abbrev pub least_line : List ℕ × IntType → List ℕ
least_line (name, t) = define_line (name ++ codes "_MIN") (least_text t)

-- the line that defines the greatest value of a type whose name begins with this text there
abbrev pub greatest_line : List ℕ × IntType → List ℕ
greatest_line (name, t) = define_line (name ++ codes "_MAX") (greatest_text t)

-- the types with a least and a greatest value there
abbrev pub signed_limits : List (List ℕ × IntType)
signed_limits = (codes "SCHAR", SChar) ∷ (codes "CHAR", Char) ∷ (codes "SHRT", Short) ∷ (codes "INT", Int) ∷ (codes "LONG", Long) ∷ (codes "LLONG", LLong) ∷ []

-- the types with a greatest value alone
abbrev pub unsigned_limits : List (List ℕ × IntType)
unsigned_limits = (codes "UCHAR", UChar) ∷ (codes "USHRT", UShort) ∷ (codes "UINT", UInt) ∷ (codes "ULONG", ULong) ∷ (codes "ULLONG", ULLong) ∷ []

-- the bits of a byte, and the limits of the types
unfoldable pub limits : List ℕ
limits = define_line (codes "CHAR_BIT") (decimal (width_of Char)) ++ flat_map (λ row. least_line row ++ greatest_line row) signed_limits ++ flat_map greatest_line unsigned_limits

-- ## The others

-- the boolean type and its values (C99 7.16)
unfoldable pub stdbool : List ℕ
stdbool = define_line (codes "bool") (type_text Bool) ++ define_line (codes "true") (codes "1") ++ define_line (codes "false") (codes "0")

-- the type of sizes and the null pointer (C99 7.17, 7.20)
unfoldable pub stddef : List ℕ
stddef = typedef_line (type_text ULong) (codes "size_t") ++ define_line (codes "NULL") (codes "0")

-- further the end of a file (C99 7.19)
unfoldable pub stdio : List ℕ
stdio = stddef ++ define_line (codes "EOF") (codes "(-1)")

-- the text of the built-in header with this name, if there is one; nothing is defined in `<assert.h>` and `<p10.h>`
abbrev pub header_of : List ℕ → Option (List ℕ)
header_of name =
    if bytes_eq name (codes "stdint.h") then Some stdint
    else if bytes_eq name (codes "stdbool.h") then Some stdbool
    else if bytes_eq name (codes "stddef.h") then Some stddef
    else if bytes_eq name (codes "stdlib.h") then Some stddef
    else if bytes_eq name (codes "stdio.h") then Some stdio
    else if bytes_eq name (codes "limits.h") then Some limits
    else if bytes_eq name (codes "assert.h") then Some []
    else if bytes_eq name (codes "p10.h") then Some []
    else None
