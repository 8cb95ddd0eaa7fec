-- The integer types: width, sign, range, rank, promotion and the usual arithmetic conversions.
use Rattle.std.specs.Prelude.{ℕ, ◌-◌, ◌^◌, Bool as Flag, true, false, ◌&&◌, nat_lt, nat_le, if◌then◌else◌, ℤ, pos, neg_ℤ, ◌≤ℤ◌, int_le}
use Rattle.p10_int.specs.declared.types.IntType.{IntType}
use Rattle.p10_int.specs.declared.types.IntType.TheVariants.{Bool, Char, SChar, UChar, Short, UShort, Int, UInt, Long, ULong, LLong, ULLong}

-- the bits of a value, with the sign bit of a signed type (C99 6.2.6.2; 5.2.4.2.1)
abbrev pub width_of : IntType → ℕ
width_of Bool = 1
width_of Char = 8
width_of SChar = 8
width_of UChar = 8
width_of Short = 16
width_of UShort = 16
width_of Int = 32
width_of UInt = 32
width_of Long = 64
width_of ULong = 64
width_of LLong = 64
width_of ULLong = 64

-- whether the type has negative values: `char` does (C99 6.2.5)
abbrev pub is_signed_of : IntType → Flag
is_signed_of Bool = false
is_signed_of Char = true
is_signed_of SChar = true
is_signed_of UChar = false
is_signed_of Short = true
is_signed_of UShort = false
is_signed_of Int = true
is_signed_of UInt = false
is_signed_of Long = true
is_signed_of ULong = false
is_signed_of LLong = true
is_signed_of ULLong = false

-- how many patterns of bits the type has: 2 ^ w
abbrev pub modulus_of : IntType → ℕ
modulus_of t = 2 ^ width_of t

-- the least value: -2 ^ (w - 1) in two's complement, or 0 (C99 6.2.6.2)
abbrev pub least_of : IntType → ℤ
least_of t = if is_signed_of t then neg_ℤ (pos (2 ^ (width_of t - 1))) else pos 0

-- the greatest value: 2 ^ (w - 1) - 1, or 2 ^ w - 1 (C99 6.2.6.2)
abbrev pub greatest_of : IntType → ℤ
greatest_of t = if is_signed_of t then pos (2 ^ (width_of t - 1) - 1) else pos (2 ^ width_of t - 1)

-- the least and the greatest value
abbrev pub range_of : IntType → ℤ × ℤ
range_of t = (least_of t, greatest_of t)

-- z is a value of the type
pub record InRange (t : IntType) (z : ℤ) : Type 0 where
  pub low : least_of t ≤ℤ z
  pub high : z ≤ℤ greatest_of t

-- the same as a test
abbrev pub holds : IntType → ℤ → Flag
holds t z = int_le (least_of t) z && int_le z (greatest_of t)

-- the conversion rank: `_Bool`, the `char` types, `short`, `int`, `long`, `long long` (C99 6.3.1.1)
abbrev pub rank_of : IntType → ℕ
rank_of Bool = 0
rank_of Char = 1
rank_of SChar = 1
rank_of UChar = 1
rank_of Short = 2
rank_of UShort = 2
rank_of Int = 3
rank_of UInt = 3
rank_of Long = 4
rank_of ULong = 4
rank_of LLong = 5
rank_of ULLong = 5

-- the integer promotions: a type below `int` becomes `int`, which holds all its values (C99 6.3.1.1)
abbrev pub promoted : IntType → IntType
promoted t = if nat_lt (rank_of t) (rank_of Int) then Int else t

-- the unsigned type that has the rank of a type (C99 6.2.5)
abbrev pub unsigned_of : IntType → IntType
unsigned_of Bool = Bool
unsigned_of Char = UChar
unsigned_of SChar = UChar
unsigned_of UChar = UChar
unsigned_of Short = UShort
unsigned_of UShort = UShort
unsigned_of Int = UInt
unsigned_of UInt = UInt
unsigned_of Long = ULong
unsigned_of ULong = ULong
unsigned_of LLong = ULLong
unsigned_of ULLong = ULLong

-- the first type has all values of the second
abbrev pub holds_all : IntType → IntType → Flag
holds_all t u = int_le (least_of t) (least_of u) && int_le (greatest_of u) (greatest_of t)

-- the common type of a signed and an unsigned type, both promoted (C99 6.3.1.8): the unsigned one if its rank isn't lower,
-- else the signed one if it holds all values of the unsigned, else the unsigned type of the signed one's rank
abbrev pub mixed_of : IntType → IntType → IntType
mixed_of s u = if nat_le (rank_of s) (rank_of u) then u else (if holds_all s u then s else unsigned_of s)

-- the common type of two promoted types (C99 6.3.1.8): of two with the same sign, so of equal ones too, the one of the higher rank
abbrev pub common_of : IntType → IntType → IntType
common_of a b =
    if is_signed_of a
    then (if is_signed_of b then (if nat_lt (rank_of a) (rank_of b) then b else a) else mixed_of a b)
    else (if is_signed_of b then mixed_of b a else (if nat_lt (rank_of a) (rank_of b) then b else a))

-- the usual arithmetic conversions (C99 6.3.1.8)
abbrev pub usual_of : IntType → IntType → IntType
usual_of a b = common_of (promoted a) (promoted b)
