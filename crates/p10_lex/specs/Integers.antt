-- Integer constants: which texts are one, and its value, base and suffix (C99 6.4.4.1).
use Rattle.std.specs.Prelude.{ℕ, ◌==◌, ◌+◌, ◌*◌, ◌^◌, nat_lt, Bool, true, false, ◌&&◌, ◌||◌, if◌then◌else◌, [], ◌∷◌, Option, Some, None, option_and_then}
use Rattle.p10_base.specs.Words.{Text}
use Rattle.p10_lex.specs.declared.integers.Base.{Base}
use Rattle.p10_lex.specs.declared.integers.Base.TheVariants.{Octal, Decimal, Hexadecimal}
use Rattle.p10_lex.specs.declared.integers.Suffix.{Suffix}
use Rattle.p10_lex.specs.declared.integers.Suffix.TheVariants.{Plain, Unsigned, Long, UnsignedLong, LongLong, UnsignedLongLong}
use Rattle.p10_lex.specs.declared.integers.Integer.{Integer}
use Rattle.p10_lex.specs.Bytes.{is_digit, is_octal, is_hexadecimal, digit_value}

-- ## Digits

-- the base as a number
abbrev pub radix_of : Base → ℕ
radix_of Octal = 8
radix_of Decimal = 10
radix_of Hexadecimal = 16

-- whether a byte is a digit of the base
abbrev pub is_digit_of : Base → ℕ → Bool
is_digit_of Octal byte = is_octal byte
is_digit_of Decimal byte = is_digit byte
is_digit_of Hexadecimal byte = is_hexadecimal byte

-- the digits with which a text begins
abbrev pub digits_of : Base → Text → Text
digits_of base [] = []
digits_of base (byte ∷ text) = if is_digit_of base byte then byte ∷ digits_of base text else []

-- what stands after the digits with which a text begins
abbrev pub after_digits : Base → Text → Text
after_digits base [] = []
after_digits base (byte ∷ text) = if is_digit_of base byte then after_digits base text else byte ∷ text

-- the value of these digits after others, whose value is `value`
unfoldable pub value_from : ℕ → ℕ → Text → ℕ
value_from radix value [] = value
value_from radix value (digit ∷ digits) = value_from radix (value * radix + digit_value digit) digits

-- the value of digits
abbrev pub value_of : ℕ → Text → ℕ
value_of radix digits = value_from radix 0 digits

-- the value of at least one digit, if it lies below 2 ^ 64
unfoldable pub small_value : Base → Text → Option ℕ
small_value base [] = None
small_value base (digit ∷ digits) =
    if nat_lt (value_of (radix_of base) (digit ∷ digits)) (2 ^ 64) then Some (value_of (radix_of base) (digit ∷ digits)) else None

-- ## Suffixes

-- whether a byte is the `u` of a suffix, in either case
abbrev pub is_u : ℕ → Bool
is_u byte = (byte == 117) || (byte == 85)

-- whether a byte is an `l` of a suffix, in either case
abbrev pub is_l : ℕ → Bool
is_l byte = (byte == 108) || (byte == 76)

-- the suffix that a text is: nothing, `u`, `l`, `ll` in one case, or `u` before or after one of the last two
unfoldable pub suffix_of : Text → Option Suffix
suffix_of [] = Some Plain
suffix_of (a ∷ []) = if is_u a then Some Unsigned else if is_l a then Some Long else None
suffix_of (a ∷ b ∷ []) =
    if (is_u a && is_l b) || (is_l a && is_u b) then Some UnsignedLong
    else if is_l a && (a == b) then Some LongLong
    else None
suffix_of (a ∷ b ∷ c ∷ []) = if (is_u a && is_l b && (b == c)) || (is_l a && (a == b) && is_u c) then Some UnsignedLongLong else None
suffix_of _ = None

-- whether a suffix has a `u`
abbrev pub is_unsigned : Suffix → Bool
is_unsigned Unsigned = true
is_unsigned UnsignedLong = true
is_unsigned UnsignedLongLong = true
is_unsigned _ = false

-- ## Constants

-- whether a value below 2 ^ 64 has a type: a decimal constant without `u` has the type `int`, `long` or `long long`; each other
-- one may have `unsigned long` too
abbrev pub has_type : Base → Suffix → ℕ → Bool
has_type Decimal suffix value = is_unsigned suffix || nat_lt value (2 ^ 63)
has_type base suffix value = true

-- the constant of a base with this suffix and value, if it has a type
abbrev pub typed : Base → Suffix → ℕ → Option Integer
typed base suffix value = if has_type base suffix value then Some (record { value = value; base = base; suffix = suffix }) else None

-- digits of a base, and a suffix
abbrev pub integer_in : Base → Text → Option Integer
integer_in base text =
    option_and_then (λ suffix. option_and_then (typed base suffix) (small_value base (digits_of base text))) (suffix_of (after_digits base text))

-- whether a byte is the `x` of the prefix `0x`, in either case
abbrev pub is_x : ℕ → Bool
is_x byte = (byte == 120) || (byte == 88)

-- the integer constant that a text is: hexadecimal after `0x`, octal where it begins with `0`, else decimal; None for any other text
unfoldable pub integer_constant : Text → Option Integer
integer_constant [] = None
integer_constant (first ∷ []) = integer_in (if first == 48 then Octal else Decimal) (first ∷ [])
integer_constant (first ∷ second ∷ text) =
    if first == 48
    then (if is_x second then integer_in Hexadecimal text else integer_in Octal (first ∷ second ∷ text))
    else integer_in Decimal (first ∷ second ∷ text)
