-- Classes of bytes (C99 5.2.1, 6.4).
use Rattle.std.specs.Prelude.{ℕ, ◌==◌, ◌-◌, nat_le, Bool, ◌&&◌, ◌||◌, if◌then◌else◌}

-- white space: blank, tab, LF, vertical tab, form feed, CR (C99 6.4p3)
unfoldable pub is_blank : ℕ → Bool
is_blank c = (c == 32) || (nat_le 9 c && nat_le c 13)

-- a letter or `_` (C99 6.4.2.1)
unfoldable pub is_nondigit : ℕ → Bool
is_nondigit c = (nat_le 97 c && nat_le c 122) || ((nat_le 65 c && nat_le c 90) || (c == 95))

-- a decimal digit
unfoldable pub is_digit : ℕ → Bool
is_digit c = nat_le 48 c && nat_le c 57

-- a byte that goes on with a name
unfoldable pub is_name_byte : ℕ → Bool
is_name_byte c = is_nondigit c || is_digit c

-- an octal digit
unfoldable pub is_octal : ℕ → Bool
is_octal c = nat_le 48 c && nat_le c 55

-- a hexadecimal digit
unfoldable pub is_hexadecimal : ℕ → Bool
is_hexadecimal c = is_digit c || ((nat_le 97 c && nat_le c 102) || (nat_le 65 c && nat_le c 70))

-- the value of a digit, in bases up to 16
unfoldable pub digit_value : ℕ → ℕ
digit_value c = if nat_le 97 c then c - 87 else (if nat_le 65 c then c - 55 else c - 48)

-- `+` or `-`
unfoldable pub is_sign : ℕ → Bool
is_sign c = (c == 43) || (c == 45)

-- `e`, `E`, `p` or `P`, after which a sign goes on with a number (C99 6.4.8)
unfoldable pub is_exponent : ℕ → Bool
is_exponent c = ((c == 101) || (c == 69)) || ((c == 112) || (c == 80))

-- a single or double quote
unfoldable pub is_quote : ℕ → Bool
is_quote c = (c == 39) || (c == 34)

-- a printable ASCII character
unfoldable pub is_printable : ℕ → Bool
is_printable c = nat_le 32 c && nat_le c 126
