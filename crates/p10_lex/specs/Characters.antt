-- Character constants and strings: which texts are one, and the values of its characters (C99 6.4.4.4, 6.4.5).
use Rattle.std.specs.Prelude.{◌≡◌, ◌≢◌, ℕ, ◌==◌, ◌≤◌, ℤ, pos, ◌-ℤ◌, nat_lt, Bool, true, false, ◌&&◌, ◌||◌, not, ◌⊎◌, [], ◌∷◌, ◌++◌, length, Option, Some, None, if◌then◌else◌}
use Rattle.std.specs.List.{list_all}
use Rattle.p10_base.specs.Words.{Text}
use Rattle.p10_lex.specs.Bytes.{is_octal, is_hexadecimal, is_printable}
use Rattle.p10_lex.specs.Integers.{value_of}
use Rattle.p10_lex.specs.Splices.{joined}

-- the value of an escape of one byte: `\'`, `\"`, `\?`, `\\`, `\a`, `\b`, `\t`, `\n`, `\v`, `\f`, `\r` (C99 5.2.2)
unfoldable pub simple_escape : ℕ → Option ℕ
simple_escape byte =
    if (byte == 39) || (byte == 34) || (byte == 63) || (byte == 92) then Some byte
    else if byte == 97 then Some 7
    else if byte == 98 then Some 8
    else if byte == 116 then Some 9
    else if byte == 110 then Some 10
    else if byte == 118 then Some 11
    else if byte == 102 then Some 12
    else if byte == 114 then Some 13
    else None

-- whether a text begins with a byte of this class
unfoldable pub begins_with : (ℕ → Bool) → Text → Bool
begins_with test [] = false
begins_with test (byte ∷ rest) = test byte

-- What stands after the backslash of an escape, taken as long as it can be, and its value, which is at most 255.
pub data IsEscape (rest : Text) (value : ℕ) : Text → Type 0 where
  simple : (byte : ℕ) → simple_escape byte ≡ Some value → IsEscape rest value (byte ∷ [])
  octal : (byte : ℕ) (more : Text) → list_all is_octal (byte ∷ more) ≡ true → length more ≤ 2
      → (length more ≡ 2) ⊎ (begins_with is_octal rest ≡ false) → value_of 8 (byte ∷ more) ≡ value → value ≤ 255 → IsEscape rest value (byte ∷ more)
  hexadecimal : (byte : ℕ) (more : Text) → list_all is_hexadecimal (byte ∷ more) ≡ true
      → begins_with is_hexadecimal rest ≡ false → value_of 16 (byte ∷ more) ≡ value → value ≤ 255 → IsEscape rest value (120 ∷ byte ∷ more)

-- The text is characters with these values: bytes that are allowed, and escapes.
pub data Characters (allowed : ℕ → Bool) : Text → Text → Type 0 where
  none : Characters allowed [] []
  plain : (byte : ℕ) (rest values : Text) → byte ≢ 92 → allowed byte ≡ true → Characters allowed rest values → Characters allowed (byte ∷ rest) (byte ∷ values)
  escape : (value : ℕ) (body rest text values : Text) → IsEscape rest value body → text ≡ body ++ rest → Characters allowed rest values
      → Characters allowed (92 ∷ text) (value ∷ values)

-- whether a byte that is no escape may stand in a literal with this quote: never the quote; in a character constant a printable
-- byte, and in a string any that ends no line
unfoldable pub is_allowed : ℕ → ℕ → Bool
is_allowed quote byte = not (byte == quote) && (if quote == 39 then is_printable byte else not (byte == 10))

-- A literal with this quote, and the values of its characters. Its splices are passed over.
pub record IsLiteral (quote : ℕ) (text values : Text) : Type 0 where
  pub inside : Text
  pub parts : text ≡ quote ∷ inside ++ quote ∷ []
  pub characters : Characters (is_allowed quote) (joined inside) values

-- the value of a character as a `char`, which has a sign and 8 bits
abbrev pub char_value : ℕ → ℤ
char_value value = if nat_lt value 128 then pos value else pos value -ℤ pos 256

-- a character constant with this value
pub record IsCharacter (text : Text) (value : ℤ) : Type 0 where
  pub byte : ℕ
  pub literal : IsLiteral 39 text (byte ∷ [])
  pub is_value : value ≡ char_value byte

-- a string whose characters have these values (C99 6.4.5)
abbrev pub IsString : Text → Text → Type 0
IsString text values = IsLiteral 34 text values
