-- The values of literals, as they are read: byte by byte, with what stands before each byte. The clauses of `character_value` and
-- `string_bytes` say that these are the values of `Characters`, and that there are no others.
use Rattle.std.specs.Prelude.{ℕ, ℤ, ◌==◌, ◌+◌, ◌-◌, ◌*◌, nat_lt, nat_le, ◌&&◌, if◌then◌else◌, [], ◌∷◌, length, take, drop, slice_index, Option, Some, None, option_map, option_and_then}
use Rattle.p10_base.specs.Words.{Text}
use Rattle.p10_lex.specs.declared.characters.Mode.{Mode}
use Rattle.p10_lex.specs.declared.characters.Mode.TheVariants.{Plain, Escape, Octal, HexadecimalStart, Hexadecimal}
use Rattle.p10_lex.specs.declared.characters.Step.{Step}
use Rattle.p10_lex.specs.declared.characters.Step.TheVariants.{On, Ends, Wrong}
use Rattle.p10_lex.specs.Bytes.{is_octal, is_hexadecimal, digit_value}
use Rattle.p10_lex.specs.Characters.{simple_escape, is_allowed, char_value}
use Rattle.p10_lex.specs.Splices.{joined}

-- ## One byte

-- a character begins
unfoldable pub begin_character : ℕ → ℕ → Option Mode
begin_character quote byte = if byte == 92 then Some Escape else if is_allowed quote byte then Some (Plain (Some byte)) else None

-- what a byte does that begins a character: it ends the one before it, if there is one
abbrev pub begun : Option ℕ → Option Mode → Step
begun value None = Wrong
begun None (Some mode) = On mode
begun (Some value) (Some mode) = Ends value mode

-- one more digit of an octal escape, to which `left` may be added
unfoldable pub add_octal : ℕ → ℕ → ℕ → Step
add_octal left value byte =
    if nat_lt (value * 8 + digit_value byte) 256 then On (Octal (left - 1) (value * 8 + digit_value byte)) else Wrong

-- one more digit of a hexadecimal escape
unfoldable pub add_hexadecimal : ℕ → ℕ → Step
add_hexadecimal value byte =
    if nat_lt (value * 16 + digit_value byte) 256 then On (Hexadecimal (value * 16 + digit_value byte)) else Wrong

-- the byte after a backslash: a simple escape of this value, if it is one, or the beginning of a number
unfoldable pub begin_escape : Option ℕ → ℕ → Step
begin_escape (Some value) byte = On (Plain (Some value))
begin_escape None byte = if is_octal byte then On (Octal 2 (digit_value byte)) else if byte == 120 then On HexadecimalStart else Wrong

-- what a byte of a literal does, by what stands before it
unfoldable pub read_byte : ℕ → Mode → ℕ → Step
read_byte quote (Plain value) byte = begun value (begin_character quote byte)
read_byte quote Escape byte = begin_escape (simple_escape byte) byte
read_byte quote (Octal left value) byte =
    if nat_lt 0 left && is_octal byte then add_octal left value byte else begun (Some value) (begin_character quote byte)
read_byte quote HexadecimalStart byte = if is_hexadecimal byte then On (Hexadecimal (digit_value byte)) else Wrong
read_byte quote (Hexadecimal value) byte =
    if is_hexadecimal byte then add_hexadecimal value byte else begun (Some value) (begin_character quote byte)

-- ## All bytes

-- the values where the literal ends: that of the last character, if there is one; None where it may not end
unfoldable pub last_values : Mode → Option Text
last_values (Plain None) = Some []
last_values (Plain (Some value)) = Some (value ∷ [])
last_values Escape = None
last_values (Octal left value) = Some (value ∷ [])
last_values HexadecimalStart = None
last_values (Hexadecimal value) = Some (value ∷ [])

-- the values after a step, where those after each mode are these
abbrev pub stepped : Step → (Mode → Option Text) → Option Text
stepped (On mode) values = values mode
stepped (Ends value mode) values = option_map (λ others. value ∷ others) (values mode)
stepped Wrong values = None

-- the values of the characters of a text without splices, if it is well formed
unfoldable pub values_from : ℕ → Mode → Text → Option Text
values_from quote mode [] = last_values mode
values_from quote mode (byte ∷ rest) = stepped (read_byte quote mode byte) (λ next. values_from quote next rest)

-- the values of the characters that stand between quotes
abbrev pub values_of : ℕ → Text → Option Text
values_of quote text = values_from quote (Plain None) (joined text)

-- ## Literals

-- the text between two bytes that begin and end it
abbrev pub inside : ℕ → ℕ → Text → Option Text
inside opening closing text =
    if (nat_le 2 (length text) && slice_index text 0 == opening) && slice_index text (length text - 1) == closing
    then Some (take (length text - 1 - 1) (drop 1 text))
    else None

-- the only value
abbrev pub one_of : Text → Option ℕ
one_of (value ∷ []) = Some value
one_of _ = None

-- the value of a character constant
unfoldable pub character_value : Text → Option ℤ
character_value text = option_map char_value (option_and_then (λ text. option_and_then one_of (values_of 39 text)) (inside 39 39 text))
