-- Bytes as hexadecimal digits.
use Rattle.std.specs.Prelude.{ℕ, ◌/◌, ◌%◌, false, List, [], ◌∷◌}
use Rattle.std.specs.Fmt.{digit_glyph}

-- bytes, each as two digits of 0 to 9 and a to f, the high one first
abbrev pub hex_text : List ℕ → List ℕ
hex_text [] = []
hex_text (byte ∷ bytes) = digit_glyph false (byte / 16) ∷ digit_glyph false (byte % 16) ∷ hex_text bytes
