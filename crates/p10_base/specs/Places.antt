-- Lines and columns of a text: lines end with LF, columns count bytes, and both begin at 1.
use Rattle.std.specs.Prelude.{ℕ, ◌+◌, ◌==◌, Bool, length, take, count_by}
use Rattle.std.specs.List.{after_last}
use Rattle.p10_base.specs.Words.{Text}

-- whether a byte is LF, which ends a line
abbrev pub is_line_end : ℕ → Bool
is_line_end byte = byte == 10

-- the line of the byte at an offset: 1 and the number of LF before it
abbrev pub line_of : Text → ℕ → ℕ
line_of text offset = 1 + count_by is_line_end (take offset text)

-- the column of the byte at an offset: 1 and the number of bytes between it and the last LF before
-- it, or the beginning of the text where there is none
abbrev pub column_of : Text → ℕ → ℕ
column_of text offset = 1 + length (after_last is_line_end (take offset text))
