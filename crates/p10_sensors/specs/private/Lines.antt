-- The first line of a text.
use Rattle.std.specs.Prelude.{ℕ, suc, ◌==◌, if◌then◌else◌, List, [], ◌∷◌}

-- the bytes before the first LF of a text, or all where it has none
abbrev pub line_length : List ℕ → ℕ
line_length [] = 0
line_length (b ∷ text) = if b == 10 then 0 else suc (line_length text)
