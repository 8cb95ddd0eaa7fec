-- Splices: a backslash with the end of the line that it joins to the next (C99 5.1.1.2, phase 2).
use Rattle.std.specs.Prelude.{ℕ, ◌≡◌, ◌≢◌, zero, suc, ◌==◌, ◌+◌, ◌-◌, nat_lt, Bool, true, false, ◌&&◌, ◌||◌, not, if◌then◌else◌, ◌⊎◌, List, [], ◌∷◌, ◌++◌}

-- the length of the LF or CR LF at the beginning of a text, or 0
unfoldable pub line_end_length : List ℕ → ℕ
line_end_length [] = 0
line_end_length (b ∷ []) = if b == 10 then 1 else 0
line_end_length (b ∷ c ∷ rest) = if b == 10 then 1 else (if (b == 13) && (c == 10) then 2 else 0)

-- the length of the splice at the beginning of a text, or 0: a backslash with LF, or with CR LF
unfoldable pub splice_length : List ℕ → ℕ
splice_length [] = 0
splice_length (a ∷ rest) = if (a == 92) && nat_lt 0 (line_end_length rest) then 1 + line_end_length rest else 0

-- the text without its splices, byte by byte: `skip` bytes of a splice are still to be skipped
unfoldable pub joined_after : ℕ → List ℕ → List ℕ
joined_after skip [] = []
joined_after (suc skip) (c ∷ rest) = joined_after skip rest
joined_after zero (c ∷ rest) = if nat_lt 0 (splice_length (c ∷ rest)) then joined_after (splice_length (c ∷ rest) - 1) rest else c ∷ joined_after 0 rest

-- the text without its splices
abbrev pub joined : List ℕ → List ℕ
joined text = joined_after 0 text

-- the text is one splice or several
pub record AreSplices (text : List ℕ) : Type 0 where
  pub some : text ≢ []
  pub only : joined text ≡ []

-- whether an LF after these two bytes stands in a splice
unfoldable pub is_spliced : ℕ → ℕ → Bool
is_spliced older old = (old == 92) || ((old == 13) && (older == 92))

-- whether no LF of the text ends a line, where the two bytes `older` and `old` stand before the text
unfoldable pub on_one_line : ℕ → ℕ → List ℕ → Bool
on_one_line older old [] = true
on_one_line older old (c ∷ rest) = (not (c == 10) || is_spliced older old) && on_one_line old c rest

-- The text goes on to the end of its line: an LF that stands in no splice, or the end of the file.
pub record ReachesLineEnd (text rest : List ℕ) : Type 0 where
  pub one_line : on_one_line 0 0 text ≡ true
  pub ends : (rest ≡ []) ⊎ ((after : List ℕ) × (rest ≡ 10 ∷ after) × (on_one_line 0 0 (text ++ 10 ∷ []) ≡ false))
