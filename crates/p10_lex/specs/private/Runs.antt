-- Reading functions: what is left of a text after a run of bytes.
use Rattle.std.specs.Prelude.{take, length, ℕ, zero, suc, ◌==◌, ◌-◌, nat_lt, Bool, false, ◌&&◌, ◌||◌, not, if◌then◌else◌, List, [], ◌∷◌, drop, codes, Option, Some, None}
use Rattle.std.specs.List.{list_any}
use Rattle.p10_lex.specs.Splices.{splice_length, is_spliced}
use Rattle.p10_lex.specs.Lexemes.{goes_on_number, is_punctuator}
use Rattle.p10_lex.specs.Pieces.{begins_byte}

-- after the bytes at the beginning that pass the test
unfoldable pub after_run : (ℕ → Bool) → List ℕ → List ℕ
after_run test [] = []
after_run test (c ∷ rest) = if test c then after_run test rest else c ∷ rest

-- after a number, whose last byte so far is `old`
unfoldable pub after_number : ℕ → List ℕ → List ℕ
after_number old [] = []
after_number old (c ∷ rest) = if goes_on_number old c then after_number c rest else c ∷ rest

-- after a line, before the LF that ends it, where the two bytes `older` and `old` stand before the text
unfoldable pub after_line : ℕ → ℕ → List ℕ → List ℕ
after_line older old [] = []
after_line older old (c ∷ rest) = if not (c == 10) || is_spliced older old then after_line old c rest else c ∷ rest

-- after the first `*/`
unfoldable pub after_comment : List ℕ → Option (List ℕ)
after_comment [] = None
after_comment (c ∷ rest) = if (c == 42) && begins_byte 47 rest then Some (drop 1 rest) else after_comment rest

-- after the closing quote of a literal, of which `skip` bytes of a splice are still to be skipped, and
-- whose first byte belongs to a backslash before it where `escaped` is true
unfoldable pub after_literal : ℕ → ℕ → Bool → List ℕ → Option (List ℕ)
after_literal quote skip escaped [] = None
after_literal quote (suc skip) escaped (c ∷ rest) = after_literal quote skip escaped rest
after_literal quote zero escaped (c ∷ rest) =
    if nat_lt 0 (splice_length (c ∷ rest)) then after_literal quote (splice_length (c ∷ rest) - 1) escaped rest
    else (if c == 10 then None
    else (if escaped then after_literal quote 0 false rest
    else (if c == quote then Some rest
    else after_literal quote 0 (c == 92) rest)))

-- after the `>` of an include name
unfoldable pub after_header : List ℕ → Option (List ℕ)
after_header [] = None
after_header (c ∷ rest) = if c == 62 then Some rest else (if c == 10 then None else after_header rest)

-- after the splices, of which `skip` bytes of the first one are still to be skipped
unfoldable pub after_splices : ℕ → List ℕ → List ℕ
after_splices skip [] = []
after_splices (suc skip) (c ∷ rest) = after_splices skip rest
after_splices zero (c ∷ rest) = if nat_lt 0 (splice_length (c ∷ rest)) then after_splices (splice_length (c ∷ rest) - 1) rest else c ∷ rest

-- whether two bytes are a punctuator: a doubled byte, an operator with `=`, or `->`
unfoldable pub is_double : ℕ → ℕ → Bool
is_double a b =
    ((a == b) && list_any (λ c. a == c) (codes "+-<>=&|#"))
    || (((b == 61) && list_any (λ c. a == c) (codes "<>!*/%+-&^|")) || ((a == 45) && (b == 62)))

-- whether three bytes are a punctuator
unfoldable pub is_triple : ℕ → ℕ → ℕ → Bool
is_triple a b c =
    ((a == 60) && ((b == 60) && (c == 61))) || (((a == 62) && ((b == 62) && (c == 61))) || ((a == 46) && ((b == 46) && (c == 46))))

-- the length of the longest punctuator at the beginning of a text, or 0
unfoldable pub punctuator_length : List ℕ → ℕ
punctuator_length [] = 0
punctuator_length (a ∷ []) = if is_punctuator (a ∷ []) then 1 else 0
punctuator_length (a ∷ b ∷ []) = if is_double a b then 2 else (if is_punctuator (a ∷ []) then 1 else 0)
punctuator_length (a ∷ b ∷ c ∷ rest) =
    if is_triple a b c then 3 else (if is_double a b then 2 else (if is_punctuator (a ∷ []) then 1 else 0))

-- what stands before the rest of a text
abbrev pub front_of : List ℕ → List ℕ → List ℕ
front_of text rest = take (length text - length rest) text
