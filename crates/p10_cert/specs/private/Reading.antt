-- How a line is read, on lists of bytes: each reader gives a value and what stands after it.
use Rattle.std.specs.Prelude.{ℕ, ◌+◌, ◌-◌, ◌*◌, ◌%◌, Bool, true, false, not, ◌&&◌, ◌||◌, ◌==◌, nat_le, nat_lt, if◌then◌else◌, List, [], ◌∷◌, length, take, drop, fold, decimal, ℤ, pos, neg_ℤ, int_le, codes, bytes_eq, Option, Some, None, option_and_then}
use Rattle.std.specs.Char.{is_ascii_digit}
use Rattle.p10_cert.specs.declared.claims.Rank.{Rank}
use Rattle.p10_cert.specs.declared.claims.Rank.TheVariants.{Up, Down, One, Task}
use Rattle.p10_range.specs.Ranges.{Interval}
use Rattle.p10_cert.specs.Claims.{Value, Number, Address, Nothing}
use Rattle.p10_base.specs.Hex.{hex_text}
use Rattle.p10_cert.specs.Lines.{SectionHead, Line, FirstLine, FuncLine, ParamLine, ResultLine, LoopLine, VarLine, TotalLine, LastLine, SealedLine, DigestLine, OutsideLine, SectionLine, BodyLine, greatest_count, greatest_size, is_name_byte, is_name, is_section_byte, is_section_name, is_body_byte}

-- the second, of what the first gives
infixl 10 ◌>>=◌
abbrev pub ◌>>=◌ : {A B : Type 0} → Option A → (A → Option B) → Option B
o >>= f = option_and_then f o

-- what comes of a value, or else the other
abbrev pub or_else : {A B : Type 0} → Option A → (A → B) → B → B
or_else None f other = other
or_else (Some x) f other = f x

-- ## fixed texts and runs

-- what stands after a fixed text that the bytes begin with
unfoldable pub after_front : List ℕ → List ℕ → Option (List ℕ)
after_front front text = if bytes_eq (take (length front) text) front then Some (drop (length front) text) else None

-- whether two texts begin with different bytes
abbrev pub begin_apart : List ℕ → List ℕ → Bool
begin_apart (x ∷ text) (y ∷ label) = not (x == y)
begin_apart text label = false

-- what is left after the bytes at the beginning that pass the test
abbrev pub after_run : (ℕ → Bool) → List ℕ → List ℕ
after_run test [] = []
after_run test (x ∷ xs) = if test x then after_run test xs else (x ∷ xs)

-- what stands before the rest of a text
abbrev pub front_of : List ℕ → List ℕ → List ℕ
front_of text rest = take (length text - length rest) text

-- ## numbers and names

-- the most digits of a number
abbrev pub most_digits : ℕ
most_digits = 21

-- the number that the bytes spell where they are digits
abbrev pub value_of_digits : List ℕ → ℕ
value_of_digits digits = fold (λ value byte. 10 * value + (byte - 48)) 0 digits

-- whether there are digits, and no zero before others
abbrev pub is_numeral : List ℕ → Bool
is_numeral [] = false
is_numeral (first ∷ others) = (length others == 0) || not (first == 48)

-- the number whose decimal form these bytes are
unfoldable pub numeral_of : List ℕ → Option ℕ
numeral_of digits =
    if nat_le (length digits) most_digits
    then (if bytes_eq (decimal (value_of_digits digits)) digits then Some (value_of_digits digits) else None)
    else None

-- a number that is at most `most`
unfoldable pub number_at : ℕ → List ℕ → Option (ℕ × List ℕ)
number_at most text =
    numeral_of (front_of text (after_run is_ascii_digit text)) >>= λ value.
    if nat_le value most then Some (value, after_run is_ascii_digit text) else None

-- a number after a label
unfoldable pub labelled_at : List ℕ → ℕ → List ℕ → Option (ℕ × List ℕ)
labelled_at label most text = after_front label text >>= λ rest. number_at most rest

-- a number below zero, after its sign
unfoldable pub negative_at : List ℕ → Option (ℤ × List ℕ)
negative_at text = number_at greatest_size text >>= λ (size, rest).
    if size == 0 then None else Some (neg_ℤ (pos size), rest)

-- a number that isn't below zero
unfoldable pub positive_at : List ℕ → Option (ℤ × List ℕ)
positive_at text = number_at greatest_size text >>= λ (size, rest). Some (pos size, rest)

-- a number with its sign
unfoldable pub signed_at : List ℕ → Option (ℤ × List ℕ)
signed_at [] = positive_at []
signed_at (first ∷ others) = if first == 45 then negative_at others else positive_at (first ∷ others)

-- a name of C
unfoldable pub name_at : List ℕ → Option (List ℕ × List ℕ)
name_at text =
    if is_name (front_of text (after_run is_name_byte text))
    then Some (front_of text (after_run is_name_byte text), after_run is_name_byte text)
    else None

-- the greatest rank, depth and number of a variable
abbrev pub greatest_index : ℕ
greatest_index = 4294967295

-- ## the lines, each after its first word

unfoldable pub ends_at : List ℕ → Option (Interval × List ℕ)
ends_at text =
    signed_at text >>= λ (low, text).
    after_front (codes " ") text >>= λ text.
    signed_at text >>= λ (high, text).
    if int_le low high then Some (record { low = low; high = high }, text) else None

unfoldable pub value_at : List ℕ → Option (Value × List ℕ)
value_at text =
    or_else (after_front (codes "*") text) (λ text. Some (Address, text)) (
    or_else (after_front (codes "void") text) (λ text. Some (Nothing, text)) (
    ends_at text >>= λ (ends, text). Some (Number ends, text)))

-- whether a value is claimed to be there
abbrev pub is_there : Value → Bool
is_there Nothing = false
is_there _ = true

unfoldable pub param_at : List ℕ → Option (Line × List ℕ)
param_at text =
    value_at text >>= λ (value, text).
    after_front (codes "\n") text >>= λ text.
    if is_there value then Some (ParamLine value, text) else None

unfoldable pub result_at : List ℕ → Option (Line × List ℕ)
result_at text =
    value_at text >>= λ (value, text).
    after_front (codes "\n") text >>= λ text.
    Some (ResultLine value, text)

unfoldable pub func_at : List ℕ → Option (Line × List ℕ)
func_at text =
    name_at text >>= λ (name, text).
    labelled_at (codes " rank ") greatest_index text >>= λ (rank, text).
    labelled_at (codes " steps ") greatest_count text >>= λ (steps, text).
    labelled_at (codes " calls ") greatest_count text >>= λ (calls, text).
    labelled_at (codes " bytes ") greatest_count text >>= λ (bytes, text).
    labelled_at (codes " alloc ") 1 text >>= λ (alloc, text).
    after_front (codes "\n") text >>= λ text.
    Some (FuncLine (record { name = name; rank = rank; steps = steps; calls = calls; bytes = bytes; alloc = alloc == 1 }), text)

-- a variable and a bound
unfoldable pub bound_at : List ℕ → Option (ℕ × ℤ × List ℕ)
bound_at text =
    number_at greatest_index text >>= λ (var, text).
    after_front (codes " ") text >>= λ text.
    signed_at text >>= λ (bound, text).
    Some (var, bound, text)

unfoldable pub rank_at : List ℕ → Option (Rank × List ℕ)
rank_at text =
    or_else (after_front (codes " up ") text) (λ text. bound_at text >>= λ (var, bound, text). Some (Up var bound, text)) (
    or_else (after_front (codes " down ") text) (λ text. bound_at text >>= λ (var, bound, text). Some (Down var bound, text)) (
    after_front (codes " one") text >>= λ text. Some (One, text)))

unfoldable pub loop_at : List ℕ → Option (Line × List ℕ)
loop_at text =
    number_at greatest_index text >>= λ (depth, text).
    rank_at text >>= λ (rank, text).
    labelled_at (codes " turns ") greatest_count text >>= λ (turns, text).
    after_front (codes "\n") text >>= λ text.
    Some (LoopLine (record { depth = depth; rank = rank; turns = turns }), text)

unfoldable pub task_at : List ℕ → Option (Line × List ℕ)
task_at text =
    number_at greatest_count text >>= λ (steps, text).
    after_front (codes "\n") text >>= λ text.
    Some (LoopLine (record { depth = 0; rank = Task; turns = steps }), text)

unfoldable pub var_at : List ℕ → Option (Line × List ℕ)
var_at text =
    number_at greatest_index text >>= λ (var, text).
    after_front (codes " ") text >>= λ text.
    ends_at text >>= λ (ends, text).
    after_front (codes "\n") text >>= λ text.
    Some (VarLine (record { var = var; ends = ends }), text)

unfoldable pub total_at : List ℕ → Option (Line × List ℕ)
total_at text =
    number_at greatest_count text >>= λ (prefix, text).
    labelled_at (codes " turn ") greatest_count text >>= λ (turn, text).
    labelled_at (codes " calls ") greatest_count text >>= λ (calls, text).
    labelled_at (codes " bytes ") greatest_count text >>= λ (bytes, text).
    after_front (codes "\n") text >>= λ text.
    Some (TotalLine (record { prefix = prefix; turn = turn; calls = calls; bytes = bytes }), text)

-- ## digests and sections

-- the number of a hexadecimal digit, and some number below 16 of another byte
abbrev pub nibble : ℕ → ℕ
nibble byte = (if nat_le 97 byte then byte - 87 else byte - 48) % 16

-- whether a byte is a hexadecimal digit, where letters are of lower case
unfoldable pub is_hex_digit : ℕ → Bool
is_hex_digit byte = is_ascii_digit byte || (nat_le 97 byte && nat_le byte 102)

-- the bytes that these digits spell, two digits a byte
abbrev pub spelled : List ℕ → List ℕ
spelled (high ∷ low ∷ digits) = (16 * nibble high + nibble low) ∷ spelled digits
spelled _ = []

-- the digest whose text these digits are
unfoldable pub digest_of : List ℕ → Option (List ℕ)
digest_of digits =
    if length digits == 64 then (if bytes_eq (hex_text (spelled digits)) digits then Some (spelled digits) else None) else None

-- a digest, at the end of its line
unfoldable pub digest_at : List ℕ → Option (List ℕ × List ℕ)
digest_at text =
    if nat_lt (length text) 64 then None else (
    digest_of (take 64 text) >>= λ digest.
    after_front (codes "\n") (drop 64 text) >>= λ text.
    Some (digest, text))

unfoldable pub function_digest_at : List ℕ → Option (Line × List ℕ)
function_digest_at text = digest_at text >>= λ (digest, text). Some (DigestLine digest, text)

unfoldable pub outside_at : List ℕ → Option (Line × List ℕ)
outside_at text = digest_at text >>= λ (digest, text). Some (OutsideLine digest, text)

-- the name of a section
unfoldable pub section_name_at : List ℕ → Option (List ℕ × List ℕ)
section_name_at text =
    if is_section_name (front_of text (after_run is_section_byte text))
    then Some (front_of text (after_run is_section_byte text), after_run is_section_byte text)
    else None

-- what the first line of a section says, after its first word
unfoldable pub section_start_at : List ℕ → Option (SectionHead × List ℕ)
section_start_at text =
    section_name_at text >>= λ (name, text).
    labelled_at (codes " ") greatest_index text >>= λ (count, text).
    after_front (codes "\n") text >>= λ text.
    Some (record { name = name; count = count }, text)

unfoldable pub section_at : List ℕ → Option (Line × List ℕ)
section_at text = section_start_at text >>= λ (head, text). Some (SectionLine head, text)

-- what a line of a section says
unfoldable pub body_text_at : List ℕ → Option (List ℕ × List ℕ)
body_text_at text =
    after_front (codes "\n") (after_run is_body_byte text) >>= λ rest.
    Some (front_of text (after_run is_body_byte text), rest)

-- a line of a section
unfoldable pub body_at : List ℕ → Option (Line × List ℕ)
body_at text = body_text_at text >>= λ (bytes, rest). Some (BodyLine bytes, rest)

-- a line of version 2 alone, but those of a section
unfoldable pub sealed_at : List ℕ → Option (Line × List ℕ)
sealed_at text =
    or_else (after_front (codes "p10cert 2\n") text) (λ text. Some (SealedLine, text)) (
    or_else (after_front (codes "digest ") text) function_digest_at (
    or_else (after_front (codes "outside ") text) outside_at (
    or_else (after_front (codes "section ") text) section_at None)))

-- ## each line

-- a line of a function but its first
unfoldable pub inner_at : List ℕ → Option (Line × List ℕ)
inner_at text =
    or_else (after_front (codes "var ") text) var_at (
    or_else (after_front (codes "loop ") text) loop_at (
    or_else (after_front (codes "task steps ") text) task_at (
    or_else (after_front (codes "param ") text) param_at (
    or_else (after_front (codes "result ") text) result_at None))))

-- what stands after the first line of the text
unfoldable pub after_first : List ℕ → Option (List ℕ)
after_first text = after_front (codes "p10cert 1\n") text

-- what stands after the first words of the line of the whole program
unfoldable pub after_total : List ℕ → Option (List ℕ)
after_total text = after_front (codes "total prefix ") text

-- a line that stands in no function, or begins one
unfoldable pub outer_at : List ℕ → Option (Line × List ℕ)
outer_at text =
    or_else (after_front (codes "func ") text) func_at (
    or_else (after_first text) (λ text. Some (FirstLine, text)) (
    or_else (after_total text) total_at (
    or_else (after_front (codes "end\n") text) (λ text. Some (LastLine, text)) (sealed_at text))))

-- a line, but one of a section
unfoldable pub line_at : List ℕ → Option (Line × List ℕ)
line_at text = or_else (inner_at text) Some (outer_at text)
