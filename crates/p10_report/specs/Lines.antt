-- The lines that report what was found in the sources.
use Rattle.std.specs.Prelude.{ℕ, ◌/◌, ◌%◌, false, ℤ, List, [], ◌∷◌, codes, decimal}
use Rattle.std.specs.Fmt.{signed_decimal}
use Rattle.p10_base.specs.Hex.{hex_text}
use Rattle.p10_base.specs.Gathered.{Gathered, name_of, text_of}
use Rattle.p10_base.specs.Places.{column_of, line_of}
use Rattle.p10_base.specs.declared.report.Bounds.{Bounds}
use Rattle.p10_base.specs.declared.report.Family.{Family}
use Rattle.p10_base.specs.declared.report.Limit.{Limit}
use Rattle.p10_base.specs.declared.report.Refusal.{Refusal}
use Rattle.p10_base.specs.declared.span.Span.{Span}
use Rattle.p10_base.specs.Codes.{code_text, letter_of}
use Rattle.p10_report.specs.Stops.{◌then◌}

-- a number in decimal after the text that says which it is
unfoldable pub labelled : List ℕ → ℕ → List ℕ
labelled label number = label then decimal number

-- a number in decimal, with `-` before it where it is negative, after the text that says which it is
unfoldable pub labelled_signed : List ℕ → ℤ → List ℕ
labelled_signed label number = label then signed_decimal number

-- a place as FILE:LINE:COLUMN
unfoldable pub place_text : Gathered → Span → List ℕ
place_text g at =
    name_of g at.file
    then labelled (codes ":") (line_of (text_of g at.file) at.start)
    then labelled (codes ":") (column_of (text_of g at.file) at.start)

-- which refusal it is, by its code
unfoldable pub refused_part : Family → ℕ → List ℕ
refused_part family number = codes ": refused " then labelled (letter_of family) number

-- why, by the code's text
unfoldable pub reason_part : Family → ℕ → List ℕ
reason_part family number = codes ": " then code_text family number then codes "\n"

-- the line of a refused source: FILE:LINE:COLUMN: refused CODE: TEXT
unfoldable pub refusal_line : Gathered → Refusal → List ℕ
refusal_line g r = place_text g r.span then refused_part r.family r.number then reason_part r.family r.number

-- the greatest depths in calls and in bytes, which end a line
unfoldable pub depths_part : ℕ → ℕ → List ℕ
depths_part calls bytes = labelled (codes " calls ") calls then labelled (codes " bytes ") bytes then codes "\n"

-- the bounds of a program after the text that says what is accepted: P turn K calls C bytes B
unfoldable pub bounds_part : List ℕ → Bounds → List ℕ
bounds_part label b = labelled label b.prefix then labelled (codes " turn ") b.turn then depths_part b.calls b.bytes

-- the line of an accepted program: accepted: prefix P turn K calls C bytes B
unfoldable pub accepted_line : Bounds → List ℕ
accepted_line b = bounds_part (codes "accepted: prefix ") b

-- the line of a program that is accepted with a clean certificate: accepted clean: prefix P turn K calls C bytes B
unfoldable pub clean_line : Bounds → List ℕ
clean_line b = bounds_part (codes "accepted clean: prefix ") b

-- a place after a blank, which ends a line
unfoldable pub at_part : Gathered → Span → List ℕ
at_part g at = codes " " then place_text g at then codes "\n"

-- a condition that does not hold, by its number, after the text that says of which kind it is, and its place
unfoldable pub condition_part : List ℕ → Gathered → ℕ → Span → List ℕ
condition_part label g condition at = labelled label condition then at_part g at

-- the line of a condition of the certificate that does not hold: refused: KN FILE:LINE:COLUMN
unfoldable pub failing_line : Gathered → ℕ → Span → List ℕ
failing_line g condition at = condition_part (codes "refused: K") g condition at

-- a digest after the text that says whose it is
unfoldable pub labelled_digest : List ℕ → List ℕ → List ℕ
labelled_digest label digest = label then hex_text digest

-- the digest that a certificate has of a function, and that of its words, which end a line
unfoldable pub digests_part : List ℕ → List ℕ → List ℕ
digests_part kept found = labelled_digest (codes " kept ") kept then labelled_digest (codes " found ") found then codes "\n"

-- what stands before the place of a function of whose words a certificate doesn't speak
unfoldable pub stale_label : List ℕ
stale_label = codes "refused: K0 "

-- the line of a function of whose words a certificate doesn't speak: refused: K0 FILE:LINE:COLUMN kept DIGEST found DIGEST
unfoldable pub stale_line : Gathered → Span → List ℕ → List ℕ → List ℕ
stale_line g at kept found = stale_label then place_text g at then digests_part kept found

-- the line of a condition of clean certificates that does not hold: refused: CN FILE:LINE:COLUMN
unfoldable pub unclean_line : Gathered → ℕ → Span → List ℕ
unclean_line g condition at = condition_part (codes "refused: C") g condition at

-- the line of how many functions were passed, of all: passed N of M
unfoldable pub passed_line : ℕ → ℕ → List ℕ
passed_line passed functions = labelled (codes "passed ") passed then labelled (codes " of ") functions then codes "\n"

-- the line of a limit that is exceeded: p10: limit MN
unfoldable pub limit_line : Limit → List ℕ
limit_line limit = labelled (codes "p10: limit M") limit.number then codes "\n"
