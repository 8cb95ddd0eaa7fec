-- How the sections of a text are read, after the line of the bounds.
use Rattle.std.specs.Prelude.{ℕ, zero, suc, List, [], ◌∷◌, length, codes, Option, None}
use Rattle.p10_cert.specs.Lines.{SectionHead}
use Rattle.p10_cert.specs.Statements.{Section}
use Rattle.p10_cert.specs.private.Reading.{◌>>=◌, or_else, after_front, section_start_at, body_text_at}

-- the first line of a section
unfoldable pub named_at : List ℕ → Option (SectionHead × List ℕ)
named_at text = after_front (codes "section ") text >>= section_start_at

-- a line of a section, where so many are left
abbrev pub next_body_at : ℕ → List ℕ → Option (List ℕ × List ℕ)
next_body_at zero text = None
next_body_at (suc left) text = body_text_at text

-- at most so many lines of a section, and what stands after them
unfoldable pub bodies_in : ℕ → List ℕ → List (List ℕ) × List ℕ
bodies_in zero text = ([], text)
bodies_in (suc count) text =
    or_else (body_text_at text) (λ (bytes, rest). (bytes ∷ (bodies_in count rest).0, (bodies_in count rest).1)) ([], text)

-- at most so many sections
unfoldable pub sections_from : ℕ → List ℕ → List Section
sections_from zero text = []
sections_from (suc count) text =
    or_else (named_at text) (λ (head, rest). record { name = head.name; lines = (bodies_in head.count rest).0 } ∷ sections_from count (bodies_in head.count rest).1) []

-- the sections of a text; each has more than one byte
unfoldable pub sections_in : List ℕ → List Section
sections_in text = sections_from (length text) text
