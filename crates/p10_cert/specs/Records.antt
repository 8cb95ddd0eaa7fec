-- What a reader of records has given of a text, of either version, and what comes next.
use Rattle.std.specs.Prelude.{◌≡◌, ℕ, ◌+◌, ◌≤◌, Bool, List, [], ◌∷◌, ◌++◌, length, Option, Some, None, Result, Ok, Err}
use Rattle.std.specs.List.{flat_map}
use Rattle.p10_cert.specs.declared.record.BadLine.{BadLine}
use Rattle.p10_cert.specs.declared.record.FuncRecord.{FuncRecord}
use Rattle.p10_cert.specs.Lines.{text_of}
use Rattle.p10_cert.specs.Statements.{Entry, Ending, Statement, first_line, entry_lines, entry_text, AreEntries, IsStatement, statement_text}
use Rattle.p10_cert.specs.WrongLines.{IsFirstWrong}

-- a text, what was given of its functions, and what stands after them, once it was read
pub record Progress : Type 0 where
  pub text : List ℕ
  pub given : List Entry
  pub ending : Option Ending

-- the digest of the words outside bodies, where it was read
abbrev pub outside_in : Option Ending → Option (List ℕ)
outside_in None = None
outside_in (Some e) = e.outside

-- nothing was given of the text
abbrev pub at_start : List ℕ → Progress
at_start text = record { text = text; given = []; ending = None }

-- one function more was given
abbrev pub one_more : Progress → Entry → Progress
one_more p e = record p { given = p.given ++ e ∷ [] }

-- The record of one function more: the text begins with the first line, the lines of the functions before it and those
-- of the record, which is the longest text of a function that may stand there. Its first line has this number.
pub record IsNextRecord (text : List ℕ) (given : List Entry) (e : Entry) (part : List ℕ) (line : ℕ) : Type 0 where
  pub sealed : Bool
  pub rest : List ℕ
  pub parts : text ≡ text_of (first_line sealed ∷ flat_map entry_lines given) ++ (part ++ rest)
  pub exact : part ≡ entry_text e
  pub good : AreEntries sealed (given ++ e ∷ [])
  pub longest : (g : Entry) (more : List ℕ) → AreEntries sealed (given ++ g ∷ []) → part ++ rest ≡ entry_text g ++ more → length (entry_text g) ≤ length part
  pub number : line ≡ length (first_line sealed ∷ flat_map entry_lines given) + 1

-- the certificate of functions and what stands after them
abbrev pub statement_from : List Entry → Ending → Statement
statement_from entries ending = record { entries = entries; ending = ending }

-- What the reader answers, and what has then been given: the next function's record; nothing, where the text is that
-- of the certificate with the functions that were given; or the number of the first line that no certificate has,
-- where no record comes next.
abbrev pub GivesNext : Progress → Progress → Result (Option FuncRecord) BadLine → Type 0
GivesNext old new (Ok (Some r)) = (e : Entry) × IsNextRecord old.text old.given e r.text.now r.line × (new ≡ one_more old e)
GivesNext old new (Ok None) =
    (ending : Ending) × IsStatement (statement_from old.given ending) × (old.text ≡ statement_text (statement_from old.given ending)) × (new ≡ record old { ending = Some ending })
GivesNext old new (Err bad) =
    IsFirstWrong old.text bad.line × ((e : Entry) (part : List ℕ) (line : ℕ) → IsNextRecord old.text old.given e part line → ⊥) × (new ≡ old)
