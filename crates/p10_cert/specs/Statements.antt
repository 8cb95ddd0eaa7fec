-- What a certificate says, in either version, and its text: claims and, in version 2, the digests of the words that
-- they speak of, and sections.
use Rattle.std.specs.Prelude.{◌≡◌, ℕ, ◌≤◌, bytes_eq, if◌then◌else◌, Bool, true, false, List, [], ◌∷◌, ◌++◌, map, flat_map, length, Option, Some, None}
use Rattle.std.specs.List.{AllByRecursion}
use Rattle.std.specs.Ordering.{nat_cmp, is_lt}
use Rattle.std.specs.Cmp.Lexicographic.{slice_cmp}
use Rattle.p10_base.specs.declared.report.Bounds.{Bounds}
use Rattle.p10_cert.specs.Claims.{Func, Claims}
use Rattle.p10_cert.specs.Lines.{SectionHead, Line, FirstLine, FuncLine, ParamLine, ResultLine, TotalLine, LastLine, SealedLine, DigestLine, OutsideLine, SectionLine, BodyLine, text_of, IsTotal, IsDigest, IsSectionHead, IsBody}
use Rattle.p10_cert.specs.Certificate.{loop_lines, func_head, IsFunc, func_tasks}

-- what is said of a function: what is claimed of it and, in version 2, the digest of its words
pub record Entry : Type 0 where
  pub func : Func
  pub digest : Option (List ℕ)

-- a section, which a reader may skip: its name and its lines
pub record Section : Type 0 where
  pub name : List ℕ
  pub lines : List (List ℕ)

-- the lines of the section with a name, if there is one
abbrev pub lines_named : List ℕ → List Section → Option (List (List ℕ))
lines_named name [] = None
lines_named name (s ∷ sections) = if bytes_eq s.name name then Some s.lines else lines_named name sections

-- what stands after the functions: in version 2 the digest of the words outside bodies, the bounds, and in version 2
-- sections
pub record Ending : Type 0 where
  pub outside : Option (List ℕ)
  pub total : Bounds
  pub sections : List Section

-- what a certificate says; it is of version 2 where it has a digest of the words outside bodies
pub record Statement : Type 0 where
  pub entries : List Entry
  pub ending : Ending

-- ## the lines of a certificate

-- the first line, of version 2 or else 1
abbrev pub first_line : Bool → Line
first_line true = SealedLine
first_line false = FirstLine

abbrev pub digest_lines : Option (List ℕ) → List Line
digest_lines None = []
digest_lines (Some digest) = DigestLine digest ∷ []

-- the lines of a function after its first and its digest
abbrev pub inner_lines : Func → List Line
inner_lines f = map ParamLine f.params ++ (ResultLine f.result ∷ flat_map loop_lines f.loops)

-- the lines of a function
abbrev pub entry_lines : Entry → List Line
entry_lines e = FuncLine (func_head e.func) ∷ (digest_lines e.digest ++ inner_lines e.func)

abbrev pub section_head : Section → SectionHead
section_head s = record { name = s.name; count = length s.lines }

-- the lines of a section: its first, and those that it says to have
abbrev pub section_lines : Section → List Line
section_lines s = SectionLine (section_head s) ∷ map BodyLine s.lines

abbrev pub outside_lines : Option (List ℕ) → List Line
outside_lines None = []
outside_lines (Some digest) = OutsideLine digest ∷ []

-- the lines after those of functions
abbrev pub ending_lines : Ending → List Line
ending_lines e = outside_lines e.outside ++ (TotalLine e.total ∷ (flat_map section_lines e.sections ++ LastLine ∷ []))

-- whether a digest is there
abbrev pub is_there : Option (List ℕ) → Bool
is_there None = false
is_there (Some digest) = true

-- the lines of a certificate
abbrev pub statement_lines : Statement → List Line
statement_lines s = first_line (is_there s.ending.outside) ∷ (flat_map entry_lines s.entries ++ ending_lines s.ending)

-- the text of a certificate
unfoldable pub statement_text : Statement → List ℕ
statement_text s = text_of (statement_lines s)

-- the text of what is said of one function
unfoldable pub entry_text : Entry → List ℕ
entry_text e = text_of (entry_lines e)

-- ## what a certificate may say

-- digests are there in version 2 alone
abbrev pub IsSeal : Bool → Option (List ℕ) → Type 0
IsSeal true (Some digest) = IsDigest digest
IsSeal false None = Unit {0}
IsSeal sealed digest = ⊥

-- what may be said of a function
pub record IsEntry (sealed : Bool) (e : Entry) : Type 0 where
  pub func : IsFunc e.func
  pub seal : IsSeal sealed e.digest

-- how many tasks these functions have
abbrev pub entry_tasks : List Entry → ℕ
entry_tasks entries = func_tasks (map (λ e. e.func) entries)

-- functions of a certificate: what is said of each may be said, and there is one task at most
pub record AreEntries (sealed : Bool) (entries : List Entry) : Type 0 where
  pub all : AllByRecursion (IsEntry sealed) entries
  pub one_task : entry_tasks entries ≤ 1

-- whether a name comes before another, by their bytes
abbrev pub is_before : List ℕ → List ℕ → Bool
is_before name other = is_lt (slice_cmp nat_cmp name other)

-- the names of sections rise, after this name
abbrev pub RisesFrom : List ℕ → List Section → Type 0
RisesFrom name [] = Unit {0}
RisesFrom name (s ∷ sections) = (is_before name s.name ≡ true) × RisesFrom s.name sections

-- what a section may say
pub record IsSection (s : Section) : Type 0 where
  pub head : IsSectionHead (section_head s)
  pub lines : AllByRecursion IsBody s.lines

-- sections of a certificate of version 2: each name is there once, and names rise
pub record AreSections (sections : List Section) : Type 0 where
  pub all : AllByRecursion IsSection sections
  pub rise : RisesFrom [] sections

-- sections are there in version 2 alone
abbrev pub MayHave : Bool → List Section → Type 0
MayHave true sections = AreSections sections
MayHave false [] = Unit {0}
MayHave false (s ∷ sections) = ⊥

-- what may stand after the functions
pub record IsEnding (sealed : Bool) (e : Ending) : Type 0 where
  pub seal : IsSeal sealed e.outside
  pub total : IsTotal e.total
  pub sections : MayHave sealed e.sections

-- what a certificate may say
pub record IsStatement (s : Statement) : Type 0 where
  pub entries : AreEntries (is_there s.ending.outside) s.entries
  pub ending : IsEnding (is_there s.ending.outside) s.ending

-- ## the first version

-- what a certificate of version 1 says of a function
abbrev pub plain_entry : Func → Entry
plain_entry f = record { func = f; digest = None }

-- what a certificate of version 1 says
abbrev pub plain_statement : Claims → Statement
plain_statement c = record { entries = map plain_entry c.funcs; ending = record { outside = None; total = c.total; sections = [] } }
