-- What the reading of a text tells.
use Rattle.std.specs.Prelude.{◌≡◌, ℕ, ◌+◌, nat_lt, if◌then◌else◌, Bool, true, false, List, [], ◌∷◌, length, Option, Some, None, option_map, slice_get}
use Rattle.std.specs.Option.{option_or}
use Rattle.p10_core.specs.Typed.{PlainFunction, PlainProgram}
use Rattle.p10_cert.specs.Claims.{Func}
use Rattle.p10_cert.specs.Records.{Progress, statement_from}
use Rattle.p10_cert.specs.Sealed.{bytes_of}
use Rattle.p10_cert.specs.Statements.{Entry, Ending, Statement, IsStatement, statement_text}
use Rattle.p10_cert.specs.WrongLines.{IsFirstWrong}
use Rattle.p10_fit.specs.Fits.{fits_function, unfit}
use Rattle.p10_check.specs.declared.reading.StaleAt.{StaleAt as CodeStale}
use Rattle.p10_check.specs.declared.reading.Told.{Told}
use Rattle.p10_check.specs.Shapes.{main_turn}
use Rattle.p10_check.specs.Texts.{funcs_in, claims_in, StaleAt, differing_digests, first_stale}
use Rattle.p10_check.specs.private.Keeping.{claims_kept, lines_kept, AreKept}

-- ## The first function whose digests differ

-- what the code finds
abbrev pub stale_of : CodeStale → StaleAt
stale_of s = record { number = s.number; kept = bytes_of s.kept; found = bytes_of s.found }

-- the digests of one function, where they differ
abbrev pub stale_at : ℕ → Entry → Option (List ℕ) → Option StaleAt
stale_at number e None = None
stale_at number e (Some found) = differing_digests number e.digest found

-- the first of those before a function, or else the function itself
abbrev pub stale_or : Option StaleAt → ℕ → Entry → List (List ℕ) → Option StaleAt
stale_or stale number e digests = option_or stale (stale_at number e (slice_get digests number))

-- ## The first function of which its claim doesn't speak

-- among functions, of which the first one has this number, and of which each has a claim; `main` where there are more claims
abbrev pub misfit : PlainProgram → ℕ → List PlainFunction → List Func → Option ℕ
misfit p n functions [] = None
misfit p n [] (claim ∷ claims) = Some p.main
misfit p n (f ∷ functions) (claim ∷ claims) = if fits_function p n f claim then misfit p (n + 1) functions claims else Some n

-- the function with a number, if its claim doesn't speak of it
abbrev pub misfit_by : Bool → ℕ → Option ℕ
misfit_by true number = None
misfit_by false number = Some number

-- the same of a function that may be lacking
abbrev pub misfit_at : PlainProgram → ℕ → Func → Option PlainFunction → Option ℕ
misfit_at p number claim None = Some p.main
misfit_at p number claim (Some f) = misfit_by (fits_function p number f claim) number

-- the first of those before a function, or else the function itself
abbrev pub misfit_or : PlainProgram → Option ℕ → ℕ → Func → Option ℕ
misfit_or p before number claim = option_or before (misfit_at p number claim (slice_get p.functions number))

-- the first of so many functions that has no claim, where there are this many claims
abbrev pub lacking : ℕ → ℕ → Option ℕ
lacking count functions = if nat_lt count functions then Some count else None

-- the first after all claims, of which there are so many: a function may have none
abbrev pub misfit_at_end : PlainProgram → Option ℕ → ℕ → Option ℕ
misfit_at_end p before count = option_or before (lacking count (length p.functions))

-- ## What is told

-- what entries tell that are read one after the other
pub record AreTold (p : PlainProgram) (digests : List (List ℕ)) (given : List Entry) (told : Told) : Type 0 where
  pub kept : AreKept given (claims_kept told.kept) (lines_kept told.kept)
  pub turn : told.turn ≡ main_turn p (funcs_in given) (slice_get p.functions p.main)
  pub stale : option_map stale_of told.stale ≡ first_stale 0 given digests
  pub unfit : told.unfit ≡ misfit p 0 p.functions (funcs_in given)

-- what a certificate tells
pub record CertificateTells (p : PlainProgram) (digests : List (List ℕ)) (s : Statement) (told : Told) : Type 0 where
  pub kept : AreKept s.entries (claims_kept told.kept) (lines_kept told.kept)
  pub turn : told.turn ≡ main_turn p (claims_in s).funcs (slice_get p.functions p.main)
  pub stale : option_map stale_of told.stale ≡ first_stale 0 s.entries digests
  pub unfit : told.unfit ≡ unfit p (claims_in s)
  pub total : told.kept.certificate.total ≡ s.ending.total

-- all was read of a text, which is a certificate's
pub record HasEnded (read : Progress) : Type 0 where
  pub ending : Ending
  pub over : read.ending ≡ Some ending
  pub good : IsStatement (statement_from read.given ending)
  pub exact : read.text ≡ statement_text (statement_from read.given ending)

-- what a text tells that is a certificate's
pub record TextTells (p : PlainProgram) (digests : List (List ℕ)) (text : List ℕ) (told : Told) : Type 0 where
  pub statement : Statement
  pub good : IsStatement statement
  pub exact : text ≡ statement_text statement
  pub tells : CertificateTells p digests statement told

-- what the reading of a text comes to: the first line that no certificate has, or what is told
abbrev pub IsReading : PlainProgram → List (List ℕ) → List ℕ → Told → Option ℕ → Type 0
IsReading p digests text told (Some line) = IsFirstWrong text line
IsReading p digests text told None = TextTells p digests text told
