-- What is read of a certificate, and the digests that it keeps, one after the other.
use Rattle.std.specs.Prelude.{◌≡◌, ℕ, ◌+◌, List, ◌∷◌, map, Option, Some, None, option_map}
use Rattle.std.specs.Option.{option_or}
use Rattle.p10_base.specs.declared.digest.Digest.{Digest}
use Rattle.p10_cert.specs.declared.claims.Cert.{Cert}
use Rattle.p10_cert.specs.declared.claims.FuncClaim.{FuncClaim}
use Rattle.p10_cert.specs.Claims.{claims_of, func_of}
use Rattle.p10_cert.specs.Records.{Progress, statement_from}
use Rattle.p10_cert.specs.Sealed.{bytes_of}
use Rattle.p10_cert.specs.Statements.{Ending, Statement, IsStatement, statement_text}
use Rattle.p10_diff_evidence.specs.declared.evidence.DiffEvidence.{DiffEvidence}
use Rattle.p10_diff_evidence.specs.Reading.{ranks_in}
use Rattle.p10_diff_evidence.specs.Standing.{diff_lines, AreRanks}
use Rattle.p10_diff_evidence.specs.Placing.{IsBad}
use Rattle.p10_judge.specs.declared.reading.Text.{Text}
use Rattle.p10_judge.specs.declared.reading.Text.TheVariants.{Bad, Whole}
use Rattle.p10_judge.specs.declared.stale.Stale.{Stale}
use Rattle.p10_check.specs.Texts.{StaleAt, claims_in, differing_digests}

-- ## Digests

-- the digest that is kept of a function, if there is one
abbrev pub kept_of : Option Digest → Option (List ℕ)
kept_of kept = option_map bytes_of kept

-- what the code found
abbrev pub stale_of : Stale → StaleAt
stale_of s = record { number = s.number; kept = bytes_of s.kept; found = bytes_of s.found }

-- the first of functions, where it differs, by the digests that are kept of them
abbrev pub stale_head : ℕ → List (Option (List ℕ)) → List (List ℕ) → Option StaleAt
stale_head number (kept ∷ rest) (found ∷ digests) = differing_digests number kept found
stale_head number _ _ = None

-- the first of functions, of which the first has this number, that differs
abbrev pub stale_among : ℕ → List (Option (List ℕ)) → List (List ℕ) → Option StaleAt
stale_among number (kept ∷ rest) (found ∷ digests) = option_or (differing_digests number kept found) (stale_among (number + 1) rest digests)
stale_among number _ _ = None

-- ## Texts

-- a text is that of a certificate with these claims, which keeps these digests, and whose section of ranks, if it has one, is this
-- evidence
pub record IsReadAs (text : List ℕ) (claims : Cert) (kept : List (Option Digest)) (evidence : Option DiffEvidence) : Type 0 where
  pub statement : Statement
  pub good : IsStatement statement
  pub exact : text ≡ statement_text statement
  pub claims_are : claims_of claims ≡ claims_in statement
  pub kept_are : map kept_of kept ≡ map (λ e. e.digest) statement.entries
  pub ranks_are : AreRanks (diff_lines statement) (option_map ranks_in evidence)

-- what is read of a text
abbrev pub IsReadFrom : List ℕ → Text → Type 0
IsReadFrom text (Bad line) = IsBad text line
IsReadFrom text (Whole claims kept evidence) = IsReadAs text claims kept evidence

-- all of a text was read, and these are the claims on functions, and the digests that it keeps of them
pub record IsWhole (p : Progress) (funcs : List FuncClaim) (kept : List (Option Digest)) : Type 0 where
  pub ending : Ending
  pub over : p.ending ≡ Some ending
  pub good : IsStatement (statement_from p.given ending)
  pub exact : p.text ≡ statement_text (statement_from p.given ending)
  pub claims : map func_of funcs ≡ map (λ e. e.func) p.given
  pub kept_are : map kept_of kept ≡ map (λ e. e.digest) p.given
