-- The verdict on the text of a certificate, of either version: first whether it speaks of these words, then its conditions.
use Rattle.std.specs.Prelude.{◌≡◌, ℕ, ◌+◌, ◌<◌, bytes_eq, if◌then◌else◌, List, [], ◌∷◌, map, Option, Some, None, slice_get}
use Rattle.std.specs.Option.{option_or}
use Rattle.p10_base.specs.declared.digest.Digest.{Digest}
use Rattle.p10_base.specs.declared.digest.Digests.{Digests}
use Rattle.p10_base.specs.declared.span.Span.{Span}
use Rattle.p10_core.specs.Typed.{PlainProgram}
use Rattle.p10_cert.specs.Claims.{Func, Claims}
use Rattle.p10_cert.specs.Certificate.{IsCertificate, certificate_text}
use Rattle.p10_cert.specs.Sealed.{bytes_of}
use Rattle.p10_cert.specs.Statements.{Entry, Statement, IsStatement, statement_text}
use Rattle.p10_cert.specs.WrongLines.{IsFirstWrong}
use Rattle.p10_check.specs.declared.verdict.Verdict.{Verdict}
use Rattle.p10_check.specs.declared.verdict.Verdict.TheVariants as plain
use Rattle.p10_check.specs.declared.verdict.TextVerdict.{TextVerdict}
use Rattle.p10_check.specs.declared.verdict.TextVerdict.TheVariants.{BadLine, Accepted, Refused, Stale}
use Rattle.p10_check.specs.Conditions.{IsVerdict}
use Rattle.p10_check.specs.Passes.{Standing}
use Rattle.p10_check.specs.Places.{name_at}

-- what is claimed of functions
abbrev pub funcs_in : List Entry → List Func
funcs_in entries = map (λ e. e.func) entries

-- what a certificate claims, its digests and sections left aside
abbrev pub claims_in : Statement → Claims
claims_in s = record { funcs = funcs_in s.entries; total = s.ending.total }

-- the digests of a program's functions
abbrev pub digests_of : Digests → List (List ℕ)
digests_of found = map bytes_of found.funcs

-- ## K0: a certificate speaks of these words

-- a function whose words aren't those that a certificate speaks of: its number, the digest that is kept of it, and its own
pub record StaleAt : Type 0 where
  pub number : ℕ
  pub kept : List ℕ
  pub found : List ℕ

-- the digest that is kept of a function and its own, where they differ; version 1 keeps none, so nothing differs from it
abbrev pub differing_digests : ℕ → Option (List ℕ) → List ℕ → Option StaleAt
differing_digests number None found = None
differing_digests number (Some kept) found = if bytes_eq kept found then None else Some (record { number = number; kept = kept; found = found })

-- the first of functions, of which the first has this number, whose digests differ: as many are compared as both lists have
abbrev pub first_stale : ℕ → List Entry → List (List ℕ) → Option StaleAt
first_stale number (e ∷ entries) (found ∷ digests) = option_or (differing_digests number e.digest found) (first_stale (number + 1) entries digests)
first_stale number _ _ = None

-- ## Verdicts

-- a verdict on claims, as one on their text
abbrev pub text_verdict : Verdict → TextVerdict
text_verdict (plain.Accepted total) = Accepted total
text_verdict (plain.Refused k at) = Refused k at

-- a verdict tells the function whose digests differ
abbrev pub TellsStale : PlainProgram → StaleAt → TextVerdict → Type 0
TellsStale p stale (Stale at kept found) = (at ≡ name_at p stale.number) × (bytes_of kept ≡ stale.kept) × (bytes_of found ≡ stale.found)
TellsStale p stale _ = ⊥

-- what is the verdict on claims, by the first function whose digests differ: K0 comes before the other conditions
abbrev pub JudgesBy : Standing → PlainProgram → Claims → Option StaleAt → TextVerdict → Type 0
JudgesBy stands p c (Some stale) verdict = TellsStale p stale verdict
JudgesBy stands p c None verdict = (v : Verdict) × IsVerdict stands p c v × (verdict ≡ text_verdict v)

-- what is the verdict on a certificate for a program whose functions have these digests
abbrev pub IsStatementVerdict : Standing → PlainProgram → List (List ℕ) → Statement → TextVerdict → Type 0
IsStatementVerdict stands p digests s verdict = JudgesBy stands p (claims_in s) (first_stale 0 s.entries digests) verdict

-- a text is that of a certificate with this verdict
pub record TextHasVerdict (stands : Standing) (p : PlainProgram) (digests : List (List ℕ)) (text : List ℕ) (verdict : TextVerdict) : Type 0 where
  pub statement : Statement
  pub good : IsStatement statement
  pub exact : text ≡ statement_text statement
  pub is : IsStatementVerdict stands p digests statement verdict

-- what is the verdict on a text
abbrev pub IsTextVerdict : Standing → PlainProgram → List (List ℕ) → List ℕ → TextVerdict → Type 0
IsTextVerdict stands p digests text (BadLine line) = IsFirstWrong text line
IsTextVerdict stands p digests text verdict = TextHasVerdict stands p digests text verdict

-- ## Laws

-- two verdicts say the same; of digests, their bytes
abbrev pub SaySame : TextVerdict → TextVerdict → Type 0
SaySame (Stale at kept found) (Stale there k f) = (at ≡ there) × (bytes_of kept ≡ bytes_of k) × (bytes_of found ≡ bytes_of f)
SaySame a b = a ≡ b

-- there is one verdict on a text
abbrev pub OneTextVerdict : Type 0
OneTextVerdict = (stands : Standing) (p : PlainProgram) (digests : List (List ℕ)) (text : List ℕ) (a b : TextVerdict) → IsTextVerdict stands p digests text a → IsTextVerdict stands p digests text b → SaySame a b

-- the digest that is kept of a function, if any, is its own
abbrev pub HasOwnDigest : List Entry → List (List ℕ) → ℕ → Type 0
HasOwnDigest entries digests n = (e : Entry) (kept found : List ℕ) → slice_get entries n ≡ Some e → e.digest ≡ Some kept → slice_get digests n ≡ Some found → kept ≡ found

-- digests of a function that differ, where those of the functions before it don't
pub record IsFirstStale (entries : List Entry) (digests : List (List ℕ)) (stale : StaleAt) : Type 0 where
  pub entry : Entry
  pub there : slice_get entries stale.number ≡ Some entry
  pub kept : entry.digest ≡ Some stale.kept
  pub found : slice_get digests stale.number ≡ Some stale.found
  pub differ : stale.kept ≡ stale.found → ⊥
  pub before : (n : ℕ) → n < stale.number → HasOwnDigest entries digests n

-- what is found is the first function whose digests differ, and nothing is found where none do
abbrev pub FindsFirstStale : Type 0
FindsFirstStale = (entries : List Entry) (digests : List (List ℕ))
    → ((stale : StaleAt) → first_stale 0 entries digests ≡ Some stale → IsFirstStale entries digests stale)
    × (first_stale 0 entries digests ≡ None → (n : ℕ) → HasOwnDigest entries digests n)

-- digests that are told differ
abbrev pub StaleDigestsDiffer : Type 0
StaleDigestsDiffer = (stands : Standing) (p : PlainProgram) (digests : List (List ℕ)) (text : List ℕ) (at : Span) (kept found : Digest)
    → IsTextVerdict stands p digests text (Stale at kept found) → bytes_of kept ≡ bytes_of found → ⊥

-- the verdict on the text of a certificate that speaks of these words is that on its claims
abbrev pub TextIsChecked : Type 0
TextIsChecked = (stands : Standing) (p : PlainProgram) (digests : List (List ℕ)) (s : Statement) (v : Verdict) (verdict : TextVerdict) → IsStatement s → first_stale 0 s.entries digests ≡ None
    → IsVerdict stands p (claims_in s) v → IsTextVerdict stands p digests (statement_text s) verdict → verdict ≡ text_verdict v

-- the verdict on the text of a certificate of version 1 is that on its claims, whatever the digests are
abbrev pub PlainTextIsChecked : Type 0
PlainTextIsChecked = (stands : Standing) (p : PlainProgram) (digests : List (List ℕ)) (c : Claims) (v : Verdict) (verdict : TextVerdict) → IsCertificate c
    → IsVerdict stands p c v → IsTextVerdict stands p digests (certificate_text c) verdict → verdict ≡ text_verdict v
