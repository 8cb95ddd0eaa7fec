-- An edit of a program, and the functions that it touches: what a certificate from before it says of the others still holds.
use Rattle.std.specs.Prelude.{ℕ, nat_eq, bytes_eq, Bool, true, false, not, ◌&&◌, ◌||◌, List, [], ◌∷◌, length, Option, Some, None, slice_get}
use Rattle.std.specs.List.{filter, list_any}
use Rattle.p10_base.specs.declared.digest.Digests.{Digests}
use Rattle.p10_core.specs.Typed.{PlainProgram}
use Rattle.p10_core.specs.WholePrograms.{numbers_from}
use Rattle.p10_cert.specs.declared.sealed.Cert2.{Cert2}
use Rattle.p10_cert.specs.Sealed.{bytes_of, statement_of}
use Rattle.p10_cert.specs.Statements.{Entry, Section, lines_named, Statement}
use Rattle.p10_calls.specs.declared.sites.CallSite.{CallSite}
use Rattle.p10_calls.specs.CallSites.{call_sites}
use Rattle.p10_check.specs.Texts.{digests_of}
use Rattle.p10_incr.specs.Alike.{all_alike, same_func}

-- a program after an edit by the digests of its words, those of its functions and that of all outside their bodies, and what certificates
-- from before and after the edit say
pub record Edit : Type 0 where
  pub digests : List (List ℕ)
  pub outside : List ℕ
  pub old : Statement
  pub new : Statement

-- the code's edit
abbrev pub edit_of : Digests → Cert2 → Cert2 → Edit
edit_of found old new = record { digests = digests_of found; outside = bytes_of found.outside; old = statement_of old; new = statement_of new }

-- ## What touches all functions

-- whether a digest is kept, and is this one
abbrev pub same_digest : Option (List ℕ) → List ℕ → Bool
same_digest None found = false
same_digest (Some kept) found = bytes_eq kept found

-- whether two sections have the same lines, or both are lacking
abbrev pub same_lines : Option (List (List ℕ)) → Option (List (List ℕ)) → Bool
same_lines None None = true
same_lines (Some these) (Some others) = all_alike bytes_eq these others
same_lines these others = false

-- the name of the section with evidence of differences, `diff`
abbrev pub evidence_name : List ℕ
evidence_name = 100 ∷ 105 ∷ 102 ∷ 102 ∷ []

-- whether two certificates have the same evidence
abbrev pub same_evidence : List Section → List Section → Bool
same_evidence these others = same_lines (lines_named evidence_name these) (lines_named evidence_name others)

-- whether every function is touched: the words outside of bodies aren't those that both certificates speak of, or these have other evidence
abbrev pub touches_all : Edit → Bool
touches_all e = not ((same_digest e.old.ending.outside e.outside && same_digest e.new.ending.outside e.outside) && same_evidence e.old.ending.sections e.new.ending.sections)

-- ## What touches one function

-- whether what a certificate says of a function is what another one says of it, and both speak of its words: of one that a certificate
-- lacks it isn't
abbrev pub is_kept : Option Entry → Option Entry → Option (List ℕ) → Bool
is_kept (Some old) (Some new) (Some found) = same_digest old.digest found && same_func old.func new.func
is_kept old new found = false

-- whether the function with a number is touched
abbrev pub is_touched : Edit → ℕ → Bool
is_touched e n = touches_all e || not (is_kept (slice_get e.old.entries n) (slice_get e.new.entries n) (slice_get e.digests n))

-- whether one of some calls is of a touched function, and stands in the function with a number
abbrev pub calls_touched : Edit → ℕ → List CallSite → Bool
calls_touched e n sites = list_any (λ s. nat_eq s.caller n && is_touched e s.call.function) sites

-- whether the function with a number is touched, or calls one that is
abbrev pub is_dirty : PlainProgram → Edit → ℕ → Bool
is_dirty p e n = is_touched e n || calls_touched e n (call_sites p)

-- the numbers of all these functions, in program order
abbrev pub dirty : PlainProgram → Edit → List ℕ
dirty p e = filter (is_dirty p e) (numbers_from 0 (length p.functions))
