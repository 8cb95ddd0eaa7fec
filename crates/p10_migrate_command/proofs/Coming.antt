-- What comes of the bytes of a certificate for a program with its digests.
use Rattle.std.proofs.Common.{◌≡◌, ◌≤◌, ℕ, List, length, map, refl, sym, ap, ◌∙◌, subst, Option, Some, None, Result, Ok, Err, IfOk}
use Rattle.std.specs.Prelude.{option_map}
use Rattle.p10_base.specs.declared.digest.Digest.{Digest}
use Rattle.p10_base.specs.declared.digest.Digests.{Digests}
use Rattle.p10_base.specs.declared.report.TheConstants.Limit.{MOST_CERTIFICATE_BYTES}
use Rattle.p10_base.specs.declared.span.Span.{Span}
use Rattle.p10_cert.specs.declared.claims.Cert.{Cert}
use Rattle.p10_cert.specs.Claims.{Claims, claims_of, func_of}
use Rattle.p10_cert.specs.Sealed.{bytes_of}
use Rattle.p10_check.specs.Places.{name_at}
use Rattle.p10_core.specs.Typed.{PlainProgram}
use Rattle.p10_fit.specs.Fits.{unfit}
use Rattle.p10_fit.specs.Laws.{FitSpeaks}
use Rattle.p10_front.specs.Digests.{PlainDigests}
use Rattle.std.proofs.lemmas.List.{length-map}
use Rattle.p10_migrate_command.specs.declared.migration.Migration.{Migration}
use Rattle.p10_diff_evidence.specs.declared.evidence.DiffEvidence.{DiffEvidence}
use Rattle.p10_diff_evidence.specs.Reading.{ranks_in}
use Rattle.p10_judge.specs.declared.reading.Text.{Text}
use Rattle.p10_judge.specs.declared.reading.Text.TheVariants.{Bad, Whole}
use Rattle.p10_judge.specs.declared.stale.Stale.{Stale as CodeStale}
use Rattle.p10_migrate_command.specs.Migrating.{Migrated, Migrates, BadCertificate, Stale, Unfit, fitted, migrated_by, migrated_of, bad, certificate}
use Rattle.p10_check.specs.Texts.{StaleAt, claims_in}
use Rattle.p10_judge.specs.Kept.{IsReadFrom, IsReadAs, kept_of, stale_among, stale_of}
use Rattle.p10_judge.proofs.Differing.{among_entries}

module _ (p : PlainProgram) (digests : PlainDigests) where
  -- ## By what is read of them

  pub bad_comes : (bytes : List ℕ) (t : Text) (line : ℕ) → length bytes ≤ MOST_CERTIFICATE_BYTES → t ≡ Bad line → IsReadFrom bytes t → Migrates p digests bytes (BadCertificate line)
  bad_comes bytes t line short is read = bad line short (subst (IsReadFrom bytes) is read) refl

  of_whole : (bytes : List ℕ) (claims : Cert) (kept : List (Option Digest)) (e : Option DiffEvidence) (to : Migrated) → length bytes ≤ MOST_CERTIFICATE_BYTES → IsReadAs bytes claims kept e → to ≡ migrated_by p digests (claims_of claims) (stale_among 0 (map kept_of kept) digests.funcs)
      → Migrates p digests bytes to
  of_whole bytes claims kept e to short read is =
      certificate read.statement (record { short = short; good = read.good; exact = read.exact; ranked = record { ranks = option_map ranks_in e; are = read.ranks_are } })
      (is ∙ (λ i. migrated_by p digests (read.claims_are i) (stale_among 0 (read.kept_are i) digests.funcs)) ∙ ap (migrated_by p digests (claims_in read.statement)) (sym (among_entries 0 read.statement.entries digests.funcs)))

  pub whole_comes : {E : Type 0} (bytes : List ℕ) (t : Text) (claims : Cert) (kept slice : List (Option Digest)) (e : Option DiffEvidence) (r : Result Migration E) → length bytes ≤ MOST_CERTIFICATE_BYTES → t ≡ Whole claims kept e → IsReadFrom bytes t → slice ≡ kept
      → IfOk r (λ m. migrated_of m ≡ migrated_by p digests (claims_of claims) (stale_among 0 (map kept_of slice) digests.funcs)) → IfOk r (λ m. Migrates p digests bytes (migrated_of m))
  whole_comes bytes t claims kept slice e (Err fault) short is read same comes = tt
  whole_comes bytes t claims kept slice e (Ok m) short is read same comes =
      of_whole bytes claims kept e (migrated_of m) short (subst (IsReadFrom bytes) is read) (comes ∙ ap (λ (k : List (Option Digest)). migrated_by p digests (claims_of claims) (stale_among 0 (map kept_of k) digests.funcs)) same)

  -- ## By the words

  pub stale_comes : (c : Claims) (o : Option StaleAt) (found : Option CodeStale) (stale : CodeStale) (at : Span) → option_map stale_of found ≡ o → found ≡ Some stale → at ≡ name_at p stale.number
      → Stale at (bytes_of stale.kept) (bytes_of stale.found) ≡ migrated_by p digests c o
  stale_comes c o found stale at told is place =
      (λ i. Stale (place i) (bytes_of stale.kept) (bytes_of stale.found)) ∙ ap (migrated_by p digests c) (ap (option_map stale_of) (sym is) ∙ told)

  pub fresh_comes : {E : Type 0} (c : Claims) (o : Option StaleAt) (found : Option CodeStale) (r : Result Migration E) → option_map stale_of found ≡ o → found ≡ None → IfOk r (λ m. migrated_of m ≡ fitted p digests c (unfit p c))
      → IfOk r (λ m. migrated_of m ≡ migrated_by p digests c o)
  fresh_comes c o found (Err e) told is comes = tt
  fresh_comes c o found (Ok m) told is comes = comes ∙ ap (migrated_by p digests c) (ap (option_map stale_of) (sym is) ∙ told)

  -- ## By the claims

  pub unfit_comes : (c : Claims) (o : Option ℕ) (number : ℕ) (at : Span) → o ≡ unfit p c → o ≡ Some number → at ≡ name_at p number → Unfit at ≡ fitted p digests c (unfit p c)
  unfit_comes c o number at told is place = ap Unfit place ∙ ap (fitted p digests c) (sym is ∙ told)

  pub fit_comes : {E : Type 0} (c : Claims) (o : Option ℕ) (r : Result Migration E) → o ≡ unfit p c → o ≡ None → IfOk r (λ m. migrated_of m ≡ fitted p digests c None) → IfOk r (λ m. migrated_of m ≡ fitted p digests c (unfit p c))
  fit_comes c o (Err e) told is comes = tt
  fit_comes c o (Ok m) told is comes = comes ∙ ap (fitted p digests c) (sym is ∙ told)

-- claims that speak of a program are on as many functions
pub one_each : FitSpeaks → (p : PlainProgram) (claims : Cert) (found : Digests) (o : Option ℕ) → length found.funcs ≡ length p.functions → o ≡ unfit p (claims_of claims) → o ≡ None → length found.funcs ≡ length claims.funcs
one_each speaks p claims found o each told is = each ∙ sym (speaks p (claims_of claims) (sym told ∙ is)).count ∙ length-map claims.funcs func_of
