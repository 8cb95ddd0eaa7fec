-- The certificate of a program, in the version that is asked for.
use Rattle.std.proofs.Common.{◌≡◌, ◌≢◌, ℕ, Bool, List, length, subst, sym, ap, ◌∙◌, Option, Some, None, IfSome, IsSomeAnd, Result, Ok, Err, IfOk}
use Rattle.std.proofs.lemmas.List.{length-map}
use Rattle.p10_base.specs.declared.digest.Digests.{Digests}
use Rattle.p10_base.specs.Words.{Text}
use Rattle.p10_core.specs.declared.program.Program.{Program}
use Rattle.p10_core.specs.Views.{plain_program}
use Rattle.p10_cert.specs.declared.claims.Cert.{Cert}
use Rattle.p10_cert.specs.Claims.{func_of, claims_of}
use Rattle.p10_cert.specs.Statements.{Section, statement_text}
use Rattle.p10_diff.specs.Evidence.{Rank}
use Rattle.p10_diff_evidence.specs.Placing.{rank_sections}
use Rattle.p10_approach.specs.Offers.{offers_if}
use Rattle.p10_front.specs.Digests.{PlainDigests, plain_digests, reading_digests}
use Rattle.p10_front.specs.Readings.{PlainReading}
use Rattle.p10_finder.specs.declared.found.FinderFault.TheVariants as finder
use Rattle.p10_finder.specs.Answers.{Certified, IsDerived}
use Rattle.p10_finder.proofs.OneClaims.{claims_have_results}
use Rattle.p10_seal.specs.Sealing.{sealed_with, within_limit}
use Rattle.p10_derive_command.specs.declared.derivation.Derivation.TheVariants.{Certificate, Sealed}
use Rattle.p10_derive_command.specs.Ranks.{ranks_if}
use Rattle.p10_derive_command.specs.private.Telling.{Comes, IsSealed}

-- these claims are derived of the program, if there is one
abbrev AreDerived : Option Program → Bool → Cert → Type 0
AreDerived o diff claims = IsSomeAnd o (λ p. IsDerived (offers_if diff) (plain_program p) (Certified (claims_of claims)))

-- there are as many claims as functions of the program
abbrev AreEach : Option Program → Cert → Type 0
AreEach o claims = IsSomeAnd o (λ p. length claims.funcs ≡ length (plain_program p).functions)

pub each_derived : (o : Option Program) (diff : Bool) (claims : Cert) → AreDerived o diff claims → AreEach o claims
each_derived None diff claims are = absurd are
each_derived (Some p) diff claims are = sym (length-map claims.funcs func_of) ∙ (claims_have_results (offers_if diff) (plain_program p) (claims_of claims) are.claims.claims).each

-- there are as many digests as functions of the program, if there is one
abbrev OneEach : Option Program → Digests → Type 0
OneEach o found = IfSome o (λ p. length found.funcs ≡ length (plain_program p).functions)

-- and as many as claims
pub one_each : (o : Option Program) (claims : Cert) (found : Digests) → AreEach o claims → OneEach o found → length found.funcs ≡ length claims.funcs
one_each None claims found are each = absurd are
one_each (Some p) claims found are each = each ∙ sym are

-- the text of version 2
pub sealed_by : {E : Type 0} (o : Option Program) (r : PlainReading) (claims : Cert) (found : Digests) (ranks : List Rank) (sections : List Section) (text : Result (Option Text) E) → AreEach o claims → plain_digests found ≡ reading_digests r → OneEach o found
    → sections ≡ rank_sections ranks → IfOk text (λ t. t ≡ within_limit (statement_text (sealed_with (claims_of claims) (plain_digests found) sections))) → IfOk text (λ t. IsSomeAnd o (λ p. IsSealed r (plain_program p) (claims_of claims) ranks t))
sealed_by o r claims found ranks sections (Err e) are digests each same is = tt
sealed_by None r claims found ranks sections (Ok t) are digests each same is = absurd are
sealed_by (Some p) r claims found ranks sections (Ok t) are digests each same is = record {
  each = ap (λ (d : PlainDigests). length d.funcs) (sym digests) ∙ length-map found.funcs (λ d. d.0) ∙ each;
  is = is ∙ (λ i. within_limit (statement_text (sealed_with (claims_of claims) (digests i) (same i))));
}

-- the same ranks are sealed
pub sealed_alike : (o : Option Program) (r : PlainReading) (claims : Cert) (ranks others : List Rank) (text : Option Text) → ranks ≡ others → IsSomeAnd o (λ p. IsSealed r (plain_program p) (claims_of claims) ranks text)
    → IsSomeAnd o (λ p. IsSealed r (plain_program p) (claims_of claims) others text)
sealed_alike o r claims ranks others text same sealed = subst (λ (rs : List Rank). IsSomeAnd o (λ p. IsSealed r (plain_program p) (claims_of claims) rs text)) same sealed

pub sealed_comes : (o : Option Program) (r : PlainReading) (version : ℕ) (diff : Bool) (claims : Cert) (ranks : List Rank) (text : Option Text) → version ≡ 2 → AreDerived o diff claims
    → IsSomeAnd o (λ p. ranks ≡ ranks_if diff (plain_program p) (claims_of claims)) → IsSomeAnd o (λ p. IsSealed r (plain_program p) (claims_of claims) ranks text)
    → IsSomeAnd o (λ p. Comes r (plain_program p) version diff (Ok (Sealed text)))
sealed_comes None r version diff claims ranks text two are same sealed = absurd are
sealed_comes (Some p) r version diff claims ranks text two are same sealed =
    (two, record { claims = claims_of claims; derived = are; sealed = subst (λ (rs : List Rank). IsSealed r (plain_program p) (claims_of claims) rs text) same sealed })

-- the claims alone
pub alone_comes : (o : Option Program) (r : PlainReading) (version : ℕ) (diff : Bool) (claims : Cert) → version ≢ 2 → AreDerived o diff claims → IsSomeAnd o (λ p. Comes r (plain_program p) version diff (Ok (Certificate claims)))
alone_comes None r version diff claims other are = absurd are
alone_comes (Some p) r version diff claims other are = (other, are)

-- memory may always be out
pub memory_comes : (o : Option Program) (r : PlainReading) (version : ℕ) (diff : Bool) (claims : Cert) → AreDerived o diff claims → IsSomeAnd o (λ p. Comes r (plain_program p) version diff (Err finder.Memory))
memory_comes None r version diff claims are = absurd are
memory_comes (Some p) r version diff claims are = tt
