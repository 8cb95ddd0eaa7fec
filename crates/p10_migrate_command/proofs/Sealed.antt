-- What a certificate is migrated to.
use Rattle.std.proofs.Common.{◌≡◌, ℕ, ◌+◌, ◌≤◌, Bool, true, List, [], ◌∷◌, length, map, nat_le, Some, None, refl, sym, ap, ◌∙◌, subst, arith}
use Rattle.std.specs.Prelude.{if◌then◌else◌}
use Rattle.std.specs.List.{AllByRecursion}
use Rattle.std.specs.Option.{option_or}
use Rattle.std.proofs.lemmas.Bool.Decides.{nat_tests}
use Rattle.std.proofs.lemmas.Slice.Eq.{bytes_eq-Decides}
use Rattle.p10_base.specs.declared.report.TheConstants.Limit.{MOST_CERTIFICATE_BYTES}
use Rattle.p10_base.specs.Words.{Text}
use Rattle.p10_cert.specs.Certificate.{IsCertificate, IsFunc}
use Rattle.p10_cert.specs.Claims.{Func, Claims}
use Rattle.p10_cert.specs.Statements.{Entry, Statement, IsEntry, IsStatement}
use Rattle.p10_check.specs.Conditions.{IsVerdict}
use Rattle.p10_fit.specs.Laws.{FitSpeaks}
use Rattle.p10_fit.specs.Fits.{unfit}
use Rattle.p10_core.specs.Typed.{PlainProgram}
use Rattle.p10_front.specs.Digests.{PlainDigests}
use Rattle.p10_seal.specs.Laws.{SealedIsCertificate, SealedSaysTheSame}
use Rattle.p10_seal.specs.Sealing.{sealed, sealed_entries, sealed_text, within_limit}
use Rattle.p10_migrate_command.specs.Migrating.{certificate, fitted, migrated, migrated_by, text_or_limit, Written}
use Rattle.p10_migrate_command.specs.Laws.{MigratedIsAcceptedAlike, MigratedStaysTheSame}
use Rattle.p10_check.specs.Texts.{claims_in, first_stale}

-- ## Claims of a certificate

funcs_good : (sealed : Bool) (es : List Entry) → AllByRecursion (IsEntry sealed) es → AllByRecursion IsFunc (map (λ e. e.func) es)
funcs_good sealed [] all = tt
funcs_good sealed (e ∷ es) all = (all.0.func, funcs_good sealed es all.1)

-- they are a certificate's alone, too
pub claims_good : (s : Statement) → IsStatement s → IsCertificate (claims_in s)
claims_good s good = record { funcs = record { all = funcs_good _ s.entries good.entries.all; one_task = good.entries.one_task }; total = good.ending.total }

-- ## Digests

-- none differs from itself
pub none_stale : (number : ℕ) (fs : List Func) (ds : List (List ℕ)) → first_stale number (sealed_entries fs ds) ds ≡ None
none_stale number [] [] = refl
none_stale number [] (d ∷ ds) = refl
none_stale number (f ∷ fs) [] = refl
none_stale number (f ∷ fs) (d ∷ ds) =
    ap (λ (b : Bool). option_or (if b then None else Some (record { number = number; kept = d; found = d })) (first_stale (number + 1) (sealed_entries fs ds) ds)) ((bytes_eq-Decides d d).1 refl) ∙ none_stale (number + 1) fs ds

-- ## The text

pub within_is : (text : Text) → length text ≤ MOST_CERTIFICATE_BYTES → within_limit text ≡ Some text
within_is text short = let low : nat_le (length text) MOST_CERTIFICATE_BYTES ≡ true = grind (arith, nat_tests) in ap (λ (b : Bool). if b then Some text else None) low

-- ## Laws

same_claims : SealedSaysTheSame → FitSpeaks → (p : PlainProgram) (digests : PlainDigests) (c : Claims) → length digests.funcs ≡ length p.functions → unfit p c ≡ None → claims_in (sealed c digests) ≡ c
same_claims says speaks p digests c each fits = λ i. record { funcs = (says c digests (each ∙ sym (speaks p c fits).count)).funcs i; total = c.total }

pub accepted_alike : SealedSaysTheSame → FitSpeaks → MigratedIsAcceptedAlike
accepted_alike says speaks stands p digests s each fits =
    let claims = same_claims says speaks p digests (claims_in s) each fits in
    record {
      words = none_stale 0 (claims_in s).funcs digests.funcs;
      claims = claims;
      verdicts = λ v. (subst (λ (c : Claims). IsVerdict stands p c v) claims, subst (λ (c : Claims). IsVerdict stands p c v) (sym claims));
    }

pub stays_the_same : SealedIsCertificate → SealedSaysTheSame → FitSpeaks → MigratedStaysTheSame
stays_the_same is_certificate says speaks p digests s each sized good fits short =
    let c : Claims = claims_in s in
    let claims = same_claims says speaks p digests c each fits in
    let words = none_stale 0 c.funcs digests.funcs in
    let to : migrated p digests (sealed c digests) ≡ Written (sealed_text c digests) =
    (λ i. migrated_by p digests (claims i) (words i)) ∙ ap (fitted p digests c) fits ∙ ap text_or_limit (within_is (sealed_text c digests) short) in
    certificate (sealed c digests) (record { short = short; good = is_certificate c digests (claims_good s good) sized; exact = refl; ranked = record { ranks = None; are = tt } }) (sym to)
