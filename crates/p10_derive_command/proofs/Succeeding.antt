-- What is said with status 0, and with status 1.
use Rattle.std.proofs.Common.{◌≡◌, ◌≤◌, Bool, true, false, [], length, nat_le, refl, sym, ap, subst, arith, if◌then◌else◌, Some, None}
use Rattle.std.proofs.lemmas.Bool.Decides.{nat_tests}
use Rattle.p10_base.specs.declared.report.TheConstants.Limit.{MOST_CERTIFICATE_BYTES}
use Rattle.p10_base.specs.Words.{Text}
use Rattle.p10_finder.specs.Answers.{Violating, Over, Certified}
use Rattle.p10_command.specs.Saying.{Saying}
use Rattle.p10_command.proofs.Statuses.{said_with, trouble_between, ungathered_between, unread_between}
use Rattle.p10_seal.specs.Saying.{sealed_saying}
use Rattle.p10_seal.specs.Sealing.{within_limit}
use Rattle.p10_derive_command.specs.Answers.{ungathered, unread, derived, sealed, troubled}
use Rattle.p10_derive_command.specs.Laws.{OneIsViolations, SuccessIsACertificate, alone, sealed as sealed_text_is}

-- ## A text of version 2

-- the text is what is said, and within the limit
record IsTold (text : Text) (saying : Saying) : Type 0 where
  on_out : saying.out ≡ text
  on_err : saying.err ≡ []
  short : length text ≤ MOST_CERTIFICATE_BYTES

told_with : (text : Text) (saying : Saying) → saying ≡ sealed_saying (within_limit text) → saying.status ≡ 0 → IsTold text saying
told_with text saying said zero = by_test (nat_le (length text) MOST_CERTIFICATE_BYTES) refl said
  where
    by_test : (b : Bool) → nat_le (length text) MOST_CERTIFICATE_BYTES ≡ b → saying ≡ sealed_saying (if b then Some text else None) → IsTold text saying
    by_test true low said = record { on_out = ap (λ (s : Saying). s.out) said; on_err = ap (λ (s : Saying). s.err) said; short = grind (arith, nat_tests) }
    by_test false high said = absurd (let e = said_with _ _ _ said zero in omega (arith, e))

-- it is no violation
no_violation : (text : Text) (saying : Saying) → saying ≡ sealed_saying (within_limit text) → saying.status ≡ 1 → ⊥
no_violation text saying said one = by_test (nat_le (length text) MOST_CERTIFICATE_BYTES) said
  where
    by_test : (b : Bool) → saying ≡ sealed_saying (if b then Some text else None) → ⊥
    by_test true said = let e = said_with _ _ _ said one in omega (arith, e)
    by_test false said = let e = said_with _ _ _ said one in omega (arith, e)

-- ## All answers

pub success : SuccessIsACertificate
success derive seen saying (ungathered g why fails said) zero = absurd (let e = said_with _ _ _ said zero in omega (arith, (ungathered_between why).least, e))
success derive seen saying (unread g why gathers is said) zero = absurd (let e = said_with _ _ _ said zero in omega (arith, (unread_between why).least, e))
success derive seen saying (troubled why may said) zero = absurd (let e = said_with _ _ _ said zero in omega (arith, (trouble_between why).least, e))
success derive seen saying (derived g p (Violating violations) gathers is asks said) zero = absurd (let e = said_with _ _ _ said zero in omega (arith, e))
success derive seen saying (derived g p (Over limit) gathers is asks said) zero = absurd (let e = said_with _ _ _ said zero in omega (arith, e))
success derive seen saying (derived g p (Certified claims) gathers is asks said) zero = record {
  files = g;
  program = p;
  claims = claims;
  gathers = gathers;
  derived = is;
  on_out = alone asks (ap (λ (s : Saying). s.out) said);
  on_err = ap (λ (s : Saying). s.err) said;
}
success derive seen saying (sealed g p digests claims has is two said) zero =
    let told = told_with _ saying said zero in
    record {
      files = g;
      program = p;
      claims = claims;
      gathers = has.has;
      derived = is;
      on_out = sealed_text_is two digests has told.on_out (subst (λ (t : Text). length t ≤ MOST_CERTIFICATE_BYTES) (sym told.on_out) told.short);
      on_err = told.on_err;
    }

pub one : OneIsViolations
one derive seen saying (ungathered g why fails said) first = absurd (let e = said_with _ _ _ said first in omega (arith, (ungathered_between why).least, e))
one derive seen saying (unread g why gathers is said) first = absurd (let e = said_with _ _ _ said first in omega (arith, (unread_between why).least, e))
one derive seen saying (troubled why may said) first = absurd (let e = said_with _ _ _ said first in omega (arith, (trouble_between why).least, e))
one derive seen saying (derived g p (Certified claims) gathers is asks said) first = absurd (let e = said_with _ _ _ said first in omega (arith, e))
one derive seen saying (derived g p (Over limit) gathers is asks said) first = absurd (let e = said_with _ _ _ said first in omega (arith, e))
one derive seen saying (sealed g p digests claims has is two said) first = absurd (no_violation _ saying said first)
one derive seen saying (derived g p (Violating violations) gathers is asks said) first = record {
  files = g;
  program = p;
  violations = violations;
  gathers = gathers;
  derived = is;
  on_out = ap (λ (s : Saying). s.out) said;
  on_err = ap (λ (s : Saying). s.err) said;
}
