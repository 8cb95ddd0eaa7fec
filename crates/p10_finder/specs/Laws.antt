-- What holds of all derivations.
use Rattle.std.specs.Prelude.{◌≡◌}
use Rattle.p10_base.specs.declared.span.Span.{Span}
use Rattle.p10_core.specs.Typed.{PlainProgram}
use Rattle.p10_cert.specs.Claims.{Claims}
use Rattle.p10_approach.specs.Offers.{Offers}
use Rattle.p10_finder.specs.Answers.{Derived, IsDerived, HaveResults, LacksBoundAt}

-- derivation answers one thing of a program, whole or not, whatever is offered
abbrev pub DerivesOnce : Type 0
DerivesOnce = (o : Offers) (p : PlainProgram) (this that : Derived) → IsDerived o p this → IsDerived o p that → this ≡ that

-- the same loops lack a bound under all claims in which of each function the result is claimed that is found
abbrev pub SameLoopsLackBounds : Type 0
SameLoopsLackBounds = (o : Offers) (p : PlainProgram) (these those : Claims) (span : Span) → HaveResults o p these → HaveResults o p those → LacksBoundAt o p these span → LacksBoundAt o p those span
