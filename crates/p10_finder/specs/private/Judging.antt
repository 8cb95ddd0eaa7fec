-- The loops without a bound in a program, and the violations that they are.
use Rattle.std.specs.Prelude.{ℕ, suc, List, [], ◌∷◌, ◌++◌}
use Rattle.p10_base.specs.declared.span.Span.{Span}
use Rattle.p10_base.specs.declared.report.Violation.{Violation}
use Rattle.p10_core.specs.Typed.{PlainFunction, PlainProgram}
use Rattle.p10_cert.specs.Claims.{Claims}
use Rattle.p10_finder.specs.Functions.{loops_of}
use Rattle.p10_finder.specs.Answers.{bound_row}
use Rattle.p10_approach.specs.Offers.{Offers}

-- the keywords of the loops without a bound in functions from number n on
abbrev pub lacking_from : Offers → PlainProgram → Claims → ℕ → List PlainFunction → List Span
lacking_from o p c n [] = []
lacking_from o p c n (f ∷ rest) = (loops_of o p c n f).unbounded ++ lacking_from o p c (suc n) rest

-- the violation of row 2.1 at a loop's keyword
abbrev pub unbounded_at : Span → Violation
unbounded_at span = record { sub = bound_row; span = span }
