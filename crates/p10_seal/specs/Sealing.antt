-- The certificate of version 2 of claims on a program and of the digests of its words.
use Rattle.std.specs.Prelude.{ℕ, nat_le, if◌then◌else◌, List, [], ◌∷◌, length, Option, Some, None}
use Rattle.p10_base.specs.declared.report.TheConstants.Limit.{MOST_CERTIFICATE_BYTES}
use Rattle.p10_base.specs.Words.{Text}
use Rattle.p10_cert.specs.Claims.{Func, Claims}
use Rattle.p10_cert.specs.Statements.{Entry, Section, Statement, statement_text}
use Rattle.p10_front.specs.Digests.{PlainDigests}

-- claims on functions, each with the digest at its place
abbrev pub sealed_entries : List Func → List (List ℕ) → List Entry
sealed_entries (f ∷ functions) (digest ∷ digests) = record { func = f; digest = Some digest } ∷ sealed_entries functions digests
sealed_entries _ _ = []

-- what the certificate with sections says
abbrev pub sealed_with : Claims → PlainDigests → List Section → Statement
sealed_with c digests sections = record {
  entries = sealed_entries c.funcs digests.funcs;
  ending = record { outside = Some digests.outside; total = c.total; sections = sections };
}

-- the same without sections: these claims and digests alone
abbrev pub sealed : Claims → PlainDigests → Statement
sealed c digests = sealed_with c digests []

-- its text
abbrev pub sealed_text : Claims → PlainDigests → Text
sealed_text c digests = statement_text (sealed c digests)

-- a text, unless it is longer than a certificate may be (M10)
abbrev pub within_limit : Text → Option Text
within_limit text = if nat_le (length text) MOST_CERTIFICATE_BYTES then Some text else None
