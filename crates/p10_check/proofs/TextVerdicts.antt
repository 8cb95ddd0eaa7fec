-- Verdicts on texts.
use Rattle.std.proofs.Common.{◌≡◌, ◌∙◌, ℕ, ◌+◌, List, [], ◌∷◌, map, Option, Some, None, sym, ap, refl, subst}
use Rattle.p10_base.specs.declared.digest.Digest.{Digest}
use Rattle.p10_base.specs.declared.span.Span.{Span}
use Rattle.p10_core.specs.Typed.{PlainProgram}
use Rattle.p10_cert.specs.Claims.{Func, Claims}
use Rattle.p10_cert.specs.Sealed.{bytes_of}
use Rattle.p10_cert.specs.Statements.{Entry, Statement, IsStatement, statement_text, plain_entry, plain_statement}
use Rattle.p10_cert.specs.WrongLines.{IsFirstWrong}
use Rattle.p10_cert.proofs.TextLaws.{text_tells_statement, no_wrong_statement, one_wrong_line_of_both}
use Rattle.p10_cert.proofs.VersionLaws.{plain_good, plain_text}
use Rattle.p10_check.specs.declared.verdict.Verdict.{Verdict}
use Rattle.p10_check.specs.declared.verdict.Verdict.TheVariants as plain
use Rattle.p10_check.specs.declared.verdict.TextVerdict.{TextVerdict}
use Rattle.p10_check.specs.declared.verdict.TextVerdict.TheVariants.{BadLine, Accepted, Refused, Stale}
use Rattle.p10_check.specs.Conditions.{IsVerdict}
use Rattle.p10_check.specs.Passes.{Standing}
use Rattle.p10_check.specs.Texts.{funcs_in, claims_in, StaleAt, first_stale, text_verdict, TellsStale, JudgesBy, IsStatementVerdict, TextHasVerdict, IsTextVerdict, SaySame, OneTextVerdict, StaleDigestsDiffer, TextIsChecked, PlainTextIsChecked}
use Rattle.p10_check.proofs.Holding.{one_verdict}
use Rattle.p10_check.proofs.Stales.{finds_first_stale}

-- ## Texts of certificates

-- no line of one is wrong
pub never_wrong : (text : List ℕ) (line : ℕ) (s : Statement) → IsStatement s → text ≡ statement_text s → IsFirstWrong text line → ⊥
never_wrong text line s good exact wrong = no_wrong_statement s line good (subst (λ t. IsFirstWrong t line) exact wrong)

-- ## A verdict on what a certificate says

not_bad : (v : Verdict) (line : ℕ) → BadLine line ≡ text_verdict v → ⊥
not_bad (plain.Accepted total) line is = cc
not_bad (plain.Refused k at) line is = cc

never_bad : (stands : Standing) (p : PlainProgram) (c : Claims) (o : Option StaleAt) (line : ℕ) → JudgesBy stands p c o (BadLine line) → ⊥
never_bad stands p c None line (v, right, is) = not_bad v line is
never_bad stands p c (Some stale) line is = is

pub has_verdict : (stands : Standing) (p : PlainProgram) (digests : List (List ℕ)) (text : List ℕ) (s : Statement) (verdict : TextVerdict) → IsStatement s → text ≡ statement_text s → IsStatementVerdict stands p digests s verdict
    → IsTextVerdict stands p digests text verdict
has_verdict stands p digests text s (BadLine line) good exact is = absurd (never_bad stands p (claims_in s) (first_stale 0 s.entries digests) line is)
has_verdict stands p digests text s (Accepted total) good exact is = record { statement = s; good = good; exact = exact; is = is }
has_verdict stands p digests text s (Refused k at) good exact is = record { statement = s; good = good; exact = exact; is = is }
has_verdict stands p digests text s (Stale at kept found) good exact is = record { statement = s; good = good; exact = exact; is = is }

-- ## One verdict

same_said : (v : Verdict) (b : TextVerdict) → text_verdict v ≡ b → SaySame (text_verdict v) b
same_said (plain.Accepted total) b is = is
same_said (plain.Refused k at) b is = is

same_stale : (p : PlainProgram) (stale : StaleAt) (a b : TextVerdict) → TellsStale p stale a → TellsStale p stale b → SaySame a b
same_stale p stale (BadLine line) b one other = absurd one
same_stale p stale (Accepted total) b one other = absurd one
same_stale p stale (Refused k at) b one other = absurd one
same_stale p stale (Stale at kept found) (BadLine line) one other = absurd other
same_stale p stale (Stale at kept found) (Accepted total) one other = absurd other
same_stale p stale (Stale at kept found) (Refused k there) one other = absurd other
same_stale p stale (Stale at kept found) (Stale there k f) one other = (one.0 ∙ sym other.0, one.1 ∙ sym other.1, one.2 ∙ sym other.2)

same_judged : (stands : Standing) (p : PlainProgram) (c : Claims) (o : Option StaleAt) (a b : TextVerdict) → JudgesBy stands p c o a → JudgesBy stands p c o b → SaySame a b
same_judged stands p c (Some stale) a b one other = same_stale p stale a b one other
same_judged stands p c None a b (v, right, is) (w, correct, are) =
    let same : text_verdict v ≡ b = ap text_verdict (one_verdict stands p c v w right correct) ∙ sym are in
    subst (λ x. SaySame x b) (sym is) (same_said v b same)

both_have : (stands : Standing) (p : PlainProgram) (digests : List (List ℕ)) (text : List ℕ) (a b : TextVerdict) → TextHasVerdict stands p digests text a → TextHasVerdict stands p digests text b → SaySame a b
both_have stands p digests text a b one other =
    let same : other.statement ≡ one.statement = text_tells_statement other.statement one.statement other.good one.good (sym other.exact ∙ one.exact) in
    same_judged stands p (claims_in one.statement) (first_stale 0 one.statement.entries digests) a b one.is (subst (λ s. IsStatementVerdict stands p digests s b) same other.is)

has_one : (stands : Standing) (p : PlainProgram) (digests : List (List ℕ)) (text : List ℕ) (a b : TextVerdict) → TextHasVerdict stands p digests text a → IsTextVerdict stands p digests text b → SaySame a b
has_one stands p digests text a (BadLine line) one other = absurd (never_wrong text line one.statement one.good one.exact other)
has_one stands p digests text a (Accepted total) one other = both_have stands p digests text a (Accepted total) one other
has_one stands p digests text a (Refused k at) one other = both_have stands p digests text a (Refused k at) one other
has_one stands p digests text a (Stale at kept found) one other = both_have stands p digests text a (Stale at kept found) one other

bad_one : (stands : Standing) (p : PlainProgram) (digests : List (List ℕ)) (text : List ℕ) (line : ℕ) (b : TextVerdict) → IsFirstWrong text line → IsTextVerdict stands p digests text b → SaySame (BadLine line) b
bad_one stands p digests text line (BadLine other) one also = ap BadLine (one_wrong_line_of_both text line other one also)
bad_one stands p digests text line (Accepted total) one also = absurd (never_wrong text line also.statement also.good also.exact one)
bad_one stands p digests text line (Refused k at) one also = absurd (never_wrong text line also.statement also.good also.exact one)
bad_one stands p digests text line (Stale at kept found) one also = absurd (never_wrong text line also.statement also.good also.exact one)

pub one_text_verdict : OneTextVerdict
one_text_verdict stands p digests text (BadLine line) b one other = bad_one stands p digests text line b one other
one_text_verdict stands p digests text (Accepted total) b one other = has_one stands p digests text (Accepted total) b one other
one_text_verdict stands p digests text (Refused k at) b one other = has_one stands p digests text (Refused k at) b one other
one_text_verdict stands p digests text (Stale at kept found) b one other = has_one stands p digests text (Stale at kept found) b one other

-- ## Digests that differ

not_stale : (v : Verdict) (at : Span) (kept found : Digest) → Stale at kept found ≡ text_verdict v → ⊥
not_stale (plain.Accepted total) at kept found is = cc
not_stale (plain.Refused k there) at kept found is = cc

told_differ : (stands : Standing) (p : PlainProgram) (c : Claims) (entries : List Entry) (digests : List (List ℕ)) (at : Span) (kept found : Digest) (o : Option StaleAt) → first_stale 0 entries digests ≡ o
    → JudgesBy stands p c o (Stale at kept found) → bytes_of kept ≡ bytes_of found → ⊥
told_differ stands p c entries digests at kept found None first (v, right, is) same = not_stale v at kept found is
told_differ stands p c entries digests at kept found (Some stale) first tells same = ((finds_first_stale entries digests).0 stale first).differ (sym tells.1 ∙ same ∙ tells.2)

pub stale_digests_differ : StaleDigestsDiffer
stale_digests_differ stands p digests text at kept found has same =
    told_differ stands p (claims_in has.statement) has.statement.entries digests at kept found (first_stale 0 has.statement.entries digests) refl has.is same

-- ## The verdict on claims

same_as : (v : Verdict) (a : TextVerdict) → SaySame a (text_verdict v) → a ≡ text_verdict v
same_as (plain.Accepted total) a same = plain_same a same
  where
    plain_same : (a : TextVerdict) → SaySame a (Accepted total) → a ≡ Accepted total
    plain_same (BadLine line) same = same
    plain_same (Accepted t) same = same
    plain_same (Refused k at) same = same
    plain_same (Stale at kept found) same = same
same_as (plain.Refused k at) a same = plain_same a same
  where
    plain_same : (a : TextVerdict) → SaySame a (Refused k at) → a ≡ Refused k at
    plain_same (BadLine line) same = same
    plain_same (Accepted t) same = same
    plain_same (Refused j there) same = same
    plain_same (Stale there kept found) same = same

pub text_is_checked : TextIsChecked
text_is_checked stands p digests s v verdict good fresh right said =
    let judged : IsStatementVerdict stands p digests s (text_verdict v) = subst (λ o. JudgesBy stands p (claims_in s) o (text_verdict v)) (sym fresh) (v, right, refl) in
    same_as v verdict (one_text_verdict stands p digests (statement_text s) verdict (text_verdict v) said (has_verdict stands p digests (statement_text s) s (text_verdict v) good refl judged))

pub plain_fresh : (n : ℕ) (funcs : List Func) (digests : List (List ℕ)) → first_stale n (map plain_entry funcs) digests ≡ None
plain_fresh n [] digests = refl
plain_fresh n (f ∷ funcs) [] = refl
plain_fresh n (f ∷ funcs) (found ∷ digests) = plain_fresh (n + 1) funcs digests

funcs_back : (funcs : List Func) → funcs_in (map plain_entry funcs) ≡ funcs
funcs_back [] = refl
funcs_back (f ∷ funcs) = ap (λ fs. f ∷ fs) (funcs_back funcs)

pub claims_back : (c : Claims) → claims_in (plain_statement c) ≡ c
claims_back c = λ i. record { funcs = funcs_back c.funcs i; total = c.total }

pub plain_text_is_checked : PlainTextIsChecked
plain_text_is_checked stands p digests c v verdict good right said =
    text_is_checked stands p digests (plain_statement c) v verdict (plain_good c good) (plain_fresh 0 c.funcs digests)
    (subst (λ d. IsVerdict stands p d v) (sym (claims_back c)) right) (subst (λ t. IsTextVerdict stands p digests t verdict) (sym (plain_text c)) said)
