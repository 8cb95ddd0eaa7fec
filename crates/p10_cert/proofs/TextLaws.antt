-- A text determines its lines, and the lines determine what a certificate says.
use Rattle.std.proofs.Common.{◌≡◌, ℕ, ◌-◌, ◌<◌, ◌≤◌, inl, inr, IfOk, IfErr, Bool, true, List, [], ◌∷◌, ◌++◌, length, Some, Result, Ok, Err, refl, sym, ap, subst, ◌∙◌, arith, append-nil}
use Rattle.std.proofs.lemmas.Bool.{cases_lt}
use Rattle.std.proofs.lemmas.Option.{same_Some}
use Rattle.std.specs.List.{AllByRecursion, flat_map}
use Rattle.p10_cert.specs.declared.claims.Cert.{Cert}
use Rattle.p10_cert.specs.declared.fault.CertFault.{CertFault}
use Rattle.p10_cert.specs.declared.fault.CertFault.TheVariants as fault
use Rattle.p10_cert.specs.declared.sealed.Cert2.{Cert2}
use Rattle.p10_cert.specs.Claims.{Claims, claims_of}
use Rattle.p10_cert.specs.Lines.{Line, line_then, text_of, IsLine}
use Rattle.p10_cert.specs.Certificate.{certificate_text, IsCertificate}
use Rattle.p10_cert.specs.Records.{IsNextRecord}
use Rattle.p10_cert.specs.Reading.{Fits, ReadsAs, ReadsAsSealed}
use Rattle.p10_cert.specs.Sealed.{statement_of}
use Rattle.p10_cert.specs.Statements.{Entry, Statement, first_line, entry_lines, entry_text, statement_lines, statement_text, is_there, IsEntry, AreEntries, IsStatement, plain_statement}
use Rattle.p10_cert.specs.WrongLines.{first_lines, IsFirstWrongLine, IsFirstWrong}
use Rattle.p10_cert.specs.private.States.{Next}
use Rattle.p10_cert.specs.private.States as next
use Rattle.p10_cert.specs.private.Places.{gather}
use Rattle.p10_cert.specs.private.Steps.{step, run}
use Rattle.p10_cert.proofs.Steps.{then_some}
use Rattle.p10_cert.proofs.LineTexts.{text_then, line_then-some, line_then-injective, first_fewer}
use Rattle.p10_cert.proofs.ReadLines.{alike}
use Rattle.p10_cert.proofs.Runs.{entry_good, statement_good, statement_run}
use Rattle.p10_cert.proofs.Built.{IsPlainLine, entry_plain}
use Rattle.p10_cert.proofs.Gathering.{gather_entries}
use Rattle.p10_cert.proofs.StatementLaws.{lines_tell_statement}
use Rattle.p10_cert.proofs.VersionLaws.{version_told, plain_text, plain_good, claims_in, claims_back}

-- ---- lines

-- lines that may come from one state
lines_same : (xs ys : List Line) (s u v : Next) → run s xs ≡ Some u → run s ys ≡ Some v → AllByRecursion IsLine xs → AllByRecursion IsLine ys → text_of xs ≡ text_of ys → xs ≡ ys
unfolding text_of
lines_same [] [] s u v first second left right e = refl
lines_same [] (m ∷ ys) s u v first second left right e = absurd (line_then-some m (text_of ys) right.0 (sym e))
lines_same (l ∷ xs) [] s u v first second left right e = absurd (line_then-some l (text_of xs) left.0 e)
lines_same (l ∷ xs) (m ∷ ys) s u v first second left right e =
    then_some (step s l) (λ a. run a xs) u first (λ a e0 f0. then_some (step s m) (λ b. run b ys) v second (λ b e1 f1.
    let same = line_then-injective l m (text_of xs) (text_of ys) (alike s a b l m e0 e1) left.0 right.0 e in
    let one : b ≡ a = same_Some b a (sym e1 ∙ ap (step s) (sym same.0) ∙ e0) in
    ap (λ l. l ∷ xs) same.0 ∙ ap (λ ls. m ∷ ls) (lines_same xs ys a u v f0 (ap (λ b. run b ys) (sym one) ∙ f1) left.1 right.1 same.1)))

-- lines of which none is one of a section
plain_same : (xs ys : List Line) → AllByRecursion IsLine xs → AllByRecursion IsLine ys → AllByRecursion IsPlainLine xs → AllByRecursion IsPlainLine ys → text_of xs ≡ text_of ys → xs ≡ ys
unfolding text_of
plain_same [] [] left right first second e = refl
plain_same [] (m ∷ ys) left right first second e = absurd (line_then-some m (text_of ys) right.0 (sym e))
plain_same (l ∷ xs) [] left right first second e = absurd (line_then-some l (text_of xs) left.0 e)
plain_same (l ∷ xs) (m ∷ ys) left right first second e =
    let same = line_then-injective l m (text_of xs) (text_of ys) (first.0 ∙ sym second.0) left.0 right.0 e in
    ap (λ l. l ∷ xs) same.0 ∙ ap (λ ls. m ∷ ls) (plain_same xs ys left.1 right.1 first.1 second.1 same.1)

-- ---- certificates

pub text_tells_statement : (s t : Statement) → IsStatement s → IsStatement t → statement_text s ≡ statement_text t → s ≡ t
unfolding statement_text
text_tells_statement s t left right e =
    lines_tell_statement s t.entries t.ending (is_there t.ending.outside)
    (lines_same (statement_lines s) (statement_lines t) next.First next.Over next.Over (statement_run s left) (statement_run t right) (statement_good s left) (statement_good t right) e)

pub text_tells_claims : (b c : Claims) → IsCertificate b → IsCertificate c → certificate_text b ≡ certificate_text c → b ≡ c
text_tells_claims b c left right e =
    let same : plain_statement b ≡ plain_statement c = text_tells_statement (plain_statement b) (plain_statement c) (plain_good b left) (plain_good c right) (plain_text b ∙ e ∙ sym (plain_text c)) in
    sym (claims_back b) ∙ ap claims_in same ∙ claims_back c

pub text_tells_function : (sealed : Bool) (e g : Entry) → IsEntry sealed e → IsEntry sealed g → entry_text e ≡ entry_text g → e ≡ g
unfolding entry_text
text_tells_function sealed e g left right same =
    let lines : entry_lines e ≡ entry_lines g = plain_same (entry_lines e) (entry_lines g) (entry_good sealed e left) (entry_good sealed g right) (entry_plain e) (entry_plain g) same in
    one e g (sym (gather_entries (e ∷ [])) ∙ ap (λ ls. (gather ls).entries) (append-nil (entry_lines e) ∙ lines ∙ sym (append-nil (entry_lines g))) ∙ gather_entries (g ∷ []))
  where
    one : (e g : Entry) → e ∷ [] ≡ g ∷ [] → e ≡ g
    one e g same = cc

-- ---- wrong lines

-- where a text has lines up to one, it has those before that one
earlier : (text other : List ℕ) (m n : ℕ) → first_lines text (n - 1) ≡ first_lines other (n - 1) → m < n → first_lines text m ≡ first_lines other m
earlier text other m n same before =
    let within : m ≤ n - 1 = omega (arith, before) in
    sym (first_fewer text m (n - 1) within) ∙ ap (λ t. first_lines t m) same ∙ first_fewer other m (n - 1) within

not_earlier : (text : List ℕ) (m n : ℕ) → IsFirstWrongLine text m → IsFirstWrongLine text n → m < n → ⊥
not_earlier text m n early late before =
    let (c, fits, same) = late.before in
    early.wrong c fits (earlier text (certificate_text c) m n same before)

not_earlier_of_both : (text : List ℕ) (m n : ℕ) → IsFirstWrong text m → IsFirstWrong text n → m < n → ⊥
not_earlier_of_both text m n early late before =
    let (s, fits, same) = late.before in
    early.wrong s fits (earlier text (statement_text s) m n same before)

-- two numbers of which none is below the other
level : (m n : ℕ) → (m < n → ⊥) → (n < m → ⊥) → m ≡ n
level m n low high =
    elim (cases_lt m n) [
      | inl lower ↦ absurd (low lower)
      | inr upper ↦ elim (cases_lt n m) [ inl lower ↦ absurd (high lower) | inr more ↦ omega (arith, upper, more) ]
    ]

pub one_wrong_line : (text : List ℕ) (m n : ℕ) → IsFirstWrongLine text m → IsFirstWrongLine text n → m ≡ n
one_wrong_line text m n first second = level m n (not_earlier text m n first second) (not_earlier text n m second first)

pub one_wrong_line_of_both : (text : List ℕ) (m n : ℕ) → IsFirstWrong text m → IsFirstWrong text n → m ≡ n
one_wrong_line_of_both text m n first second = level m n (not_earlier_of_both text m n first second) (not_earlier_of_both text n m second first)

pub no_wrong_line : (c : Claims) (n : ℕ) → IsCertificate c → IsFirstWrongLine (certificate_text c) n → ⊥
no_wrong_line c n fits first = first.wrong c fits refl

pub no_wrong_statement : (s : Statement) (n : ℕ) → IsStatement s → IsFirstWrong (statement_text s) n → ⊥
no_wrong_statement s n fits first = first.wrong s fits refl

-- ---- what is written is read

pub written_is_read : (c : Claims) (result : Result Cert CertFault) → IsCertificate c → Fits (certificate_text c) → ReadsAs (certificate_text c) result → IfOk result (λ d. claims_of d ≡ c) × IfErr result (λ e. e ≡ fault.Memory)
written_is_read c (Ok d) fits short reads = (text_tells_claims (claims_of d) c reads.2 fits (sym reads.1), tt)
written_is_read c (Err (fault.Line n)) fits short reads = absurd (no_wrong_line c n fits reads.1)
written_is_read c (Err (fault.Over limit)) fits short reads = absurd (omega (arith, short.short, reads.0))
written_is_read c (Err fault.Memory) fits short reads = (tt, refl)

pub sealed_is_read : (s : Statement) (result : Result Cert2 CertFault) → IsStatement s → is_there s.ending.outside ≡ true → Fits (statement_text s) → ReadsAsSealed (statement_text s) result
    → IfOk result (λ d. statement_of d ≡ s) × IfErr result (λ e. e ≡ fault.Memory)
sealed_is_read s (Ok d) fits version short reads = (text_tells_statement (statement_of d) s reads.2 fits (sym reads.1), tt)
sealed_is_read s (Err (fault.Line n)) fits version short reads = absurd (reads.1.wrong s fits version refl)
sealed_is_read s (Err (fault.Over limit)) fits version short reads = absurd (omega (arith, short.short, reads.0))
sealed_is_read s (Err fault.Memory) fits version short reads = (tt, refl)

-- ---- records

cancel : (xs ys zs : List ℕ) → xs ++ ys ≡ xs ++ zs → ys ≡ zs
cancel [] ys zs e = e
cancel (x ∷ xs) ys zs e = cancel xs ys zs cc

-- two texts that begin one text and are as long are the same
as_long : (xs ys u v : List ℕ) → xs ++ u ≡ ys ++ v → length xs ≡ length ys → xs ≡ ys
as_long [] [] u v e size = refl
as_long [] (y ∷ ys) u v e size = absurd (omega (arith, size))
as_long (x ∷ xs) [] u v e size = absurd (omega (arith, size))
as_long (x ∷ xs) (y ∷ ys) u v e size =
    let head : x ≡ y = cc in
    let tail : xs ++ u ≡ ys ++ v = cc in
    ap (λ x. x ∷ xs) head ∙ ap (λ more. y ∷ more) (as_long xs ys u v tail (omega (arith, size)))

-- the first line of a text with records
begun_by : (text : List ℕ) (given : List Entry) (e : Entry) (part : List ℕ) (n : ℕ) → (r : IsNextRecord text given e part n) → text ≡ line_then (first_line r.sealed) (text_of (flat_map entry_lines given) ++ (part ++ r.rest))
begun_by text given e part n r = r.parts ∙ text_then (first_line r.sealed) (flat_map entry_lines given) (part ++ r.rest)

pub one_record : (text : List ℕ) (given : List Entry) (e g : Entry) (part other : List ℕ) (m n : ℕ) → IsNextRecord text given e part m → IsNextRecord text given g other n → (e ≡ g) × (part ≡ other) × (m ≡ n)
one_record text given e g part other m n left right =
    let version : right.sealed ≡ left.sealed = version_told right.sealed left.sealed _ _ (sym (begun_by text given g other n right) ∙ begun_by text given e part m left) in
    let first : List ℕ = text_of (first_line left.sealed ∷ flat_map entry_lines given) in
    let parts_right : text ≡ first ++ (other ++ right.rest) = right.parts ∙ ap (λ b. text_of (first_line b ∷ flat_map entry_lines given) ++ (other ++ right.rest)) version in
    let same : part ++ left.rest ≡ other ++ right.rest = cancel first (part ++ left.rest) (other ++ right.rest) (sym left.parts ∙ parts_right) in
    let good_right : AreEntries left.sealed (given ++ g ∷ []) = subst (λ b. AreEntries b (given ++ g ∷ [])) version right.good in
    let good_left : AreEntries right.sealed (given ++ e ∷ []) = subst (λ b. AreEntries b (given ++ e ∷ [])) (sym version) left.good in
    let one : length (entry_text g) ≤ length part = left.longest g right.rest good_right (same ∙ ap (λ t. t ++ right.rest) right.exact) in
    let two : length (entry_text e) ≤ length other = right.longest e left.rest good_left (sym same ∙ ap (λ t. t ++ left.rest) left.exact) in
    let parts : part ≡ other = as_long part other left.rest right.rest same (omega (arith, one, two, ap length left.exact, ap length right.exact)) in (
      text_tells_function left.sealed e g (last_good left.sealed given e left.good.all) (last_good left.sealed given g good_right.all) (sym left.exact ∙ parts ∙ right.exact),
      parts,
      omega (arith, left.number, right.number, first_size left.sealed right.sealed given),
    )
  where
    last_good : (sealed : Bool) (es : List Entry) (e : Entry) → AllByRecursion (IsEntry sealed) (es ++ e ∷ []) → IsEntry sealed e
    last_good sealed [] e good = good.0
    last_good sealed (x ∷ es) e good = last_good sealed es e good.1

    first_size : (a b : Bool) (given : List Entry) → length (first_line a ∷ flat_map entry_lines given) ≡ length (first_line b ∷ flat_map entry_lines given)
    first_size a b given = omega arith
