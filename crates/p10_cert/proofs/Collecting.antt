-- What is read of a text is what is given of it.
use Rattle.std.proofs.Common.{◌≡◌, ℕ, suc, ◌<◌, ◌≤◌, Bool, true, false, List, [], ◌∷◌, ◌++◌, map, length, codes, Option, Some, Ok, refl, sym, ap, subst, ◌∙◌, arith, append-nil, length-append}
use Rattle.std.proofs.lemmas.List.Concat.{flat_map-append}
use Rattle.std.specs.List.{AllByRecursion, flat_map}
use Rattle.p10_base.specs.declared.digest.Digest.{Digest}
use Rattle.p10_base.specs.declared.report.Bounds.{Bounds}
use Rattle.p10_cert.specs.declared.claims.FuncClaim.{FuncClaim}
use Rattle.p10_cert.specs.declared.record.FuncRecord.{FuncRecord}
use Rattle.p10_cert.specs.Claims.{Func, Claims, func_of}
use Rattle.p10_cert.specs.Lines.{Line, FuncLine, text_of}
use Rattle.p10_cert.specs.Certificate.{func_head, certificate_text, IsCertificate}
use Rattle.p10_cert.specs.Reading.{begins_with}
use Rattle.p10_cert.specs.Records.{Progress, IsNextRecord, GivesNext, statement_from}
use Rattle.p10_cert.specs.Sealed.{entries_of}
use Rattle.p10_cert.specs.Statements.{Entry, Ending, Statement, first_line, digest_lines, inner_lines, entry_lines, entry_text, is_there, IsEntry, IsStatement, statement_text, plain_statement}
use Rattle.p10_cert.specs.private.Whole.{seal_of}
use Rattle.p10_cert.proofs.LineTexts.{text_then, line_then-longer, text_of-append}
use Rattle.p10_cert.proofs.VersionLaws.{first_bytes, begins, version_told, statement_then, plain_text, plain_claims, plain_is, claims_in}

-- a record that is given
pub record IsMore (old new : Progress) (r : FuncRecord) : Type 0 where
  pub entry : Entry
  pub sealed : Bool
  pub good : IsEntry sealed entry
  pub exact : r.text.now ≡ entry_text entry
  pub version : (b : Bool) → begins_with (first_bytes b) old.text ≡ true → sealed ≡ b
  pub text : new.text ≡ old.text
  pub given : new.given ≡ old.given ++ entry ∷ []
  pub within : length (text_of (flat_map entry_lines new.given)) ≤ length old.text
  pub longer : length (text_of (flat_map entry_lines old.given)) < length (text_of (flat_map entry_lines new.given))

entry_longer : (sealed : Bool) (e : Entry) → IsEntry sealed e → 0 < length (entry_text e)
unfolding entry_text text_of
entry_longer sealed e good = omega (arith, line_then-longer (FuncLine (func_head e.func)) (text_of (digest_lines e.digest ++ inner_lines e.func)) good.func.head)

-- the version of a text is that of its records
record_version : (text : List ℕ) (given : List Entry) (e : Entry) (part : List ℕ) (n : ℕ) (b : Bool) → (r : IsNextRecord text given e part n) → begins_with (first_bytes b) text ≡ true → r.sealed ≡ b
record_version text given e part n b r begun =
    let (rest, here) = begins b text begun in
    version_told r.sealed b _ rest (sym (r.parts ∙ text_then (first_line r.sealed) (flat_map entry_lines given) (part ++ r.rest)) ∙ here)

pub is_more : (old new : Progress) (next : Option FuncRecord) (r : FuncRecord) → GivesNext old new (Ok next) → next ≡ Some r → IsMore old new r
unfolding entry_text
is_more old new next r gives is =
    let (e, record_next, now) = subst (λ next. GivesNext old new (Ok next)) is gives in
    let sealed : Bool = record_next.sealed in
    let good : IsEntry sealed e = (all_after sealed old.given (e ∷ []) record_next.good.all).0 in
    let given : new.given ≡ old.given ++ e ∷ [] = ap (λ p. p.given) now in
    let before : List Line = flat_map entry_lines old.given in
    let text : text_of (flat_map entry_lines new.given) ≡ text_of before ++ r.text.now =
    ap (λ es. text_of (flat_map entry_lines es)) given
    ∙ ap text_of (flat_map-append entry_lines old.given (e ∷ []))
    ∙ ap (λ ls. text_of (before ++ ls)) (append-nil (entry_lines e))
    ∙ text_of-append before (entry_lines e)
    ∙ ap (λ t. text_of before ++ t) (same e r record_next.exact) in
    let whole : text_of (first_line sealed ∷ before) ≡ text_of (first_line sealed ∷ []) ++ text_of before = text_of-append (first_line sealed ∷ []) before in
    record {
      entry = e;
      sealed = sealed;
      good = good;
      exact = record_next.exact;
      version = λ b begun. record_version old.text old.given e r.text.now r.line b record_next begun;
      text = ap (λ p. p.text) now;
      given = given;
      within = omega (
        arith,
        ap length text,
        ap length whole,
        ap length record_next.parts,
        length-append (text_of before) r.text.now,
        length-append (text_of (first_line sealed ∷ [])) (text_of before),
        length-append (text_of (first_line sealed ∷ before)) (r.text.now ++ record_next.rest),
        length-append r.text.now record_next.rest,
      );
      longer = omega (arith, ap length text, length-append (text_of before) r.text.now, ap length record_next.exact, entry_longer sealed e good);
    }
  where
    all_after : (sealed : Bool) (xs ys : List Entry) → AllByRecursion (IsEntry sealed) (xs ++ ys) → AllByRecursion (IsEntry sealed) ys
    all_after sealed [] ys good = good
    all_after sealed (x ∷ xs) ys good = all_after sealed xs ys good.1

    same : (e : Entry) (r : FuncRecord) → r.text.now ≡ entry_text e → text_of (entry_lines e) ≡ r.text.now
    same e r here = sym here

pub map-append : {A B : Type 0} (f : A → B) (xs : List A) (x : A) → map f (xs ++ x ∷ []) ≡ map f xs ++ f x ∷ []
map-append f [] x = refl
map-append f (y ∷ xs) x = ap (λ ys. f y ∷ ys) (map-append f xs x)

-- ---- the end of a text of version 1

pub version_of_text : (b : Bool) (text : List ℕ) (s : Statement) → begins_with (first_bytes b) text ≡ true → text ≡ statement_text s → is_there s.ending.outside ≡ b
version_of_text b text s begun exact =
    let (rest, here) = begins b text begun in
    let (more, there) = statement_then s in
    version_told (is_there s.ending.outside) b more rest (sym there ∙ sym exact ∙ here)

claims_with : List Func → Bounds → Claims
claims_with funcs total = record { funcs = funcs; total = total }

pub first_read : (text : List ℕ) (given : List Entry) (ending : Ending) (funcs : List FuncClaim) (total : Bounds) → begins_with (codes "p10cert 1\n") text ≡ true → IsStatement (statement_from given ending)
    → text ≡ statement_text (statement_from given ending) → map func_of funcs ≡ map (λ e. e.func) given → total ≡ ending.total
    → (text ≡ certificate_text (record { funcs = map func_of funcs; total = total })) × IsCertificate (record { funcs = map func_of funcs; total = total })
unfolding claims_with
first_read text given ending funcs total begun good exact same bounds =
    let s : Statement = statement_from given ending in
    let is : s ≡ plain_statement (claims_in s) = plain_is s good (version_of_text false text s begun exact) in
    let claims : claims_in s ≡ claims_with (map func_of funcs) total = ap (λ fs. claims_with fs ending.total) (sym same) ∙ ap (claims_with (map func_of funcs)) (sym bounds) in
    let P : Claims → Type 0 = λ c. (text ≡ certificate_text c) × IsCertificate c in
    subst P claims (exact ∙ ap statement_text is ∙ plain_text (claims_in s), plain_claims (claims_in s) (subst IsStatement is good))

-- ---- version 2

-- functions and digests are those of entries
pub record AreRead (funcs : List FuncClaim) (digests : List Digest) (given : List Entry) : Type 0 where
  pub claims : map func_of funcs ≡ map (λ e. e.func) given
  pub seals : map seal_of digests ≡ map (λ e. e.digest) given

pub none_read : (given : List Entry) → given ≡ [] → AreRead [] [] given
none_read given none = record { claims = ap (λ es. map (λ (e : Entry). e.func) es) (sym none); seals = ap (λ es. map (λ (e : Entry). e.digest) es) (sym none) }

pub more_read : (funcs more_funcs : List FuncClaim) (digests more_digests : List Digest) (old new : List Entry) (e : Entry) → AreRead funcs digests old → new ≡ old ++ e ∷ []
    → map func_of more_funcs ≡ map func_of funcs ++ e.func ∷ [] → map seal_of more_digests ≡ map seal_of digests ++ e.digest ∷ [] → AreRead more_funcs more_digests new
more_read funcs more_funcs digests more_digests old new e read is first second = record {
  claims = first ∙ ap (λ fs. fs ++ e.func ∷ []) read.claims ∙ sym (map-append (λ (e : Entry). e.func) old e) ∙ ap (λ es. map (λ (e : Entry). e.func) es) (sym is);
  seals = second ∙ ap (λ ds. ds ++ e.digest ∷ []) read.seals ∙ sym (map-append (λ (e : Entry). e.digest) old e) ∙ ap (λ es. map (λ (e : Entry). e.digest) es) (sym is);
}

heads : {A : Type 0} {x y : A} {xs ys : List A} → x ∷ xs ≡ y ∷ ys → x ≡ y
heads e = cc

tails : {A : Type 0} {x y : A} {xs ys : List A} → x ∷ xs ≡ y ∷ ys → xs ≡ ys
tails e = cc

entry_with : Func → Option (List ℕ) → Entry
entry_with f d = record { func = f; digest = d }

pub read_entries : (funcs : List FuncClaim) (digests : List Digest) (given : List Entry) → AreRead funcs digests given → (entries_of funcs digests ≡ given) × (length digests ≡ length funcs)
unfolding entry_with
read_entries [] [] [] read = (refl, refl)
read_entries (f ∷ funcs) (d ∷ digests) (e ∷ given) read =
    let others = read_entries funcs digests given (record { claims = tails read.claims; seals = tails read.seals }) in
    let func : func_of f ≡ e.func = heads read.claims in
    let digest : seal_of d ≡ e.digest = heads read.seals in
    (ap (λ f. entry_with f (seal_of d) ∷ entries_of funcs digests) func ∙ ap (λ d. entry_with e.func d ∷ entries_of funcs digests) digest ∙ ap (λ es. e ∷ es) others.0, ap suc others.1)
read_entries [] ds (e ∷ given) read = absurd (let size = ap length read.claims in omega (arith, size))
read_entries (f ∷ funcs) ds [] read = absurd (let size = ap length read.claims in omega (arith, size))
read_entries fs [] (e ∷ given) read = absurd (let size = ap length read.seals in omega (arith, size))
read_entries fs (d ∷ digests) [] read = absurd (let size = ap length read.seals in omega (arith, size))
