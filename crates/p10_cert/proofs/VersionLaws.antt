-- The versions of certificates, which the first line tells.
use Rattle.std.proofs.Common.{◌≡◌, ℕ, zero, suc, ◌-◌, ◌≤◌, Bool, true, false, cond, List, [], ◌∷◌, ◌++◌, length, map, take, drop, codes, Option, Some, None, refl, sym, ap, subst, ◌∙◌, arith, append-nil, take-append-drop}
use Rattle.std.proofs.Math.Seq.{take-append_seam}
use Rattle.std.proofs.lemmas.Slice.Eq.{bytes_eq-Decides}
use Rattle.std.specs.List.{AllByRecursion, flat_map}
use Rattle.p10_cert.specs.Claims.{Func, Claims}
use Rattle.p10_cert.specs.Lines.{FirstLine, TotalLine, LastLine, line_then, text_of}
use Rattle.p10_cert.specs.Certificate.{func_lines, certificate_text, IsFunc, func_tasks, IsCertificate}
use Rattle.p10_cert.specs.Reading.{begins_with, version_of}
use Rattle.p10_cert.specs.Records.{statement_from}
use Rattle.p10_cert.specs.Statements.{Entry, Section, Statement, first_line, entry_lines, ending_lines, statement_text, is_there, IsSeal, IsEntry, entry_tasks, MayHave, IsStatement, plain_entry, plain_statement}
use Rattle.p10_cert.specs.WrongLines.{first_lines, IsFirstWrongLine, IsFirstWrongSealed, IsFirstWrong}
use Rattle.p10_cert.specs.private.States as next
use Rattle.p10_cert.specs.private.Steps.{seen_first}
use Rattle.p10_cert.proofs.LineAgain.{is_body}
use Rattle.p10_cert.proofs.LineTexts.{text_then, line_then-injective, line_first, first_none, first_front, first_fewer}
use Rattle.p10_cert.proofs.Runs.{first_good, first_run}
use Rattle.p10_cert.proofs.Completing.{shared}

-- ---- the first line

-- the bytes of the first line of a version
abbrev pub first_bytes : Bool → List ℕ
first_bytes true = codes "p10cert 2\n"
first_bytes false = codes "p10cert 1\n"

first_then : (sealed : Bool) (rest : List ℕ) → line_then (first_line sealed) rest ≡ first_bytes sealed ++ rest
unfolding line_then
first_then true rest = refl
first_then false rest = refl

pub begins : (sealed : Bool) (text : List ℕ) → begins_with (first_bytes sealed) text ≡ true → (rest : List ℕ) × (text ≡ line_then (first_line sealed) rest)
begins sealed text e =
    let n : ℕ = length (first_bytes sealed) in
    let same : take n text ≡ first_bytes sealed = (bytes_eq-Decides (take n text) (first_bytes sealed)).0 e in
    (drop n text, sym (take-append-drop n text) ∙ ap (λ t. t ++ drop n text) same ∙ sym (first_then sealed (drop n text)))

alike_first : (a b : Bool) → is_body (first_line a) ≡ is_body (first_line b)
alike_first true true = refl
alike_first true false = refl
alike_first false true = refl
alike_first false false = refl

same_first : (a b : Bool) → first_line a ≡ first_line b → a ≡ b
same_first true true e = refl
same_first false false e = refl
same_first true false e = absurd cc
same_first false true e = absurd cc

-- the first line tells the version
pub version_told : (a b : Bool) (more rest : List ℕ) → line_then (first_line a) more ≡ line_then (first_line b) rest → a ≡ b
version_told a b more rest e = same_first a b (line_then-injective (first_line a) (first_line b) more rest (alike_first a b) (first_good a) (first_good b) e).0

pub statement_then : (s : Statement) → (rest : List ℕ) × (statement_text s ≡ line_then (first_line (is_there s.ending.outside)) rest)
unfolding statement_text text_of
statement_then s = (text_of (flat_map entry_lines s.entries ++ ending_lines s.ending), refl)

first_one : (sealed : Bool) (rest : List ℕ) → first_lines (line_then (first_line sealed) rest) 1 ≡ line_then (first_line sealed) []
first_one sealed rest = line_first (first_line sealed) rest 0 (first_good sealed) ∙ ap (line_then (first_line sealed)) (first_none rest)

statement_one : (s : Statement) → first_lines (statement_text s) 1 ≡ line_then (first_line (is_there s.ending.outside)) []
statement_one s = let (rest, is) = statement_then s in ap (λ t. first_lines t 1) is ∙ first_one (is_there s.ending.outside) rest

-- a statement whose first line is that of a text is of its version
same_version : (sealed : Bool) (text rest : List ℕ) (s : Statement) → text ≡ line_then (first_line sealed) rest → first_lines text 1 ≡ first_lines (statement_text s) 1 → is_there s.ending.outside ≡ sealed
same_version sealed text rest s here e =
    version_told (is_there s.ending.outside) sealed [] [] (sym (statement_one s) ∙ sym e ∙ ap (λ t. first_lines t 1) here ∙ first_one sealed rest)

-- ---- wrong lines

-- some certificate has the first line of a version
first_shared : (sealed : Bool) (text rest : List ℕ) → text ≡ line_then (first_line sealed) rest → (s : Statement) × IsStatement s × (first_lines text 1 ≡ first_lines (statement_text s) 1)
unfolding text_of
first_shared sealed text rest here =
    shared text rest (first_line sealed ∷ []) (next.Func (seen_first sealed)) (record { good = (first_good sealed, tt); runs = first_run sealed []; parts = here ∙ sym (text_then (first_line sealed) [] rest) })

-- before the first wrong line of a text stand lines of a certificate of its version
version_shares : (sealed : Bool) (text : List ℕ) (n : ℕ) → begins_with (first_bytes sealed) text ≡ true → IsFirstWrong text n
    → (s : Statement) × IsStatement s × (is_there s.ending.outside ≡ sealed) × (first_lines text (n - 1) ≡ first_lines (statement_text s) (n - 1))
version_shares sealed text zero e wrong =
    let (s, good, same) = wrong.before in
    absurd (wrong.wrong s good (first_none text ∙ sym (first_none (statement_text s))))
version_shares sealed text (suc zero) e wrong =
    let (rest, here) = begins sealed text e in
    let (s, good, same) = first_shared sealed text rest here in
    absurd (wrong.wrong s good same)
version_shares sealed text (suc (suc n)) e wrong =
    let (rest, here) = begins sealed text e in
    let (s, good, same) = wrong.before in
    let within : 1 ≤ suc (suc n) - 1 = omega arith in
    let first : first_lines text 1 ≡ first_lines (statement_text s) 1 =
    sym (first_fewer text 1 (suc (suc n) - 1) within) ∙ ap (λ t. first_lines t 1) same ∙ first_fewer (statement_text s) 1 (suc (suc n) - 1) within in
    (s, good, same_version sealed text rest s here first, same)

-- a text without the first line of a version is wrong in its first line
not_begun : (sealed : Bool) (text : List ℕ) (s : Statement) → begins_with (first_bytes sealed) text ≡ false → is_there s.ending.outside ≡ sealed → first_lines text 1 ≡ first_lines (statement_text s) 1 → ⊥
not_begun sealed text s e version same =
    let (rest, front) = first_front text 1 in
    let one : first_lines text 1 ≡ first_bytes sealed = same ∙ statement_one s ∙ ap (λ b. line_then (first_line b) []) version ∙ first_then sealed [] ∙ append-nil (first_bytes sealed) in
    let here : text ≡ first_bytes sealed ++ rest = sym front ∙ ap (λ t. t ++ rest) one in
    let yes : begins_with (first_bytes sealed) text ≡ true = begun sealed text rest here in
    cc
  where
    begun : (sealed : Bool) (text rest : List ℕ) → text ≡ first_bytes sealed ++ rest → begins_with (first_bytes sealed) text ≡ true
    begun sealed text rest here = (bytes_eq-Decides (take (length (first_bytes sealed)) text) (first_bytes sealed)).1 (ap (take (length (first_bytes sealed))) here ∙ take-append_seam (first_bytes sealed) rest)

-- ---- the first version

plain_entries : (funcs : List Func) → flat_map entry_lines (map plain_entry funcs) ≡ flat_map func_lines funcs
plain_entries [] = refl
plain_entries (f ∷ funcs) = ap (λ ls. func_lines f ++ ls) (plain_entries funcs)

pub plain_text : (c : Claims) → statement_text (plain_statement c) ≡ certificate_text c
unfolding statement_text certificate_text
plain_text c = ap (λ ls. text_of (FirstLine ∷ (ls ++ (TotalLine c.total ∷ LastLine ∷ [])))) (plain_entries c.funcs)

plain_tasks : (funcs : List Func) → entry_tasks (map plain_entry funcs) ≡ func_tasks funcs
plain_tasks [] = refl
plain_tasks (f ∷ funcs) = omega (arith, plain_tasks funcs)

all_plain : (funcs : List Func) → AllByRecursion IsFunc funcs → AllByRecursion (IsEntry false) (map plain_entry funcs)
all_plain [] all = tt
all_plain (f ∷ funcs) all = (record { func = all.0; seal = tt }, all_plain funcs all.1)

all_funcs : (funcs : List Func) → AllByRecursion (IsEntry false) (map plain_entry funcs) → AllByRecursion IsFunc funcs
all_funcs [] all = tt
all_funcs (f ∷ funcs) all = (all.0.func, all_funcs funcs all.1)

pub plain_good : (c : Claims) → IsCertificate c → IsStatement (plain_statement c)
plain_good c good = record {
  entries = record { all = all_plain c.funcs good.funcs.all; one_task = omega (arith, plain_tasks c.funcs, good.funcs.one_task) };
  ending = record { seal = tt; total = good.total; sections = tt };
}

pub plain_claims : (c : Claims) → IsStatement (plain_statement c) → IsCertificate c
plain_claims c good = record {
  funcs = record { all = all_funcs c.funcs good.entries.all; one_task = omega (arith, plain_tasks c.funcs, good.entries.one_task) };
  total = good.ending.total;
}

-- the claims of a certificate
abbrev pub claims_in : Statement → Claims
claims_in s = record { funcs = map (λ e. e.func) s.entries; total = s.ending.total }

claims_with : List Func → Claims → Claims
claims_with funcs c = record { funcs = funcs; total = c.total }

funcs_back : (funcs : List Func) → map (λ e. e.func) (map plain_entry funcs) ≡ funcs
funcs_back [] = refl
funcs_back (f ∷ funcs) = ap (λ fs. f ∷ fs) (funcs_back funcs)

pub claims_back : (c : Claims) → claims_in (plain_statement c) ≡ c
unfolding claims_with
claims_back c = ap (λ funcs. claims_with funcs c) (funcs_back c.funcs)

entry_with : Func → Option (List ℕ) → Entry
entry_with f d = record { func = f; digest = d }

no_seal : (digest : Option (List ℕ)) → IsSeal false digest → digest ≡ None
no_seal None seal = refl
no_seal (Some d) seal = absurd seal

plain_from : (entries : List Entry) → AllByRecursion (IsEntry false) entries → entries ≡ map plain_entry (map (λ e. e.func) entries)
unfolding entry_with
plain_from [] all = refl
plain_from (e ∷ entries) all = ap (λ d. entry_with e.func d ∷ entries) (no_seal e.digest all.0.seal) ∙ ap (λ es. plain_entry e.func ∷ es) (plain_from entries all.1)

-- a certificate without digests is its claims alone
pub plain_is : (s : Statement) → IsStatement s → is_there s.ending.outside ≡ false → s ≡ plain_statement (claims_in s)
plain_is s good version =
    by_parts s.ending.outside s.ending.sections version (subst (λ b. MayHave b s.ending.sections) version good.ending.sections) (plain_from s.entries (subst (λ b. AllByRecursion (IsEntry b) s.entries) version good.entries.all))
  where
    by_parts : (outside : Option (List ℕ)) (sections : List Section) → is_there outside ≡ false → MayHave false sections → s.entries ≡ map plain_entry (map (λ e. e.func) s.entries)
        → statement_from s.entries (record { outside = outside; total = s.ending.total; sections = sections }) ≡ plain_statement (claims_in s)
    by_parts None [] version may entries = ap (λ es. statement_from es (record { outside = None; total = s.ending.total; sections = [] })) entries
    by_parts None (x ∷ sections) version may entries = absurd may
    by_parts (Some d) sections version may entries = absurd cc

-- ---- wrong lines of one version

pub wrong_in_first : (text : List ℕ) (n : ℕ) → begins_with (codes "p10cert 1\n") text ≡ true → IsFirstWrong text n → IsFirstWrongLine text n
wrong_in_first text n e wrong = record {
  before =
      let (s, good, version, same) = version_shares false text n e wrong in
      let is : s ≡ plain_statement (claims_in s) = plain_is s good version in
      (claims_in s, plain_claims (claims_in s) (subst IsStatement is good), same ∙ ap (λ t. first_lines t (n - 1)) (ap statement_text is ∙ plain_text (claims_in s)));
  wrong = λ c good same. wrong.wrong (plain_statement c) (plain_good c good) (same ∙ ap (λ t. first_lines t n) (sym (plain_text c)));
}

pub wrong_in_second : (text : List ℕ) (n : ℕ) → begins_with (codes "p10cert 2\n") text ≡ true → IsFirstWrong text n → IsFirstWrongSealed text n
wrong_in_second text n e wrong = record {
  before = version_shares true text n e wrong;
  wrong = λ s good version same. wrong.wrong s good same;
}

-- some certificate of a version
some_statement : (sealed : Bool) → (s : Statement) × IsStatement s × (is_there s.ending.outside ≡ sealed)
some_statement sealed =
    let text : List ℕ = line_then (first_line sealed) [] in
    let (s, good, same) = first_shared sealed text [] refl in
    (s, good, same_version sealed text [] s refl same)

pub not_first_version : (text : List ℕ) → begins_with (codes "p10cert 1\n") text ≡ false → IsFirstWrongLine text 1
not_first_version text e = record {
  before =
      let (s, good, version) = some_statement false in
      let is : s ≡ plain_statement (claims_in s) = plain_is s good version in
      (claims_in s, plain_claims (claims_in s) (subst IsStatement is good), first_none text ∙ sym (first_none (certificate_text (claims_in s))));
  wrong = λ c good same. not_begun false text (plain_statement c) e refl (same ∙ ap (λ t. first_lines t 1) (sym (plain_text c)));
}

pub not_second_version : (text : List ℕ) → begins_with (codes "p10cert 2\n") text ≡ false → IsFirstWrongSealed text 1
not_second_version text e = record {
  before = let (s, good, version) = some_statement true in (s, good, version, first_none text ∙ sym (first_none (statement_text s)));
  wrong = λ s good version same. not_begun true text s e version same;
}

-- ---- the version of a text

pub versions : (text : List ℕ) → (version_of text ≡ Some 1 → begins_with (codes "p10cert 1\n") text ≡ true) × (version_of text ≡ Some 2 → begins_with (codes "p10cert 2\n") text ≡ true)
unfolding version_of
versions text = by_tests (begins_with (codes "p10cert 1\n") text) (begins_with (codes "p10cert 2\n") text)
  where
    by_tests : (a b : Bool) → (cond {A = Option ℕ} a (Some 1) (cond {A = Option ℕ} b (Some 2) None) ≡ Some 1 → a ≡ true) × (cond {A = Option ℕ} a (Some 1) (cond {A = Option ℕ} b (Some 2) None) ≡ Some 2 → b ≡ true)
    by_tests true true = (λ e. refl, λ e. refl)
    by_tests true false = (λ e. refl, λ e. absurd cc)
    by_tests false true = (λ e. absurd cc, λ e. refl)
    by_tests false false = (λ e. absurd cc, λ e. absurd cc)
