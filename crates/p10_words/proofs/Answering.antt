-- What the functions answer.
use Rattle.std.proofs.Common.{◌≡◌, true, Bool, ap, sym, ◌∙◌, refl, subst, List, [], ◌∷◌, Option, Some, None, Result, Ok, Err, Bor}
use Rattle.std.specs.Prelude.{option_map, codes, bytes_eq, is_some, unwrap_or}
use Rattle.clap.specs.Matches.{found_of, first_value, matched_of, raw_values}
use Rattle.clap.specs.declared.parser.matches.ArgMatches.{ArgMatches}
use Rattle.p10_words.specs.declared.command.Command.{Command}
use Rattle.p10_words.specs.declared.command.Usage.{Usage}
use Rattle.p10_words.specs.declared.command.Usage.TheVariants.{Refused, Memory}
use Rattle.p10_base.specs.Words.{Text}
use Rattle.p10_words.specs.CommandLines.{value_of}
use Rattle.p10_words.specs.Commands.{check_options, derive_options, migrate_options, verify_options, recheck_options, run_options, IsRestOf}
use Rattle.p10_words.specs.private.Parsing.{file_id, some_list, Matched, IsParse}
use Rattle.p10_words.specs.private.Deciding.{is_given, has_files, IsCheckOf, IsDeriveOf, IsMigrateOf, IsVerifyOf, IsRecheckOf, IsRunOf, IsGenerateOf, Answers}
use Rattle.p10_words.proofs.Named.{Known, known, flag_value}
use Rattle.p10_words.proofs.Deciding.{check_is, check_from, no_check, derive_is, derive_from, no_derive, migrate_is, migrate_from, no_migrate, verify_is, verify_from, no_verify, recheck_is, recheck_from, no_recheck, run_is, run_from, no_run, generate_is, generate_from, no_generate}

-- an answer by another condition that is the same
carried : (P Q : Command → Type 0) (r : Result Command Usage) → ((c : Command) → P c → Q c) → ((c : Command) → Q c → P c) → Answers P r → Answers Q r
carried P Q (Ok c) f g a = f c a
carried P Q (Err Refused) f g a = λ c q. a c (g c q)
carried P Q (Err Memory) f g a = tt

some_files : (xs ys : List Text) → some_list xs ≡ Some ys → xs ≡ ys
some_files [] ys e = absurd cc
some_files (x ∷ xs) ys e = cc

no_files : (xs : List Text) → some_list xs ≡ None → xs ≡ []
no_files [] e = refl
no_files (x ∷ xs) e = absurd cc

-- ---- `check`
pub check_done : (words : List Text) (m : ArgMatches) (include format : Option Text) (files : List Text) (r : Result Command Usage) → Matched check_options words m
    → include ≡ first_value (found_of m) (codes "include") → format ≡ first_value (found_of m) (codes "format") → Some files ≡ option_map raw_values (matched_of (found_of m) file_id)
    → Answers (IsCheckOf include format files) r → Answers (λ c. IsRestOf c (codes "check") words) r
check_done words m include format files r h i j k a =
    let s = h.split in
    let there : IsCheckOf include format files ≡ IsCheckOf (value_of s.options (codes "include")) (value_of s.options (codes "format")) s.files =
    ap (λ (o : Option Text). IsCheckOf o format files) (i ∙ h.reads.options (codes "include") refl refl) ∙ ap (λ (o : Option Text). IsCheckOf (value_of s.options (codes "include")) o files) (j ∙ h.reads.options (codes "format") refl refl)
    ∙ ap (λ (l : List Text). IsCheckOf (value_of s.options (codes "include")) (value_of s.options (codes "format")) l) (sym (some_files s.files files (sym (k ∙ h.reads.files)))) in
    carried (IsCheckOf (value_of s.options (codes "include")) (value_of s.options (codes "format")) s.files) (λ c. IsRestOf c (codes "check") words) r
    (λ c v. check_is words s c h.scanned h.once v) (λ c v. check_from words s c h.scanned v) (subst (λ (P : Command → Type 0). Answers P r) there a)

pub check_without : (words : List Text) (m : ArgMatches) → Matched check_options words m → None ≡ option_map raw_values (matched_of (found_of m) file_id) → (c : Command) → IsRestOf c (codes "check") words → ⊥
check_without words m h k c v =
    let none = no_files h.split.files (sym (k ∙ h.reads.files)) in
    let some = subst (λ (l : List Text). has_files l ≡ true) none (check_from words h.split c h.scanned v).some in
    cc

pub check_lost : (words : List Text) (u : Usage) → IsParse check_options words (Err u) → Answers (λ c. IsRestOf c (codes "check") words) (Err u)
check_lost words Refused n = λ c v. no_check words c n v
check_lost words Memory n = tt

-- ---- `derive`
flag_given : (o : Option Text) → ((v : Text) → o ≡ Some v → bytes_eq v (codes "true") ≡ true) → is_given (Some (unwrap_or o (codes "false"))) ≡ is_some o
flag_given None f = refl
flag_given (Some v) f = f v refl

pub derive_done : (words : List Text) (m : ArgMatches) (include version : Option Text) (diff : Bool) (flag : Option Text) (files : List Text) (r : Result Command Usage) → Matched derive_options words m
    → include ≡ first_value (found_of m) (codes "include") → version ≡ first_value (found_of m) (codes "cert-version") → diff ≡ is_given flag → flag ≡ first_value (found_of m) (codes "diff") → Some files ≡ option_map raw_values (matched_of (found_of m) file_id)
    → Answers (IsDeriveOf include version diff files) r → Answers (λ c. IsRestOf c (codes "derive") words) r
unfolding Known
derive_done words m include version diff flag files r h i j t g k a =
    let s = h.split in
    let read = (known derive_options words).0 s h.scanned in
    let given : diff ≡ is_some (value_of s.options (codes "diff")) =
    t ∙ ap is_given (g ∙ h.reads.flags (codes "diff") refl refl) ∙ flag_given (value_of s.options (codes "diff")) (λ v e. flag_value derive_options s.options (codes "diff") v read refl e) in
    let includes = i ∙ h.reads.options (codes "include") refl refl in
    let versions = j ∙ h.reads.options (codes "cert-version") refl refl in
    let files_are = sym (some_files s.files files (sym (k ∙ h.reads.files))) in
    carried (IsDeriveOf (value_of s.options (codes "include")) (value_of s.options (codes "cert-version")) (is_some (value_of s.options (codes "diff"))) s.files) (λ c. IsRestOf c (codes "derive") words) r
    (λ c v. derive_is words s c h.scanned h.once v) (λ c v. derive_from words s c h.scanned v)
    (subst (λ (P : Command → Type 0). Answers P r) (λ n. IsDeriveOf (includes n) (versions n) (given n) (files_are n)) a)

pub derive_without : (words : List Text) (m : ArgMatches) → Matched derive_options words m → None ≡ option_map raw_values (matched_of (found_of m) file_id) → (c : Command) → IsRestOf c (codes "derive") words → ⊥
derive_without words m h k c v =
    let none = no_files h.split.files (sym (k ∙ h.reads.files)) in
    let some = subst (λ (l : List Text). has_files l ≡ true) none (derive_from words h.split c h.scanned v).some in
    cc

pub derive_lost : (words : List Text) (u : Usage) → IsParse derive_options words (Err u) → Answers (λ c. IsRestOf c (codes "derive") words) (Err u)
derive_lost words Refused n = λ c v. no_derive words c n v
derive_lost words Memory n = tt

-- ---- `migrate`
pub migrate_done : (words : List Text) (m : ArgMatches) (include cert : Option Text) (files : List Text) (r : Result Command Usage) → Matched migrate_options words m
    → include ≡ first_value (found_of m) (codes "include") → cert ≡ first_value (found_of m) (codes "cert") → Some files ≡ option_map raw_values (matched_of (found_of m) file_id)
    → Answers (IsMigrateOf include cert files) r → Answers (λ c. IsRestOf c (codes "migrate") words) r
migrate_done words m include cert files r h i j k a =
    let s = h.split in
    let includes = i ∙ h.reads.options (codes "include") refl refl in
    let certs = j ∙ h.reads.options (codes "cert") refl refl in
    let files_are = sym (some_files s.files files (sym (k ∙ h.reads.files))) in
    carried (IsMigrateOf (value_of s.options (codes "include")) (value_of s.options (codes "cert")) s.files) (λ c. IsRestOf c (codes "migrate") words) r
    (λ c v. migrate_is words s c h.scanned h.once v) (λ c v. migrate_from words s c h.scanned v)
    (subst (λ (P : Command → Type 0). Answers P r) (λ n. IsMigrateOf (includes n) (certs n) (files_are n)) a)

pub migrate_without : (words : List Text) (m : ArgMatches) → Matched migrate_options words m → None ≡ option_map raw_values (matched_of (found_of m) file_id) → (c : Command) → IsRestOf c (codes "migrate") words → ⊥
migrate_without words m h k c v =
    let none = no_files h.split.files (sym (k ∙ h.reads.files)) in
    let some = subst (λ (l : List Text). has_files l ≡ true) none (migrate_from words h.split c h.scanned v).some in
    cc

pub migrate_lost : (words : List Text) (u : Usage) → IsParse migrate_options words (Err u) → Answers (λ c. IsRestOf c (codes "migrate") words) (Err u)
migrate_lost words Refused n = λ c v. no_migrate words c n v
migrate_lost words Memory n = tt

pub migrated_given : (include : Option Text) (o : Option (Bor Text)) (cert : Bor Text) (files : List Text) (r : Result Command Usage) → o ≡ Some cert
    → Answers (IsMigrateOf include (Some cert.now) files) r → Answers (IsMigrateOf include (option_map (λ w. w.now) o) files) r
migrated_given include o cert files r e a = subst (λ (p : Option (Bor Text)). Answers (IsMigrateOf include (option_map (λ w. w.now) p) files) r) (sym e) a

-- ---- `verify`
pub verify_done : (words : List Text) (m : ArgMatches) (include : Option Text) (clean : Bool) (flag cert : Option Text) (files : List Text) (r : Result Command Usage) → Matched verify_options words m
    → include ≡ first_value (found_of m) (codes "include") → clean ≡ is_given flag → flag ≡ first_value (found_of m) (codes "clean") → cert ≡ first_value (found_of m) (codes "cert") → Some files ≡ option_map raw_values (matched_of (found_of m) file_id)
    → Answers (IsVerifyOf include clean cert files) r → Answers (λ c. IsRestOf c (codes "verify") words) r
unfolding Known
verify_done words m include clean flag cert files r h i t g j k a =
    let s = h.split in
    let read = (known verify_options words).0 s h.scanned in
    let given : clean ≡ is_some (value_of s.options (codes "clean")) =
    t ∙ ap is_given (g ∙ h.reads.flags (codes "clean") refl refl) ∙ flag_given (value_of s.options (codes "clean")) (λ v e. flag_value verify_options s.options (codes "clean") v read refl e) in
    let includes = i ∙ h.reads.options (codes "include") refl refl in
    let certs = j ∙ h.reads.options (codes "cert") refl refl in
    let files_are = sym (some_files s.files files (sym (k ∙ h.reads.files))) in
    carried (IsVerifyOf (value_of s.options (codes "include")) (is_some (value_of s.options (codes "clean"))) (value_of s.options (codes "cert")) s.files) (λ c. IsRestOf c (codes "verify") words) r
    (λ c v. verify_is words s c h.scanned h.once v) (λ c v. verify_from words s c h.scanned v)
    (subst (λ (P : Command → Type 0). Answers P r) (λ n. IsVerifyOf (includes n) (given n) (certs n) (files_are n)) a)

pub verify_without : (words : List Text) (m : ArgMatches) → Matched verify_options words m → None ≡ option_map raw_values (matched_of (found_of m) file_id) → (c : Command) → IsRestOf c (codes "verify") words → ⊥
verify_without words m h k c v =
    let none = no_files h.split.files (sym (k ∙ h.reads.files)) in
    let some = subst (λ (l : List Text). has_files l ≡ true) none (verify_from words h.split c h.scanned v).some in
    cc

pub verify_lost : (words : List Text) (u : Usage) → IsParse verify_options words (Err u) → Answers (λ c. IsRestOf c (codes "verify") words) (Err u)
verify_lost words Refused n = λ c v. no_verify words c n v
verify_lost words Memory n = tt

-- ---- `recheck`
pub recheck_done : (words : List Text) (m : ArgMatches) (include since cert : Option Text) (files : List Text) (r : Result Command Usage) → Matched recheck_options words m
    → include ≡ first_value (found_of m) (codes "include") → since ≡ first_value (found_of m) (codes "since") → cert ≡ first_value (found_of m) (codes "cert") → Some files ≡ option_map raw_values (matched_of (found_of m) file_id)
    → Answers (IsRecheckOf include since cert files) r → Answers (λ c. IsRestOf c (codes "recheck") words) r
recheck_done words m include since cert files r h i l j k a =
    let s = h.split in
    let includes = i ∙ h.reads.options (codes "include") refl refl in
    let sinces = l ∙ h.reads.options (codes "since") refl refl in
    let certs = j ∙ h.reads.options (codes "cert") refl refl in
    let files_are = sym (some_files s.files files (sym (k ∙ h.reads.files))) in
    carried (IsRecheckOf (value_of s.options (codes "include")) (value_of s.options (codes "since")) (value_of s.options (codes "cert")) s.files) (λ c. IsRestOf c (codes "recheck") words) r
    (λ c v. recheck_is words s c h.scanned h.once v) (λ c v. recheck_from words s c h.scanned v)
    (subst (λ (P : Command → Type 0). Answers P r) (λ n. IsRecheckOf (includes n) (sinces n) (certs n) (files_are n)) a)

pub recheck_without : (words : List Text) (m : ArgMatches) → Matched recheck_options words m → None ≡ option_map raw_values (matched_of (found_of m) file_id) → (c : Command) → IsRestOf c (codes "recheck") words → ⊥
recheck_without words m h k c v =
    let none = no_files h.split.files (sym (k ∙ h.reads.files)) in
    let some = subst (λ (l : List Text). has_files l ≡ true) none (recheck_from words h.split c h.scanned v).some in
    cc

pub recheck_lost : (words : List Text) (u : Usage) → IsParse recheck_options words (Err u) → Answers (λ c. IsRestOf c (codes "recheck") words) (Err u)
recheck_lost words Refused n = λ c v. no_recheck words c n v
recheck_lost words Memory n = tt

pub rechecked_given : (include : Option Text) (o p : Option (Bor Text)) (since cert : Bor Text) (files : List Text) (r : Result Command Usage) → o ≡ Some since → p ≡ Some cert
    → Answers (IsRecheckOf include (Some since.now) (Some cert.now) files) r → Answers (IsRecheckOf include (option_map (λ w. w.now) o) (option_map (λ w. w.now) p) files) r
rechecked_given include o p since cert files r e f a =
    subst (λ (x : Option (Bor Text)). Answers (IsRecheckOf include (option_map (λ w. w.now) x) (option_map (λ w. w.now) p) files) r) (sym e)
    (subst (λ (x : Option (Bor Text)). Answers (IsRecheckOf include (Some since.now) (option_map (λ w. w.now) x) files) r) (sym f) a)

-- ---- `run`
pub run_done : (words : List Text) (m : ArgMatches) (include steps turns deny cert sensors : Option Text) (files : List Text) (r : Result Command Usage) → Matched run_options words m
    → include ≡ first_value (found_of m) (codes "include") → steps ≡ first_value (found_of m) (codes "steps") → turns ≡ first_value (found_of m) (codes "turns") → deny ≡ first_value (found_of m) (codes "deny")
    → cert ≡ first_value (found_of m) (codes "cert") → sensors ≡ first_value (found_of m) (codes "sensors") → Some files ≡ option_map raw_values (matched_of (found_of m) file_id)
    → Answers (IsRunOf include steps turns deny cert sensors files) r → Answers (λ c. IsRestOf c (codes "run") words) r
run_done words m include steps turns deny cert sensors files r h i t u d q v k a =
    let s = h.split in
    let includes = i ∙ h.reads.options (codes "include") refl refl in
    let steps_are = t ∙ h.reads.options (codes "steps") refl refl in
    let turns_are = u ∙ h.reads.options (codes "turns") refl refl in
    let denied = d ∙ h.reads.options (codes "deny") refl refl in
    let certs = q ∙ h.reads.options (codes "cert") refl refl in
    let values = v ∙ h.reads.options (codes "sensors") refl refl in
    let files_are = sym (some_files s.files files (sym (k ∙ h.reads.files))) in
    carried
    (IsRunOf (value_of s.options (codes "include")) (value_of s.options (codes "steps")) (value_of s.options (codes "turns")) (value_of s.options (codes "deny")) (value_of s.options (codes "cert")) (value_of s.options (codes "sensors")) s.files)
    (λ c. IsRestOf c (codes "run") words) r (λ c v. run_is words s c h.scanned h.once v) (λ c v. run_from words s c h.scanned v)
    (subst (λ (P : Command → Type 0). Answers P r) (λ n. IsRunOf (includes n) (steps_are n) (turns_are n) (denied n) (certs n) (values n) (files_are n)) a)

pub run_without : (words : List Text) (m : ArgMatches) → Matched run_options words m → None ≡ option_map raw_values (matched_of (found_of m) file_id) → (c : Command) → IsRestOf c (codes "run") words → ⊥
run_without words m h k c v =
    let none = no_files h.split.files (sym (k ∙ h.reads.files)) in
    let some = subst (λ (l : List Text). has_files l ≡ true) none (run_from words h.split c h.scanned v).some in
    cc

pub run_lost : (words : List Text) (u : Usage) → IsParse run_options words (Err u) → Answers (λ c. IsRestOf c (codes "run") words) (Err u)
run_lost words Refused n = λ c v. no_run words c n v
run_lost words Memory n = tt

-- ---- `gen`
pub generate_done : (words : List Text) (m : ArgMatches) (numbers : List Text) (r : Result Command Usage) → Matched [] words m
    → Some numbers ≡ option_map raw_values (matched_of (found_of m) file_id) → Answers (IsGenerateOf numbers) r → Answers (λ c. IsRestOf c (codes "gen") words) r
generate_done words m numbers r h k a =
    let s = h.split in
    carried (IsGenerateOf s.files) (λ c. IsRestOf c (codes "gen") words) r (λ c v. generate_is words s c h.scanned v) (λ c v. generate_from words s c h.scanned v)
    (subst (λ (l : List Text). Answers (IsGenerateOf l) r) (sym (some_files s.files numbers (sym (k ∙ h.reads.files)))) a)

pub generate_without : (words : List Text) (m : ArgMatches) → Matched [] words m → None ≡ option_map raw_values (matched_of (found_of m) file_id) → (c : Command) → IsRestOf c (codes "gen") words → ⊥
generate_without words m h k c v =
    let none = no_files h.split.files (sym (k ∙ h.reads.files)) in
    let alone = (generate_from words h.split c h.scanned v).alone in
    cc

pub generate_lost : (words : List Text) (u : Usage) → IsParse [] words (Err u) → Answers (λ c. IsRestOf c (codes "gen") words) (Err u)
generate_lost words Refused n = λ c v. no_generate words c n v
generate_lost words Memory n = tt

pub cert_given : (include : Option Text) (clean : Bool) (o : Option (Bor Text)) (cert : Bor Text) (files : List Text) (r : Result Command Usage) → o ≡ Some cert
    → Answers (IsVerifyOf include clean (Some cert.now) files) r → Answers (IsVerifyOf include clean (option_map (λ w. w.now) o) files) r
cert_given include clean o cert files r e a = subst (λ (p : Option (Bor Text)). Answers (IsVerifyOf include clean (option_map (λ w. w.now) p) files) r) (sym e) a
