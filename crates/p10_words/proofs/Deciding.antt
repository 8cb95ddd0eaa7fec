-- What the values that `clap` found come to, against the command lines.
use Rattle.std.proofs.Common.{◌≡◌, ℕ, true, false, Bool, ap, sym, ◌∙◌, refl, subst, List, [], ◌∷◌, Option, Some, None, arith, ◌==◌, ◌<◌, inl, inr}
use Rattle.std.specs.Prelude.{◌&&◌, ◌||◌, codes, bytes_eq, not, decimal, is_some}
use Rattle.std.specs.List.{list_all}
use Rattle.std.specs.Char.{digit_value}
use Rattle.std.specs.Str.Parse.{IsNumeral}
use Rattle.std.proofs.lemmas.Fmt.{decimal_is_IsNumeral}
use Rattle.p10_words.specs.declared.command.Command.{Command}
use Rattle.p10_words.specs.declared.command.Command.TheVariants.{Check, Derive, Migrate, Verify, Recheck, Run}
use Rattle.p10_words.specs.declared.command.Budget.{Budget}
use Rattle.p10_words.specs.declared.command.Budget.TheVariants.{Steps, Certificate}
use Rattle.p10_base.specs.Words.{Text}
use Rattle.p10_words.specs.CommandLines.{Given, AreGivenOnce, value_of, directories_in, HasNumber, HasFormat, HasForm, HasVersion}
use Rattle.p10_words.specs.Commands.{check_options, derive_options, migrate_options, verify_options, recheck_options, run_options, IsSplit, AreDirectories, IsCheck, IsDerive, IsMigrate, IsRecheck, HasBudget, IsRun, IsRestOf}
use Rattle.p10_words.specs.private.Scanning.{Split, is_among, is_name, scan}
use Rattle.p10_words.specs.private.Parsing.{are_askable, IsNoSplit}
use Rattle.p10_words.specs.private.Deciding.{is_given_name, has_directories, has_files, IsCheckOf, IsDeriveOf, IsMigrateOf, IsVerifyOf, IsRecheckOf, IsRunOf, IsGenerateOf}
use Rattle.p10_words.proofs.Rows.{same_text}
use Rattle.p10_words.proofs.Asked.{check_askable, derive_askable, migrate_askable, verify_askable, recheck_askable, run_askable, none_askable}
use Rattle.p10_words.proofs.Splitting.{and_left, and_right, all_named, all_names, read_so, split_so}
use Rattle.p10_words.proofs.Named.{and_both, are_among, Known, known, all_pass, value_passes, flag_value, files_some, files_named, files_have}
use Rattle.p10_words.proofs.Naming.{checks, derives, migrates, verifies, rechecks, runs, generates}

-- ---- `check`
by_check : (n : Text) (P : Text → Type 0) → is_among check_options n ≡ true → P (codes "include") → P (codes "format") → P n
by_check n P a i f = by_tests (bytes_eq (codes "include") n) (bytes_eq (codes "format") n) refl refl a
  where
    by_tests : (x y : Bool) → bytes_eq (codes "include") n ≡ x → bytes_eq (codes "format") n ≡ y → x || (y || false) ≡ true → P n
    by_tests true y p q e = subst P (same_text (codes "include") n p) i
    by_tests false true p q e = subst P (same_text (codes "format") n q) f
    by_tests false false p q e = absurd cc

-- a format is a name
format_named : (o : Option Text) (json : Bool) → HasFormat o json → is_given_name o ≡ true
format_named None json h = refl
format_named (Some value) json (inl text) = ap is_name text.0
format_named (Some value) json (inr json_is) = ap is_name json_is.0

pub check_is : (words : List Text) (sp : Split) (c : Command) → scan check_options None words ≡ Some sp → AreGivenOnce [] sp.options
    → IsCheckOf (value_of sp.options (codes "include")) (value_of sp.options (codes "format")) sp.files c → IsRestOf c (codes "check") words
unfolding Known
check_is words sp c e g v =
    let value = and_left (is_given_name (value_of sp.options (codes "include"))) (list_all is_name (directories_in (value_of sp.options (codes "include")))) v.directories in
    let parts = and_right (is_given_name (value_of sp.options (codes "include"))) (list_all is_name (directories_in (value_of sp.options (codes "include")))) v.directories in
    let options = all_pass check_options [] sp.options g ((known check_options words).0 sp e)
    (λ n a. by_check n (λ m. is_given_name (value_of sp.options m) ≡ true) a value (format_named _ _ v.has_format)) in
    let names = and_both (list_all (λ (o : Given). is_name o.1) sp.options) (list_all is_name sp.files) options (files_named sp.files v.some) in
    subst (λ (x : Command). IsRestOf x (codes "check") words) (sym v.is) (
      refl,
      record {
        options = sp.options;
        split = record { splits = split_so check_options words sp e names; once = g; some = files_some sp.files v.some };
        include = record { are = refl; names = all_names (directories_in (value_of sp.options (codes "include"))) parts };
        has_format = v.has_format;
      },
    )

-- ---- `derive`
by_derive : (n : Text) (P : Text → Type 0) → is_among derive_options n ≡ true → P (codes "include") → P (codes "cert-version") → P (codes "diff") → P n
by_derive n P a i v d = by_tests (bytes_eq (codes "include") n) (bytes_eq (codes "cert-version") n) (bytes_eq (codes "diff") n) refl refl refl a
  where
    by_tests : (x y z : Bool) → bytes_eq (codes "include") n ≡ x → bytes_eq (codes "cert-version") n ≡ y → bytes_eq (codes "diff") n ≡ z → x || (y || (z || false)) ≡ true → P n
    by_tests true y z p q r e = subst P (same_text (codes "include") n p) i
    by_tests false true z p q r e = subst P (same_text (codes "cert-version") n q) v
    by_tests false false true p q r e = subst P (same_text (codes "diff") n r) d
    by_tests false false false p q r e = absurd cc

-- a version is a name
version_named : (o : Option Text) (version : ℕ) → HasVersion o version → is_given_name o ≡ true
version_named None version h = refl
version_named (Some value) version (inl one) = ap is_name one.0
version_named (Some value) version (inr two) = ap is_name two.0

-- the same where `--diff` may be given
form_named : (o : Option Text) (differences : Bool) (version : ℕ) (diff : Bool) → HasForm o differences version diff → is_given_name o ≡ true
form_named o false version diff h = version_named o version h.0
form_named o true version diff h = ap is_given_name h.0

-- `true` is a name
true_named : (o : Option Text) → ((v : Text) → o ≡ Some v → bytes_eq v (codes "true") ≡ true) → is_given_name o ≡ true
true_named None f = refl
true_named (Some v) f = ap is_name (same_text v (codes "true") (f v refl))

pub derive_is : (words : List Text) (sp : Split) (c : Command) → scan derive_options None words ≡ Some sp → AreGivenOnce [] sp.options
    → IsDeriveOf (value_of sp.options (codes "include")) (value_of sp.options (codes "cert-version")) (is_some (value_of sp.options (codes "diff"))) sp.files c → IsRestOf c (codes "derive") words
unfolding Known
derive_is words sp c e g v =
    let value = and_left (is_given_name (value_of sp.options (codes "include"))) (list_all is_name (directories_in (value_of sp.options (codes "include")))) v.directories in
    let parts = and_right (is_given_name (value_of sp.options (codes "include"))) (list_all is_name (directories_in (value_of sp.options (codes "include")))) v.directories in
    let read = (known derive_options words).0 sp e in
    let options = all_pass derive_options [] sp.options g read
    (λ n a. by_derive n (λ m. is_given_name (value_of sp.options m) ≡ true) a value (form_named _ _ _ _ v.has_form) (true_named (value_of sp.options (codes "diff")) (λ x f. flag_value derive_options sp.options (codes "diff") x read refl f))) in
    let names = and_both (list_all (λ (o : Given). is_name o.1) sp.options) (list_all is_name sp.files) options (files_named sp.files v.some) in
    subst (λ (x : Command). IsRestOf x (codes "derive") words) (sym v.is) (
      refl,
      record {
        options = sp.options;
        split = record { splits = split_so derive_options words sp e names; once = g; some = files_some sp.files v.some };
        include = record { are = refl; names = all_names (directories_in (value_of sp.options (codes "include"))) parts };
        has_form = v.has_form;
      },
    )

-- ---- `migrate`
by_migrate : (n : Text) (P : Text → Type 0) → is_among migrate_options n ≡ true → P (codes "include") → P (codes "cert") → P n
by_migrate n P a i c = by_tests (bytes_eq (codes "include") n) (bytes_eq (codes "cert") n) refl refl a
  where
    by_tests : (x y : Bool) → bytes_eq (codes "include") n ≡ x → bytes_eq (codes "cert") n ≡ y → x || (y || false) ≡ true → P n
    by_tests true y p q e = subst P (same_text (codes "include") n p) i
    by_tests false true p q e = subst P (same_text (codes "cert") n q) c
    by_tests false false p q e = absurd cc

pub migrate_is : (words : List Text) (sp : Split) (c : Command) → scan migrate_options None words ≡ Some sp → AreGivenOnce [] sp.options
    → IsMigrateOf (value_of sp.options (codes "include")) (value_of sp.options (codes "cert")) sp.files c → IsRestOf c (codes "migrate") words
unfolding Known
migrate_is words sp c e g v =
    let value = and_left (is_given_name (value_of sp.options (codes "include"))) (list_all is_name (directories_in (value_of sp.options (codes "include")))) v.directories in
    let parts = and_right (is_given_name (value_of sp.options (codes "include"))) (list_all is_name (directories_in (value_of sp.options (codes "include")))) v.directories in
    let options = all_pass migrate_options [] sp.options g ((known migrate_options words).0 sp e)
    (λ n a. by_migrate n (λ m. is_given_name (value_of sp.options m) ≡ true) a value (ap is_given_name v.given ∙ v.name)) in
    let names = and_both (list_all (λ (o : Given). is_name o.1) sp.options) (list_all is_name sp.files) options (files_named sp.files v.some) in
    subst (λ (x : Command). IsRestOf x (codes "migrate") words) (sym v.is) (
      refl,
      record {
        options = sp.options;
        split = record { splits = split_so migrate_options words sp e names; once = g; some = files_some sp.files v.some };
        include = record { are = refl; names = all_names (directories_in (value_of sp.options (codes "include"))) parts };
        cert = v.given;
      },
    )

-- ---- `verify`
by_verify : (n : Text) (P : Text → Type 0) → is_among verify_options n ≡ true → P (codes "include") → P (codes "clean") → P (codes "cert") → P n
by_verify n P a i l c = by_tests (bytes_eq (codes "include") n) (bytes_eq (codes "clean") n) (bytes_eq (codes "cert") n) refl refl refl a
  where
    by_tests : (x y z : Bool) → bytes_eq (codes "include") n ≡ x → bytes_eq (codes "clean") n ≡ y → bytes_eq (codes "cert") n ≡ z → x || (y || (z || false)) ≡ true → P n
    by_tests true y z p q r e = subst P (same_text (codes "include") n p) i
    by_tests false true z p q r e = subst P (same_text (codes "clean") n q) l
    by_tests false false true p q r e = subst P (same_text (codes "cert") n r) c
    by_tests false false false p q r e = absurd cc

pub verify_is : (words : List Text) (sp : Split) (c : Command) → scan verify_options None words ≡ Some sp → AreGivenOnce [] sp.options
    → IsVerifyOf (value_of sp.options (codes "include")) (is_some (value_of sp.options (codes "clean"))) (value_of sp.options (codes "cert")) sp.files c → IsRestOf c (codes "verify") words
unfolding Known
verify_is words sp c e g v =
    let value = and_left (is_given_name (value_of sp.options (codes "include"))) (list_all is_name (directories_in (value_of sp.options (codes "include")))) v.directories in
    let parts = and_right (is_given_name (value_of sp.options (codes "include"))) (list_all is_name (directories_in (value_of sp.options (codes "include")))) v.directories in
    let read = (known verify_options words).0 sp e in
    let options = all_pass verify_options [] sp.options g read
    (λ n a. by_verify n (λ m. is_given_name (value_of sp.options m) ≡ true) a value (true_named (value_of sp.options (codes "clean")) (λ x f. flag_value verify_options sp.options (codes "clean") x read refl f)) (ap is_given_name v.given ∙ v.name)) in
    let names = and_both (list_all (λ (o : Given). is_name o.1) sp.options) (list_all is_name sp.files) options (files_named sp.files v.some) in
    subst (λ (x : Command). IsRestOf x (codes "verify") words) (sym v.is) (
      refl,
      record {
        options = sp.options;
        split = record { splits = split_so verify_options words sp e names; once = g; some = files_some sp.files v.some };
        include = record { are = refl; names = all_names (directories_in (value_of sp.options (codes "include"))) parts };
        flag = refl;
        cert = v.given;
      },
    )

-- what is read of the words of a split
pub record Read (names words : List Text) (options : List Given) (files : List Text) : Type 0 where
  pub scanned : scan names None words ≡ Some (record { options = options; files = files })
  pub options_named : list_all (λ (o : Given). is_name o.1) options ≡ true
  pub files_are : has_files files ≡ true

pub read : (names words : List Text) (options : List Given) (files : List Text) → are_askable names ≡ true → IsSplit names words options files → Read names words options files
read names words options files k s =
    let r = read_so names words options files k s.splits in
    record {
      scanned = r.scanned;
      options_named = and_left (list_all (λ (o : Given). is_name o.1) options) (list_all is_name files) r.names_alone;
      files_are = files_have files s.some (and_right (list_all (λ (o : Given). is_name o.1) options) (list_all is_name files) r.names_alone);
    }

-- a split is not one that no reading of the words has
not_split : (names words : List Text) (options : List Given) (files : List Text) → are_askable names ≡ true → IsNoSplit names words → IsSplit names words options files → ⊥
not_split names words options files k n s =
    let r = read_so names words options files k s.splits in
    n (record { options = options; files = files }) r.scanned s.once r.names_alone

has_all : (options : List Given) (directories : List Text) → list_all (λ (o : Given). is_name o.1) options ≡ true → AreDirectories options directories → has_directories (value_of options (codes "include")) ≡ true
has_all options directories e d =
    and_both (is_given_name (value_of options (codes "include"))) (list_all is_name (directories_in (value_of options (codes "include")))) (value_passes options (codes "include") e)
    (subst (λ (l : List Text). list_all is_name l ≡ true) d.are (all_named directories d.names))

verify_of : (options : List Given) (words directories : List Text) (clean : Bool) (certificate : Text) (files : List Text) → IsSplit verify_options words options files → AreDirectories options directories
    → is_some (value_of options (codes "clean")) ≡ clean → value_of options (codes "cert") ≡ Some certificate
    → IsVerifyOf (value_of options (codes "include")) (is_some (value_of options (codes "clean"))) (value_of options (codes "cert")) files (Verify directories clean certificate files)
verify_of options words directories clean certificate files s d f e =
    let r = read verify_options words options files verify_askable s in
    record {
      certificate = certificate;
      directories = has_all options directories r.options_named d;
      given = e;
      name = subst (λ (v : Option Text). is_given_name v ≡ true) e (value_passes options (codes "cert") r.options_named);
      some = r.files_are;
      is = λ i. Verify (d.are i) (sym f i) certificate files;
    }

pub same_split : (o : Option Split) (i j : Split) → o ≡ Some i → o ≡ Some j → i ≡ j
same_split o i j e f = let w = sym e ∙ f in cc

check_of : (words directories : List Text) (json : Bool) (files : List Text) (r : IsCheck words directories json files)
    → IsCheckOf (value_of r.options (codes "include")) (value_of r.options (codes "format")) files (Check directories json files)
check_of words directories json files r =
    let q = read check_options words r.options files check_askable r.split in
    record {
      json = json;
      directories = has_all r.options directories q.options_named r.include;
      has_format = r.has_format;
      some = q.files_are;
      is = ap (λ (l : List Text). Check l json files) r.include.are;
    }

pub check_from : (words : List Text) (sp : Split) (c : Command) → scan check_options None words ≡ Some sp → IsRestOf c (codes "check") words
    → IsCheckOf (value_of sp.options (codes "include")) (value_of sp.options (codes "format")) sp.files c
check_from words sp c e r =
    let v = checks words c r in
    let same = same_split _ _ _ (read check_options words v.rest.options v.files check_askable v.rest.split).scanned e in
    subst (λ (d : Command). IsCheckOf (value_of sp.options (codes "include")) (value_of sp.options (codes "format")) sp.files d) (sym v.is)
    (subst (λ (x : Split). IsCheckOf (value_of x.options (codes "include")) (value_of x.options (codes "format")) x.files (Check v.directories v.json v.files)) same
    (check_of words v.directories v.json v.files v.rest))

pub no_check : (words : List Text) (c : Command) → IsNoSplit check_options words → IsRestOf c (codes "check") words → ⊥
no_check words c n r = let v = checks words c r in not_split check_options words v.rest.options v.files check_askable n v.rest.split

derive_of : (words directories : List Text) (version : ℕ) (diff : Bool) (files : List Text) (r : IsDerive words directories version diff files)
    → IsDeriveOf (value_of r.options (codes "include")) (value_of r.options (codes "cert-version")) (is_some (value_of r.options (codes "diff"))) files (Derive directories version diff files)
derive_of words directories version diff files r =
    let q = read derive_options words r.options files derive_askable r.split in
    record {
      version = version;
      diff = diff;
      directories = has_all r.options directories q.options_named r.include;
      has_form = r.has_form;
      some = q.files_are;
      is = ap (λ (l : List Text). Derive l version diff files) r.include.are;
    }

pub derive_from : (words : List Text) (sp : Split) (c : Command) → scan derive_options None words ≡ Some sp → IsRestOf c (codes "derive") words
    → IsDeriveOf (value_of sp.options (codes "include")) (value_of sp.options (codes "cert-version")) (is_some (value_of sp.options (codes "diff"))) sp.files c
derive_from words sp c e r =
    let v = derives words c r in
    let same = same_split _ _ _ (read derive_options words v.rest.options v.files derive_askable v.rest.split).scanned e in
    subst (λ (d : Command). IsDeriveOf (value_of sp.options (codes "include")) (value_of sp.options (codes "cert-version")) (is_some (value_of sp.options (codes "diff"))) sp.files d) (sym v.is)
    (subst (λ (x : Split). IsDeriveOf (value_of x.options (codes "include")) (value_of x.options (codes "cert-version")) (is_some (value_of x.options (codes "diff"))) x.files (Derive v.directories v.version v.diff v.files)) same
    (derive_of words v.directories v.version v.diff v.files v.rest))

pub no_derive : (words : List Text) (c : Command) → IsNoSplit derive_options words → IsRestOf c (codes "derive") words → ⊥
no_derive words c n r = let v = derives words c r in not_split derive_options words v.rest.options v.files derive_askable n v.rest.split

migrate_of : (words directories : List Text) (certificate : Text) (files : List Text) (r : IsMigrate words directories certificate files)
    → IsMigrateOf (value_of r.options (codes "include")) (value_of r.options (codes "cert")) files (Migrate directories certificate files)
migrate_of words directories certificate files r =
    let q = read migrate_options words r.options files migrate_askable r.split in
    record {
      certificate = certificate;
      directories = has_all r.options directories q.options_named r.include;
      given = r.cert;
      name = subst (λ (v : Option Text). is_given_name v ≡ true) r.cert (value_passes r.options (codes "cert") q.options_named);
      some = q.files_are;
      is = ap (λ (l : List Text). Migrate l certificate files) r.include.are;
    }

pub migrate_from : (words : List Text) (sp : Split) (c : Command) → scan migrate_options None words ≡ Some sp → IsRestOf c (codes "migrate") words
    → IsMigrateOf (value_of sp.options (codes "include")) (value_of sp.options (codes "cert")) sp.files c
migrate_from words sp c e r =
    let v = migrates words c r in
    let same = same_split _ _ _ (read migrate_options words v.rest.options v.files migrate_askable v.rest.split).scanned e in
    subst (λ (d : Command). IsMigrateOf (value_of sp.options (codes "include")) (value_of sp.options (codes "cert")) sp.files d) (sym v.is)
    (subst (λ (x : Split). IsMigrateOf (value_of x.options (codes "include")) (value_of x.options (codes "cert")) x.files (Migrate v.directories v.certificate v.files)) same
    (migrate_of words v.directories v.certificate v.files v.rest))

pub no_migrate : (words : List Text) (c : Command) → IsNoSplit migrate_options words → IsRestOf c (codes "migrate") words → ⊥
no_migrate words c n r = let v = migrates words c r in not_split migrate_options words v.rest.options v.files migrate_askable n v.rest.split

pub verify_from : (words : List Text) (sp : Split) (c : Command) → scan verify_options None words ≡ Some sp → IsRestOf c (codes "verify") words
    → IsVerifyOf (value_of sp.options (codes "include")) (is_some (value_of sp.options (codes "clean"))) (value_of sp.options (codes "cert")) sp.files c
verify_from words sp c e r =
    let v = verifies words c r in
    let same = same_split _ _ _ (read verify_options words v.rest.options v.files verify_askable v.rest.split).scanned e in
    subst (λ (d : Command). IsVerifyOf (value_of sp.options (codes "include")) (is_some (value_of sp.options (codes "clean"))) (value_of sp.options (codes "cert")) sp.files d) (sym v.is)
    (subst (λ (x : Split). IsVerifyOf (value_of x.options (codes "include")) (is_some (value_of x.options (codes "clean"))) (value_of x.options (codes "cert")) x.files (Verify v.directories v.clean v.certificate v.files)) same
    (verify_of v.rest.options words v.directories v.clean v.certificate v.files v.rest.split v.rest.include v.rest.flag v.rest.cert))

pub no_verify : (words : List Text) (c : Command) → IsNoSplit verify_options words → IsRestOf c (codes "verify") words → ⊥
no_verify words c n r = let v = verifies words c r in not_split verify_options words v.rest.options v.files verify_askable n v.rest.split

-- ---- `recheck`
by_recheck : (n : Text) (P : Text → Type 0) → is_among recheck_options n ≡ true → P (codes "include") → P (codes "since") → P (codes "cert") → P n
by_recheck n P a i s c = by_tests (bytes_eq (codes "include") n) (bytes_eq (codes "since") n) (bytes_eq (codes "cert") n) refl refl refl a
  where
    by_tests : (x y z : Bool) → bytes_eq (codes "include") n ≡ x → bytes_eq (codes "since") n ≡ y → bytes_eq (codes "cert") n ≡ z → x || (y || (z || false)) ≡ true → P n
    by_tests true y z p q r e = subst P (same_text (codes "include") n p) i
    by_tests false true z p q r e = subst P (same_text (codes "since") n q) s
    by_tests false false true p q r e = subst P (same_text (codes "cert") n r) c
    by_tests false false false p q r e = absurd cc

pub recheck_is : (words : List Text) (sp : Split) (c : Command) → scan recheck_options None words ≡ Some sp → AreGivenOnce [] sp.options
    → IsRecheckOf (value_of sp.options (codes "include")) (value_of sp.options (codes "since")) (value_of sp.options (codes "cert")) sp.files c → IsRestOf c (codes "recheck") words
unfolding Known
recheck_is words sp c e g v =
    let value = and_left (is_given_name (value_of sp.options (codes "include"))) (list_all is_name (directories_in (value_of sp.options (codes "include")))) v.directories in
    let parts = and_right (is_given_name (value_of sp.options (codes "include"))) (list_all is_name (directories_in (value_of sp.options (codes "include")))) v.directories in
    let options = all_pass recheck_options [] sp.options g ((known recheck_options words).0 sp e)
    (λ n a. by_recheck n (λ m. is_given_name (value_of sp.options m) ≡ true) a value (ap is_given_name v.given_old ∙ v.name_old) (ap is_given_name v.given ∙ v.name)) in
    let names = and_both (list_all (λ (o : Given). is_name o.1) sp.options) (list_all is_name sp.files) options (files_named sp.files v.some) in
    subst (λ (x : Command). IsRestOf x (codes "recheck") words) (sym v.is) (
      refl,
      record {
        options = sp.options;
        split = record { splits = split_so recheck_options words sp e names; once = g; some = files_some sp.files v.some };
        include = record { are = refl; names = all_names (directories_in (value_of sp.options (codes "include"))) parts };
        since = v.given_old;
        cert = v.given;
      },
    )

-- ---- `run`
by_run : (n : Text) (P : Text → Type 0) → is_among run_options n ≡ true → P (codes "include") → P (codes "steps") → P (codes "turns") → P (codes "deny") → P (codes "cert") → P (codes "sensors") → P n
by_run n P a i s t d c f =
    by_tests (bytes_eq (codes "include") n) (bytes_eq (codes "steps") n) (bytes_eq (codes "turns") n) (bytes_eq (codes "deny") n) (bytes_eq (codes "cert") n) (bytes_eq (codes "sensors") n) refl refl refl refl refl refl a
  where
    by_tests : (v w x y z k : Bool) → bytes_eq (codes "include") n ≡ v → bytes_eq (codes "steps") n ≡ w → bytes_eq (codes "turns") n ≡ x → bytes_eq (codes "deny") n ≡ y → bytes_eq (codes "cert") n ≡ z
        → bytes_eq (codes "sensors") n ≡ k → v || (w || (x || (y || (z || (k || false))))) ≡ true → P n
    by_tests true w x y z k p q r u l m e = subst P (same_text (codes "include") n p) i
    by_tests false true x y z k p q r u l m e = subst P (same_text (codes "steps") n q) s
    by_tests false false true y z k p q r u l m e = subst P (same_text (codes "turns") n r) t
    by_tests false false false true z k p q r u l m e = subst P (same_text (codes "deny") n u) d
    by_tests false false false false true k p q r u l m e = subst P (same_text (codes "cert") n l) c
    by_tests false false false false false true p q r u l m e = subst P (same_text (codes "sensors") n m) f
    by_tests false false false false false false p q r u l m e = absurd cc

-- a number is a name: its first byte is a digit
numeral_named : (digits : Text) → IsNumeral 10 digits → is_name digits ≡ true
numeral_named [] i = absurd (omega (arith, i.0))
numeral_named (c ∷ cs) i = by_test (c == 45) refl
  where
    by_test : (b : Bool) → (c == 45) ≡ b → not b ≡ true
    by_test true e = absurd (let hyphen : c ≡ 45 = grind arith in let small = subst (λ (k : ℕ). digit_value k < 10) hyphen i.1.0 in omega (arith, small))
    by_test false e = refl

number_named : (o : Option Text) (standard n : ℕ) → HasNumber o standard n → is_given_name o ≡ true
number_named None standard n h = refl
number_named (Some value) standard n h = subst (λ (t : Text). is_name t ≡ true) (sym h.digits) (numeral_named (decimal n) (decimal_is_IsNumeral n (omega (arith, h.small))).0)

-- the steps are a number, or not given
steps_named : (steps cert : Option Text) (b : Budget) → HasBudget steps cert b → is_given_name steps ≡ true
steps_named steps cert (Steps n) h = number_named steps 10000000 n h.1
steps_named steps cert (Certificate name) h = ap is_given_name h.0

pub run_is : (words : List Text) (sp : Split) (c : Command) → scan run_options None words ≡ Some sp → AreGivenOnce [] sp.options
    → IsRunOf (value_of sp.options (codes "include")) (value_of sp.options (codes "steps")) (value_of sp.options (codes "turns")) (value_of sp.options (codes "deny")) (value_of sp.options (codes "cert")) (value_of sp.options (codes "sensors")) sp.files c
    → IsRestOf c (codes "run") words
unfolding Known
run_is words sp c e g v =
    let value = and_left (is_given_name (value_of sp.options (codes "include"))) (list_all is_name (directories_in (value_of sp.options (codes "include")))) v.directories in
    let parts = and_right (is_given_name (value_of sp.options (codes "include"))) (list_all is_name (directories_in (value_of sp.options (codes "include")))) v.directories in
    let options = all_pass run_options [] sp.options g ((known run_options words).0 sp e)
    (λ n a. by_run n (λ m. is_given_name (value_of sp.options m) ≡ true) a value (steps_named _ _ _ v.has_budget.has) (number_named _ _ _ v.has_turns) (number_named _ _ _ v.has_deny) v.has_budget.name v.named) in
    let names = and_both (list_all (λ (o : Given). is_name o.1) sp.options) (list_all is_name sp.files) options (files_named sp.files v.some) in
    subst (λ (x : Command). IsRestOf x (codes "run") words) (sym v.is) (
      refl,
      record {
        options = sp.options;
        split = record { splits = split_so run_options words sp e names; once = g; some = files_some sp.files v.some };
        include = record { are = refl; names = all_names (directories_in (value_of sp.options (codes "include"))) parts };
        has_budget = v.has_budget.has;
        has_turns = v.has_turns;
        has_deny = v.has_deny;
        has_sensors = refl;
      },
    )

recheck_of : (words directories : List Text) (old certificate : Text) (files : List Text) (r : IsRecheck words directories old certificate files)
    → IsRecheckOf (value_of r.options (codes "include")) (value_of r.options (codes "since")) (value_of r.options (codes "cert")) files (Recheck directories old certificate files)
recheck_of words directories old certificate files r =
    let q = read recheck_options words r.options files recheck_askable r.split in
    record {
      old = old;
      certificate = certificate;
      directories = has_all r.options directories q.options_named r.include;
      given_old = r.since;
      name_old = subst (λ (v : Option Text). is_given_name v ≡ true) r.since (value_passes r.options (codes "since") q.options_named);
      given = r.cert;
      name = subst (λ (v : Option Text). is_given_name v ≡ true) r.cert (value_passes r.options (codes "cert") q.options_named);
      some = q.files_are;
      is = ap (λ (l : List Text). Recheck l old certificate files) r.include.are;
    }

pub recheck_from : (words : List Text) (sp : Split) (c : Command) → scan recheck_options None words ≡ Some sp → IsRestOf c (codes "recheck") words
    → IsRecheckOf (value_of sp.options (codes "include")) (value_of sp.options (codes "since")) (value_of sp.options (codes "cert")) sp.files c
recheck_from words sp c e r =
    let v = rechecks words c r in
    let same = same_split _ _ _ (read recheck_options words v.rest.options v.files recheck_askable v.rest.split).scanned e in
    subst (λ (d : Command). IsRecheckOf (value_of sp.options (codes "include")) (value_of sp.options (codes "since")) (value_of sp.options (codes "cert")) sp.files d) (sym v.is)
    (subst (λ (x : Split). IsRecheckOf (value_of x.options (codes "include")) (value_of x.options (codes "since")) (value_of x.options (codes "cert")) x.files (Recheck v.directories v.old v.certificate v.files)) same
    (recheck_of words v.directories v.old v.certificate v.files v.rest))

pub no_recheck : (words : List Text) (c : Command) → IsNoSplit recheck_options words → IsRestOf c (codes "recheck") words → ⊥
no_recheck words c n r = let v = rechecks words c r in not_split recheck_options words v.rest.options v.files recheck_askable n v.rest.split

run_of : (words directories : List Text) (budget : Budget) (turns deny : ℕ) (sensors : Option Text) (files : List Text) (r : IsRun words directories budget turns deny sensors files)
    → IsRunOf (value_of r.options (codes "include")) (value_of r.options (codes "steps")) (value_of r.options (codes "turns")) (value_of r.options (codes "deny")) (value_of r.options (codes "cert")) (value_of r.options (codes "sensors")) files
    (Run directories budget turns deny sensors files)
run_of words directories budget turns deny sensors files r =
    let q = read run_options words r.options files run_askable r.split in
    record {
      budget = budget;
      turn_count = turns;
      denied = deny;
      directories = has_all r.options directories q.options_named r.include;
      has_budget = record { has = r.has_budget; name = value_passes r.options (codes "cert") q.options_named };
      has_turns = r.has_turns;
      has_deny = r.has_deny;
      named = value_passes r.options (codes "sensors") q.options_named;
      some = q.files_are;
      is = λ i. Run (r.include.are i) budget turns deny (sym r.has_sensors i) files;
    }

pub run_from : (words : List Text) (sp : Split) (c : Command) → scan run_options None words ≡ Some sp → IsRestOf c (codes "run") words
    → IsRunOf (value_of sp.options (codes "include")) (value_of sp.options (codes "steps")) (value_of sp.options (codes "turns")) (value_of sp.options (codes "deny")) (value_of sp.options (codes "cert")) (value_of sp.options (codes "sensors")) sp.files c
run_from words sp c e r =
    let v = runs words c r in
    let same = same_split _ _ _ (read run_options words v.rest.options v.files run_askable v.rest.split).scanned e in
    subst
    (λ (d : Command).
    IsRunOf (value_of sp.options (codes "include")) (value_of sp.options (codes "steps")) (value_of sp.options (codes "turns")) (value_of sp.options (codes "deny")) (value_of sp.options (codes "cert")) (value_of sp.options (codes "sensors")) sp.files d)
    (sym v.is)
    (subst
    (λ (x : Split).
    IsRunOf (value_of x.options (codes "include")) (value_of x.options (codes "steps")) (value_of x.options (codes "turns")) (value_of x.options (codes "deny")) (value_of x.options (codes "cert")) (value_of x.options (codes "sensors")) x.files
    (Run v.directories v.budget v.turns v.deny v.sensors v.files)) same
    (run_of words v.directories v.budget v.turns v.deny v.sensors v.files v.rest))

pub no_run : (words : List Text) (c : Command) → IsNoSplit run_options words → IsRestOf c (codes "run") words → ⊥
no_run words c n r = let v = runs words c r in not_split run_options words v.rest.options v.files run_askable n v.rest.split

-- ---- `gen`
no_option : (options : List Given) → are_among [] options ≡ true → options ≡ []
unfolding are_among
no_option [] a = refl
no_option (o ∷ options) a = absurd cc

pub generate_is : (words : List Text) (sp : Split) (c : Command) → scan [] None words ≡ Some sp → IsGenerateOf sp.files c → IsRestOf c (codes "gen") words
unfolding Known
generate_is words sp c e v =
    let bare : sp.options ≡ [] = no_option sp.options ((known [] words).0 sp e) in
    let alone : sp ≡ record { options = []; files = v.number ∷ [] } = λ i. record { options = bare i; files = v.alone i } in
    let named : is_name v.number && true ≡ true = and_both (is_name v.number) true (number_named (Some v.number) 0 v.functions v.is_number) refl in
    subst (λ (x : Command). IsRestOf x (codes "gen") words) (sym v.is) (
      refl,
      record {
        number = v.number;
        split = record { splits = split_so [] words (record { options = []; files = v.number ∷ [] }) (e ∙ ap Some alone) named; once = tt; some = λ f. cc };
        is = v.is_number;
      },
    )

pub generate_from : (words : List Text) (sp : Split) (c : Command) → scan [] None words ≡ Some sp → IsRestOf c (codes "gen") words → IsGenerateOf sp.files c
generate_from words sp c e r =
    let v = generates words c r in
    let same = same_split _ _ _ (read [] words [] (v.rest.number ∷ []) none_askable v.rest.split).scanned e in
    record { number = v.rest.number; functions = v.functions; alone = sym (ap (λ (x : Split). x.files) same); is_number = v.rest.is; is = v.is }

pub no_generate : (words : List Text) (c : Command) → IsNoSplit [] words → IsRestOf c (codes "gen") words → ⊥
no_generate words c n r = let v = generates words c r in not_split [] words [] (v.rest.number ∷ []) none_askable n v.rest.split
