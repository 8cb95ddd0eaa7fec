-- What the values of options and the files come to.
use Rattle.std.specs.Prelude.{◌≡◌, ℕ, List, [], ◌∷◌, Bool, true, false, ◌&&◌, codes, bytes_eq, Option, Some, None, Result, Ok, Err}
use Rattle.std.specs.List.{list_all}
use Rattle.p10_words.specs.declared.command.Command.{Command}
use Rattle.p10_words.specs.declared.command.Command.TheVariants.{Check, Derive, Migrate, Verify, Recheck, Run, Generate}
use Rattle.p10_words.specs.declared.command.Budget.{Budget}
use Rattle.p10_words.specs.declared.command.Usage.{Usage}
use Rattle.p10_words.specs.declared.command.Usage.TheVariants.{Refused, Memory}
use Rattle.p10_base.specs.Words.{Text}
use Rattle.p10_words.specs.CommandLines.{directories_in, IsNumber, HasNumber, HasFormat, HasForm}
use Rattle.p10_words.specs.Commands.{HasBudget}
use Rattle.p10_words.specs.private.Scanning.{is_name}

-- whether a flag is given, by its value
abbrev pub is_given : Option Text → Bool
is_given None = false
is_given (Some value) = bytes_eq value (codes "true")

-- a value is a name, if there is one
abbrev pub is_given_name : Option Text → Bool
is_given_name None = true
is_given_name (Some value) = is_name value

-- directories are names, and so is the value that has them
abbrev pub has_directories : Option Text → Bool
has_directories value = is_given_name value && list_all is_name (directories_in value)

-- there is a file, and each is a name
abbrev pub has_files : List Text → Bool
has_files [] = false
has_files (file ∷ files) = list_all is_name (file ∷ files)

-- `check` of these values and files
pub record IsCheckOf (include format : Option Text) (files : List Text) (c : Command) : Type 0 where
  pub json : Bool
  pub directories : has_directories include ≡ true
  pub has_format : HasFormat format json
  pub some : has_files files ≡ true
  pub is : c ≡ Check (directories_in include) json files

-- `derive` of these values and files, and whether `--diff` is given
pub record IsDeriveOf (include cert_version : Option Text) (differences : Bool) (files : List Text) (c : Command) : Type 0 where
  pub version : ℕ
  pub diff : Bool
  pub directories : has_directories include ≡ true
  pub has_form : HasForm cert_version differences version diff
  pub some : has_files files ≡ true
  pub is : c ≡ Derive (directories_in include) version diff files

-- `migrate` of these values and files
pub record IsMigrateOf (include cert : Option Text) (files : List Text) (c : Command) : Type 0 where
  pub certificate : Text
  pub directories : has_directories include ≡ true
  pub given : cert ≡ Some certificate
  pub name : is_name certificate ≡ true
  pub some : has_files files ≡ true
  pub is : c ≡ Migrate (directories_in include) certificate files

-- `verify` of these values and files, and whether `--clean` is given
pub record IsVerifyOf (include : Option Text) (clean : Bool) (cert : Option Text) (files : List Text) (c : Command) : Type 0 where
  pub certificate : Text
  pub directories : has_directories include ≡ true
  pub given : cert ≡ Some certificate
  pub name : is_name certificate ≡ true
  pub some : has_files files ≡ true
  pub is : c ≡ Verify (directories_in include) clean certificate files

-- `recheck` of these values and files
pub record IsRecheckOf (include since cert : Option Text) (files : List Text) (c : Command) : Type 0 where
  pub old : Text
  pub certificate : Text
  pub directories : has_directories include ≡ true
  pub given_old : since ≡ Some old
  pub name_old : is_name old ≡ true
  pub given : cert ≡ Some certificate
  pub name : is_name certificate ≡ true
  pub some : has_files files ≡ true
  pub is : c ≡ Recheck (directories_in include) old certificate files

-- what bounds the steps, by the values of `--steps` and `--cert`
pub record IsBudgetOf (steps cert : Option Text) (b : Budget) : Type 0 where
  pub has : HasBudget steps cert b
  pub name : is_given_name cert ≡ true

-- `run` of these values and files
pub record IsRunOf (include steps turns deny cert sensors : Option Text) (files : List Text) (c : Command) : Type 0 where
  pub budget : Budget
  pub turn_count : ℕ
  pub denied : ℕ
  pub directories : has_directories include ≡ true
  pub has_budget : IsBudgetOf steps cert budget
  pub has_turns : HasNumber turns 1 turn_count
  pub has_deny : HasNumber deny 0 denied
  pub named : is_given_name sensors ≡ true
  pub some : has_files files ≡ true
  pub is : c ≡ Run (directories_in include) budget turn_count denied sensors files

-- `gen` of these words in the place of files
pub record IsGenerateOf (words : List Text) (c : Command) : Type 0 where
  pub number : Text
  pub functions : ℕ
  pub alone : words ≡ number ∷ []
  pub is_number : IsNumber number functions
  pub is : c ≡ Generate functions

-- what is answered is such, or nothing is
abbrev pub Answers : {A : Type 0} → (A → Type 0) → Result A Usage → Type 0
Answers P (Ok a) = P a
Answers {A} P (Err Refused) = (a : A) → P a → ⊥
Answers P (Err Memory) = Unit {0}
