-- The commands, and the words that are each of them.
use Rattle.std.specs.Prelude.{◌≡◌, ◌≢◌, ℕ, ◌≤◌, Bool, List, [], ◌∷◌, codes, length, Option, Some, None, is_some}
use Rattle.p10_words.specs.declared.command.Command.{Command}
use Rattle.p10_words.specs.declared.command.Command.TheVariants.{Check, Derive, Migrate, Verify, Recheck, Run, Generate}
use Rattle.p10_words.specs.declared.command.Budget.{Budget}
use Rattle.p10_words.specs.declared.command.Budget.TheVariants.{Steps, Certificate}
use Rattle.p10_base.specs.Words.{Text}
use Rattle.p10_words.specs.CommandLines.{Given, AreNames, Splits, AreGivenOnce, value_of, directories_in, IsNumber, HasNumber, HasFormat, HasForm}

-- the options of `check`, of `derive`, of `migrate`, of `verify`, of `recheck` and of `run`; `gen` has none
abbrev pub check_options : List Text
check_options = codes "include" ∷ codes "format" ∷ []

abbrev pub derive_options : List Text
derive_options = codes "include" ∷ codes "cert-version" ∷ codes "diff" ∷ []

abbrev pub migrate_options : List Text
migrate_options = codes "include" ∷ codes "cert" ∷ []

abbrev pub verify_options : List Text
verify_options = codes "include" ∷ codes "clean" ∷ codes "cert" ∷ []

abbrev pub recheck_options : List Text
recheck_options = codes "include" ∷ codes "since" ∷ codes "cert" ∷ []

abbrev pub run_options : List Text
run_options = codes "include" ∷ codes "steps" ∷ codes "turns" ∷ codes "deny" ∷ codes "cert" ∷ codes "sensors" ∷ []

-- options, each given once at most, and files, of which there is one at least
pub record IsSplit (names : List Text) (words : List Text) (options : List Given) (files : List Text) : Type 0 where
  pub splits : Splits names words options files
  pub once : AreGivenOnce [] options
  pub some : files ≢ []

-- the directories are those of `--include`
pub record AreDirectories (options : List Given) (directories : List Text) : Type 0 where
  pub are : directories ≡ directories_in (value_of options (codes "include"))
  pub names : AreNames directories

-- `check [--include D] [--format text|json] FILE..`: lines of text where no format is given
pub record IsCheck (words : List Text) (directories : List Text) (json : Bool) (files : List Text) : Type 0 where
  pub options : List Given
  pub split : IsSplit check_options words options files
  pub include : AreDirectories options directories
  pub has_format : HasFormat (value_of options (codes "format")) json

-- `derive [--include D] [--cert-version 1|2 | --diff] FILE..`: version 1 where none is given, and 2 with `--diff`
pub record IsDerive (words : List Text) (directories : List Text) (version : ℕ) (diff : Bool) (files : List Text) : Type 0 where
  pub options : List Given
  pub split : IsSplit derive_options words options files
  pub include : AreDirectories options directories
  pub has_form : HasForm (value_of options (codes "cert-version")) (is_some (value_of options (codes "diff"))) version diff

-- `migrate [--include D] --cert C FILE..`
pub record IsMigrate (words : List Text) (directories : List Text) (certificate : Text) (files : List Text) : Type 0 where
  pub options : List Given
  pub split : IsSplit migrate_options words options files
  pub include : AreDirectories options directories
  pub cert : value_of options (codes "cert") ≡ Some certificate

-- `verify [--include D] [--clean] --cert C FILE..`
pub record IsVerify (words : List Text) (directories : List Text) (clean : Bool) (certificate : Text) (files : List Text) : Type 0 where
  pub options : List Given
  pub split : IsSplit verify_options words options files
  pub include : AreDirectories options directories
  pub flag : is_some (value_of options (codes "clean")) ≡ clean
  pub cert : value_of options (codes "cert") ≡ Some certificate

-- `recheck [--include D] --since OLD --cert C FILE..`
pub record IsRecheck (words : List Text) (directories : List Text) (old certificate : Text) (files : List Text) : Type 0 where
  pub options : List Given
  pub split : IsSplit recheck_options words options files
  pub include : AreDirectories options directories
  pub since : value_of options (codes "since") ≡ Some old
  pub cert : value_of options (codes "cert") ≡ Some certificate

-- what bounds the steps, by the values of `--steps` and `--cert`, which exclude each other: 10,000,000 steps where neither is given
abbrev pub HasBudget : Option Text → Option Text → Budget → Type 0
HasBudget steps cert (Steps n) = (cert ≡ None) × HasNumber steps 10000000 n
HasBudget steps cert (Certificate name) = (steps ≡ None) × (cert ≡ Some name)

-- `run [--include D] [--steps N | --cert C] [--turns N] [--deny N] [--sensors V] FILE..`: 1 turn, no denied request and no file of sensor
-- values where they aren't given
pub record IsRun (words : List Text) (directories : List Text) (budget : Budget) (turns deny : ℕ) (sensors : Option Text) (files : List Text) : Type 0 where
  pub options : List Given
  pub split : IsSplit run_options words options files
  pub include : AreDirectories options directories
  pub has_budget : HasBudget (value_of options (codes "steps")) (value_of options (codes "cert")) budget
  pub has_turns : HasNumber (value_of options (codes "turns")) 1 turns
  pub has_deny : HasNumber (value_of options (codes "deny")) 0 deny
  pub has_sensors : value_of options (codes "sensors") ≡ sensors

-- `gen N`: the number stands in the place of the files, and there is no option
pub record IsGenerate (words : List Text) (functions : ℕ) : Type 0 where
  pub number : Text
  pub split : IsSplit [] words [] (number ∷ [])
  pub is : IsNumber number functions

-- what follows the command's own word
abbrev pub IsRestOf : Command → Text → List Text → Type 0
IsRestOf (Check directories json files) word words = (word ≡ codes "check") × IsCheck words directories json files
IsRestOf (Derive directories version diff files) word words = (word ≡ codes "derive") × IsDerive words directories version diff files
IsRestOf (Migrate directories certificate files) word words = (word ≡ codes "migrate") × IsMigrate words directories certificate files
IsRestOf (Verify directories clean certificate files) word words = (word ≡ codes "verify") × IsVerify words directories clean certificate files
IsRestOf (Recheck directories old certificate files) word words = (word ≡ codes "recheck") × IsRecheck words directories old certificate files
IsRestOf (Run directories budget turns deny sensors files) word words = (word ≡ codes "run") × IsRun words directories budget turns deny sensors files
IsRestOf (Generate functions) word words = (word ≡ codes "gen") × IsGenerate words functions

-- the words are the command: the first is its name, and there are at most 65,536
pub record IsCommandLine (line : List Text) (command : Command) : Type 0 where
  pub word : Text
  pub words : List Text
  pub begins : line ≡ word ∷ words
  pub few : length line ≤ 65536
  pub rest : IsRestOf command word words
