-- Which command a line is, by its first word.
use Rattle.std.proofs.Common.{◌≡◌, ℕ, Bool, true, false, refl, subst, List, Option, codes}
use Rattle.std.specs.Prelude.{bytes_eq}
use Rattle.p10_words.specs.declared.command.Command.{Command}
use Rattle.p10_words.specs.declared.command.Command.TheVariants.{Check, Derive, Migrate, Verify, Recheck, Run, Generate}
use Rattle.p10_words.specs.declared.command.Budget.{Budget}
use Rattle.p10_base.specs.Words.{Text}
use Rattle.p10_words.specs.Commands.{IsCheck, IsDerive, IsMigrate, IsVerify, IsRecheck, IsRun, IsGenerate, IsRestOf}
use Rattle.p10_words.proofs.Rows.{text_same}

-- texts that a test tells apart are two
pub apart : (v w : Text) → bytes_eq v w ≡ false → v ≡ w → ⊥
apart v w d same = let t : bytes_eq v w ≡ true = subst (λ (x : Text). bytes_eq v x ≡ true) same (text_same v) in cc

pub record Checks (words : List Text) (c : Command) : Type 0 where
  pub directories : List Text
  pub json : Bool
  pub files : List Text
  pub rest : IsCheck words directories json files
  pub is : c ≡ Check directories json files

pub checks : (words : List Text) (c : Command) → IsRestOf c (codes "check") words → Checks words c
checks words (Check directories json files) r = record { directories = directories; json = json; files = files; rest = r.1; is = refl }
checks words (Derive directories version diff files) r = absurd (apart (codes "check") (codes "derive") refl r.0)
checks words (Migrate directories certificate files) r = absurd (apart (codes "check") (codes "migrate") refl r.0)
checks words (Verify directories clean certificate files) r = absurd (apart (codes "check") (codes "verify") refl r.0)
checks words (Recheck directories old certificate files) r = absurd (apart (codes "check") (codes "recheck") refl r.0)
checks words (Run directories budget turns deny sensors files) r = absurd (apart (codes "check") (codes "run") refl r.0)
checks words (Generate functions) r = absurd (apart (codes "check") (codes "gen") refl r.0)

pub record Derives (words : List Text) (c : Command) : Type 0 where
  pub directories : List Text
  pub version : ℕ
  pub diff : Bool
  pub files : List Text
  pub rest : IsDerive words directories version diff files
  pub is : c ≡ Derive directories version diff files

pub derives : (words : List Text) (c : Command) → IsRestOf c (codes "derive") words → Derives words c
derives words (Check directories json files) r = absurd (apart (codes "derive") (codes "check") refl r.0)
derives words (Derive directories version diff files) r = record { directories = directories; version = version; diff = diff; files = files; rest = r.1; is = refl }
derives words (Migrate directories certificate files) r = absurd (apart (codes "derive") (codes "migrate") refl r.0)
derives words (Verify directories clean certificate files) r = absurd (apart (codes "derive") (codes "verify") refl r.0)
derives words (Recheck directories old certificate files) r = absurd (apart (codes "derive") (codes "recheck") refl r.0)
derives words (Run directories budget turns deny sensors files) r = absurd (apart (codes "derive") (codes "run") refl r.0)
derives words (Generate functions) r = absurd (apart (codes "derive") (codes "gen") refl r.0)

pub record Migrates (words : List Text) (c : Command) : Type 0 where
  pub directories : List Text
  pub certificate : Text
  pub files : List Text
  pub rest : IsMigrate words directories certificate files
  pub is : c ≡ Migrate directories certificate files

pub migrates : (words : List Text) (c : Command) → IsRestOf c (codes "migrate") words → Migrates words c
migrates words (Check directories json files) r = absurd (apart (codes "migrate") (codes "check") refl r.0)
migrates words (Derive directories version diff files) r = absurd (apart (codes "migrate") (codes "derive") refl r.0)
migrates words (Migrate directories certificate files) r = record { directories = directories; certificate = certificate; files = files; rest = r.1; is = refl }
migrates words (Verify directories clean certificate files) r = absurd (apart (codes "migrate") (codes "verify") refl r.0)
migrates words (Recheck directories old certificate files) r = absurd (apart (codes "migrate") (codes "recheck") refl r.0)
migrates words (Run directories budget turns deny sensors files) r = absurd (apart (codes "migrate") (codes "run") refl r.0)
migrates words (Generate functions) r = absurd (apart (codes "migrate") (codes "gen") refl r.0)

pub record Verifies (words : List Text) (c : Command) : Type 0 where
  pub directories : List Text
  pub clean : Bool
  pub certificate : Text
  pub files : List Text
  pub rest : IsVerify words directories clean certificate files
  pub is : c ≡ Verify directories clean certificate files

pub verifies : (words : List Text) (c : Command) → IsRestOf c (codes "verify") words → Verifies words c
verifies words (Check directories json files) r = absurd (apart (codes "verify") (codes "check") refl r.0)
verifies words (Derive directories version diff files) r = absurd (apart (codes "verify") (codes "derive") refl r.0)
verifies words (Migrate directories certificate files) r = absurd (apart (codes "verify") (codes "migrate") refl r.0)
verifies words (Verify directories clean certificate files) r = record { directories = directories; clean = clean; certificate = certificate; files = files; rest = r.1; is = refl }
verifies words (Recheck directories old certificate files) r = absurd (apart (codes "verify") (codes "recheck") refl r.0)
verifies words (Run directories budget turns deny sensors files) r = absurd (apart (codes "verify") (codes "run") refl r.0)
verifies words (Generate functions) r = absurd (apart (codes "verify") (codes "gen") refl r.0)

pub record Rechecks (words : List Text) (c : Command) : Type 0 where
  pub directories : List Text
  pub old : Text
  pub certificate : Text
  pub files : List Text
  pub rest : IsRecheck words directories old certificate files
  pub is : c ≡ Recheck directories old certificate files

pub rechecks : (words : List Text) (c : Command) → IsRestOf c (codes "recheck") words → Rechecks words c
rechecks words (Check directories json files) r = absurd (apart (codes "recheck") (codes "check") refl r.0)
rechecks words (Derive directories version diff files) r = absurd (apart (codes "recheck") (codes "derive") refl r.0)
rechecks words (Migrate directories certificate files) r = absurd (apart (codes "recheck") (codes "migrate") refl r.0)
rechecks words (Verify directories clean certificate files) r = absurd (apart (codes "recheck") (codes "verify") refl r.0)
rechecks words (Recheck directories old certificate files) r = record { directories = directories; old = old; certificate = certificate; files = files; rest = r.1; is = refl }
rechecks words (Run directories budget turns deny sensors files) r = absurd (apart (codes "recheck") (codes "run") refl r.0)
rechecks words (Generate functions) r = absurd (apart (codes "recheck") (codes "gen") refl r.0)

pub record Runs (words : List Text) (c : Command) : Type 0 where
  pub directories : List Text
  pub budget : Budget
  pub turns : ℕ
  pub deny : ℕ
  pub sensors : Option Text
  pub files : List Text
  pub rest : IsRun words directories budget turns deny sensors files
  pub is : c ≡ Run directories budget turns deny sensors files

pub runs : (words : List Text) (c : Command) → IsRestOf c (codes "run") words → Runs words c
runs words (Check directories json files) r = absurd (apart (codes "run") (codes "check") refl r.0)
runs words (Derive directories version diff files) r = absurd (apart (codes "run") (codes "derive") refl r.0)
runs words (Migrate directories certificate files) r = absurd (apart (codes "run") (codes "migrate") refl r.0)
runs words (Verify directories clean certificate files) r = absurd (apart (codes "run") (codes "verify") refl r.0)
runs words (Recheck directories old certificate files) r = absurd (apart (codes "run") (codes "recheck") refl r.0)
runs words (Run directories budget turns deny sensors files) r = record { directories = directories; budget = budget; turns = turns; deny = deny; sensors = sensors; files = files; rest = r.1; is = refl }
runs words (Generate functions) r = absurd (apart (codes "run") (codes "gen") refl r.0)

pub record Generates (words : List Text) (c : Command) : Type 0 where
  pub functions : ℕ
  pub rest : IsGenerate words functions
  pub is : c ≡ Generate functions

pub generates : (words : List Text) (c : Command) → IsRestOf c (codes "gen") words → Generates words c
generates words (Check directories json files) r = absurd (apart (codes "gen") (codes "check") refl r.0)
generates words (Derive directories version diff files) r = absurd (apart (codes "gen") (codes "derive") refl r.0)
generates words (Migrate directories certificate files) r = absurd (apart (codes "gen") (codes "migrate") refl r.0)
generates words (Verify directories clean certificate files) r = absurd (apart (codes "gen") (codes "verify") refl r.0)
generates words (Recheck directories old certificate files) r = absurd (apart (codes "gen") (codes "recheck") refl r.0)
generates words (Run directories budget turns deny sensors files) r = absurd (apart (codes "gen") (codes "run") refl r.0)
generates words (Generate functions) r = record { functions = functions; rest = r.1; is = refl }
