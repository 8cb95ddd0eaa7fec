-- What a command `verify` names, and what it asks for.
use Rattle.std.specs.Prelude.{List, Bool}
use Rattle.p10_base.specs.Words.{Text}
use Rattle.p10_verify_command.specs.declared.command.VerifyCommand.{VerifyCommand}

-- the directories of included files, the certificate and the sources, and whether the certificate has to be clean, too
pub record Names : Type 0 where
  pub directories : List Text
  pub clean : Bool
  pub certificate : Text
  pub sources : List Text

-- those of a command
abbrev pub names_of : VerifyCommand → Names
names_of v = record { directories = v.directories; clean = v.clean; certificate = v.certificate; sources = v.sources }
