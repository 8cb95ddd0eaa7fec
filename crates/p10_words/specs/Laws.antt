-- What holds of the definitions.
use Rattle.std.specs.Prelude.{◌≡◌, List}
use Rattle.p10_words.specs.declared.command.Command.{Command}
use Rattle.p10_base.specs.Words.{Text}
use Rattle.p10_words.specs.Commands.{IsCommandLine}

-- a command line is one command at most
abbrev pub LinesAreOneCommand : Type 0
LinesAreOneCommand = (line : List Text) (a b : Command) → IsCommandLine line a → IsCommandLine line b → a ≡ b
