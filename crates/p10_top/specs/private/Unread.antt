-- What is said where no command was read.
use Rattle.p10_command.specs.Saying.{Saying}
use Rattle.p10_words.specs.declared.command.Usage.{Usage}
use Rattle.p10_words.specs.declared.command.Usage.TheVariants.{Refused, Memory}
use Rattle.p10_top.specs.Told.{usage_saying, memory_saying}

-- what is said where no command was read
abbrev pub saying_without_command : Usage → Saying
saying_without_command Refused = usage_saying
saying_without_command Memory = memory_saying
