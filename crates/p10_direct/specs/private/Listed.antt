-- Parameter lists of the code, which borrow their words, as plain ones.
use Rattle.std.specs.Prelude.{map}
use Rattle.p10_base.specs.Words.{plain_word}
use Rattle.p10_direct.specs.declared.definition.Parameters.{Parameters as Borrowed}
use Rattle.p10_direct.specs.declared.definition.Parameters.TheVariants as borrowed
use Rattle.p10_direct.specs.declared.definition.Parameter.{Parameter as Single}
use Rattle.p10_direct.specs.declared.definition.Parameter.TheVariants as single
use Rattle.p10_direct.specs.private.Reading.{Parameters, Wrong, Listed, Parameter, No, Last, Further}

-- the parameter list that the code has read, as a plain one
abbrev pub parameters_read : Borrowed → Parameters
parameters_read borrowed.Wrong = Wrong
parameters_read (borrowed.Listed parameters body) = Listed (map plain_word parameters) (map plain_word body.now)

-- the parameter that the code has read, as a plain one
abbrev pub parameter_read : Single → Parameter
parameter_read single.Wrong = No
parameter_read (single.Last word) = Last (plain_word word)
parameter_read (single.Further word) = Further (plain_word word)
