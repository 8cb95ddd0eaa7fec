-- An item of an initialiser's list.
use Rattle.std.specs.Prelude.{Some}
use Rattle.p10_core.specs.Typed.{PlainWritten, one_scalar, scalars_of_text}
use Rattle.p10_absx.specs.Environments.{Environment}
use Rattle.p10_pass.specs.Passing.{Manner, Left, reached, value_passed}

-- what is written of an item
abbrev pub written_passed : Manner → PlainWritten → Environment → Left
written_passed m (one_scalar v) env = value_passed m v env
written_passed m (scalars_of_text bytes) env = reached (Some env)
