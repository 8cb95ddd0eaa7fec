-- The examples are read as they are written down.
use Rattle.std.proofs.Common.{refl}
use Rattle.p10_pexpr.specs.Reading.{readers}
use Rattle.p10_parse.specs.ExternalReading.{builders}
use Rattle.p10_parse.specs.Roots.{externals_from}
use Rattle.p10_parse.specs.Examples.{ExamplesAreRead}

pub examples_are_read : ExamplesAreRead
unfolding readers builders externals_from
examples_are_read = record {
  parameters_of_a_type = refl;
  name_in_parentheses = refl;
  empty_parentheses = refl;
  no_declarator = refl;
  type_and_name = refl;
  own_initializer = refl;
  own_length = refl;
  left_first = refl;
  inner_else = refl;
  type_alone = refl;
  name_alone = refl;
  type_as_label = refl;
  end_of_block = refl;
  parameter_hides = refl;
  constant_hides = refl;
  later_name = refl;
  no_semicolon = refl;
}
