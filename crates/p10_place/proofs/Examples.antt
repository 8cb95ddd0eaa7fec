-- The examples by computation.
use Rattle.std.proofs.Common.{refl}
use Rattle.p10_syn.specs.Places.{place_at}
use Rattle.p10_place.specs.Examples.{ExamplesStand}

pub examples_stand : ExamplesStand
unfolding place_at
examples_stand = record {
  parentheses_count = refl;
  roots_go_on = refl;
  two_files = refl;
  last_before_first = refl;
  last_comma_of_list = refl;
  last_comma_of_enumeration = refl;
  no_name = refl;
  keyword_of_loop = refl;
  marks_of_function = refl;
}
